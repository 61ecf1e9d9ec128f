-- What the other node says to packets one after another.
use Rattle.std.proofs.Common.{◌≡◌, ℕ, zero, suc, ◌+◌, ◌≤◌, List, [], ◌∷◌, ◌++◌, None, Some, drop, length, refl, sym, ap, subst, ◌∙◌, append-nil, append_assoc, arith}
use Rattle.std.specs.Prelude.{slice_get}
use Rattle.avm_outside.specs.Feed.{Agenda, Timed}
use Rattle.avm_outside.specs.MemFeed.{feed_agenda}
use Rattle.avm_outside.specs.declared.list_feed.ListFeed.{ListFeed}
use Rattle.sample_model.specs.Other.{Said, Side, followed, hear, hear_all, says}
use Rattle.sample_other.specs.Saying.{Adds, SaidAs}
use Rattle.sample_talk.specs.Talking.{IsHearing}

-- ---- lists

drop_get : {A : Type 0} (xs : List A) (i : ℕ) (x : A) → slice_get xs i ≡ Some x → drop i xs ≡ x ∷ drop (suc i) xs
drop_get [] zero x e = absurd cc
drop_get [] (suc i) x e = absurd cc
drop_get (y ∷ ys) zero x e = cc
drop_get (y ∷ ys) (suc i) x e = drop_get ys i x e

drop_past : {A : Type 0} (xs : List A) (i : ℕ) → slice_get xs i ≡ None → drop i xs ≡ []
drop_past [] zero e = refl
drop_past [] (suc i) e = refl
drop_past (y ∷ ys) zero e = absurd cc
drop_past (y ∷ ys) (suc i) e = drop_past ys i e

-- ---- a feed

same_adds : (f : ListFeed) → Adds [] f f
same_adds f = record { agenda = ap (λ (es : List Timed). record (feed_agenda f) { events = es }) (sym (append-nil (feed_agenda f).events)); counts = (refl, refl, refl) }

more_adds : (a b : List Timed) (f g h : ListFeed) → Adds a f g → Adds b g h → Adds (a ++ b) f h
more_adds a b f g h p q = record {
  agenda = q.agenda ∙ ap (λ (x : Agenda). record x { events = x.events ++ b }) p.agenda
      ∙ ap (λ (es : List Timed). record (feed_agenda f) { events = es }) (append_assoc (feed_agenda f).events a b);
  counts = (q.counts.0 ∙ p.counts.0, q.counts.1 ∙ p.counts.1, q.counts.2 ∙ p.counts.2);
}

-- ---- hearing

pub hearing_begins : (packets : List (ℕ × List ℕ)) (place : ℕ) (b : Side) (f : ListFeed) → IsHearing (hear_all b (drop place packets)) packets place b f f
hearing_begins packets place b f = record { events = []; adds = same_adds f; rest = refl }

pub hears_on : (all : Said) (packets : List (ℕ × List ℕ)) (place : ℕ) (p : ℕ × List ℕ) (b c : Side) (f g h : ListFeed) → slice_get packets place ≡ Some p → IsHearing all packets place b f g → SaidAs (hear b p.1) c g h → IsHearing all packets (place + 1) c f h
hears_on all packets place p b c f g h is old said =
    let rest = drop (place + 1) packets in
    let up : suc place ≡ place + 1 = omega arith in
    let said_now = hear b p.1 in
    let here : all ≡ followed (says b old.events) (λ x. hear_all x (p ∷ rest)) = old.rest ∙ ap (λ (ps : List (ℕ × List ℕ)). followed (says b old.events) (λ x. hear_all x ps)) (drop_get packets place p is ∙ ap (λ (i : ℕ). p ∷ drop i packets) up) in
    let moved : all ≡ says (hear_all said_now.side rest).side ((old.events ++ said_now.events) ++ (hear_all said_now.side rest).events) =
    here ∙ ap (λ (es : List Timed). says (hear_all said_now.side rest).side es) (sym (append_assoc old.events said_now.events (hear_all said_now.side rest).events)) in
    record {
      events = old.events ++ said_now.events;
      adds = more_adds old.events said_now.events f g h old.adds said.adds;
      rest = moved ∙ ap (λ (x : Side). says (hear_all x rest).side ((old.events ++ said_now.events) ++ (hear_all x rest).events)) (sym said.side_is);
    }

pub hearing_ends : (all : Said) (packets : List (ℕ × List ℕ)) (place : ℕ) (b : Side) (f g : ListFeed) → slice_get packets place ≡ None → IsHearing all packets place b f g → SaidAs all b f g
hearing_ends all packets place b f g past old =
    let whole : all ≡ says b old.events = old.rest ∙ ap (λ (ps : List (ℕ × List ℕ)). followed (says b old.events) (λ x. hear_all x ps)) (drop_past packets place past) ∙ ap (λ (es : List Timed). says b es) (append-nil old.events) in
    record { side_is = sym (ap (λ (s : Said). s.side) whole); adds = subst (λ (es : List Timed). Adds es f g) (sym (ap (λ (s : Said). s.events) whole)) old.adds }

pub none_past : {A : Type 0} (xs : List A) (i : ℕ) → slice_get xs i ≡ None → length xs ≤ i
none_past [] i e = omega arith
none_past (y ∷ ys) zero e = absurd cc
none_past (y ∷ ys) (suc i) e = let n = none_past ys i e in omega (arith, n)
