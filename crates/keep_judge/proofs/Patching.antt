-- Pages of a keep that take their places, one after another.
use Rattle.std.proofs.Common.{◌≡◌, ℕ, ◌+◌, ◌<◌, ◌&&◌, Bool, true, false, nat_le, nat_lt, List, ◌∷◌, length, Some, None, refl, sym, ap, subst, ◌∙◌}
use Rattle.std.proofs.lemmas.Bool.{ltb-true}
use Rattle.std.specs.Int.{w32}
use Rattle.avm_num.specs.Bytes.{number_at, piece_at}
use Rattle.avm_num.specs.Walk.{items_of}
use Rattle.avm_num.proofs.Lengths.{piece_length}
use Rattle.avm_num.proofs.Numbers.{bind_some, and_true}
use Rattle.avm_num.proofs.Walks.{Shortens, items_some, items_none}
use Rattle.avm_model.specs.Memory.{put_page}
use Rattle.honest_model.specs.Keeps.{with_pages}
use Rattle.journal_model.specs.Journal.{pages_ascend}
use Rattle.journal_model.specs.Part.{PageData, page_at}
use Rattle.journal_model.proofs.Parts.{page_short}

shortens : Shortens page_at
shortens = record { short = page_short }

pub page_sized : (bytes : List ℕ) (p : PageData) (rest : List ℕ) → page_at bytes ≡ Some (p, rest) → length p.bytes ≡ 4096
unfolding page_at
page_sized bytes p rest e =
    let a = bind_some (number_at w32 bytes) _ (p, rest) e in
    let b = bind_some (piece_at 4096 a.0.1) _ (p, rest) a.2 in
    let same : (record { number = a.0.0; bytes = b.0.0 }, b.0.1) ≡ (p, rest) = cc in
    let is : b.0.0 ≡ p.bytes = ap (λ (q : PageData × List ℕ). q.0.bytes) same in
    sym (ap length is) ∙ piece_length 4096 a.0.1 b.0 b.1

-- The pages so far are in their places: those that are left lead to the RAM that all lead to. They are in order, from a number on.
pub record Patched (most : ℕ) (from ram : List ℕ) (all left : List PageData) : Type 0 where
  pub low : ℕ
  pub ascend : pages_ascend low most left ≡ true
  pub leads : with_pages ram left ≡ with_pages from all

pub patched_none : (most : ℕ) (from : List ℕ) (all : List PageData) → pages_ascend 0 most all ≡ true → Patched most from from all all
patched_none most from all e = record { low = 0; ascend = e; leads = refl }

pub patched_next : (most : ℕ) (from ram new : List ℕ) (all : List PageData) (left rest : List ℕ) (p : PageData) → page_at left ≡ Some (p, rest) → (p.number < most → new ≡ put_page ram p.number p.bytes) → Patched most from ram all (items_of page_at left) → Patched most from new all (items_of page_at rest)
patched_next most from ram new all left rest p e put h = record {
  low = p.number + 1;
  ascend = more.1;
  leads = ap (λ (r : List ℕ). with_pages r (items_of page_at rest)) (put below) ∙ ap (λ (l : List PageData). with_pages ram l) (sym first) ∙ h.leads;
}
  where
    first : items_of page_at left ≡ p ∷ items_of page_at rest
    first = items_some page_at shortens left (p, rest) e

    here : pages_ascend h.low most (p ∷ items_of page_at rest) ≡ true
    here = subst (λ (l : List PageData). pages_ascend h.low most l ≡ true) first h.ascend

    both : ((nat_le h.low p.number && nat_lt p.number most) ≡ true) × (pages_ascend (p.number + 1) most (items_of page_at rest) ≡ true)
    both = split_three (nat_le h.low p.number) (nat_lt p.number most) (pages_ascend (p.number + 1) most (items_of page_at rest)) here
      where
        split_three : (a b c : Bool) → (a && b && c) ≡ true → ((a && b) ≡ true) × (c ≡ true)
        split_three true true true e = (refl, refl)
        split_three true true false e = absurd cc
        split_three true false c e = absurd cc
        split_three false b c e = absurd cc

    more : (nat_lt p.number most ≡ true) × (pages_ascend (p.number + 1) most (items_of page_at rest) ≡ true)
    more = ((and_true (nat_le h.low p.number) (nat_lt p.number most) both.0).1, both.1)

    below : p.number < most
    below = ltb-true p.number most more.0

pub patched_all : (most : ℕ) (from ram : List ℕ) (all : List PageData) (left : List ℕ) → page_at left ≡ None → Patched most from ram all (items_of page_at left) → ram ≡ with_pages from all
patched_all most from ram all left e h = sym (ap (λ (l : List PageData). with_pages ram l) (items_none page_at shortens left e)) ∙ h.leads
