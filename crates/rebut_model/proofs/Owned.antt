-- The journal's state at an entry to which another state commits, and the entries that replay from it.
use Rattle.std.proofs.Common.{◌≡◌, ℕ, ◌+◌, true, nat_eq, List, [], ◌∷◌, ◌++◌, Option, Some, None, refl, sym, ap, subst, ◌∙◌, arith, append_assoc, eqb-true, ◌⊎◌, inl, inr}
use Rattle.std.proofs.lemmas.List.{map-append}
use Rattle.std.specs.Option.{option_and_then}
use Rattle.avm_num.proofs.Numbers.{and_true}
use Rattle.avm_model.specs.Machine.{State}
use Rattle.avm_model.specs.Root.{root}
use Rattle.avm_model.specs.Content.{content_at}
use Rattle.avm_model.specs.Frame.{FrameData}
use Rattle.avm_model.specs.Entries.{numbered}
use Rattle.avm_model.specs.Audit.{behind_first, is_committed, commits_to}
use Rattle.avm_model.specs.Timed.{Entry}
use Rattle.avm_model.specs.Rerun.{Stand, start, after, Replays}
use Rattle.avm_model.specs.Judge.{judge, judge_all}
use Rattle.avm_model.specs.Reference.{Given, Made, timed, entry_of_frame, entry_in, entries_of}
use Rattle.avm_model.proofs.ReferenceLaws.{is_timed}
use Rattle.avm_model.proofs.ReplayTheorems.{judged_of_replays, replays_of_judged, judge_all-append}
use Rattle.rebut_model.specs.Texts.{state_at}
use Rattle.rebut_model.proofs.Snapshots.{Kept, MadeBy, all_stem, reaches, same_root}
use Rattle.rebut_model.proofs.Stretches.{up_to_none, up_to_here}
use Rattle.honest_model.specs.Keeps.{up_to}
use Rattle.journal_model.specs.Standing.{behind}

-- the state at an entry has the root that the entry tells, and the entries behind it replay from
-- there; it is the first state, or a step has led there
pub record Owned (P : State → Type 0) (s : State) (n : ℕ) (fs : List FrameData) (t : State) (es : List FrameData) : Type 0 where
  pub root : root (state_at s n fs) ≡ root t
  pub own : (state_at s n fs ≡ s) ⊎ ((k : Stand State Made) × (os : List Made) × MadeBy P k os × (state_at s n fs ≡ k.state))
  pub replays : Replays timed (state_at s n fs) (entries_of es)

commits_first : (s : State) (f : FrameData) (fs : List FrameData) → is_committed s (f ∷ fs) ≡ true → commits_to s (content_at f.kind f.content) ≡ true
unfolding is_committed
commits_first s f fs e = e

-- at the first entry it is the state in which the entries begin
first_owned : (P : State → Type 0) (s : State) (n : ℕ) (f : FrameData) (fs : List FrameData) (t : State) → numbered n (f ∷ fs) ≡ true → is_committed s (f ∷ fs) ≡ true → Replays timed s (entries_of fs) → commits_to t (content_at f.kind f.content) ≡ true → Owned P s n (f ∷ fs) t fs
first_owned P s n f fs t num c r h =
    let p = and_true (nat_eq f.seq n) (numbered (n + 1) fs) num in
    let none : up_to n fs ≡ [] = up_to_none n (n + 1) fs (omega arith) p.1 in
    let here : state_at s n (f ∷ fs) ≡ s = ap (λ (l : List FrameData). (after timed s (entries_of l)).state) none in
    record {
      root = ap root here ∙ same_root s t (content_at f.kind f.content) (commits_first s f fs c) h;
      own = inl here;
      replays = subst (λ (x : State). Replays timed x (entries_of fs)) (sym here) r;
    }

judged_entry : (f : FrameData) (j : Stand State Made) → judge timed j (entry_of_frame f) ≡ judge timed j (entry_in (content_at f.kind f.content))
unfolding entry_of_frame
judged_entry f j = refl

some_is : {A : Type 0} (x y : A) → Some x ≡ Some y → x ≡ y
some_is x y e = cc

-- a stand that is reached in two parts
pub record Halves (j k : Stand State Made) (a b : List (Entry Given Made)) : Type 0 where
  pub middle : Stand State Made
  pub one : judge_all timed j a ≡ Some middle
  pub two : judge_all timed middle b ≡ Some k

halves : (j k : Stand State Made) (a b : List (Entry Given Made)) → judge_all timed j (a ++ b) ≡ Some k → Halves j k a b
halves j k a b e = go (judge_all timed j a) refl (sym (judge_all-append timed j a b) ∙ e)
  where
    go : (r : Option (Stand State Made)) → judge_all timed j a ≡ r → option_and_then (λ x. judge_all timed x b) r ≡ Some k → Halves j k a b
    go None p q = absurd cc
    go (Some x) p q = record { middle = x; one = p; two = q }

stand_is : (k : Stand State Made) → k.pending ≡ [] → k ≡ start k.state
stand_is k e = ap (λ (os : List Made). record { state = k.state; pending = os }) e

-- behind other entries
later_owned : (P : State → Type 0) → Kept P → (s : State) (n m : ℕ) (a : List FrameData) (f : FrameData) (fs : List FrameData) (t : State) → P s → numbered m (a ++ f ∷ fs) ≡ true → f.seq ≡ n → Replays timed s (entries_of (a ++ f ∷ fs)) → commits_to t (content_at f.kind f.content) ≡ true
    → (all : List FrameData) → behind_first all ≡ a ++ f ∷ fs → Owned P s n all t fs
later_owned P kept s n m a f fs t first num is r h all behind =
    let seam : a ++ f ∷ fs ≡ (a ++ f ∷ []) ++ fs = sym (append_assoc a (f ∷ []) fs) in
    let split : entries_of (a ++ f ∷ fs) ≡ entries_of (a ++ f ∷ []) ++ entries_of fs = ap entries_of seam ∙ map-append entry_of_frame (a ++ f ∷ []) fs in
    let last = after timed s (entries_of (a ++ f ∷ fs)) in
    let whole : judge_all timed (start s) (entries_of (a ++ f ∷ []) ++ entries_of fs) ≡ Some last = ap (judge_all timed (start s)) (sym split) ∙ judged_of_replays timed is_timed s (entries_of (a ++ f ∷ fs)) r in
    let x = halves (start s) last (entries_of (a ++ f ∷ [])) (entries_of fs) whole in
    let front : judge_all timed (start s) (entries_of a ++ entry_of_frame f ∷ []) ≡ Some x.middle = ap (judge_all timed (start s)) (sym (map-append entry_of_frame a (f ∷ []))) ∙ x.one in
    let y = halves (start s) x.middle (entries_of a) (entry_of_frame f ∷ []) front in
    let one : judge timed y.middle (entry_of_frame f) ≡ Some x.middle = single (judge timed y.middle (entry_of_frame f)) x.middle y.two in
    let z = reaches P kept y.middle x.middle t (content_at f.kind f.content) (all_stem P kept (start s) y.middle (entries_of a) (record { holds = first; pending = inl refl }) y.one) (sym (judged_entry f y.middle) ∙ one) h in
    let after_is : after timed s (entries_of (a ++ f ∷ [])) ≡ x.middle =
    some_is _ _ (sym (judged_of_replays timed is_timed s (entries_of (a ++ f ∷ [])) (replays_of_judged timed is_timed s (entries_of (a ++ f ∷ [])) x.middle x.one)) ∙ x.one) in
    let here : state_at s n all ≡ x.middle.state =
    ap (λ (l : List FrameData). (after timed s (entries_of (up_to n l))).state) behind ∙ ap (λ (l : List FrameData). (after timed s (entries_of l)).state) (up_to_here n m a f fs num is) ∙ ap (λ (k : Stand State Made). k.state) after_is in
    let rest : judge_all timed (start x.middle.state) (entries_of fs) ≡ Some last = ap (λ (k : Stand State Made). judge_all timed k (entries_of fs)) (sym (stand_is x.middle z.pending)) ∙ x.two in
    record {
      root = ap root here ∙ z.root;
      own = inr (x.middle, z.made.0, z.made.1, here);
      replays = subst (λ (q : State). Replays timed q (entries_of fs)) (sym here) (replays_of_judged timed is_timed x.middle.state (entries_of fs) last rest);
    }
  where
    single : (o : Option (Stand State Made)) (k : Stand State Made) → option_and_then (λ x. judge_all timed x []) o ≡ Some k → o ≡ Some k
    single None k e = absurd cc
    single (Some x) k e = e

-- the entries of a journal that replays, cut before entry n, to which t commits
pub owned : (P : State → Type 0) → Kept P → (s : State) (n k : ℕ) (a : List FrameData) (f : FrameData) (fs : List FrameData) (t : State) → P s → numbered k (a ++ f ∷ fs) ≡ true → f.seq ≡ n → is_committed s (a ++ f ∷ fs) ≡ true → Replays timed s (entries_of (behind_first (a ++ f ∷ fs))) → commits_to t (content_at f.kind f.content) ≡ true
    → Owned P s n (a ++ f ∷ fs) t fs
owned P kept s n k [] f fs t first num is c r h =
    let p = and_true (nat_eq f.seq k) (numbered (k + 1) fs) num in
    let same : k ≡ n = sym (eqb-true _ _ p.0) ∙ is in
    first_owned P s n f fs t (subst (λ (q : ℕ). numbered q (f ∷ fs) ≡ true) same num) c r h
owned P kept s n k (b ∷ a) f fs t first num is c r h =
    let p = and_true (nat_eq b.seq k) (numbered (k + 1) (a ++ f ∷ fs)) num in
    later_owned P kept s n (k + 1) a f fs t first p.1 is r h (b ∷ (a ++ f ∷ fs)) refl
