-- What is judged well up to a snapshot leaves nothing pending, and what follows is judged from its state.
use Rattle.std.proofs.Common.{◌≡◌, ℕ, List, [], ◌∷◌, ◌++◌, Option, Some, None, refl, sym, ap, subst, ◌∙◌, inl}
use Rattle.std.specs.Option.{option_and_then}
use Rattle.avm_model.specs.Machine.{State, Step}
use Rattle.avm_model.specs.Root.{root}
use Rattle.avm_model.specs.Timed.{Entry, made}
use Rattle.avm_model.specs.Rerun.{Stand, start, after, Replays}
use Rattle.avm_model.specs.Judge.{judge, judge_all}
use Rattle.avm_model.specs.Reference.{Given, Made, SnapAt, timed}
use Rattle.avm_model.proofs.ReferenceLaws.{is_timed, step_is}
use Rattle.avm_model.proofs.ReplayTheorems.{judged_of_replays, replays_of_judged, judge_all-append}
use Rattle.rebut_model.proofs.Snapshots.{Kept, MadeBy, all_stem, made_here, step_last, snap_here}
use Rattle.snapshot_laws.specs.Snapshots.{with_snapshot}
use Rattle.snapshot_laws.proofs.Clocks.{Wanted, none_wanted, wanted, clock_behind}

some_is : {A : Type 0} (x y : A) → Some x ≡ Some y → x ≡ y
some_is x y e = cc

-- a stand that is reached in two parts
record Halves (j k : Stand State Made) (a b : List (Entry Given Made)) : Type 0 where
  pub middle : Stand State Made
  pub one : judge_all timed j a ≡ Some middle
  pub two : judge_all timed middle b ≡ Some k

halves : (j k : Stand State Made) (a b : List (Entry Given Made)) → judge_all timed j (a ++ b) ≡ Some k → Halves j k a b
halves j k a b e = go (judge_all timed j a) refl (sym (judge_all-append timed j a b) ∙ e)
  where
    go : (r : Option (Stand State Made)) → judge_all timed j a ≡ r → option_and_then (λ x. judge_all timed x b) r ≡ Some k → Halves j k a b
    go None p q = absurd cc
    go (Some x) p q = record { middle = x; one = p; two = q }

single : (o : Option (Stand State Made)) (k : Stand State Made) → option_and_then (λ x. judge_all timed x []) o ≡ Some k → o ≡ Some k
single None k e = absurd cc
single (Some x) k e = e

trivial : Kept (λ _. Unit {0})
trivial = record { step = λ s t os e h. tt; take = λ s t i e h. tt }

-- the stand that the entries reach, and the step that led there
record Reached (P : State → Type 0) (s : State) (es : List (Entry Given Made)) (count : ℕ) (r : List ℕ) : Type 0 where
  pub stand : Stand State Made
  pub is : after timed s (with_snapshot es count r) ≡ stand
  pub pending : stand.pending ≡ []
  pub root : r ≡ root stand.state
  pub from : MadeBy P stand (SnapAt count r ∷ stand.pending)

reached_by : (P : State → Type 0) → Kept P → (s : State) (es : List (Entry Given Made)) (count : ℕ) (r : List ℕ) → P s → Replays timed s (with_snapshot es count r) → Reached P s es count r
reached_by P kept s es count r first h =
    let k = after timed s (with_snapshot es count r) in
    let y = halves (start s) k es (made (SnapAt count r) ∷ []) (judged_of_replays timed is_timed s (with_snapshot es count r) h) in
    let one : judge timed y.middle (made (SnapAt count r)) ≡ Some k = single (judge timed y.middle (made (SnapAt count r))) k y.two in
    let m = made_here P kept y.middle k (SnapAt count r) (all_stem P kept (start s) y.middle es (record { holds = first; pending = inl refl }) y.one) one in
    let o = step_is m.from k.state (m.gone ++ SnapAt count r ∷ k.pending) m.step in
    let x = snap_here k.state (Step m.from).outs m.gone k.pending count r (step_last m.from) (sym o.2) in
    record { stand = k; is = refl; pending = x.last; root = x.is; from = m }

pub alone : (s : State) (es : List (Entry Given Made)) (count : ℕ) (r : List ℕ) → Replays timed s (with_snapshot es count r) → (after timed s (with_snapshot es count r)).pending ≡ []
alone s es count r h = let x = reached_by (λ _. Unit {0}) trivial s es count r tt h in ap (λ (k : Stand State Made). k.pending) x.is ∙ x.pending

pub told : (s : State) (es : List (Entry Given Made)) (count : ℕ) (r : List ℕ) → Replays timed s (with_snapshot es count r) → r ≡ root (after timed s (with_snapshot es count r)).state
told s es count r h = let x = reached_by (λ _. Unit {0}) trivial s es count r tt h in x.root ∙ ap (λ (k : Stand State Made). root k.state) (sym x.is)

pub unasked : (s : State) (es : List (Entry Given Made)) (count : ℕ) (r : List ℕ) → s.devices.clock ≡ None → Replays timed s (with_snapshot es count r) → (after timed s (with_snapshot es count r)).state.devices.clock ≡ None
unasked s es count r none h =
    let x = reached_by Wanted wanted s es count r (none_wanted s none) h in
    ap (λ (k : Stand State Made). k.state.devices.clock) x.is ∙ clock_behind x.from.from x.stand.state _ x.from.step x.from.holds

stand_is : (k : Stand State Made) → k.pending ≡ [] → k ≡ start k.state
stand_is k e = ap (λ (os : List Made). record { state = k.state; pending = os }) e

pub goes_on : (s : State) (es rest : List (Entry Given Made)) (count : ℕ) (r : List ℕ) → Replays timed s (with_snapshot es count r ++ rest) → Replays timed (after timed s (with_snapshot es count r)).state rest
goes_on s es rest count r h =
    let last = after timed s (with_snapshot es count r ++ rest) in
    let y = halves (start s) last (with_snapshot es count r) rest (judged_of_replays timed is_timed s (with_snapshot es count r ++ rest) h) in
    let front : Replays timed s (with_snapshot es count r) = replays_of_judged timed is_timed s (with_snapshot es count r) y.middle y.one in
    let here : after timed s (with_snapshot es count r) ≡ y.middle = some_is _ _ (sym (judged_of_replays timed is_timed s (with_snapshot es count r) front) ∙ y.one) in
    let none : y.middle.pending ≡ [] = sym (ap (λ (k : Stand State Made). k.pending) here) ∙ alone s es count r front in
    let two : judge_all timed (start y.middle.state) rest ≡ Some last = subst (λ (k : Stand State Made). judge_all timed k rest ≡ Some last) (stand_is y.middle none) y.two in
    subst (λ (k : Stand State Made). Replays timed k.state rest) (sym here) (replays_of_judged timed is_timed y.middle.state rest last two)
