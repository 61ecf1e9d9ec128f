-- The plain machine is a machine with a count.
use Rattle.std.proofs.Common.{◌≡◌, ℕ, ◌+◌, Bool, true, false, Option, Some, None, List, [], ◌∷◌, map, refl, sym, ap, subst, ◌∙◌, eqb-true, eq-eqb}
use Rattle.std.specs.Prelude.{if◌then◌else◌}
use Rattle.std.specs.List.{AllByRecursion}
use Rattle.std.specs.Str.{bytes_eq}
use Rattle.std.proofs.lemmas.Bool.{and_parts}
use Rattle.std.proofs.lemmas.Slice.Eq.{bytes_eq-Decides}
use Rattle.avm_model.specs.Timed.{IsTimed}
use Rattle.avm_model.specs.Exec.{Outcome, Goes, Waits, Stops}
use Rattle.avm_model.specs.Machine.{State, Board, Output, Out, Send, Halt, Snap, Step, stepped, can_step, exec_flat, board_of}
use Rattle.avm_model.specs.Input.{InputState, Console, Clock, Message, Acked, Refusal, Take}
use Rattle.avm_model.specs.Reference.{unless}
use Rattle.avm_model.specs.declared.NotTaken.{NotTaken}
use Rattle.avm_model.proofs.StepLaws.{can_go}
use Rattle.avm_plain.specs.Replay.{GivenOf, MadeOf, at_count, made_by, step_of, take_of, same_output, same_made, plain}

-- ---- steps

pub step_adds : (s : State) → can_step s ≡ true → (Step s).state.count ≡ s.count + 1
step_adds s can = go (exec_flat s.hart (board_of s)) (can_go s can)
  where
    go : (o : Outcome Board) → (o ≡ Waits → ⊥) → (stepped s o).state.count ≡ s.count + 1
    go (Goes h b) f = refl
    go Waits f = absurd (f refl)
    go (Stops cause value) f = refl

pub steps_to : (s : State) → can_step s ≡ true → step_of s ≡ Some (made_by (Step s))
unfolding step_of
steps_to s can = rw can refl

pub steps_not : (s : State) → can_step s ≡ false → step_of s ≡ None
unfolding step_of
steps_not s can = rw can refl

step_is : (s t : State) (os : List MadeOf) → step_of s ≡ Some (t, os) → (can_step s ≡ true) × (made_by (Step s) ≡ (t, os))
unfolding step_of
step_is s t os e = go (can_step s) e
  where
    go : (b : Bool) → (if b then Some (made_by (Step s)) else None) ≡ Some (t, os) → (b ≡ true) × (made_by (Step s) ≡ (t, os))
    go false h = absurd cc
    go true h = let p : made_by (Step s) ≡ (t, os) = cc in (refl, p)

step_counts : (s t : State) (os : List MadeOf) → step_of s ≡ Some (t, os) → t.count ≡ s.count + 1
step_counts s t os e =
    let k = step_is s t os e in
    let state : (Step s).state ≡ t = ap (λ (x : State × List MadeOf). x.0) k.1 in
    ap (λ (x : State). x.count) (sym state) ∙ step_adds s k.0

stamps : (n : ℕ) (os : List Output) → AllByRecursion (λ o. o.count ≡ n) (map (at_count n) os)
stamps n [] = tt
stamps n (o ∷ os) = (refl, stamps n os)

step_stamps : (s t : State) (os : List MadeOf) → step_of s ≡ Some (t, os) → AllByRecursion (λ o. o.count ≡ t.count) os
step_stamps s t os e =
    let k = step_is s t os e in
    subst (λ (x : State × List MadeOf). AllByRecursion (λ o. o.count ≡ x.0.count) x.1) k.1 (stamps (Step s).state.count (Step s).outs)

-- ---- inputs

take_keeps : (s : State) (i : InputState) → (Take s i).count ≡ s.count
take_keeps s (Console bytes) = refl
take_keeps s (Clock value) = refl
take_keeps s (Message peer number payload) = refl
take_keeps s (Acked peer number) = refl

take_counts : (s t : State) (i : GivenOf) → take_of s i ≡ Some t → t.count ≡ s.count
unfolding take_of
take_counts s t i e = go (Refusal s i.input) e
  where
    go : (r : Option NotTaken) → unless r (Take s i.input) ≡ Some t → t.count ≡ s.count
    go None h = let p : Take s i.input ≡ t = cc in rw (← p) (take_keeps s i.input)
    go (Some why) h = absurd cc

-- ---- outputs are compared

output_refl : (a : Output) → same_output a a ≡ true
output_refl (Out a) = (bytes_eq-Decides a a).1 refl
output_refl (Send p k a) = rw (eq-eqb p p refl, eq-eqb k k refl) ((bytes_eq-Decides a a).1 refl)
output_refl (Halt c v) = rw (eq-eqb c c refl, eq-eqb v v refl) refl
output_refl Snap = refl

output_is : (a b : Output) → same_output a b ≡ true → a ≡ b
output_is (Out a) (Out b) h = let r : a ≡ b = (bytes_eq-Decides a b).0 h in cc
output_is (Send p k a) (Send q l b) h =
    let x = and_parts _ (bytes_eq a b) h in
    let y = and_parts _ _ x.0 in
    let e : p ≡ q = eqb-true _ _ y.0 in
    let f : k ≡ l = eqb-true _ _ y.1 in
    let r : a ≡ b = (bytes_eq-Decides a b).0 x.1 in
    cc
output_is (Halt c v) (Halt d w) h =
    let x = and_parts _ _ h in
    let e : c ≡ d = eqb-true _ _ x.0 in
    let f : v ≡ w = eqb-true _ _ x.1 in
    cc
output_is Snap Snap h = refl
output_is (Out a) (Send q l b) h = absurd cc
output_is (Out a) (Halt d w) h = absurd cc
output_is (Out a) Snap h = absurd cc
output_is (Send p k a) (Out b) h = absurd cc
output_is (Send p k a) (Halt d w) h = absurd cc
output_is (Send p k a) Snap h = absurd cc
output_is (Halt c v) (Out b) h = absurd cc
output_is (Halt c v) (Send q l b) h = absurd cc
output_is (Halt c v) Snap h = absurd cc
output_is Snap (Out b) h = absurd cc
output_is Snap (Send q l b) h = absurd cc
output_is Snap (Halt d w) h = absurd cc

made_refl : (a : MadeOf) → same_made a a ≡ true
made_refl a = rw (eq-eqb a.count a.count refl) (output_refl a.output)

made_is : (a b : MadeOf) → same_made a b ≡ true → a ≡ b
made_is a b h =
    let x = and_parts _ (same_output a.output b.output) h in
    let e : a.count ≡ b.count = eqb-true _ _ x.0 in
    let f : a.output ≡ b.output = output_is a.output b.output x.1 in
    joins a b e f
  where
    joins : (a b : MadeOf) → a.count ≡ b.count → a.output ≡ b.output → a ≡ b
    joins a b e f = ap (λ (n : ℕ). at_count n a.output) e ∙ ap (at_count b.count) f

pub is_timed : IsTimed plain
is_timed = record { steps = step_counts; stamps = step_stamps; takes = take_counts; same_refl = made_refl; same_is = made_is }
