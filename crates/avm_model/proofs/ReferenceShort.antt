-- An entry costs the reference machine at most K steps.
use Rattle.std.proofs.Common.{◌≡◌, ℕ, ◌+◌, ◌%◌, ◌<◌, ◌≤◌, Bool, true, false, not, List, [], ◌∷◌, ◌++◌, map, length, Some, refl, ap, ◌∙◌, eq-eqb}
use Rattle.std.specs.Prelude.{if◌then◌else◌, ◌==◌}
use Rattle.avm_model.specs.Exec.{Outcome, Goes, Waits, Stops}
use Rattle.avm_model.specs.Machine.{State, Board, Output, Halt, Snap, Step, stepped, exec_flat, board_of, out_line, out_send, out_snap, is_complete}
use Rattle.avm_model.specs.Reference.{Made, made_of, step_of, timed}
use Rattle.avm_model.specs.Judge.{settle}
use Rattle.avm_model.proofs.StepLaws.{can_go}
use Rattle.avm_model.proofs.ReplayLaws.{settle_within}
use Rattle.avm_model.proofs.ReferenceLaws.{is_timed, step_is}

stepped_snap : (s : State) (o : Outcome Board) → (stepped s o).state.snap ≡ s.snap
stepped_snap s (Goes h b) = refl
stepped_snap s Waits = refl
stepped_snap s (Stops cause value) = refl

last_empty : (a b : List Output) → (a ++ b) ≡ [] → b ≡ []
last_empty [] b e = e
last_empty (x ∷ a) b e = absurd cc

snap_comes : (snap count : ℕ) → count % snap ≡ 0 → out_snap snap count ≡ [] → ⊥
snap_comes snap count z e = go (count % snap == 0) (eq-eqb _ _ z) e
  where
    go : (b : Bool) → b ≡ true → (if b then Snap ∷ [] else []) ≡ [] → ⊥
    go true p h = absurd cc
    go false p h = absurd cc

loud_step : (s : State) (o : Outcome Board) → (o ≡ Waits → ⊥) → (s.count + 1) % s.snap ≡ 0 → (stepped s o).outs ≡ [] → ⊥
loud_step s (Goes h b) f z e =
    let front : List Output = out_line (is_complete b.devices.line) b.devices.line ++ out_send b.send b.devices.window in
    snap_comes s.snap (s.count + 1) z (last_empty front (out_snap s.snap (s.count + 1)) e)
loud_step s Waits f z e = absurd (f refl)
loud_step s (Stops cause value) f z e =
    let emits : Bool = not (length s.devices.line == 0) in
    let h : (Halt cause value ∷ out_snap s.snap (s.count + 1)) ≡ [] = last_empty (out_line emits s.devices.line) (Halt cause value ∷ out_snap s.snap (s.count + 1)) e in
    absurd cc

none_made : (t : State) (os : List Output) → [] ≡ map (made_of t) os → os ≡ []
none_made t [] e = refl
none_made t (o ∷ os) e = absurd cc

keeps_snap : (s t : State) (os : List Made) → step_of s ≡ Some (t, os) → t.snap ≡ s.snap
keeps_snap s t os e =
    let is = step_is s t os e in
    ap (λ (x : State). x.snap) is.1 ∙ stepped_snap s (exec_flat s.hart (board_of s))

loud : (s t : State) → step_of s ≡ Some (t, []) → t.count % t.snap ≡ 0 → ⊥
loud s t e z =
    let is = step_is s t [] e in
    let n : t.count ≡ s.count + 1 = is_timed.steps s t [] e in
    loud_step s (exec_flat s.hart (board_of s)) (can_go s is.0) (rw (← n, ← keeps_snap s t [] e) z) (none_made t (Step s).outs is.2)

pub reference_short : (c : ℕ) (s : State) (os : List Made) → 0 < s.snap → (settle timed c s os).state.count ≤ s.count + s.snap
reference_short c s os pos = settle_within timed is_timed (λ (t : State). t.snap) keeps_snap loud c s os pos
