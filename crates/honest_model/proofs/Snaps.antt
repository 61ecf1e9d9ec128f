-- A snapshot is the last output of its step, and has the root and the count of the state behind it.
use Rattle.std.proofs.Common.{◌≡◌, ℕ, zero, suc, ◌+◌, ◌-◌, ◌%◌, Bool, true, false, cond, not, List, [], ◌∷◌, ◌++◌, append_assoc, length, map, Option, Some, None, refl, sym, subst}
use Rattle.std.specs.Prelude.{if◌then◌else◌, ◌==◌}
use Rattle.std.specs.Option.{option_and_then}
use Rattle.avm_model.specs.Exec.{Outcome, Goes, Waits, Stops}
use Rattle.avm_model.specs.Machine.{State, Board, Output, Halt, Snap, stepped, exec_flat, board_of, out_line, out_send, out_snap, is_complete}
use Rattle.avm_model.specs.Root.{root}
use Rattle.avm_model.specs.Timed.{Entry, given, made, entry_count, takes}
use Rattle.avm_model.specs.Rerun.{Stand}
use Rattle.avm_model.specs.Judge.{judge, judge_all, quiet, quiet_step, settle, compare, accept, stand_of}
use Rattle.avm_model.specs.Reference.{Given, Made, OutAt, SendAt, HaltAt, SnapAt, NothingAt, made_of, step_of, timed}
use Rattle.avm_model.proofs.ReferenceLaws.{is_timed, step_is}
use Rattle.avm_model.specs.declared.Sent.{Sent}

abbrev pub WellMade : State → List Made → Type 0
WellMade s [] = Unit {0}
WellMade s (OutAt count bytes ∷ os) = WellMade s os
WellMade s (SendAt count peer number payload ∷ os) = WellMade s os
WellMade s (HaltAt count cause value ∷ os) = WellMade s os
WellMade s (SnapAt count r ∷ os) = (count ≡ s.count) × (r ≡ root s) × (os ≡ [])
WellMade s (NothingAt count ∷ os) = WellMade s os

abbrev pub IsWell : Stand State Made → Type 0
IsWell j = WellMade j.state j.pending

-- the same without what stands in front
tail_well : (s : State) (o : Made) (os : List Made) → WellMade s (o ∷ os) → WellMade s os
tail_well s (OutAt count bytes) os h = h
tail_well s (SendAt count peer number payload) os h = h
tail_well s (HaltAt count cause value) os h = h
tail_well s (SnapAt count r) os h = subst (λ (x : List Made). WellMade s x) (sym h.2) tt
tail_well s (NothingAt count) os h = h

-- ---- the outputs of a step

snap_well : (s : State) (b : Bool) → WellMade s (map (made_of s) (if b then Snap ∷ [] else []))
snap_well s true = (refl, refl, refl)
snap_well s false = tt

send_well : (s : State) (o : Option Sent) (window : List ℕ) (b : Bool) → WellMade s (map (made_of s) (out_send o window ++ (if b then Snap ∷ [] else [])))
send_well s None window b = snap_well s b
send_well s (Some x) window b = snap_well s b

line_well : (s : State) (emits : Bool) (line : List ℕ) (os : List Output) → WellMade s (map (made_of s) os) → WellMade s (map (made_of s) (out_line emits line ++ os))
line_well s true line os h = h
line_well s false line os h = h

append_three : (a b c : List Output) → ((a ++ b) ++ c) ≡ (a ++ (b ++ c))
append_three a b c = append_assoc a b c

stepped_well : (s t : State) (o : Outcome Board) → WellMade t (map (made_of t) (stepped s o).outs)
stepped_well s t (Goes h b) =
    let e = append_three (out_line (is_complete b.devices.line) b.devices.line) (out_send b.send b.devices.window) (out_snap s.snap (s.count + 1)) in
    subst (λ (os : List Output). WellMade t (map (made_of t) os)) (sym e) (line_well t (is_complete b.devices.line) b.devices.line _ (send_well t b.send b.devices.window ((s.count + 1) % s.snap == 0)))
stepped_well s t Waits = tt
stepped_well s t (Stops cause value) = line_well t (not (length s.devices.line == 0)) s.devices.line (Halt cause value ∷ out_snap s.snap (s.count + 1)) (snap_well t ((s.count + 1) % s.snap == 0))

pub step_well : (s t : State) (os : List Made) → step_of s ≡ Some (t, os) → WellMade t os
step_well s t os e =
    let k = step_is s t os e in
    subst (λ (x : List Made). WellMade t x) (sym k.2) (stepped_well s t (exec_flat s.hart (board_of s)))

-- ---- judging

quiet_well : (k : ℕ) (s : State) → IsWell (quiet timed k s)
quiet_well zero s = tt
quiet_well (suc k) s = go (λ t. quiet_well k t) (step_of s) refl
  where
    go : ((t : State) → IsWell (quiet timed k t)) → (r : Option (State × List Made)) → step_of s ≡ r → IsWell (quiet_step (quiet timed k) s r)
    go ih None e = tt
    go ih (Some (t, [])) e = ih t
    go ih (Some (t, o ∷ os)) e = step_well s t (o ∷ os) e

settle_well : (c : ℕ) (s : State) (os : List Made) → WellMade s os → IsWell (settle timed c s os)
settle_well c s [] h = quiet_well (c - s.count) s
settle_well c s (o ∷ os) h = h

-- what is judged as made stands in front of what is pending
compared : (o : Made) (t : State) (os : List Made) (k : Stand State Made) → compare timed o t os ≡ Some k → (os ≡ o ∷ k.pending) × (t ≡ k.state)
compared o t [] k e = absurd cc
compared o t (q ∷ qs) k e = go (timed.same o q) refl e
  where
    go : (b : Bool) → timed.same o q ≡ b → cond b (Some (record { state = t; pending = qs })) None ≡ Some k → (q ∷ qs ≡ o ∷ k.pending) × (t ≡ k.state)
    go true p h = let e1 = is_timed.same_is o q p in let e2 : record { state = t; pending = qs } ≡ k = cc in (rw (← e2, e1) refl, rw (← e2) refl)
    go false p h = absurd cc

accepted_empty : (i : Given) (t : State) (os : List Made) (k : Stand State Made) → accept timed i t os ≡ Some k → k.pending ≡ []
accepted_empty i t (q ∷ qs) k e = absurd cc
accepted_empty i t [] k e = go (takes timed t i) e
  where
    go : (r : Option State) → stand_of r ≡ Some k → k.pending ≡ []
    go None h = absurd cc
    go (Some u) h = let e2 : record { state = u; pending = [] } ≡ k = cc in rw (← e2) refl

pub judge_well : (j k : Stand State Made) (e : Entry Given Made) → IsWell j → judge timed j e ≡ Some k → IsWell k
judge_well j k (made o) h q =
    let s = settle_well (entry_count timed (made o)) j.state j.pending h in
    let x = compared o (settle timed (entry_count timed (made o)) j.state j.pending).state (settle timed (entry_count timed (made o)) j.state j.pending).pending k q in
    tail_well k.state o k.pending (subst (λ (t : State). WellMade t (o ∷ k.pending)) x.1 (subst (λ (os : List Made). WellMade (settle timed (entry_count timed (made o)) j.state j.pending).state os) x.0 s))
judge_well j k (given i) h q =
    let e = accepted_empty i (settle timed (entry_count timed (given i)) j.state j.pending).state (settle timed (entry_count timed (given i)) j.state j.pending).pending k q in
    subst (λ (os : List Made). WellMade k.state os) (sym e) tt

pub judge_all_well : (j k : Stand State Made) (es : List (Entry Given Made)) → IsWell j → judge_all timed j es ≡ Some k → IsWell k
judge_all_well j k [] h q = let e : j ≡ k = cc in subst IsWell e h
judge_all_well j k (e ∷ es) h q = go (λ x. judge_all_well x k es) (judge timed j e) refl q
  where
    go : ((x : Stand State Made) → IsWell x → judge_all timed x es ≡ Some k → IsWell k) → (r : Option (Stand State Made)) → judge timed j e ≡ r → option_and_then (λ x. judge_all timed x es) r ≡ Some k → IsWell k
    go ih None p f = absurd cc
    go ih (Some x) p f = ih x (judge_well j x e h p) f

-- a snapshot that is judged well has the root and the count of the state, and nothing is lacking behind it
pub record AtSnap (k : Stand State Made) (count : ℕ) (r : List ℕ) : Type 0 where
  pub count_is : count ≡ k.state.count
  pub root_is : r ≡ root k.state
  pub whole : k.pending ≡ []

pub snap_judged : (j k : Stand State Made) (count : ℕ) (r : List ℕ) → IsWell j → judge timed j (made (SnapAt count r)) ≡ Some k → AtSnap k count r
snap_judged j k count r h q =
    let s = settle_well count j.state j.pending h in
    let x = compared (SnapAt count r) (settle timed count j.state j.pending).state (settle timed count j.state j.pending).pending k q in
    let w : WellMade k.state (SnapAt count r ∷ k.pending) = subst (λ (t : State). WellMade t (SnapAt count r ∷ k.pending)) x.1 (subst (λ (os : List Made). WellMade (settle timed count j.state j.pending).state os) x.0 s) in
    record { count_is = w.0; root_is = w.1; whole = w.2 }
