-- Steps without outputs, and the first step with outputs, are what the judge makes.
use Rattle.std.proofs.Common.{◌≡◌, ℕ, zero, suc, ◌+◌, ◌-◌, ◌<◌, Bool, true, false, not, is_some, List, [], ◌∷◌, ◌++◌, map, Option, Some, None, refl, sym, ap, ◌∙◌, arith}
use Rattle.std.specs.Prelude.{if◌then◌else◌, ◌==◌, ◌&&◌, take}
use Rattle.avm_model.specs.Machine.{State, Output, Out, out_send}
use Rattle.avm_model.specs.Memory.{RamState}
use Rattle.avm_model.specs.PageMarks.{MarksPages}
use Rattle.avm_model.specs.Judge.{quiet, quiet_step, settle}
use Rattle.avm_model.specs.Reference.{Made, made_of, step_of, timed}
use Rattle.avm_model.specs.declared.Sent.{Sent}
use Rattle.avm_model.proofs.ReplayLaws.{settle_past}
use Rattle.avm_model.proofs.ReferenceLaws.{step_counts}
use Rattle.guest_machine.specs.Outs.{halt_list, snap_list, IsEmpty}
use Rattle.guest_machine.specs.declared.outs.Outs.{Outs}
use Rattle.replayer.specs.Pending.{pending_of, stand_of}

none_pending : (s : State) (o : Outs) → IsEmpty o → pending_of s o ≡ []
none_pending s o e = ap (λ (os : List Output). map (made_of s) os) (e.list s.devices.window)

-- a step without outputs
pub step_on : (s t : State) (o : Outs) (c : ℕ) → step_of s ≡ Some (t, pending_of t o) → s.count < c → IsEmpty o → (t.count ≡ s.count + 1) × (quiet timed (c - t.count) t ≡ quiet timed (c - s.count) s)
step_on s t o c e lt empty =
    let n : t.count ≡ s.count + 1 = step_counts s t (pending_of t o) e in
    let e2 : step_of s ≡ Some (t, []) = e ∙ ap (λ (os : List Made). Some (t, os)) (none_pending t o empty) in
    (n, sym (settle_past timed c s t [] e2 n (omega (arith, n, lt))))

-- no step can be made
quiet_none : (s : State) (k : ℕ) → step_of s ≡ None → quiet timed k s ≡ record { state = s; pending = [] }
quiet_none s zero e = refl
quiet_none s (suc k) e = ap (quiet_step (quiet timed k) s) e

pub step_none : (old s t : State) (before p o : Outs) (c : ℕ) → IsEmpty before → IsEmpty p → step_of s ≡ None → t ≡ s → o ≡ p
    → quiet timed (c - s.count) s ≡ quiet timed (c - old.count) old
    → settle timed c old (pending_of old before) ≡ stand_of t o
step_none old s t before p o c empty none e is_s is_p same =
    let there : record { state = s; pending = [] } ≡ stand_of s p = ap (λ (os : List Made). record { state = s; pending = os }) (sym (none_pending s p none)) in
    ap (λ (os : List Made). settle timed c old os) (none_pending old before empty) ∙ sym same ∙ quiet_none s (c - s.count) e ∙ there
    ∙ ap (λ (x : State). stand_of x p) (sym is_s) ∙ ap (λ (q : Outs). stand_of t q) (sym is_p)

-- some output is there
pub record IsFull (os : List Output) : Type 0 where
  pub first : Output
  pub rest : List Output
  pub is : os ≡ first ∷ rest

full : (b : Bool) (line window : List ℕ) (sent : Option Sent) (halt : Option (ℕ × ℕ)) (snap : Bool) → (b && not (is_some sent) && not (is_some halt) && not snap) ≡ false
    → IsFull ((if b then [] else Out line ∷ []) ++ out_send sent window ++ halt_list halt ++ snap_list snap)
full false line window sent halt snap h = record { first = _; rest = _; is = refl }
full true line window (Some s) halt snap h = record { first = _; rest = _; is = refl }
full true line window None (Some x) snap h = record { first = _; rest = _; is = refl }
full true line window None None true h = record { first = _; rest = _; is = refl }
full true line window None None false h = absurd cc

-- the step with outputs
pub step_out : (old s t : State) (before o : Outs) (c : ℕ) → IsEmpty before → step_of s ≡ Some (t, pending_of t o) → s.count < c
    → quiet timed (c - s.count) s ≡ quiet timed (c - old.count) old
    → ((o.line.len == 0) && not (is_some o.sent) && not (is_some o.halt) && not o.snap) ≡ false
    → settle timed c old (pending_of old before) ≡ stand_of t o
step_out old s t before o c empty e lt same some =
    let n : t.count ≡ s.count + 1 = step_counts s t (pending_of t o) e in
    let f = full (o.line.len == 0) (take o.line.len o.line.bytes) t.devices.window o.sent o.halt o.snap some in
    let shown : pending_of t o ≡ made_of t f.first ∷ map (made_of t) f.rest = ap (λ (os : List Output). map (made_of t) os) f.is in
    let past : settle timed c s [] ≡ settle timed c t (pending_of t o) = settle_past timed c s t (pending_of t o) e n (omega (arith, n, lt)) in
    let there : settle timed c t (pending_of t o) ≡ stand_of t o =
    ap (λ (os : List Made). settle timed c t os) shown ∙ ap (λ (os : List Made). record { state = t; pending = os }) (sym shown) in
    ap (λ (os : List Made). settle timed c old os) (none_pending old before empty) ∙ sym same ∙ past ∙ there

pub marks_on : (a b c : RamState) → MarksPages a b → MarksPages b c → MarksPages a c
marks_on a b c p q = record {
  size = q.size ∙ p.size;
  pages = q.pages ∙ p.pages;
  clean = λ f lt h. p.clean f (omega (arith, lt, q.pages)) (q.clean f lt h);
  same = λ f lt h. q.same f lt h ∙ p.same f (omega (arith, lt, q.pages)) (q.clean f lt h);
}
