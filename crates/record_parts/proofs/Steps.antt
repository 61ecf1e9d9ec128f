-- Steps of a spell, as a loop makes them.
use Rattle.std.proofs.Common.{◌≡◌, ℕ, zero, suc, ◌+◌, ◌<◌, ◌≤◌, Bool, true, false, not, List, [], ◌∷◌, map, Option, Some, None, refl, sym, ap, subst, ◌∙◌, arith, eq-eqb, ne_eqb, inl, inr}
use Rattle.std.specs.Prelude.{if◌then◌else◌, ◌==◌, ◌&&◌, ◌||◌, is_some, take, ◌++◌}
use Rattle.std.proofs.lemmas.Bool.{and_parts, and_from, cases_lt}
use Rattle.avm_model.specs.Memory.{RamState}
use Rattle.avm_model.specs.PageMarks.{MarksPages}
use Rattle.avm_model.specs.Machine.{State, Output, Out, out_send, Step, asks, is_running, can_step}
use Rattle.avm_model.specs.Rerun.{moved, moved_by}
use Rattle.avm_model.specs.Reference.{Made, made_of, made_by, step_of, timed}
use Rattle.avm_model.proofs.ReferenceLaws.{is_timed, step_is}
use Rattle.avm_model.specs.declared.Sent.{Sent}
use Rattle.guest_machine.specs.Outs.{IsEmpty, halt_list, snap_list}
use Rattle.guest_machine.specs.declared.outs.Outs.{Outs}
use Rattle.guest_machine.proofs.RestLaws.{step_clock}
use Rattle.record_parts.specs.Outs.{outs_made}
use Rattle.record_model.specs.Turn.{goes_on, most_steps}
use Rattle.honest_model.proofs.Joins.{moved_on}
use Rattle.record_parts.specs.Spell.{IsSpellTo}

-- so many steps without outputs were made, and one could follow each time
pub record Quietly (until : ℕ) (s t : State) (i : ℕ) : Type 0 where
  pub moved_to : moved timed i s ≡ Some t
  pub before : (k : ℕ) (u : State) → k < i → moved timed k s ≡ Some u → goes_on until u ≡ true
  pub count : t.count ≡ s.count + i
  pub below : t.count ≤ until
  pub clock : t.devices.clock ≡ None

pub quiet_start : (until : ℕ) (s : State) → s.count < until → s.devices.clock ≡ None → Quietly until s s 0
quiet_start until s lt none = record { moved_to = refl; before = λ k u l e. absurd (omega arith); count = omega arith; below = omega arith; clock = none }

-- ---- where a step can follow

can_goes : (until : ℕ) (s : State) → (s.count ≡ until → ⊥) → s.devices.clock ≡ None → can_step s ≡ true → goes_on until s ≡ true
can_goes until s other none can =
    let a = and_parts (is_running s.status) (not (asks s) || is_some s.devices.clock) can in
    let b : not (asks s) ≡ true = silent (asks s) (rw none at a.1) in
    let c : not (s.count == until) ≡ true = rw (ne_eqb s.count until other) refl in
    and_from _ _ (and_from _ _ c a.0) b
  where
    silent : (x : Bool) → (not x || false) ≡ true → not x ≡ true
    silent true e = e
    silent false e = refl

can_then : (r a c : Bool) → r ≡ true → not a ≡ true → (r && (not a || c)) ≡ true
can_then r true c e f = absurd cc
can_then r false c e f = rw e refl

stays : (until : ℕ) (s : State) → step_of s ≡ None → s.devices.clock ≡ None → goes_on until s ≡ true → ⊥
unfolding step_of
stays until s none clock g =
    let a = and_parts (not (s.count == until) && is_running s.status) (not (asks s)) g in
    let b = and_parts (not (s.count == until)) (is_running s.status) a.0 in
    let can : can_step s ≡ true = can_then (is_running s.status) (asks s) (is_some s.devices.clock) b.1 a.1 in
    let some : Some (made_by (Step s)) ≡ None = rw can at none in
    absurd cc

at_until : (until : ℕ) (s : State) → s.count ≡ until → goes_on until s ≡ true → ⊥
at_until until s e g =
    let a = and_parts (not (s.count == until) && is_running s.status) (not (asks s)) g in
    let b = and_parts (not (s.count == until)) (is_running s.status) a.0 in
    let c : not (s.count == until) ≡ false = rw (eq-eqb s.count until e) refl in
    absurd cc

goes_at : (until : ℕ) (s t u : State) (os : List Made) (i : ℕ) → Quietly until s t i → (t.count ≡ until → ⊥) → step_of t ≡ Some (u, os) → goes_on until t ≡ true
goes_at until s t u os i q other st = can_goes until t other q.clock (step_is t u os st).0

-- one for all steps so far and this one
before_next : (until : ℕ) (s t : State) (i : ℕ) → Quietly until s t i → goes_on until t ≡ true → (k : ℕ) (u : State) → k < i + 1 → moved timed k s ≡ Some u → goes_on until u ≡ true
before_next until s t i q here k u lt e =
    elim (cases_lt k i) [
      | inl less ↦ q.before k u less e
      | inr more ↦
          let same : k ≡ i = omega arith in
          let e' : moved timed i s ≡ Some u = subst (λ (n : ℕ). moved timed n s ≡ Some u) same e in
          let both : Some t ≡ Some u = sym q.moved_to ∙ e' in
          let is : t ≡ u = cc in
          subst (λ (x : State). goes_on until x ≡ true) is here
    ]

some_clock : (o : Option ℕ) → o ≡ None → is_some o ≡ true → ⊥
some_clock None e q = absurd cc
some_clock (Some v) e q = absurd cc

pub none_pending : (s : State) (o : Outs) → IsEmpty o → outs_made s o ≡ []
none_pending s o e = ap (λ (os : List Output). map (made_of s) os) (e.list s.devices.window)

pub quiet_on : (until : ℕ) (s t u : State) (o : Outs) (i : ℕ) → Quietly until s t i → (t.count ≡ until → ⊥) → step_of t ≡ Some (u, outs_made u o) → IsEmpty o → Quietly until s u (i + 1)
quiet_on until s t u o i q other st empty =
    let st' : step_of t ≡ Some (u, []) = st ∙ ap (λ (os : List Made). Some (u, os)) (none_pending u o empty) in
    let one : moved timed 1 t ≡ Some u = rw st' refl in
    let n : u.count ≡ t.count + 1 = is_timed.steps t u [] st' in
    record {
      moved_to = moved_on timed i 1 s t u q.moved_to one;
      before = before_next until s t i q (goes_at until s t u [] i q other st');
      count = omega (arith, q.count, n);
      below = omega (arith, q.below, n, other);
      clock = step_clock t u (step_is t u [] st').1 (λ w. absurd (some_clock t.devices.clock q.clock w));
    }

-- ---- the ends

-- the last of some steps without outputs
pub record LastStep (i : ℕ) (s t : State) : Type 0 where
  pub last : State
  pub moved_to : moved timed i s ≡ Some last
  pub step : step_of last ≡ Some (t, [])

last_step : (i : ℕ) (s t : State) → moved timed (suc i) s ≡ Some t → LastStep i s t
last_step zero s t e = go (step_of s) refl e
  where
    go : (r : Option (State × List Made)) → step_of s ≡ r → moved_by r (moved timed 0) ≡ Some t → LastStep 0 s t
    go None p q = absurd cc
    go (Some (u, [])) p q = let same : u ≡ t = cc in record { last = s; moved_to = refl; step = p ∙ ap (λ (x : State). Some (x, [])) same }
    go (Some (u, o ∷ os)) p q = absurd cc
last_step (suc i) s t e = go (λ u. last_step i u t) (step_of s) refl e
  where
    go : ((u : State) → moved timed (suc i) u ≡ Some t → LastStep i u t) → (r : Option (State × List Made)) → step_of s ≡ r → moved_by r (moved timed (suc i)) ≡ Some t → LastStep (suc i) s t
    go ih None p q = absurd cc
    go ih (Some (u, [])) p q = let l = ih u q in record { last = l.last; moved_to = rw p l.moved_to; step = l.step }
    go ih (Some (u, o ∷ os)) p q = absurd cc

quiet_end : (until : ℕ) (s t : State) (o : Outs) (i : ℕ) → Quietly until s t (suc i) → IsEmpty o → suc i ≤ most_steps → (goes_on until t ≡ true → suc i ≡ most_steps) → IsSpellTo until s t o (suc i)
quiet_end until s t o i q empty most stop =
    let l = last_step i s t q.moved_to in
    record {
      quiet = i;
      steps = omega arith;
      spell = record {
        last = l.last;
        after = t;
        outs = [];
        quiet = l.moved_to;
        step = l.step;
        before = λ k u le e. q.before k u (omega arith) e;
        most = omega (arith, most);
        stop = λ _ g. let e = stop g in omega (arith, e);
      };
      after = refl;
      outs = sym (none_pending t o empty);
    }

-- no step can follow
pub stopped : (until : ℕ) (s t : State) (o : Outs) (i : ℕ) → Quietly until s t i → goes_on until s ≡ true → IsEmpty o → i ≤ most_steps → (goes_on until t ≡ true → ⊥) → IsSpellTo until s t o i
stopped until s t o zero q first empty most none = absurd (none (let same : s ≡ t = (let m = q.moved_to in cc) in subst (λ (x : State). goes_on until x ≡ true) same first))
stopped until s t o (suc i) q first empty most none = quiet_end until s t o i q empty most (λ g. absurd (none g))

pub stopped_at : (until : ℕ) (s t : State) (o : Outs) (i : ℕ) → Quietly until s t i → goes_on until s ≡ true → IsEmpty o → i < most_steps → t.count ≡ until → IsSpellTo until s t o i
stopped_at until s t o i q first empty most e = stopped until s t o i q first empty (omega arith) (at_until until t e)

pub stopped_there : (until : ℕ) (s t u : State) (o p : Outs) (i : ℕ) → Quietly until s t i → goes_on until s ≡ true → IsEmpty o → i < most_steps → step_of t ≡ None → u ≡ t → p ≡ o → IsSpellTo until s u p i
stopped_there until s t u o p i q first empty most none is_t is_o =
    let here = stopped until s t o i q first empty (omega arith) (stays until t none q.clock) in
    subst (λ (x : State). IsSpellTo until s x p i) (sym is_t) (subst (λ (x : Outs). IsSpellTo until s t x i) (sym is_o) here)

pub made_most : (until : ℕ) (s t : State) (o : Outs) → Quietly until s t 65536 → IsEmpty o → IsSpellTo until s t o 65536
made_most until s t o q empty = quiet_end until s t o 65535 q empty (omega arith) (λ g. refl)

-- a step with outputs
pub with_outputs : (until : ℕ) (s t u : State) (o : Outs) (i : ℕ) → Quietly until s t i → (t.count ≡ until → ⊥) → i < most_steps → step_of t ≡ Some (u, outs_made u o) → (outs_made u o ≡ [] → ⊥) → IsSpellTo until s u o (i + 1)
with_outputs until s t u o i q other most st loud =
    record {
      quiet = i;
      steps = refl;
      spell = record {
        last = t;
        after = u;
        outs = outs_made u o;
        quiet = q.moved_to;
        step = st;
        before = λ k v le e. before_next until s t i q (goes_at until s t u (outs_made u o) i q other st) k v (omega arith) e;
        most = most;
        stop = λ e g. absurd (loud e);
      };
      after = refl;
      outs = refl;
    }

-- some output is there
full : (b : Bool) (line window : List ℕ) (sent : Option Sent) (halt : Option (ℕ × ℕ)) (snap : Bool) → (b && not (is_some sent) && not (is_some halt) && not snap) ≡ false
    → ((if b then [] else Out line ∷ []) ++ out_send sent window ++ halt_list halt ++ snap_list snap) ≡ [] → ⊥
full false line window sent halt snap h e = absurd cc
full true line window (Some s) halt snap h e = absurd cc
full true line window None (Some x) snap h e = absurd cc
full true line window None None true h e = absurd cc
full true line window None None false h e = absurd cc

none_made : (t : State) (os : List Output) → map (made_of t) os ≡ [] → os ≡ []
none_made t [] e = refl
none_made t (o ∷ os) e = absurd cc

pub loud : (u : State) (o : Outs) → ((o.line.len == 0) && not (is_some o.sent) && not (is_some o.halt) && not o.snap) ≡ false → outs_made u o ≡ [] → ⊥
loud u o h e = full (o.line.len == 0) (take o.line.len o.line.bytes) u.devices.window o.sent o.halt o.snap h (none_made u _ e)

pub clock_behind : (until : ℕ) (s t u : State) (os : List Made) (i : ℕ) → Quietly until s t i → step_of t ≡ Some (u, os) → u.devices.clock ≡ None
clock_behind until s t u os i q st = step_clock t u (step_is t u os st).1 (λ w. absurd (some_clock t.devices.clock q.clock w))

-- a RAM whose pages are marked twice
pub marks_on : (a b c : RamState) → MarksPages a b → MarksPages b c → MarksPages a c
marks_on a b c p q = record {
  size = q.size ∙ p.size;
  pages = q.pages ∙ p.pages;
  clean = λ f lt h. p.clean f (omega (arith, lt, q.pages)) (q.clean f lt h);
  same = λ f lt h. q.same f lt h ∙ p.same f (omega (arith, lt, q.pages)) (q.clean f lt h);
}

pub count_below : (until : ℕ) (s t u : State) (os : List Made) (i : ℕ) → Quietly until s t i → (t.count ≡ until → ⊥) → step_of t ≡ Some (u, os) → u.count ≤ until
count_below until s t u os i q other st = let n : u.count ≡ t.count + 1 = is_timed.steps t u os st in omega (arith, q.below, n, other)
