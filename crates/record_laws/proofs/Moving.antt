-- Moves of a run, one after another.
use Rattle.std.proofs.Common.{◌≡◌, ℕ, zero, suc, ◌+◌, ◌≤◌, ◌<◌, Bool, true, false, not, List, [], ◌∷◌, ◌++◌, replicate, Option, Some, None, refl, arith}
use Rattle.std.proofs.lemmas.List.{append-nil}
use Rattle.std.proofs.lemmas.Bool.{and_parts, lt-leb, leb-false, eq-eqb}
use Rattle.std.specs.Prelude.{◌==◌, ◌||◌, if◌then◌else◌, nat_le, is_some}
use Rattle.avm_num.specs.Bytes.{◌>>=◌}
use Rattle.avm_model.specs.Machine.{State, asks, is_running}
use Rattle.avm_model.specs.Rerun.{moved, moved_by}
use Rattle.avm_model.specs.Reference.{Made, timed, step_of}
use Rattle.avm_model.proofs.ReferenceLaws.{is_timed, step_is}
use Rattle.guest_machine.proofs.RestLaws.{step_clock}
use Rattle.avm_outside.specs.Feed.{Agenda, Timed}
use Rattle.avm_outside.specs.Outlet.{Piece}
use Rattle.journal_model.specs.Journal.{JournalData}
use Rattle.journal_model.specs.Part.{Part}
use Rattle.record_model.specs.Recorded.{Drop, Run, by_events, by_machine, is_due, move, moves, next_act, running}
use Rattle.record_model.specs.Recording.{StepOn, is_large}
use Rattle.record_model.specs.Released.{Sender}
use Rattle.record_model.specs.Turn.{Comes, Gift, Later, Over, gift_at, gift_of, goes_on}

pub moves-append : (who : Sender) (a b : List (List ℕ)) (r : Run) → moves who (a ++ b) r ≡ (moves who a r >>= moves who b)
moves-append who [] b r = refl
moves-append who (p ∷ a) b r = go (λ t. moves-append who a b t) (move who p r)
  where
    go : ((t : Run) → moves who (a ++ b) t ≡ (moves who a t >>= moves who b)) → (m : Option Run) → (m >>= moves who (a ++ b)) ≡ ((m >>= moves who a) >>= moves who b)
    go ih None = refl
    go ih (Some t) = ih t

-- ---- what isn't due

-- no event is due before count c, and none is at a state before it
pub record IsLater (p : Agenda) (es : List Timed) (c : ℕ) (s : State) : Type 0 where
  pub not_due : is_due c s ≡ false
  pub still : (t : State) → is_due c t ≡ false → gift_at t p es ≡ Later c
  pub act : by_events s p es ≡ Some (by_machine s p)

later_by : (p : Agenda) (at c : ℕ) (s : State) (gift : Gift) (b : Bool) → is_due at s ≡ b → (gift ≡ Later c → ⊥) → (if b then gift else Later at) ≡ Later c → (at ≡ c) × (is_due at s ≡ false)
later_by p at c s gift true e other h = absurd (other h)
later_by p at c s gift false e other h = let q : Later at ≡ Later c = h in (let r : at ≡ c = cc in r, e)

pub later : (p : Agenda) (es : List Timed) (c : ℕ) (s : State) → gift_at s p es ≡ Later c → IsLater p es c s
later p [] c s h =
    let k = later_by p p.ending c s Over (is_due p.ending s) refl (λ e. absurd cc) h in
    record {
      not_due = rw (← k.0) k.1;
      still = λ t e. let e' : is_due p.ending t ≡ false = rw k.0 e in rw (e', k.0) refl;
      act = rw k.1 refl;
    }
later p (e ∷ es) c s h =
    let k = later_by p e.at c s (Comes e.event) (is_due e.at s) refl (λ q. absurd cc) h in
    record {
      not_due = rw (← k.0) k.1;
      still = λ t q. let q' : is_due e.at t ≡ false = rw k.0 q in rw (q', k.0) refl;
      act = rw k.1 refl;
    }

-- where a step can follow, nothing is due behind it
or_false : (a b : Bool) → (a || b) ≡ false → (a ≡ false) × (b ≡ false)
or_false true b e = absurd cc
or_false false b e = (refl, e)

not_true : (b : Bool) → not b ≡ true → b ≡ false
not_true true e = absurd cc
not_true false e = refl

pub record Goes (c : ℕ) (s : State) : Type 0 where
  pub other : s.count ≡ c → ⊥
  pub runs : is_running s.status ≡ true
  pub silent : asks s ≡ false

pub goes : (c : ℕ) (s : State) → goes_on c s ≡ true → Goes c s
goes c s h =
    let a = and_parts _ (not (asks s)) h in
    let b = and_parts (not (s.count == c)) (is_running s.status) a.0 in
    let n : (s.count == c) ≡ false = not_true _ b.0 in
    record {
      other = λ e. absurd (let t : (s.count == c) ≡ true = eq-eqb s.count c e in cc);
      runs = b.1;
      silent = not_true _ a.1;
    }

pub not_due_on : (c : ℕ) (s t : State) → is_due c s ≡ false → t.count ≡ s.count + 1 → goes_on c t ≡ true → is_due c t ≡ false
not_due_on c s t h n g =
    let f = goes c t g in
    let low : s.count < c = leb-false c s.count (or_false (nat_le c s.count) (not (is_running s.status)) h).0 in
    let lower : t.count < c = omega (arith, f.other) in
    rw (lt-leb c t.count lower, f.runs) refl

-- ---- steps without outputs are moves

none_some : (o : Option ℕ) → o ≡ None → is_some o ≡ true → ⊥
none_some None e q = absurd cc
none_some (Some v) e q = absurd cc

-- a step keeps that no clock is pending
no_clock_on : (s t : State) (os : List Made) → s.devices.clock ≡ None → step_of s ≡ Some (t, os) → t.devices.clock ≡ None
no_clock_on s t os none e = step_clock s t (step_is s t os e).1 (λ q. absurd (none_some s.devices.clock none q))

-- the next act, where nothing is due and the machine doesn't ask
pub next_is : (s : State) (p : Agenda) (c : ℕ) → s.devices.clock ≡ None → gift_of s p ≡ Later c → asks s ≡ false → next_act s p ≡ Some (record { act = StepOn; script = p })
next_is s p c none l silent =
    let a = (later p p.events c s l).act in
    rw (none, a, silent) refl

same_batch : (b : List Part) → (b ++ []) ≡ b
same_batch b = append-nil b

pub quiet_move : (who : Sender) (j : JournalData) (b : List Part) (p : Agenda) (rel : List Piece) (dr : List Drop) (s t : State) (c : ℕ) → is_large b ≡ false → s.devices.clock ≡ None → gift_of s p ≡ Later c → asks s ≡ false → step_of s ≡ Some (t, [])
    → move who [] (running j b p rel dr s) ≡ Some (running j b p rel dr t)
quiet_move who j b p rel dr s t c small none l silent st =
    let n = next_is s p c none l silent in
    rw (n, st, append-nil b, small, append-nil rel, append-nil dr) refl

pub record Quietly (who : Sender) (n : ℕ) (j : JournalData) (b : List Part) (p : Agenda) (rel : List Piece) (dr : List Drop) (s u : State) (c : ℕ) : Type 0 where
  pub moves_are : moves who (replicate n []) (running j b p rel dr s) ≡ Some (running j b p rel dr u)
  pub clock : u.devices.clock ≡ None
  pub later : gift_of u p ≡ Later c
  pub goes : goes_on c u ≡ true

pub quiet_moves : (who : Sender) (n : ℕ) (j : JournalData) (b : List Part) (p : Agenda) (rel : List Piece) (dr : List Drop) (s u : State) (c : ℕ) → is_large b ≡ false → s.devices.clock ≡ None → gift_of s p ≡ Later c → moved timed n s ≡ Some u
    → ((k : ℕ) (t : State) → k ≤ n → moved timed k s ≡ Some t → goes_on c t ≡ true) → Quietly who n j b p rel dr s u c
quiet_moves who zero j b p rel dr s u c small none l m g =
    let e : s ≡ u = cc in
    rw (← e) (record { moves_are = refl; clock = none; later = l; goes = g 0 s (omega arith) refl })
quiet_moves who (suc n) j b p rel dr s u c small none l m g = go (λ t. quiet_moves who n j b p rel dr t u c small) (step_of s) refl m
  where
    go : ((t : State) → t.devices.clock ≡ None → gift_of t p ≡ Later c → moved timed n t ≡ Some u → ((k : ℕ) (v : State) → k ≤ n → moved timed k t ≡ Some v → goes_on c v ≡ true) → Quietly who n j b p rel dr t u c) → (r : Option (State × List Made)) → step_of s ≡ r → moved_by r (moved timed n) ≡ Some u → Quietly who (suc n) j b p rel dr s u c
    go ih None e h = absurd cc
    go ih (Some (t, [])) e h =
        let here = g 0 s (omega arith) refl in
        let f = goes c s here in
        let la = later p p.events c s l in
        let count : t.count ≡ s.count + 1 = is_timed.steps s t [] e in
        let on : moved timed 1 s ≡ Some t = rw e refl in
        let there = g 1 t (omega arith) on in
        let still : gift_of t p ≡ Later c = la.still t (not_due_on c s t la.not_due count there) in
        let shifted = λ (k : ℕ) (v : State) (le : k ≤ n) (q : moved timed k t ≡ Some v). g (suc k) v (omega arith) (rw e q) in
        let rest = ih t (no_clock_on s t [] none e) still h shifted in
        let one = quiet_move who j b p rel dr s t c small none l f.silent e in
        record { moves_are = rw one rest.moves_are; clock = rest.clock; later = rest.later; goes = rest.goes }
    go ih (Some (t, o ∷ os)) e h = absurd cc
