-- What is done by what the feed gave.
use Rattle.std.proofs.Common.{◌≡◌, ℕ, ◌<◌, Bool, true, false, List, Option, Some, None, Result, Ok, refl, sym, ap, subst, arith, ne_eqb}
use Rattle.std.specs.Prelude.{is_some}
use Rattle.avm_model.specs.Machine.{State, asks}
use Rattle.avm_model.specs.Memory.{RamState}
use Rattle.avm_model.specs.declared.Status.{Status}
use Rattle.avm_model.specs.declared.Status.TheVariants.{Running, Waiting as Waits, Halted as IsHalted}
use Rattle.avm_outside.specs.Feed.{Event}
use Rattle.avm_outside.specs.Outlet.{Piece}
use Rattle.avm_outside.specs.Outside.{BothTold}
use Rattle.journal_model.specs.Journal.{JournalData}
use Rattle.journal_model.specs.Part.{Part}
use Rattle.jrnl_store.specs.Kept.{Kept}
use Rattle.jrnl_store.specs.Own.{IsOwn}
use Rattle.jrnl_store.specs.declared.fault.Stop.{Stop}
use Rattle.record_kept.specs.Tickets.{AreKeptOf}
use Rattle.record_kept.specs.declared.kept.KeptRow.{KeptRow}
use Rattle.record_model.specs.Recorded.{act_of}
use Rattle.record_model.specs.Recording.{AnswerClock, StepOn}
use Rattle.record_model.specs.Released.{Sender}
use Rattle.record_model.specs.Turn.{Answer, Comes, End, Gift, Halted, IsPlan, IsPlanBefore, IsPlanOf, IsPlanRunning, Later, Over, Plan, Waiting, doing, goes_on, idling}
use Rattle.record_parts.specs.Ends.{Faults, turn_of}
use Rattle.record_parts.specs.declared.answers.Turn.{Turn}
use Rattle.record_parts.proofs.Ends.{rec}
use Rattle.record_ready.specs.Ready.{IsDeskOf}
use Rattle.record_turn.proofs.Keeps.{beside}
use Rattle.record_turn.proofs.Told.{told_still}
use Rattle.record_turn.specs.Keeping.{Aside}
use Rattle.record_turn.specs.Leaves.{Acted, Leaves, Spelled}
use Rattle.recorder.specs.Turns.{Planned}

-- ---- of each journal whose desk it is

-- for each such journal, with what an act says of those whose own disk it is
pub desk_told : {D : Type 0} (moment : D → ℕ) (left_since : D → ℕ → List ℕ → Type 0) (seen : D → Option (List ℕ)) (images : D → List ℕ → Type 0) (old new : D) (k n : Kept) (rows : List KeptRow) (P Q : JournalData → JournalData → List Part → Type 0)
    → BothTold (seen old) (seen new) (λ was now. (j : JournalData) → IsOwn k (images old) was j → Leaves moment left_since old new n (images new) now j (P j))
    → ((j next : JournalData) (flight : List Part) → P j next flight → Q j next flight)
    → BothTold (seen old) (seen new) (λ was now. (j : JournalData) → IsDeskOf k rows (images old) was j → Leaves moment left_since old new n (images new) now j (Q j))
desk_told moment left_since seen images old new k n rows P Q h f = go (seen old) (seen new) h
  where
    go : (a b : Option (List ℕ)) → BothTold a b (λ was now. (j : JournalData) → IsOwn k (images old) was j → Leaves moment left_since old new n (images new) now j (P j)) → BothTold a b (λ was now. (j : JournalData) → IsDeskOf k rows (images old) was j → Leaves moment left_since old new n (images new) now j (Q j))
    go None None h = tt
    go None (Some now) h = h
    go (Some was) None h = h
    go (Some was) (Some now) h = λ j d. let l = h j d.own in record { next = l.next; flight = l.flight; holds = l.holds; is = f j l.next l.flight l.is }

-- and of those whose tickets are kept
pub desk_kept : {D : Type 0} (moment : D → ℕ) (left_since : D → ℕ → List ℕ → Type 0) (seen : D → Option (List ℕ)) (images : D → List ℕ → Type 0) (old new : D) (k n : Kept) (rows : List KeptRow) (P Q : JournalData → JournalData → List Part → Type 0)
    → BothTold (seen old) (seen new) (λ was now. (j : JournalData) → IsOwn k (images old) was j → AreKeptOf rows j → Leaves moment left_since old new n (images new) now j (P j))
    → ((j next : JournalData) (flight : List Part) → P j next flight → Q j next flight)
    → BothTold (seen old) (seen new) (λ was now. (j : JournalData) → IsDeskOf k rows (images old) was j → Leaves moment left_since old new n (images new) now j (Q j))
desk_kept moment left_since seen images old new k n rows P Q h f = go (seen old) (seen new) h
  where
    go : (a b : Option (List ℕ)) → BothTold a b (λ was now. (j : JournalData) → IsOwn k (images old) was j → AreKeptOf rows j → Leaves moment left_since old new n (images new) now j (P j)) → BothTold a b (λ was now. (j : JournalData) → IsDeskOf k rows (images old) was j → Leaves moment left_since old new n (images new) now j (Q j))
    go None None h = tt
    go None (Some now) h = h
    go (Some was) None h = h
    go (Some was) (Some now) h = λ j d. let l = h j d.own d.kept in record { next = l.next; flight = l.flight; holds = l.holds; is = f j l.next l.flight l.is }

-- ---- plans

is_none : (s : State) → s.devices.clock ≡ None → is_some s.devices.clock ≡ false
is_none s e = ap is_some e

unasked : (s : State) (gift : Gift) (value : ℕ) (plan : Plan) → s.devices.clock ≡ None → IsPlanOf gift value s plan → IsPlan (is_some s.devices.clock) gift value s plan
unasked s gift value plan e h = subst (λ (b : Bool). IsPlan b gift value s plan) (sym (is_none s e)) h

running_plan : (s : State) (c value : ℕ) (plan : Plan) (a : Bool) → s.status ≡ Running → asks s ≡ a → IsPlanRunning a c value s plan → IsPlanOf (Later c) value s plan
running_plan s c value plan a e f h = subst (λ (x : Status). IsPlanBefore x c value s plan) (sym e) (subst (λ (x : Bool). IsPlanRunning x c value s plan) (sym f) h)

pub goes : (s : State) (c : ℕ) → s.count < c → s.status ≡ Running → asks s ≡ false → goes_on c s ≡ true
goes s c lt e a = rw (ne_eqb s.count c (λ (q : s.count ≡ c). omega (arith, lt, q)), a, e) refl

module _ {H : Type 0} (adding : Piece → H → H) (tearing : Piece → H → H → Type 0) (who : Sender) (aside after : Aside) (batch : List Part) (machine : State) (f : Faults) (old new : H) (result : Result Turn Stop) (j next : JournalData) (b flight : List Part) (s : State) where
  -- the step that uses a pending clock value
  pub used_planned : is_some s.devices.clock ≡ true → Acted adding tearing who 0 StepOn (rec j b s) aside after batch machine f old new result next flight → Planned adding tearing who Over 0 (rec j b s) aside after batch machine f old new result next flight
  used_planned e h = record { plan = doing 0 StepOn; plan_is = subst (λ (x : Bool). IsPlan x Over 0 s (doing 0 StepOn)) (sym e) refl; does = h }

  -- an event
  pub comes_planned : (what : Event) → s.devices.clock ≡ None → Acted adding tearing who 0 (act_of what) (rec j b s) aside after batch machine f old new result next flight → Planned adding tearing who (Comes what) 0 (rec j b s) aside after batch machine f old new result next flight
  comes_planned what e h = record { plan = doing 0 (act_of what); plan_is = unasked s (Comes what) 0 (doing 0 (act_of what)) e refl; does = h }

  -- a clock value
  pub asked_planned : (c value : ℕ) → s.devices.clock ≡ None → s.status ≡ Running → asks s ≡ true → Acted adding tearing who 0 (AnswerClock value) (rec j b s) aside after batch machine f old new result next flight
      → Planned adding tearing who (Later c) value (rec j b s) aside after batch machine f old new result next flight
  asked_planned c value e r a h = record { plan = doing 0 (AnswerClock value); plan_is = unasked s (Later c) value (doing 0 (AnswerClock value)) e (running_plan s c value (doing 0 (AnswerClock value)) true r a refl); does = h }

  -- steps
  pub steps_planned : (c value : ℕ) → s.devices.clock ≡ None → s.status ≡ Running → asks s ≡ false → Spelled adding tearing who c (rec j b s) aside after batch machine f old new result next flight → Planned adding tearing who (Later c) value (rec j b s) aside after batch machine f old new result next flight
  steps_planned c value e r a h = record { plan = doing h.quiet StepOn; plan_is = unasked s (Later c) value (doing h.quiet StepOn) e (running_plan s c value (doing h.quiet StepOn) false r a (h.quiet, h.spell, refl)); does = h.acted }

-- nothing to do
module _ {D H : Type 0} (moment : D → ℕ) (left_since : D → ℕ → List ℕ → Type 0) (seen : D → Option (List ℕ)) (images : D → List ℕ → Type 0) (only : (d : D) (c : List ℕ) → left_since d (moment d) c → images d c) (disk : D) (k : Kept) (run : k.stop ≡ None) (adding : Piece → H → H) (tearing : Piece → H → H → Type 0) (who : Sender) (rows : List KeptRow) (ram : RamState) (f : Faults) (held : H) (b : List Part) (s : State) (free : s.devices.clock ≡ None) where
  idle_told : (gift : Gift) (value : ℕ) (idle : Answer) → IsPlanOf gift value s (idling idle)
      → BothTold (seen disk) (seen disk) (λ was now. (j : JournalData) → IsDeskOf k rows (images disk) was j → Leaves moment left_since disk disk k (images disk) now j (Planned adding tearing who gift value (rec j b s) (beside rows ram) (beside rows ram) b s f held held (Ok (turn_of idle))))
  idle_told gift value idle is =
      let P = λ (j next : JournalData) (flight : List Part). Planned adding tearing who gift value (rec j b s) (beside rows ram) (beside rows ram) b s f held held (Ok (turn_of idle)) next flight in
      desk_told moment left_since seen images disk disk k k rows P P
      (told_still moment left_since seen images only disk k P run (λ j was own. (
        b,
        record {
          plan = idling idle;
          plan_is = unasked s gift value (idling idle) free is;
          does = record { answer = refl; journal = refl; batch_is = refl; machine_is = refl; aside_is = refl; in_flight = refl; held = refl };
        },
      )))
      (λ j next flight h. h)

  pub over_told : BothTold (seen disk) (seen disk) (λ was now. (j : JournalData) → IsDeskOf k rows (images disk) was j → Leaves moment left_since disk disk k (images disk) now j (Planned adding tearing who Over 0 (rec j b s) (beside rows ram) (beside rows ram) b s f held held (Ok (turn_of End))))
  over_told = idle_told Over 0 End refl

  pub waits_told : (c value : ℕ) → s.status ≡ Waits → BothTold (seen disk) (seen disk) (λ was now. (j : JournalData) → IsDeskOf k rows (images disk) was j → Leaves moment left_since disk disk k (images disk) now j (Planned adding tearing who (Later c) value (rec j b s) (beside rows ram) (beside rows ram) b s f held held (Ok (turn_of Waiting))))
  waits_told c value e = idle_told (Later c) value Waiting (rw e refl)

  pub halted_told : (c value : ℕ) → s.status ≡ IsHalted → BothTold (seen disk) (seen disk) (λ was now. (j : JournalData) → IsDeskOf k rows (images disk) was j → Leaves moment left_since disk disk k (images disk) now j (Planned adding tearing who (Later c) value (rec j b s) (beside rows ram) (beside rows ram) b s f held held (Ok (turn_of Halted))))
  halted_told c value e = idle_told (Later c) value Halted (rw e refl)
