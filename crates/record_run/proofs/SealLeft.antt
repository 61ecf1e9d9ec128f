-- What the seal of a recorder makes of a run that has ended.
use Rattle.std.proofs.Common.{◌≡◌, inr, ℕ, Bool, true, false, List, [], ◌∷◌, Option, None, Some, refl, sym, ap, subst, ◌∙◌}
use Rattle.std.specs.Prelude.{IfSome, OnOk, Result, Err, if◌then◌else◌}
use Rattle.avm_model.specs.Machine.{State}
use Rattle.avm_outside.specs.Outside.{BothTold}
use Rattle.avm_outside.specs.Outlet.{Piece, auth}
use Rattle.journal_model.specs.Journal.{JournalData}
use Rattle.journal_model.specs.Part.{Part}
use Rattle.journal_model.specs.Saving.{CommitRefusal, NoLeaf, NoRoom, commit_refusal}
use Rattle.jrnl_store.specs.Kept.{Kept}
use Rattle.jrnl_store.specs.Own.{IsOwn}
use Rattle.jrnl_store.specs.declared.fault.Stop.{Stop}
use Rattle.jrnl_store.specs.declared.fault.Stop.TheVariants as stop
use Rattle.record_kept.specs.Tickets.{AreKeptOf}
use Rattle.record_kept.specs.declared.kept.KeptRow.{KeptRow}
use Rattle.record_model.specs.Recorded.{HasEnded, Run, seal_run}
use Rattle.record_model.specs.Recording.{Done, Recording, closed_by, needs_no_seal, seal_again, sealed, with_seal}
use Rattle.record_model.specs.Released.{Sender}
use Rattle.record_parts.specs.Ends.{Faults, SealsAs}
use Rattle.record_parts.specs.declared.answers.Sealed.{Sealed}
use Rattle.record_parts.specs.declared.answers.Sealed.TheVariants as seal
use Rattle.record_ready.specs.Ready.{IsDeskOf}
use Rattle.record_run.specs.Runs.{HasDesk}
use Rattle.record_run.specs.declared.stops.RunStop.{RunStop}
use Rattle.record_run.specs.Turned.{LeftByOne, SealEnds, sealed_by}
use Rattle.record_turn.specs.Leaves.{Leaves, Seals}
use Rattle.recorder.proofs.Feeding.{both_map}
use Rattle.recorder.specs.Turns.{seal_result, stop_behind}

-- nothing is done where the seal can't be saved
record IsUnsealed (who : Sender) (r : Recording) : Type 0 where
  pub recording : (sealed who r).recording ≡ with_seal r
  pub pieces : (sealed who r).pieces ≡ []

unsealed : (who : Sender) (r : Recording) (why : CommitRefusal) → (sealed who r).stop ≡ Some why → IsUnsealed who r
unsealed who r why stopped = go (needs_no_seal r) refl
  where
    by : (o : Option CommitRefusal) → needs_no_seal r ≡ false → commit_refusal r.journal (with_seal r).batch ≡ o → IsUnsealed who r
    by (Some w) q z =
        let e : sealed who r ≡ closed_by who (with_seal r) (Some w) = rw q (ap (λ (x : Option CommitRefusal). closed_by who (with_seal r) x) z) in
        record { recording = ap (λ (d : Done). d.recording) e; pieces = ap (λ (d : Done). d.pieces) e }
    by None q z =
        let e : sealed who r ≡ closed_by who (with_seal r) None = rw q (ap (λ (x : Option CommitRefusal). closed_by who (with_seal r) x) z) in
        absurd (let k : Some why ≡ None = sym stopped ∙ ap (λ (d : Done). d.stop) e in cc k)

    go : (b : Bool) → needs_no_seal r ≡ b → IsUnsealed who r
    go true q =
        let e : sealed who r ≡ record { recording = r; pieces = auth (seal_again who r.journal) ∷ []; dropped = None; stop = None } = rw q refl in
        absurd (let k : Some why ≡ None = sym stopped ∙ ap (λ (d : Done). d.stop) e in cc k)
    go false q = by (commit_refusal r.journal (with_seal r).batch) q refl

-- no event is dropped by a seal
pub sealed_none : (who : Sender) (r : Recording) → (sealed who r).dropped ≡ None
sealed_none who r = go (needs_no_seal r) (commit_refusal r.journal (with_seal r).batch)
  where
    by : (o : Option CommitRefusal) → (closed_by who (with_seal r) o).dropped ≡ None
    by None = refl
    by (Some why) = refl

    go : (b : Bool) (o : Option CommitRefusal) → (if b then record { recording = r; pieces = auth (seal_again who r.journal) ∷ []; dropped = None; stop = None } else closed_by who (with_seal r) o).dropped ≡ None
    go true o = refl
    go false o = by o

module _ {H : Type 0} (adding : Piece → H → H) (tearing : Piece → H → H → Type 0) (who : Sender) (r : Run) (after : Recording) (f : Faults) (old new : H) where
  refused : (why : CommitRefusal) → ((sealed who r.recording).stop ≡ Some why) × (after ≡ with_seal r.recording) × (new ≡ old)
      → ((seal_run who r).stop ≡ Some why) × ((seal_run who r).recording ≡ after) × ((sealed who r.recording).pieces ≡ []) × (new ≡ old)
  refused why h = let k = unsealed who r.recording why h.0 in (h.0, k.recording ∙ sym h.1, k.pieces, h.2)

  seal_ends : (drops : ℕ) (s : Sealed) → SealsAs adding tearing who r.recording after f old new (seal_result s) → SealEnds adding tearing who r old new after (sealed_by drops s)
  seal_ends drops seal.Done h = (h.0, sym h.1, h.2)
  seal_ends drops seal.Again h = (h.0, sym h.1, h.2)
  seal_ends drops (seal.Stopped stop.LeavesSpent) h = refused NoLeaf h
  seal_ends drops (seal.Stopped stop.Full) h = refused NoRoom h
  seal_ends drops (seal.Stopped stop.DiskFault) h = (h.0, h.1)
  seal_ends drops (seal.Stopped stop.OutletFault) h = (h.0, sym h.1, h.2)
  seal_ends drops (seal.Stopped stop.FeedFault) h = absurd h
  seal_ends drops (seal.Ended why) h = (h.0, sym h.1, h.2)

module _ {D H : Type 0} (moment : D → ℕ) (left_since : D → ℕ → List ℕ → Type 0) (adding : Piece → H → H) (tearing : Piece → H → H → Type 0) (old new : D) (n : Kept) (images : List ℕ → Type 0) (now : List ℕ)
    (who : Sender) (drops : ℕ) (s : Sealed) (rows : List KeptRow) (batch : List Part) (f : Faults) (held got : H) where
  abbrev SealLeft : Run → Recording → Type 0
  SealLeft r x =
      AreKeptOf rows x.journal → Leaves moment left_since old new n images now x.journal (Seals adding tearing who x rows batch f held got (seal_result s))
      → LeftByOne moment left_since old new n rows images now who r (λ next. SealEnds adding tearing who r held got (record { journal = next; batch = batch; machine = x.machine }) (sealed_by drops s))

  left_by : (r : Run) → HasEnded r → SealLeft r r.recording
  left_by r ended kept h = record {
    next = h.next;
    desk = record { own = h.holds.own; kept = h.is.tickets kept };
    flight = h.flight;
    in_flight = inr (inr (ended, h.is.in_flight));
    moments = h.holds.moments;
    is = seal_ends adding tearing who r (record { journal = h.next; batch = batch; machine = r.recording.machine }) f held got drops s h.is.ends;
  }

  pub seal_left : (r : Run) (x : Recording) → HasEnded r → r.recording ≡ x → SealLeft r x
  seal_left r x ended e = subst (λ (y : Recording). SealLeft r y) e (left_by r ended)

-- ---- on a disk that may tell its content

module _ {D H : Type 0} (seen : D → Option (List ℕ)) (may_leave : D → List ℕ → Type 0) (moment : D → ℕ) (left_since : D → ℕ → List ℕ → Type 0) (adding : Piece → H → H) (tearing : Piece → H → H → Type 0) (old new : D) (k n : Kept)
    (who : Sender) (drops : ℕ) (s : Sealed) (rows : List KeptRow) (before batch : List Part) (machine : State) (f : Faults) (held got : H) where
  abbrev SealTold : Type 0
  SealTold = BothTold (seen old) (seen new) (λ was now. (j : JournalData) → IsOwn k (may_leave old) was j
      → Leaves moment left_since old new n (may_leave new) now j (Seals adding tearing who (record { journal = j; batch = before; machine = machine }) rows batch f held got (seal_result s)))

  abbrev OneTold : List KeptRow → State → Result ℕ RunStop → Type 0
  OneTold more after result = BothTold (seen old) (seen new) (λ was now. (j : JournalData) → IsDeskOf k rows (may_leave old) was j → (r : Run) → HasEnded r → r.recording ≡ record { journal = j; batch = before; machine = machine }
      → LeftByOne moment left_since old new n more (may_leave new) now who r (λ next. SealEnds adding tearing who r held got (record { journal = next; batch = batch; machine = after }) result))

  pub told_seal : (more : List KeptRow) (after : State) (result : Result ℕ RunStop) → result ≡ sealed_by drops s → more ≡ rows → after ≡ machine → SealTold → OneTold more after result
  told_seal more after result is rows_are same told =
      let one : OneTold rows machine (sealed_by drops s) = both_map (seen old) (seen new) _ _ told (λ was now e f j desk r ended rec. seal_left moment left_since adding tearing old new n (may_leave new) now who drops s rows batch _ held got r (record { journal = j; batch = before; machine = machine }) ended rec desk.kept (f j desk.own)) in
      subst (λ (x : Result ℕ RunStop). OneTold more after x) (sym is) (subst (λ (x : State). OneTold more x (sealed_by drops s)) (sym same) (subst (λ (x : List KeptRow). OneTold x machine (sealed_by drops s)) (sym rows_are) one))

  -- the recorder goes on behind a seal that was saved and released
  goes_by : (t : Sealed) → (t ≡ seal.Stopped stop.FeedFault → ⊥) → OnOk (sealed_by drops t) (stop_behind None (seal_result t) ≡ None)
  goes_by seal.Done other = refl
  goes_by seal.Again other = refl
  goes_by (seal.Stopped stop.LeavesSpent) other = tt
  goes_by (seal.Stopped stop.Full) other = tt
  goes_by (seal.Stopped stop.DiskFault) other = tt
  goes_by (seal.Stopped stop.OutletFault) other = tt
  goes_by (seal.Stopped stop.FeedFault) other = absurd (other refl)
  goes_by (seal.Ended why) other = refl

  no_feed_told : (o p : Option (List ℕ)) → HasDesk k rows (may_leave old) o → BothTold o p (λ was now. (j : JournalData) → IsOwn k (may_leave old) was j
      → Leaves moment left_since old new n (may_leave new) now j (Seals adding tearing who (record { journal = j; batch = before; machine = machine }) rows batch f held got (seal_result s))) → IfSome o (λ was. s ≡ seal.Stopped stop.FeedFault → ⊥)
  no_feed_told None p own told = tt
  no_feed_told (Some was) None own told = absurd told
  no_feed_told (Some was) (Some now) own told = λ e. (let h = told own.0 own.1.own in no_feed _ _ s e h.is.ends)
    where
      no_feed : (x y : Recording) (t : Sealed) → t ≡ seal.Stopped stop.FeedFault → SealsAs adding tearing who x y f held got (seal_result t) → ⊥
      no_feed x y t e h = let z : SealsAs {T = Sealed} adding tearing who x y f held got (Err stop.FeedFault) = subst (λ (u : Sealed). SealsAs adding tearing who x y f held got (seal_result u)) e h in z

  pub told_open : (result : Result ℕ RunStop) (first last : Option Stop) → result ≡ sealed_by drops s → first ≡ None → last ≡ stop_behind first (seal_result s) → HasDesk k rows (may_leave old) (seen old) → SealTold → IfSome (seen old) (λ was. OnOk result (last ≡ None))
  told_open result first last is none stays own told = go (seen old) (no_feed_told (seen old) (seen new) own told)
    where
      at_end : last ≡ stop_behind None (seal_result s)
      at_end = stays ∙ ap (λ (o : Option Stop). stop_behind o (seal_result s)) none

      go : (o : Option (List ℕ)) → IfSome o (λ was. s ≡ seal.Stopped stop.FeedFault → ⊥) → IfSome o (λ was. OnOk result (last ≡ None))
      go None h = tt
      go (Some was) h = subst (λ (x : Result ℕ RunStop). OnOk x (last ≡ None)) (sym is) (subst (λ (x : Option Stop). OnOk (sealed_by drops s) (x ≡ None)) (sym at_end) (goes_by s h))
