-- A seal of the first node, as the seal of its run.
use Rattle.std.proofs.Common.{◌≡◌, Bool, true, false, ℕ, List, [], Option, None, Some, Result, Ok, Err, IsErr, refl, sym, ap, subst, ◌∙◌}
use Rattle.avm_model.specs.Machine.{MachineState, State}
use Rattle.avm_outside.specs.DiskLog.{IsImage}
use Rattle.avm_outside.specs.MemDisks.{disk_bytes, state_now}
use Rattle.avm_outside.specs.MemOutlets.{outlet_released}
use Rattle.avm_outside.specs.Outlet.{AddsCut, Piece, all_added, released}
use Rattle.avm_outside.specs.declared.mem_disk.MemDisk.{MemDisk}
use Rattle.jrnl_store.specs.Kept.{kept as kept_of}
use Rattle.jrnl_store.specs.Own.{IsOwn}
use Rattle.jrnl_store.specs.declared.fault.Stop.{Stop}
use Rattle.jrnl_store.specs.declared.fault.Stop.TheVariants.{LeavesSpent, Full, DiskFault, OutletFault, FeedFault}
use Rattle.journal_model.specs.Journal.{JournalData}
use Rattle.journal_model.specs.Part.{Part}
use Rattle.journal_model.specs.Saving.{CommitRefusal, NoLeaf, NoRoom, commit_refusal}
use Rattle.record_model.specs.Recorded.{Run, seal_run}
use Rattle.record_model.specs.Recording.{Recording, needs_no_seal, sealed, with_seal}
use Rattle.record_model.specs.Released.{Sender}
use Rattle.record_parts.proofs.Giving.{added-append}
use Rattle.record_parts.specs.Ends.{Faults, SealsAs}
use Rattle.record_parts.specs.declared.answers.Sealed.{Sealed}
use Rattle.record_parts.specs.declared.answers.Sealed.TheVariants as seal
use Rattle.record_turn.specs.Desk.{rows_of}
use Rattle.record_turn.specs.Leaves.{Leaves, Seals}
use Rattle.recorder.specs.Recorder.{desk_of}
use Rattle.recorder.specs.Turns.{seal_result, stop_behind}
use Rattle.sample_model.specs.Talk.{nothing}
use Rattle.sample_node.specs.Node.{IsLeft, IsNode, SealEnds, sender_in}
use Rattle.sample_node.specs.Progresses.{SealedAs}
use Rattle.sample_node.specs.declared.node.Node.{Node}

-- a seal that can't be saved stays open, and nothing is released
unsealed : (who : Sender) (r : Recording) (why : CommitRefusal) → (sealed who r).stop ≡ Some why → ((sealed who r).recording ≡ with_seal r) × ((sealed who r).pieces ≡ [])
unsealed who r why stop = go (needs_no_seal r) refl (commit_refusal r.journal (with_seal r).batch) refl
  where
    go : (b : Bool) → needs_no_seal r ≡ b → (o : Option CommitRefusal) → commit_refusal r.journal (with_seal r).batch ≡ o → ((sealed who r).recording ≡ with_seal r) × ((sealed who r).pieces ≡ [])
    go true e o q = absurd (let h : (sealed who r).stop ≡ None = rw e refl in let k : Some why ≡ None = sym stop ∙ h in cc k)
    go false e (Some w) q = (rw (e, q) refl, rw (e, q) refl)
    go false e None q = absurd (let h : (sealed who r).stop ≡ None = rw (e, q) refl in let k : Some why ≡ None = sym stop ∙ h in cc k)

abbrev pub own_in : Node → JournalData → Type 0
own_in n j = IsOwn (kept_of (desk_of n.recorder).store.journal) (IsImage (state_now n.disk)) (disk_bytes n.disk) j

-- the recording of the call
abbrev pub found_by : Node → JournalData → Recording
found_by o j = record { journal = j; batch = (desk_of o.recorder).store.batch.parts; machine = (desk_of o.recorder).machine.state }

abbrev pub seals_in : Node → Node → Recording → Faults → Result Sealed Stop → JournalData → List Part → Type 0
seals_in o n before f result next flight =
    Seals released (AddsCut released) (sender_in o) before (rows_of (desk_of o.recorder).kept) (desk_of n.recorder).store.batch.parts f (outlet_released o.outlet) (outlet_released n.outlet) result next flight

-- what the recorder's contract says of a seal over these objects
abbrev pub told_of : (MemDisk → ℕ) → (MemDisk → ℕ → List ℕ → Type 0) → Node → Node → Faults → Result Sealed Stop → Type 0
told_of moment left_since o n f result =
    (j : JournalData) → own_in o j → Leaves moment left_since o.disk n.disk (kept_of (desk_of n.recorder).store.journal) (IsImage (state_now n.disk)) (disk_bytes n.disk) j (seals_in o n (found_by o j) f result)

module _ (o n : Node) (r : Run) (h : IsNode o r) (machine : (desk_of n.recorder).machine ≡ (desk_of o.recorder).machine) where
  found : found_by o r.recording.journal ≡ r.recording
  found = ap (λ (b : List Part). record { journal = r.recording.journal; batch = b; machine = (desk_of o.recorder).machine.state }) h.batch ∙ ap (λ (s : State). record { journal = r.recording.journal; batch = r.recording.batch; machine = s }) h.machine

  -- by the recording that is left, and what was released
  left : (next : JournalData) → own_in n next → (after : Recording) → after ≡ (sealed (sender_in o) r.recording).recording → after.journal ≡ next → after.machine ≡ r.recording.machine
      → outlet_released n.outlet ≡ all_added released (sealed (sender_in o) r.recording).pieces (outlet_released o.outlet) → IsLeft n (seal_run (sender_in o) r)
  left next own after is journal same new = record {
    own = subst (λ (x : JournalData). own_in n x) (sym journal ∙ ap (λ (x : Recording). x.journal) is) own;
    machine = ap (λ (m : MachineState). m.state) machine ∙ h.machine ∙ sym same ∙ ap (λ (x : Recording). x.machine) is;
    held = new ∙ ap (all_added released (sealed (sender_in o) r.recording).pieces) h.held ∙ sym (added-append released nothing r.released (sealed (sender_in o) r.recording).pieces);
  }

  saved : (next : JournalData) → own_in n next → (((sealed (sender_in o) r.recording).stop ≡ None) × (record { journal = next; batch = (desk_of n.recorder).store.batch.parts; machine = r.recording.machine } ≡ (sealed (sender_in o) r.recording).recording) × (outlet_released n.outlet ≡ all_added released (sealed (sender_in o) r.recording).pieces (outlet_released o.outlet)))
      → IsLeft n (seal_run (sender_in o) r)
  saved next own e = left next own (record { journal = next; batch = (desk_of n.recorder).store.batch.parts; machine = r.recording.machine }) e.1 refl refl e.2

  refused : (why : CommitRefusal) (next : JournalData) → own_in n next → (((sealed (sender_in o) r.recording).stop ≡ Some why) × (record { journal = next; batch = (desk_of n.recorder).store.batch.parts; machine = r.recording.machine } ≡ with_seal r.recording) × (outlet_released n.outlet ≡ outlet_released o.outlet))
      → IsLeft n (seal_run (sender_in o) r)
  refused why next own e =
      let u = unsealed (sender_in o) r.recording why e.0 in
      left next own (record { journal = next; batch = (desk_of n.recorder).store.batch.parts; machine = r.recording.machine }) (e.1 ∙ sym u.0) refl refl
      (e.2 ∙ sym (ap (λ (ps : List Piece). all_added released ps (outlet_released o.outlet)) u.1))

fails : {T E : Type 0} (who : Sender) (n : Node) (r : Run) (res : Result T E) → IsErr res → SealEnds who n r res
fails who n r (Err e) p = tt
fails who n r (Ok x) p = absurd (cc p)

holds : {T E : Type 0} (who : Sender) (n : Node) (r : Run) (res : Result T E) → IsLeft n (seal_run who r) → SealEnds who n r res
holds who n r (Err e) p = tt
holds who n r (Ok x) p = p

-- a seal's end, by its answer
pub seal_ends : {E : Type 0} (moment : MemDisk → ℕ) (left_since : MemDisk → ℕ → List ℕ → Type 0) (o n : Node) (r : Run) (f : Faults) (answer : Sealed) (res : Result Bool E) → IsNode o r → (desk_of n.recorder).machine ≡ (desk_of o.recorder).machine
    → told_of moment left_since o n f (seal_result answer) → SealedAs answer res → SealEnds (sender_in o) n r res
seal_ends {E} moment left_since o n r f answer res h machine told p =
    let l = told r.recording.journal h.disk.own in
    let is : seals_in o n r.recording f (seal_result answer) l.next l.flight = subst (λ (x : Recording). seals_in o n x f (seal_result answer) l.next l.flight) (found o n r h machine) l.is in
    go answer l.next l.holds.own is.ends p
  where
    go : (a : Sealed) (next : JournalData) → own_in n next → SealsAs released (AddsCut released) (sender_in o) r.recording (record { journal = next; batch = (desk_of n.recorder).store.batch.parts; machine = r.recording.machine }) f (outlet_released o.outlet) (outlet_released n.outlet) (seal_result a) → SealedAs a res → SealEnds (sender_in o) n r res
    go seal.Done next own e p = holds (sender_in o) n r res (saved o n r h machine next own e)
    go seal.Again next own e p = holds (sender_in o) n r res (saved o n r h machine next own e)
    go (seal.Stopped LeavesSpent) next own e p = holds (sender_in o) n r res (refused o n r h machine NoLeaf next own e)
    go (seal.Stopped Full) next own e p = holds (sender_in o) n r res (refused o n r h machine NoRoom next own e)
    go (seal.Stopped DiskFault) next own e p = fails (sender_in o) n r res p
    go (seal.Stopped OutletFault) next own e p = fails (sender_in o) n r res p
    go (seal.Stopped FeedFault) next own e p = fails (sender_in o) n r res p
    go (seal.Ended why) next own e p = fails (sender_in o) n r res p

true_false : {E : Type 0} (res : Result Bool E) → res ≡ Ok true → res ≡ Ok false → ⊥
true_false res p q = let e = sym p ∙ q in cc e

err_true : {E : Type 0} (res : Result Bool E) → res ≡ Ok true → IsErr res → ⊥
err_true (Ok b) p q = absurd (cc q)
err_true (Err e) p q = absurd (cc p)

-- where it was saved the recorder goes on
pub seal_saved : {E : Type 0} (before now : Option Stop) (answer : Sealed) (res : Result Bool E) → now ≡ stop_behind before (seal_result answer) → SealedAs answer res → before ≡ None → res ≡ Ok true → now ≡ None
seal_saved before now answer res stop p none is = go answer stop p
  where
    go : (a : Sealed) → now ≡ stop_behind before (seal_result a) → SealedAs a res → now ≡ None
    go seal.Done stop p = stop ∙ ap (λ (s : Option Stop). stop_behind s (seal_result seal.Done)) none
    go seal.Again stop p = stop ∙ ap (λ (s : Option Stop). stop_behind s (seal_result seal.Again)) none
    go (seal.Stopped LeavesSpent) stop p = absurd (true_false res is p)
    go (seal.Stopped Full) stop p = absurd (true_false res is p)
    go (seal.Stopped DiskFault) stop p = absurd (err_true res is p)
    go (seal.Stopped OutletFault) stop p = absurd (err_true res is p)
    go (seal.Stopped FeedFault) stop p = absurd (err_true res is p)
    go (seal.Ended why) stop p = absurd (err_true res is p)
