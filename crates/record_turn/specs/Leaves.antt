-- What an act leaves of a disk, and of an outlet.
use Rattle.std.specs.Prelude.{◌≡◌, ◌⊎◌, ℕ, true, false, List, Result, Ok, Err, IfOk, if◌then◌else◌}
use Rattle.avm_model.specs.Machine.{State}
use Rattle.avm_model.specs.Reference.{Made}
use Rattle.avm_outside.specs.Outlet.{Piece}
use Rattle.avm_outside.specs.Outside.{Rises}
use Rattle.journal_model.specs.Journal.{JournalData}
use Rattle.journal_model.specs.Part.{Part}
use Rattle.jrnl_store.specs.Kept.{Kept}
use Rattle.jrnl_store.specs.declared.fault.Stop.{Stop}
use Rattle.jrnl_store.specs.declared.fault.Stop.TheVariants.{LeavesSpent, Full, DiskFault, OutletFault, FeedFault}
use Rattle.record_kept.specs.Tickets.{AreKeptOf}
use Rattle.record_kept.specs.declared.kept.KeptRow.{KeptRow}
use Rattle.record_model.specs.Recording.{Act, Recording, StepOn, is_large, needs_no_seal, with_seal, with_step}
use Rattle.record_model.specs.Released.{Sender}
use Rattle.record_model.specs.Turn.{IsSpell}
use Rattle.record_parts.specs.Ends.{Acts, EndsAs, Faults, SavedAs, SealsAs}
use Rattle.record_parts.specs.declared.answers.Sealed.{Sealed}
use Rattle.record_parts.specs.declared.answers.Sealed.TheVariants.{Again, Done, Stopped as SealStopped, Ended as SealEnded}
use Rattle.record_parts.specs.declared.answers.Turn.{Turn}
use Rattle.record_parts.specs.declared.answers.Turn.TheVariants.{Stopped, Ended}
use Rattle.record_store.specs.Saving.{Holds}
use Rattle.record_turn.specs.Keeping.{Aside, KeepsAct, KeepsStep}

-- Of a disk whose journal was j: it is the own disk of the next journal; at any moment of the call a crash leaves an image that stands for
-- j, or for j with the batch in flight; and next and flight have P.
pub record Leaves {D : Type 0} (moment : D → ℕ) (left_since : D → ℕ → List ℕ → Type 0) (old new : D) (k : Kept) (images : List ℕ → Type 0) (now : List ℕ) (j : JournalData) (P : JournalData → List Part → Type 0) : Type 0 where
  pub next : JournalData
  pub flight : List Part
  pub holds : Holds moment left_since old new k images now j next flight
  pub is : P next flight

-- the step that was made is written, saved where its batch closes, and then released
pub record Finished {H T : Type 0} (adding : Piece → H → H) (tearing : Piece → H → H → Type 0) (who : Sender) (before : Recording) (os : List Made) (aside after_aside : Aside) (batch : List Part) (machine : State) (f : Faults) (old new : H) (result : Result T Stop) (next : JournalData) (flight : List Part) : Type 0 where
  pub pages : List ℕ
  pub ends : EndsAs adding tearing who (with_step before pages (before.machine, os)) (record { journal = next; batch = batch; machine = machine }) f old new result
  pub in_flight : flight ≡ (with_step before pages (before.machine, os)).recording.batch
  pub tickets : AreKeptOf aside.rows before.journal → AreKeptOf after_aside.rows next
  pub keeps : KeepsStep before.journal before.batch before.machine os pages aside.ram after_aside.ram

-- an act is done, its batch is what was in flight, the tickets that are kept are those of the next journal, and what it writes leaves each
-- keep true
pub record Acted {H : Type 0} (adding : Piece → H → H) (tearing : Piece → H → H → Type 0) (who : Sender) (quiet : ℕ) (act : Act) (before : Recording) (aside after_aside : Aside) (batch : List Part) (machine : State) (f : Faults) (old new : H) (result : Result Turn Stop) (next : JournalData) (flight : List Part) : Type 0 where
  pub acts : Acts adding tearing who quiet act before (record { journal = next; batch = batch; machine = machine }) f old new result
  pub in_flight : flight ≡ acts.effect.recording.batch
  pub tickets : AreKeptOf aside.rows before.journal → AreKeptOf after_aside.rows next
  pub keeps : KeepsAct act (record before { machine = acts.at }) acts.effect acts.pages aside.ram after_aside.ram

-- a spell of steps
pub record Spelled {H : Type 0} (adding : Piece → H → H) (tearing : Piece → H → H → Type 0) (who : Sender) (until : ℕ) (before : Recording) (aside after_aside : Aside) (batch : List Part) (machine : State) (f : Faults) (old new : H) (result : Result Turn Stop) (next : JournalData) (flight : List Part) : Type 0 where
  pub quiet : ℕ
  pub spell : IsSpell until before.machine quiet
  pub acted : Acted adding tearing who quiet StepOn before aside after_aside batch machine f old new result next flight

-- The batch is saved with a seal, and the last entry's authenticator released; or that of the last seal is released again.
pub record Seals {H : Type 0} (adding : Piece → H → H) (tearing : Piece → H → H → Type 0) (who : Sender) (before : Recording) (rows : List KeptRow) (batch : List Part) (f : Faults) (old new : H) (result : Result Sealed Stop) (next : JournalData) (flight : List Part) : Type 0 where
  pub ends : SealsAs adding tearing who before (record { journal = next; batch = batch; machine = before.machine }) f old new result
  pub answer : IfOk result (λ sealed. sealed ≡ (if needs_no_seal before then Again else Done))
  pub in_flight : flight ≡ (with_seal before).batch
  pub tickets : AreKeptOf rows before.journal → AreKeptOf rows next

-- A batch that isn't large stays open, and one that is large is saved.
abbrev pub Settled : {T : Type 0} → JournalData → List Part → List Part → ℕ → ℕ → Result T Stop → JournalData → List Part → Type 0
Settled {T} j b rest before after (Ok x) next flight = (flight ≡ b) × ((is_large b ≡ false) × (next ≡ j) × (rest ≡ b) ⊎ (is_large b ≡ true) × ((n : ℕ) → SavedAs {T = T} j b next rest (record { disk_before = before; disk_after = after; outlet_before = n; outlet_after = n }) (Ok x)))
Settled {T} j b rest before after (Err stop) next flight = (flight ≡ b) × (next ≡ j) × (is_large b ≡ true) × ((n : ℕ) → SavedAs {T = T} j b next rest (record { disk_before = before; disk_after = after; outlet_before = n; outlet_after = n }) (Err stop))

-- the count of the outlet's faults rises where an act answers OutletFault, and else stays
abbrev pub OutletCounts : {T : Type 0} → ℕ → ℕ → Result T Stop → Type 0
OutletCounts before now (Ok x) = now ≡ before
OutletCounts before now (Err LeavesSpent) = now ≡ before
OutletCounts before now (Err Full) = now ≡ before
OutletCounts before now (Err DiskFault) = now ≡ before
OutletCounts before now (Err OutletFault) = Rises before now
OutletCounts before now (Err FeedFault) = ⊥

-- and that of the disk's where it answers DiskFault
abbrev pub DiskCounts : {T : Type 0} → ℕ → ℕ → Result T Stop → Type 0
DiskCounts before now (Ok x) = now ≡ before
DiskCounts before now (Err LeavesSpent) = now ≡ before
DiskCounts before now (Err Full) = now ≡ before
DiskCounts before now (Err DiskFault) = Rises before now
DiskCounts before now (Err OutletFault) = now ≡ before
DiskCounts before now (Err FeedFault) = ⊥

-- what holds where the outlet failed, which is asked only behind a saving
abbrev pub OnOutlet : {T : Type 0} → Result T Stop → Type 0 → Type 0
OnOutlet (Ok x) P = Unit {0}
OnOutlet (Err LeavesSpent) P = Unit {0}
OnOutlet (Err Full) P = Unit {0}
OnOutlet (Err DiskFault) P = Unit {0}
OnOutlet (Err OutletFault) P = P
OnOutlet (Err FeedFault) P = Unit {0}

-- what isn't stopped answers neither of the two that say so
abbrev pub IsPlain : Turn → Type 0
IsPlain (Stopped stop) = ⊥
IsPlain (Ended stop) = ⊥
IsPlain turn = Unit {0}

abbrev pub IsPlainSeal : Sealed → Type 0
IsPlainSeal (SealStopped stop) = ⊥
IsPlainSeal (SealEnded stop) = ⊥
IsPlainSeal sealed = Unit {0}
