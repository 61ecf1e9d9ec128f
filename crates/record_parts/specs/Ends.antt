-- How what a recorder does ends: all is done and released; or nothing is released; or some of it is.
use Rattle.std.specs.Prelude.{◌≡◌, ℕ, List, [], ◌∷◌, ◌++◌, Some, None, Result, Ok, Err, IfOk}
use Rattle.avm_model.specs.Machine.{State}
use Rattle.avm_model.specs.Reference.{timed}
use Rattle.avm_model.specs.Rerun.{moved}
use Rattle.avm_outside.specs.Outlet.{Piece, all_added}
use Rattle.avm_outside.specs.Outside.{Rises}
use Rattle.journal_model.specs.Journal.{JournalData, with_record}
use Rattle.journal_model.specs.Part.{Part}
use Rattle.journal_model.specs.Saving.{NoLeaf, NoRoom, commit_refusal}
use Rattle.record_model.specs.Recording.{Act, Effect, Recording, StepOn, effect as effect_of, finished, sealed, with_seal}
use Rattle.record_model.specs.Released.{Sender}
use Rattle.record_model.specs.Turn.{Answer, IsSpell, answer_for, Ran as HasRun, Took as HasTaken, Resent as HasResent, Dropped as HasDropped, Waiting as Waits, Halted as IsHalted, End as Ends}
use Rattle.jrnl_store.specs.declared.fault.Stop.{Stop}
use Rattle.jrnl_store.specs.declared.fault.Stop.TheVariants.{LeavesSpent, Full, DiskFault, OutletFault, FeedFault}
use Rattle.record_parts.specs.declared.answers.Turn.{Turn}
use Rattle.record_parts.specs.declared.answers.Turn.TheVariants.{Ran, Took, Resent, Dropped, Waiting, Halted, End}

-- some of the pieces were given, and perhaps a front of the next
pub record CutsAmong {H : Type 0} (adding : Piece → H → H) (tearing : Piece → H → H → Type 0) (pieces : List Piece) (old new : H) : Type 0 where
  pub before : List Piece
  pub cut : Piece
  pub behind : List Piece
  pub split : pieces ≡ before ++ cut ∷ behind
  pub new_is : tearing cut (all_added adding before old) new

-- what the counts of faults did
pub record Faults : Type 0 where
  pub disk_before : ℕ
  pub disk_after : ℕ
  pub outlet_before : ℕ
  pub outlet_after : ℕ

-- ---- a batch is saved

-- What saving a batch leaves of a journal and the batch: the journal has it, and the batch is empty; or all is as before.
abbrev pub SavedAs : {T : Type 0} → JournalData → List Part → JournalData → List Part → Faults → Result T Stop → Type 0
SavedAs j b next rest f (Ok x) = (commit_refusal j b ≡ None) × (next ≡ with_record j b) × (rest ≡ [])
SavedAs j b next rest f (Err LeavesSpent) = (commit_refusal j b ≡ Some NoLeaf) × (next ≡ j) × (rest ≡ b)
SavedAs j b next rest f (Err Full) = (commit_refusal j b ≡ Some NoRoom) × (next ≡ j) × (rest ≡ b)
SavedAs j b next rest f (Err DiskFault) = (next ≡ j) × (rest ≡ b) × Rises f.disk_before f.disk_after
SavedAs j b next rest f (Err OutletFault) = ⊥
SavedAs j b next rest f (Err FeedFault) = ⊥

-- ---- an act

-- How an act ends that has this effect: all is done and released; or the batch isn't saved and stays open, and nothing is released;
-- or it is saved, and some of its pieces are released.
abbrev pub EndsAs : {H T : Type 0} → (Piece → H → H) → (Piece → H → H → Type 0) → Sender → Effect → Recording → Faults → H → H → Result T Stop → Type 0
EndsAs adding tearing who e r f old new (Ok x) =
    ((finished who e).stop ≡ None) × (r ≡ (finished who e).recording) × (new ≡ all_added adding (finished who e).pieces old)
EndsAs adding tearing who e r f old new (Err LeavesSpent) = ((finished who e).stop ≡ Some NoLeaf) × (r ≡ e.recording) × (new ≡ old)
EndsAs adding tearing who e r f old new (Err Full) = ((finished who e).stop ≡ Some NoRoom) × (r ≡ e.recording) × (new ≡ old)
EndsAs adding tearing who e r f old new (Err DiskFault) = (r ≡ e.recording) × (new ≡ old) × Rises f.disk_before f.disk_after
EndsAs adding tearing who e r f old new (Err OutletFault) =
    ((finished who e).stop ≡ None) × (r ≡ (finished who e).recording) × CutsAmong adding tearing (finished who e).pieces old new × Rises f.outlet_before f.outlet_after
EndsAs adding tearing who e r f old new (Err FeedFault) = ⊥

abbrev pub turn_of : Answer → Turn
turn_of (HasRun n) = Ran n
turn_of HasTaken = Took
turn_of HasResent = Resent
turn_of (HasDropped why) = Dropped why
turn_of Waits = Waiting
turn_of IsHalted = Halted
turn_of Ends = End

-- a turn that makes so many steps without outputs, and then an act: its effect, how it ends, and what is answered where nothing
-- stops it
pub record Acts {H : Type 0} (adding : Piece → H → H) (tearing : Piece → H → H → Type 0) (who : Sender) (quiet : ℕ) (act : Act) (before after : Recording) (f : Faults) (old new : H) (result : Result Turn Stop) : Type 0 where
  pub at : State
  pub moved_to : moved timed quiet before.machine ≡ Some at
  pub pages : List ℕ
  pub effect : Effect
  pub effect_is : effect_of who pages (record before { machine = at }) act ≡ Some effect
  pub ends : EndsAs adding tearing who effect after f old new result
  pub answer : IfOk result (λ turn. turn ≡ turn_of (answer_for quiet act effect.dropped))

-- a turn of steps: a spell of them
pub record RunsOn {H : Type 0} (adding : Piece → H → H) (tearing : Piece → H → H → Type 0) (who : Sender) (until : ℕ) (before after : Recording) (f : Faults) (old new : H) (result : Result Turn Stop) : Type 0 where
  pub quiet : ℕ
  pub spell : IsSpell until before.machine quiet
  pub acts : Acts adding tearing who quiet StepOn before after f old new result

-- ---- sealing

-- How sealing ends where a seal is needed.
abbrev pub SealsAs : {H T : Type 0} → (Piece → H → H) → (Piece → H → H → Type 0) → Sender → Recording → Recording → Faults → H → H → Result T Stop → Type 0
SealsAs adding tearing who before after f old new (Ok x) = ((sealed who before).stop ≡ None) × (after ≡ (sealed who before).recording) × (new ≡ all_added adding (sealed who before).pieces old)
SealsAs adding tearing who before after f old new (Err LeavesSpent) = ((sealed who before).stop ≡ Some NoLeaf) × (after ≡ with_seal before) × (new ≡ old)
SealsAs adding tearing who before after f old new (Err Full) = ((sealed who before).stop ≡ Some NoRoom) × (after ≡ with_seal before) × (new ≡ old)
SealsAs adding tearing who before after f old new (Err DiskFault) = (after ≡ with_seal before) × (new ≡ old) × Rises f.disk_before f.disk_after
SealsAs adding tearing who before after f old new (Err OutletFault) =
    ((sealed who before).stop ≡ None) × (after ≡ (sealed who before).recording) × CutsAmong adding tearing (sealed who before).pieces old new × Rises f.outlet_before f.outlet_after
SealsAs adding tearing who before after f old new (Err FeedFault) = ⊥
