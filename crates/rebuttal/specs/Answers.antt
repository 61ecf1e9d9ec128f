-- The owner's answer, and when it is refused.
use Rattle.std.specs.Prelude.{◌≡◌, ℕ, true, false, Some, None, Result, Ok, Err}
use Rattle.avm_model.specs.Evidence.{EvidData}
use Rattle.avm_model.specs.Machine.{State}
use Rattle.avm_outside.specs.Outside.{Rises}
use Rattle.honest_model.specs.Honest.{IsFaultFrom}
use Rattle.journal_model.specs.Journal.{JournalData, entries}
use Rattle.rebut_model.specs.Rebuts.{Answer, forged, collision, covers, rebuts, Collides}
use Rattle.rebut_pass.specs.declared.fault.ReadFault.{ReadFault}
use Rattle.rebut_pass.specs.declared.fault.ReadFault.TheVariants as read
use Rattle.rebuttal.specs.declared.fault.RebutFault.{RebutFault}
use Rattle.rebuttal.specs.declared.fault.RebutFault.TheVariants as fault
use Rattle.rebuttal.specs.declared.answers.Rebuttal.{Rebuttal}
use Rattle.rebuttal.specs.declared.answers.Rebuttal.TheVariants as rebuttal

abbrev pub answer_view : Rebuttal → Answer
answer_view (rebuttal.Forged k) = forged k
answer_view (rebuttal.Collision a b) = collision a b

-- a fault of reading, as one of answering
abbrev pub of_reading : ReadFault → RebutFault
of_reading read.NoMemory = fault.NoMemory
of_reading read.DiskFault = fault.DiskFault

-- the journal replays and covers the evidence, and this is the answer
pub record IsAnswer (s : State) (j : JournalData) (e : EvidData) (a : Answer) : Type 0 where
  pub replays : IsFaultFrom j.header.first s (entries j) None
  pub covered : covers j e ≡ true
  pub answer : rebuts s j e ≡ Some a
  pub collides : Collides a

-- the answer, or the first refusal that applies: an entry doesn't replay, or the journal doesn't cover the evidence
abbrev pub RebutAnswers : State → JournalData → EvidData → Result Rebuttal RebutFault → Type 0
RebutAnswers s j e (Ok r) = IsAnswer s j e (answer_view r)
RebutAnswers s j e (Err fault.NoMemory) = Unit {0}
RebutAnswers s j e (Err fault.DiskFault) = Unit {0}
RebutAnswers s j e (Err (fault.Unreplayed n)) = IsFaultFrom j.header.first s (entries j) (Some n)
RebutAnswers s j e (Err fault.Uncovered) = IsFaultFrom j.header.first s (entries j) None × (covers j e ≡ false)

-- the count of the disk's faults
abbrev pub RebutCounts : {T : Type 0} → ℕ → ℕ → Result T RebutFault → Type 0
RebutCounts before now (Ok t) = now ≡ before
RebutCounts before now (Err fault.NoMemory) = now ≡ before
RebutCounts before now (Err fault.DiskFault) = Rises before now
RebutCounts before now (Err (fault.Unreplayed n)) = now ≡ before
RebutCounts before now (Err fault.Uncovered) = now ≡ before
