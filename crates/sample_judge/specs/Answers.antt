-- The answer to evidence.
use Rattle.std.specs.Prelude.{◌≡◌, Some, Result, Ok, Err}
use Rattle.avm_model.specs.Machine.{State}
use Rattle.honest_model.specs.Honest.{header_state}
use Rattle.journal_model.specs.Journal.{JournalData}
use Rattle.rebut_command.specs.declared.judging.Judged.{Judged}
use Rattle.rebut_command.specs.declared.judging.Judged.TheVariants as judged
use Rattle.rebut_command.specs.declared.refusal.Refusal.TheVariants as refusal
use Rattle.rebuttal.specs.declared.answers.Rebuttal.{Rebuttal}
use Rattle.rebuttal.specs.declared.fault.RebutFault.{RebutFault}
use Rattle.rebuttal.specs.declared.fault.RebutFault.TheVariants as fault

-- what holds of the state of a journal's header, where it has one
abbrev pub OfHeader : JournalData → (State → Type 0) → Type 0
OfHeader j P = (s : State) → header_state j.header ≡ Some s → P s

-- the answer, or why there is none
abbrev pub AnswersAs : Result Rebuttal RebutFault → Judged → Type 0
AnswersAs (Ok r) j = j ≡ judged.Answered r
AnswersAs (Err fault.NoMemory) j = ⊥
AnswersAs (Err fault.DiskFault) j = ⊥
AnswersAs (Err (fault.Unreplayed n)) j = j ≡ judged.Refused (refusal.Journal n)
AnswersAs (Err fault.Uncovered) j = j ≡ judged.Refused refusal.Uncovered
