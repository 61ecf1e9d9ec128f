-- What the answers of a recorder say of a run.
use Rattle.std.specs.Prelude.{◌≡◌, Bool, true, false, Result, Ok, IsErr}
use Rattle.jrnl_store.specs.declared.fault.Stop.TheVariants.{LeavesSpent, Full, DiskFault, OutletFault, FeedFault}
use Rattle.record_parts.specs.declared.answers.Sealed.{Sealed}
use Rattle.record_parts.specs.declared.answers.Sealed.TheVariants as seal
use Rattle.record_parts.specs.declared.answers.Turn.{Turn}
use Rattle.record_parts.specs.declared.answers.Turn.TheVariants as turn
use Rattle.sample_node.specs.declared.node.Progress.{Progress}
use Rattle.sample_node.specs.declared.node.Progress.TheVariants.{GoesOn, Ended, Stopped}

-- a turn was made; or the run has ended; or a batch can't be saved; else a call failed
abbrev pub ProgressOf : {E : Type 0} → Turn → Result Progress E → Type 0
ProgressOf (turn.Ran n) r = r ≡ Ok GoesOn
ProgressOf turn.Took r = r ≡ Ok GoesOn
ProgressOf turn.Resent r = r ≡ Ok GoesOn
ProgressOf (turn.Dropped why) r = r ≡ Ok GoesOn
ProgressOf turn.Waiting r = r ≡ Ok Ended
ProgressOf turn.Halted r = r ≡ Ok Ended
ProgressOf turn.End r = r ≡ Ok Ended
ProgressOf (turn.Stopped LeavesSpent) r = r ≡ Ok Stopped
ProgressOf (turn.Stopped Full) r = r ≡ Ok Stopped
ProgressOf (turn.Stopped DiskFault) r = IsErr r
ProgressOf (turn.Stopped OutletFault) r = IsErr r
ProgressOf (turn.Stopped FeedFault) r = IsErr r
ProgressOf (turn.Ended why) r = IsErr r

-- the seal was saved, or can't be
abbrev pub SealedAs : {E : Type 0} → Sealed → Result Bool E → Type 0
SealedAs seal.Done r = r ≡ Ok true
SealedAs seal.Again r = r ≡ Ok true
SealedAs (seal.Stopped LeavesSpent) r = r ≡ Ok false
SealedAs (seal.Stopped Full) r = r ≡ Ok false
SealedAs (seal.Stopped DiskFault) r = IsErr r
SealedAs (seal.Stopped OutletFault) r = IsErr r
SealedAs (seal.Stopped FeedFault) r = IsErr r
SealedAs (seal.Ended why) r = IsErr r
