use Rattle.std.proofs.Common.{◌≡◌, List, ◌++◌, length, None}
use Rattle.avm_model.specs.Frame.{FrameData, frames_of}
use Rattle.avm_model.specs.Machine.{State}
use Rattle.avm_model.specs.Reference.{timed, entries_of}
use Rattle.avm_model.specs.Rerun.{Stands, start}
use Rattle.state_replay.proofs.replaying.fault_in.Given as goal

-- the entries so far replay, and are those before the ones that are left
abbrev pub invariant-loop-frame : goal.invariant-loop-frame
invariant-loop-frame l = record {
  none : l.replay.fault ≡ None;
  seen : (s : State) → l.fn.replay.stand ≡ start s → (before : List FrameData) × (frames_of l.fn.frames ≡ before ++ frames_of l.frames) × Stands timed s (entries_of before) l.replay.stand;
}

abbrev pub decreases-loop-frame : goal.decreases-loop-frame
decreases-loop-frame l = length (frames_of l.frames)
