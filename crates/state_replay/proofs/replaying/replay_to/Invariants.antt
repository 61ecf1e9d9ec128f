use Rattle.std.proofs.Common.{◌≡◌, length, None}
use Rattle.avm_model.specs.Frame.{frames_of}
use Rattle.avm_model.specs.Machine.{State}
use Rattle.avm_model.specs.Rerun.{start}
use Rattle.state_replay.proofs.Seen.{SeenTo}
use Rattle.state_replay.proofs.replaying.replay_to.Given as goal

abbrev pub invariant-loop-frame : goal.invariant-loop-frame
invariant-loop-frame l = record {
  none : l.replay.fault ≡ None;
  seen : (s : State) → l.fn.replay.stand ≡ start s → SeenTo s l.number (frames_of l.fn.frames) (frames_of l.frames) l.replay.stand;
}

abbrev pub decreases-loop-frame : goal.decreases-loop-frame
decreases-loop-frame l = length (frames_of l.frames)
