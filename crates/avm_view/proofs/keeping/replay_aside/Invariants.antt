use Rattle.std.proofs.Common.{◌≡◌, length, None}
use Rattle.std.specs.Prelude.{IfSome}
use Rattle.avm_model.specs.Frame.{frames_of}
use Rattle.avm_model.specs.Machine.{State}
use Rattle.avm_model.specs.Rerun.{start}
use Rattle.state_replay.proofs.Seen.{Seen}
use Rattle.avm_view.specs.Keeping.{IsAside}
use Rattle.avm_view.proofs.keeping.replay_aside.Given as goal

-- the entries so far replay, and what was left aside stands behind some of them
abbrev pub invariant-loop-frame : goal.invariant-loop-frame
invariant-loop-frame l = record {
  none : l.replay.fault ≡ None;
  seen : (s : State) → l.fn.replay.stand ≡ start s → Seen s (frames_of l.fn.frames) (frames_of l.frames) l.replay.stand;
  aside : (s : State) → l.fn.replay.stand ≡ start s → IfSome l.aside (λ a. IsAside s (frames_of l.fn.frames) a.machine.state (frames_of a.frames));
}

abbrev pub decreases-loop-frame : goal.decreases-loop-frame
decreases-loop-frame l = length (frames_of l.frames)
