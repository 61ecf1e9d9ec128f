use Rattle.avm_model.specs.Frame.{frames_of}
use Rattle.log_entry.specs.Views.{frame_view}
use Rattle.log_entry.proofs.FrameLaws.{frame_form}
use Rattle.state_replay.proofs.Seen.{seen_next, fault_here, no_fault}
use Rattle.state_replay.proofs.replaying.fault_in.Goals as goal

pub entry-requires : goal.entry-requires
entry-requires c = record { form = frame_form _ _ c.in-Some.ensures.steps.1 }

pub returns-in-Err : goal.returns-in-Err
returns-in-Err c = λ s e.
    fault_here s (frames_of c.args.frames) (frames_of c.loop-frame.frames) (frames_of c.next.new.self) (frame_view c.in-Some.frame) c.loop-frame.replay.stand c.in-Err.fault.seq c.in-Some.ensures.steps.0 (c.loop-frame.invariant.seen s e)
    (c.in-Err.ensures.fault c.loop-frame.invariant.none s) (c.in-Err.ensures.number c.loop-frame.invariant.none)

pub loop-frame-preserved : goal.loop-frame-preserved
loop-frame-preserved c = record {
  none = c.in_default-entry.ensures.kept.1;
  seen = λ s e.
      seen_next s (frames_of c.args.frames) (frames_of c.loop-frame.frames) (frames_of c.next.new.self) (frame_view c.in-Some.frame) c.loop-frame.replay.stand c.entry.new.self.stand c.in-Some.ensures.steps.0 (c.loop-frame.invariant.seen s e)
      (c.in_default-entry.ensures.goes_on s);
}

pub returns : goal.returns
returns c = λ s e. no_fault s (frames_of c.args.frames) (frames_of c.loop-frame.frames) c.loop-frame.replay.stand c.in_default.ensures.steps.0.0 (c.loop-frame.invariant.seen s e)
