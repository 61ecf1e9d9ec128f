use Rattle.avm_model.specs.Frame.{frames_of}
use Rattle.log_entry.specs.Views.{frame_view}
use Rattle.log_entry.proofs.FrameLaws.{frame_form}
use Rattle.state_replay.proofs.Seen.{to_next, to_here, to_end, to_never}
use Rattle.state_replay.proofs.replaying.replay_to.Goals as goal

pub entry-requires : goal.entry-requires
entry-requires c = record { form = frame_form _ _ c.in-Some.ensures.steps.1 }

pub returns-in-Err : goal.returns-in-Err
returns-in-Err c = λ s e r.
    to_never s c.args.number (frames_of c.args.frames) (frames_of c.loop-frame.frames) (frames_of c.next.new.self) (frame_view c.in-Some.frame) c.loop-frame.replay.stand c.in-Some.ensures.steps.0 (c.loop-frame.invariant.seen s e)
    (c.in-Err.ensures.fault c.loop-frame.invariant.none s) r

pub returns-then-frame-number : goal.returns-then-frame-number
returns-then-frame-number c = λ s e r.
    to_here s c.args.number (frames_of c.args.frames) (frames_of c.loop-frame.frames) (frames_of c.next.new.self) (frame_view c.in-Some.frame) c.loop-frame.replay.stand c.entry.new.self.stand c.in-Some.ensures.steps.0 c.if-frame-number.true (c.loop-frame.invariant.seen s e)
    (c.in_default-entry.ensures.goes_on s)

pub loop-frame-preserved : goal.loop-frame-preserved
loop-frame-preserved c = record {
  none = c.in_default-entry.ensures.kept.1;
  seen = λ s e.
      to_next s c.args.number (frames_of c.args.frames) (frames_of c.loop-frame.frames) (frames_of c.next.new.self) (frame_view c.in-Some.frame) c.loop-frame.replay.stand c.entry.new.self.stand c.in-Some.ensures.steps.0 c.if-frame-number.false (c.loop-frame.invariant.seen s e)
      (c.in_default-entry.ensures.goes_on s);
}

pub returns : goal.returns
returns c = λ s e r. to_end s c.args.number (frames_of c.args.frames) (frames_of c.loop-frame.frames) c.loop-frame.replay.stand c.in_default.ensures.steps.0.0 (c.loop-frame.invariant.seen s e)
