use Rattle.avm_model.specs.Frame.{frames_of}
use Rattle.log_entry.specs.Views.{frame_view}
use Rattle.log_entry.proofs.FrameLaws.{frame_form}
use Rattle.state_replay.proofs.Seen.{seen_next, fault_here, no_fault}
use Rattle.avm_view.proofs.Asides.{left_aside}
use Rattle.avm_view.proofs.keeping.replay_aside.Goals as goal

pub entry-requires : goal.entry-requires
entry-requires c = record { form = frame_form _ _ c.in-Some.ensures.steps.1 }

pub returns-in-Err-clause-fault : goal.returns-in-Err-clause-fault
returns-in-Err-clause-fault c = λ s e.
    fault_here s (frames_of c.args.frames) (frames_of c.loop-frame.frames) (frames_of c.next.new.self) (frame_view c.in-Some.frame) c.loop-frame.replay.stand c.in-Err.fault.seq c.in-Some.ensures.steps.0 (c.loop-frame.invariant.seen s e)
    (c.in-Err.ensures.fault c.loop-frame.invariant.none s) (c.in-Err.ensures.number c.loop-frame.invariant.none)

pub loop-frame-preserved-then-frame-number : goal.loop-frame-preserved-then-frame-number
loop-frame-preserved-then-frame-number c = record {
  none = c.in_default-entry.ensures.kept.1;
  seen = λ s e.
      seen_next s (frames_of c.args.frames) (frames_of c.loop-frame.frames) (frames_of c.next.new.self) (frame_view c.in-Some.frame) c.loop-frame.replay.stand c.entry.new.self.stand c.in-Some.ensures.steps.0 (c.loop-frame.invariant.seen s e)
      (c.in_default-entry.ensures.goes_on s);
  aside = λ s e.
      left_aside s (frames_of c.args.frames) c.next.new.self c.rest.result.now c.entry.new.self.stand c.machine.result.now.state c.in_ok-aside.aside
      (seen_next s (frames_of c.args.frames) (frames_of c.loop-frame.frames) (frames_of c.next.new.self) (frame_view c.in-Some.frame) c.loop-frame.replay.stand c.entry.new.self.stand c.in-Some.ensures.steps.0 (c.loop-frame.invariant.seen s e) (c.in_default-entry.ensures.goes_on s))
      c.machine.ensures.state c.rest.ensures c.in_ok-aside.ensures;
}

pub loop-frame-preserved : goal.loop-frame-preserved
loop-frame-preserved c = record {
  none = c.in_default-entry.ensures.kept.1;
  seen = λ s e.
      seen_next s (frames_of c.args.frames) (frames_of c.loop-frame.frames) (frames_of c.next.new.self) (frame_view c.in-Some.frame) c.loop-frame.replay.stand c.entry.new.self.stand c.in-Some.ensures.steps.0 (c.loop-frame.invariant.seen s e)
      (c.in_default-entry.ensures.goes_on s);
  aside = c.loop-frame.invariant.aside;
}

pub returns-clause-fault : goal.returns-clause-fault
returns-clause-fault c = λ s e. no_fault s (frames_of c.args.frames) (frames_of c.loop-frame.frames) c.loop-frame.replay.stand c.in_default.ensures.steps.0.0 (c.loop-frame.invariant.seen s e)
