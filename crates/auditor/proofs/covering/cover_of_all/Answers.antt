use Rattle.std.proofs.Common.{◌^◌, ◌-◌}
use Rattle.avm_model.specs.Frame.{frames_of}
use Rattle.log_entry.specs.Views.{frame_view}
use Rattle.auditor.proofs.Covers.{passing_taken, passing_not, passing_end}
use Rattle.auditor.proofs.covering.cover_of_all.Goals as goal

pub loop-frame-preserved-then-wanted-frame : goal.loop-frame-preserved-then-wanted-frame
loop-frame-preserved-then-wanted-frame c =
    passing_taken c.args.auths c.args.before.now.0 (frames_of c.args.frames.now) c.loop-frame.hash.0 c.next-hash.result.0 c.loop-frame.best c.better_at-best.result c.loop-frame.wanted c.number_above-wanted.result (2 ^ 64 - 1)
    (frames_of c.loop-frame.frame-iterator) (frame_view c.in-Some.frame) (frames_of c.next.new.self) c.in-Some.ensures.steps.0 c.next-hash.ensures (rw c.again.ensures at c.better_at-best.ensures) (rw c.again-then-wanted-frame.ensures at c.number_above-wanted.ensures) c.loop-frame.invariant

pub loop-frame-preserved : goal.loop-frame-preserved
loop-frame-preserved c =
    passing_not c.args.auths c.args.before.now.0 (frames_of c.args.frames.now) c.loop-frame.hash.0 c.next-hash.result.0 c.loop-frame.best c.loop-frame.wanted
    (frames_of c.loop-frame.frame-iterator) (frame_view c.in-Some.frame) (frames_of c.next.new.self) c.in-Some.ensures.steps.0 c.next-hash.ensures c.if-wanted-frame.false c.loop-frame.invariant

pub returns : goal.returns
returns c = passing_end c.args.auths c.args.before.now.0 (frames_of c.args.frames.now) c.loop-frame.hash.0 c.loop-frame.best c.loop-frame.wanted (frames_of c.loop-frame.frame-iterator) c.in-None.ensures.steps.0.0 c.loop-frame.invariant
