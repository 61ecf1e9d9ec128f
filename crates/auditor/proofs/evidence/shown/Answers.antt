use Rattle.std.proofs.Common.{List, ℕ, ap, ◌∙◌, ◌++◌}
use Rattle.avm_model.specs.Segment.{segment_front_bytes, segment_bytes}
use Rattle.avm_model.specs.Holds.{evidence}
use Rattle.auditor.proofs.evidence.shown.Goals as goal

pub returns-in-Double-clause-value : goal.returns-in-Double-clause-value
unfolding evidence
returns-in-Double-clause-value c = λ h m f b w. rw c.in-Double.is c.double.ensures

pub returns-in-Fork-clause-value : goal.returns-in-Fork-clause-value
unfolding evidence
returns-in-Fork-clause-value c = λ h m f b w. rw c.in-Fork.is (c.fork.ensures _ f b)

pub returns-in-Replay-clause-value : goal.returns-in-Replay-clause-value
unfolding evidence segment_bytes
returns-in-Replay-clause-value c = λ h m f b w.
    let r = c.replay.ensures c.args.segment.now.start m (segment_front_bytes (record { start = c.args.segment.now.start; before = c.args.segment.now.before.0; head = c.args.segment.now.head.now }) ++ c.args.segment.now.pages.now) _ f b (w ∙ ap (λ (l : List ℕ). (segment_front_bytes (record { start = c.args.segment.now.start; before = c.args.segment.now.before.0; head = c.args.segment.now.head.now }) ++ c.args.segment.now.pages.now) ++ l) b) in
    rw c.in-Replay.is r
