use Rattle.std.proofs.Common.{sym, ◌∙◌}
use Rattle.avm_model.specs.HeadReading.{head_of}
use Rattle.log_entry.proofs.Options.{is_some_is}
use Rattle.seg_file.specs.Views.{segment_view}
use Rattle.rebuttal.proofs.Segments.{whole_is, no_segment, no_head}
use Rattle.rebuttal.proofs.evidence.whole_segment.Goals as goal

pub returns-in_default-clause-none : goal.returns-in_default-clause-none
returns-in_default-clause-none c = no_segment c.args.bytes.now c.in_default.ensures.exact

pub returns-then-read_head-clause-found : goal.returns-then-read_head-clause-found
returns-then-read_head-clause-found c =
    let h = is_some_is (head_of c.in-Some.parts.head.now) (sym c.read_head.ensures.exact ∙ c.if-read_head.true) in
    (h.0, h.1, whole_is c.args.bytes.now (segment_view c.in-Some.parts) h.0 c.in-Some.ensures.exact h.1)

pub returns-else-read_head-clause-none : goal.returns-else-read_head-clause-none
returns-else-read_head-clause-none c = no_head c.args.bytes.now (segment_view c.in-Some.parts) c.in-Some.ensures.exact (sym c.read_head.ensures.exact ∙ c.if-read_head.false)
