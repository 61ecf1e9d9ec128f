use Rattle.std.proofs.Common.{sym, ◌∙◌}
use Rattle.avm_model.specs.HeadReading.{head_of}
use Rattle.log_entry.proofs.Options.{is_some_is}
use Rattle.seg_file.specs.Views.{segment_view}
use Rattle.avm_view.proofs.Openings.{no_segment, no_head, whole_is, tells, refused_by, stands}
use Rattle.avm_view.proofs.viewer.Viewer.open.Goals as goal

pub returns-in_default-clause-refused : goal.returns-in_default-clause-refused
returns-in_default-clause-refused c = no_segment c.args.segment.now c.in_default.ensures.exact

pub returns-then-not-read_head-clause-refused : goal.returns-then-not-read_head-clause-refused
returns-then-not-read_head-clause-refused c = no_head c.args.segment.now (segment_view c.in-Some.parts) c.in-Some.ensures.exact (sym c.read_head.ensures.exact ∙ c.if-not-read_head.true)

pub returns-in-Err-clause-refused : goal.returns-in-Err-clause-refused
returns-in-Err-clause-refused c =
    let h = is_some_is (head_of c.in-Some.parts.head.now) (sym c.read_head.ensures.exact ∙ c.if-not-read_head.false) in
    refused_by c.args.segment.now (segment_view c.in-Some.parts) h.0 c.in-Err.fault (whole_is c.args.segment.now (segment_view c.in-Some.parts) h.0 c.in-Some.ensures.exact h.1) (c.in-Err.ensures.refused h.0 h.1)

pub returns-in-Ok-clause-opened : goal.returns-in-Ok-clause-opened
returns-in-Ok-clause-opened c =
    let h = is_some_is (head_of c.in-Some.parts.head.now) (sym c.read_head.ensures.exact ∙ c.if-not-read_head.false) in
    (segment_view c.in-Some.parts, h.0, whole_is c.args.segment.now (segment_view c.in-Some.parts) h.0 c.in-Some.ensures.exact h.1, c.in_default-judge.ensures.ok h.0 h.1, c.in-Ok.ensures h.0 h.1)

pub returns-in-Ok-clause-stands : goal.returns-in-Ok-clause-stands
returns-in-Ok-clause-stands c =
    let h = is_some_is (head_of c.in-Some.parts.head.now) (sym c.read_head.ensures.exact ∙ c.if-not-read_head.false) in
    stands c.args.segment.now (segment_view c.in-Some.parts) h.0 c.in-Ok.viewer (whole_is c.args.segment.now (segment_view c.in-Some.parts) h.0 c.in-Some.ensures.exact h.1) (c.in_default-judge.ensures.ok h.0 h.1) (c.in-Ok.ensures h.0 h.1)

pub judge-requires : goal.judge-requires
judge-requires c =
    let h = is_some_is (head_of c.in-Some.parts.head.now) (sym c.read_head.ensures.exact ∙ c.if-not-read_head.false) in
    tells c.args.segment.now (segment_view c.in-Some.parts) h.0 c.in-Some.ensures.exact h.1

pub start-requires-clause-tells : goal.start-requires-clause-tells
start-requires-clause-tells c =
    let h = is_some_is (head_of c.in-Some.parts.head.now) (sym c.read_head.ensures.exact ∙ c.if-not-read_head.false) in
    tells c.args.segment.now (segment_view c.in-Some.parts) h.0 c.in-Some.ensures.exact h.1
