use Rattle.std.proofs.Common.{sym, ◌∙◌}
use Rattle.avm_model.specs.HeadReading.{head_of}
use Rattle.log_entry.proofs.Options.{is_some_is}
use Rattle.seg_file.specs.Views.{segment_view}
use Rattle.view_model.specs.Views.{run_of}
use Rattle.avm_view.proofs.Asides.{found}
use Rattle.avm_view.proofs.Openings.{no_segment, no_head, whole_is, tells, refused_by}
use Rattle.avm_view.proofs.viewer.Viewer.open_at.Goals as goal

pub returns-in_default-clause-refused : goal.returns-in_default-clause-refused
returns-in_default-clause-refused c = no_segment c.args.segment.now c.in_default.ensures.exact

pub returns-then-not-read_head-clause-refused : goal.returns-then-not-read_head-clause-refused
returns-then-not-read_head-clause-refused c = no_head c.args.segment.now (segment_view c.in-Some.parts) c.in-Some.ensures.exact (sym c.read_head.ensures.exact ∙ c.if-not-read_head.true)

pub judge-requires : goal.judge-requires
judge-requires c =
    let h = is_some_is (head_of c.in-Some.parts.head.now) (sym c.read_head.ensures.exact ∙ c.if-not-read_head.false) in
    tells c.args.segment.now (segment_view c.in-Some.parts) h.0 c.in-Some.ensures.exact h.1

pub returns-in-Err-clause-refused : goal.returns-in-Err-clause-refused
returns-in-Err-clause-refused c =
    let h = is_some_is (head_of c.in-Some.parts.head.now) (sym c.read_head.ensures.exact ∙ c.if-not-read_head.false) in
    refused_by c.args.segment.now (segment_view c.in-Some.parts) h.0 c.in-Err.fault (whole_is c.args.segment.now (segment_view c.in-Some.parts) h.0 c.in-Some.ensures.exact h.1) (c.in-Err.ensures.refused h.0 h.1)

pub near-requires-clause-tells : goal.near-requires-clause-tells
near-requires-clause-tells c =
    let h = is_some_is (head_of c.in-Some.parts.head.now) (sym c.read_head.ensures.exact ∙ c.if-not-read_head.false) in
    tells c.args.segment.now (segment_view c.in-Some.parts) h.0 c.in-Some.ensures.exact h.1

pub returns-in-Ok-near-clause-found : goal.returns-in-Ok-near-clause-found
returns-in-Ok-near-clause-found c =
    let s = segment_view c.in-Some.parts in
    let h = is_some_is (head_of c.in-Some.parts.head.now) (sym c.read_head.ensures.exact ∙ c.if-not-read_head.false) in
    let f = found (run_of s h.0) c.in-Ok-near.viewer c.args.count c.at_count.result (c.in-Ok-near.ensures.stands h.0 h.1) c.at_count.ensures.stands c.at_count.ensures.count c.at_count.ensures.none in
    (s, h.0, whole_is c.args.segment.now s h.0 c.in-Some.ensures.exact h.1, c.in-Ok.ensures.ok h.0 h.1, f.0, f.1)
