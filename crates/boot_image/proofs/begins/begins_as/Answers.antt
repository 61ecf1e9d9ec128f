use Rattle.std.proofs.Common.{sym, ◌∙◌}
use Rattle.avm_model.specs.HeadReading.{head_of}
use Rattle.log_entry.proofs.Options.{is_some_is}
use Rattle.seg_file.specs.Views.{segment_view}
use Rattle.avm_model.proofs.SegmentPages.{has_pages}
use Rattle.boot_image.proofs.Begun.{whole_some, no_segment, no_head, no_boot, begins}
use Rattle.boot_image.proofs.begins.begins_as.Goals as goal

pub returns-in_default : goal.returns-in_default
returns-in_default c = no_segment c.args.image.now c.args.segment.now c.in_default.ensures.exact

pub returns-then-not-read_head : goal.returns-then-not-read_head
returns-then-not-read_head c =
    no_head c.args.image.now c.args.segment.now (segment_view c.in-Some.parts) c.in-Some.ensures.exact (sym c.if-not-read_head.true ∙ c.read_head.ensures.exact)

pub returns-then-not-is_boot_first : goal.returns-then-not-is_boot_first
returns-then-not-is_boot_first c =
    let s = segment_view c.in-Some.parts in
    let h = is_some_is (head_of s.front.head) (sym c.read_head.ensures.exact ∙ c.if-not-read_head.false) in
    no_boot c.args.image.now c.args.segment.now s h.0 (whole_some c.args.segment.now s h.0 c.in-Some.ensures.exact h.1) (sym c.if-not-is_boot_first.true ∙ c.is_boot_first.ensures)

pub is_snapshot_of-requires-clause-pages : goal.is_snapshot_of-requires-clause-pages
is_snapshot_of-requires-clause-pages c = λ h e. let s = segment_view c.in-Some.parts in has_pages c.args.segment.now s h (whole_some c.args.segment.now s h c.in-Some.ensures.exact e)

pub returns : goal.returns
returns c =
    let s = segment_view c.in-Some.parts in
    let h = is_some_is (head_of s.front.head) (sym c.read_head.ensures.exact ∙ c.if-not-read_head.false) in
    begins c.args.image.now c.args.segment.now s h.0 c.is_snapshot_of.result (whole_some c.args.segment.now s h.0 c.in-Some.ensures.exact h.1) h.1 (sym c.if-not-is_boot_first.false ∙ c.is_boot_first.ensures) c.is_snapshot_of.ensures
