use Rattle.std.proofs.Common.{sym, ◌∙◌}
use Rattle.avm_model.specs.HeadReading.{head_of}
use Rattle.avm_auth.specs.Views.{auth_view}
use Rattle.log_entry.proofs.Options.{is_some_is}
use Rattle.seg_file.specs.Views.{segment_view}
use Rattle.avm_model.proofs.SegmentPages.{has_pages}
use Rattle.auditor.proofs.Replays.{whole_is, no_segment_shows, no_head_shows, no_top_shows, decides_by}
use Rattle.auditor.proofs.holding.replay_stands.Goals as goal

pub returns-in_default : goal.returns-in_default
returns-in_default c = no_segment_shows c.args.key.now c.args.segment.now (auth_view c.args.top.now) c.in_default.ensures.exact

pub returns-then-not-read_head : goal.returns-then-not-read_head
returns-then-not-read_head c = no_head_shows c.args.key.now c.args.segment.now (auth_view c.args.top.now) (segment_view c.in-Some.parts) c.in-Some.ensures.exact (sym c.read_head.ensures.exact ∙ c.if-not-read_head.true)

pub returns-then-not-is_top : goal.returns-then-not-is_top
returns-then-not-is_top c = no_top_shows c.args.key.now c.args.segment.now (auth_view c.args.top.now) (segment_view c.in-Some.parts) c.in-Some.ensures.exact (sym c.is_top.ensures ∙ c.if-not-is_top.true)

pub replayed-requires-clause-pages : goal.replayed-requires-clause-pages
replayed-requires-clause-pages c = λ h e.
    let s = segment_view c.in-Some.parts in
    has_pages c.args.segment.now s h (whole_is c.args.segment.now s h c.in-Some.ensures.exact e)

pub returns : goal.returns
returns c =
    let h = is_some_is (head_of c.in-Some.parts.head.now) (sym c.read_head.ensures.exact ∙ c.if-not-read_head.false) in
    decides_by c.is_shown.result c.args.key.now c.args.segment.now (auth_view c.args.top.now) (segment_view c.in-Some.parts) h.0 c.in_ok-committed.committed c.in_ok-committed.fault c.is_shown.ensures c.in-Some.ensures.exact h.1
    (sym c.is_top.ensures ∙ c.if-not-is_top.false) (c.in_ok-committed.ensures.committed h.0 h.1) (c.in_ok-committed.ensures.fault h.0 h.1)
