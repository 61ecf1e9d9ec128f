use Rattle.std.proofs.Common.{sym, ap, ◌∙◌}
use Rattle.audit_stream.specs.Rows.{verdict_by}
use Rattle.audit_stream.proofs.Finishing.{nothing_heard, not_whole, all_heard}
use Rattle.audit_stream.specs.Streaming.{streaming_by}
use Rattle.audit_stream.proofs.Finishing.{heard_inside}
use Rattle.audit_stream.proofs.stream.AuditStream.verdict.Goals as goal

pub returns-in_default : goal.returns-in_default
returns-in_default c key auths bytes h = nothing_heard (streaming_by c.self.inside) key auths bytes c.in_default.is (heard_inside (sym c.self.view_is) key auths bytes h)

pub returns-then-not-whole : goal.returns-then-not-whole
returns-then-not-whole c key auths bytes h = not_whole (streaming_by c.self.inside) c.in-Some.subject key auths bytes c.in-Some.is (λ d st. sym c.if-not-whole.true ∙ c.whole.ensures.exact d st) (heard_inside (sym c.self.view_is) key auths bytes h)

pub returns : goal.returns
returns c key auths bytes h =
    let s = c.in-Some.subject in
    all_heard (streaming_by c.self.inside) s key auths bytes c.verdict_of.result c.in-Some.is (λ d st. c.whole.ensures.parts c.if-not-whole.false d st)
    (c.verdict_of.ensures ∙ ap (verdict_by s.bad s.double s.first s.last s.course.committed s.course.fault) c.marks.ensures.value) (heard_inside (sym c.self.view_is) key auths bytes h)
