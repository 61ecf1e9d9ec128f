use Rattle.auditor.proofs.Judging.{too_long, no_list, no_segment, shown_is}
use Rattle.auditor.proofs.evidence.found.Goals as goal

pub returns-then-auths-clause-value : goal.returns-then-auths-clause-value
returns-then-auths-clause-value c = λ d e. too_long c.args.segment.now c.args.auths.now d c.if-auths.true e

pub returns-in_err-list-clause-value : goal.returns-in_err-list-clause-value
returns-in_err-list-clause-value c = λ d e. no_list c.args.segment.now c.args.auths.now d c.in_err-list.ensures.exact e

pub returns-in_err-parts-clause-value : goal.returns-in_err-parts-clause-value
returns-in_err-parts-clause-value c = λ d e. no_segment c.args.segment.now c.args.auths.now d c.are_bytes.ensures c.in_err-parts.ensures.exact e

pub returns-clause-value : goal.returns-clause-value
returns-clause-value c = λ d e. shown_is c.args.key.now c.args.segment.now c.args.auths.now _ _ d _ c.args.verdict.now c.are_bytes.ensures e c.in_ok-parts.ensures.exact c.in_ok-list.ensures.exact c.shown.ensures.value
