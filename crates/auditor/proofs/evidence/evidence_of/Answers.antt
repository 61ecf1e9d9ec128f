use Rattle.std.proofs.Common.{rules}
use Rattle.auditor.proofs.Written.{some_is, fits_all, short_all, stands_all}
use Rattle.auditor.proofs.evidence.evidence_of.Goals as goal

pub returns-clause-some : goal.returns-clause-some
returns-clause-some c = some_is c.args.key.now c.args.segment.now c.args.auths.now c.args.verdict.now c.found.result c.requires c.found.ensures.only c.found.ensures.value

pub returns-clause-fits : goal.returns-clause-fits
returns-clause-fits c = fits_all c.args.key.now c.args.segment.now c.args.auths.now c.args.verdict.now c.found.result c.are_bytes.ensures c.are_bytes-2.ensures (search rules) c.requires c.found.ensures.only c.found.ensures.value

pub returns-clause-stands : goal.returns-clause-stands
returns-clause-stands c = stands_all c.args.key.now c.args.segment.now c.args.auths.now c.args.verdict.now c.found.result c.are_bytes.ensures c.are_bytes-2.ensures (search rules) c.requires c.found.ensures.only c.found.ensures.value

pub returns-clause-short : goal.returns-clause-short
returns-clause-short c = short_all c.found.result (fits_all c.args.key.now c.args.segment.now c.args.auths.now c.args.verdict.now c.found.result c.are_bytes.ensures c.are_bytes-2.ensures (search rules) c.requires c.found.ensures.only c.found.ensures.value)
