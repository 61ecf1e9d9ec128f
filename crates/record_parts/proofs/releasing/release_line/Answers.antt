use Rattle.std.proofs.Common.{take, refl}
use Rattle.avm_outside.specs.Outlet.{console}
use Rattle.record_parts.proofs.Giving.{on_err, cuts_one, some_line}
use Rattle.record_parts.proofs.releasing.release_line.Goals as goal

pub returns-clause-failed : goal.returns-clause-failed
returns-clause-failed g c =
    on_err c.console.result _ _ (cuts_one g.O.Outlet.adding g.O.Outlet.tearing (console (take c.args.line.now.len c.args.line.now.bytes)) _ _ _ (some_line c.args.line.now c.args.line.now.len c.if-line-eq0.false refl)) c.console.ensures.failed
