use Rattle.std.proofs.Common.{refl}
use Rattle.avm_outside.specs.Outlet.{packet}
use Rattle.record_parts.proofs.Giving.{cuts_one, on_err}
use Rattle.record_turn.proofs.releasing.release_sent.Goals as goal

pub returns-clause-failed : goal.returns-clause-failed
returns-clause-failed g c =
    on_err c.packet.result _ _ (cuts_one g.O.Outlet.adding g.O.Outlet.tearing (packet c.in-Some.sent.peer c.bytes.result.now) _ _ _ (rw (c.in-Some.is, c.in-Some-ticket.is, c.bytes.ensures, c.send.ensures.value) refl)) c.packet.ensures.failed
