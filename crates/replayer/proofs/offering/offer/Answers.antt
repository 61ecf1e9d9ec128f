use Rattle.replayer.proofs.Contents.{fits_recv, fits_acked}
use Rattle.replayer.proofs.offering.offer.Goals as goal

pub returns-in_ok-take_data-in-Some-eq1-clause-fits : goal.returns-in_ok-take_data-in-Some-eq1-clause-fits
returns-in_ok-take_data-in-Some-eq1-clause-fits c = fits_recv c.args.machine.now.state c.args.bytes.now c.bounds.ensures.head c.in_ok-take_data-in-Some-eq1.ensures.packet

pub returns-in_ok-take_ack-in-Some-eq2-clause-fits : goal.returns-in_ok-take_ack-in-Some-eq2-clause-fits
returns-in_ok-take_ack-in-Some-eq2-clause-fits c = fits_acked c.args.machine.now.state c.args.bytes.now c.bounds.ensures.head c.in_ok-take_ack-in-Some-eq2.ensures.packet
