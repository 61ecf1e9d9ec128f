use Rattle.replayer.specs.Pending.{pending_of, stand_of}
use Rattle.replayer.proofs.Short.{settled_short}
use Rattle.replayer.proofs.settling.settle.Goals as goal

pub returns-clause-short : goal.returns-clause-short
returns-clause-short c =
    settled_short c.args.machine.now.state (pending_of c.args.machine.now.state c.args.pending.now) c.args.count
    (stand_of c.advance.new.machine.state c.advance.new.pending) c.bounds.ensures.head c.advance.ensures.stand
