use Rattle.avm_outside.specs.MemDisks.{disk_calls}
use Rattle.world_core.proofs.Opening.{if_opened, if_runs}
use Rattle.world_core.proofs.node.reopen.Goals as goal

pub returns-clause-opens : goal.returns-clause-opens
returns-clause-opens c =
    if_opened c.attach.result c.set_image.new.self c.attach.new.disk c.args.signer c.args.image.items c.set_image.ensures.bytes
    (λ x q. c.set_image.ensures.state (disk_calls c.set_image.new.self) x (c.attach.ensures.reads.crash x q))
    c.attach.ensures.reads.same c.attach.ensures.answers c.attach.ensures.open c.attach.ensures.empty c.attach.ensures.key

pub returns-clause-runs : goal.returns-clause-runs
returns-clause-runs c = if_runs c.attach.result c.set_image.new.self c.attach.new.disk c.args.signer c.requires.types c.attach.ensures.reads.same c.attach.ensures.answers c.attach.ensures.key
