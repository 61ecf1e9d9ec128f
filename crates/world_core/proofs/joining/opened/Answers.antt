use Rattle.std.proofs.Common.{refl, ◌∙◌}
use Rattle.world_core.proofs.Opening.{opened_is, opened_runs}
use Rattle.world_core.proofs.joining.opened.Goals as goal

pub returns-clause-opens : goal.returns-clause-opens
returns-clause-opens c =
    let o = opened_is c.args.disk c.attach.new.disk c.in-Ok.recorder c.args.signer c.in-Ok.ensures.reads.same c.in-Ok.ensures.answers in
    record {
      recorder = c.in-Ok.recorder;
      up = refl;
      runs = c.in-Ok.ensures.open;
      empty = c.in-Ok.ensures.empty;
      signs = c.in-Ok.ensures.key;
      key = c.public-key.ensures;
      own = c.own-own.ensures ∙ rw (c.devices-devices.ensures, c.machine.ensures) refl;
      peers = c.in-Ok-from_slice.ensures.items ∙ c.peers.ensures ∙ rw (c.devices-devices.ensures, c.machine.ensures) refl;
      bytes = o.bytes;
      images = c.in-Ok.ensures.reads.crash;
      journal = o.journal;
      stands = o.stands;
      allowed = o.allowed;
      disk = o.disk;
      desk = o.desk;
    }

pub returns-clause-runs : goal.returns-clause-runs
returns-clause-runs c =
    opened_runs c.args.disk c.attach.new.disk c.in-Ok.recorder c.args.signer c.requires.types
    (opened_is c.args.disk c.attach.new.disk c.in-Ok.recorder c.args.signer c.in-Ok.ensures.reads.same c.in-Ok.ensures.answers)
    c.in-Ok.ensures.key
