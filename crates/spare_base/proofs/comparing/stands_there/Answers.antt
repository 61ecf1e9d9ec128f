use Rattle.std.proofs.Common.{length}
use Rattle.spare_base.proofs.Pieces.{there_told}
use Rattle.spare_base.proofs.comparing.stands_there.Goals as goal

pub returns-clause-there : goal.returns-clause-there
returns-clause-there g c =
    there_told (g.E.Disk.seen c.args.spare.now) c.args.at c.in_ok-n.n c.min-size.result (length c.args.bytes.now) c.read_at.new.buf _ c.args.bytes.now c.eq.result c.requires.few c.min-size.ensures c.in_ok-n.ensures.bytes c.eq.ensures
