use Rattle.spare_base.proofs.Pieces.{clear_told}
use Rattle.spare_base.proofs.comparing.is_clear_there.Goals as goal

pub returns-clause-clear : goal.returns-clause-clear
returns-clause-clear g c =
    clear_told (g.E.Disk.seen c.args.spare.now) c.args.at c.in_ok-n.n c.min-size.result c.args.size c.read_at.new.buf _ c.eq.result c.requires.few c.min-size.ensures c.in_ok-n.ensures.bytes c.eq.ensures
