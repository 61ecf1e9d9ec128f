use Rattle.std.proofs.Common.{◌≡◌, ◌+◌, ◌*◌, arith}
use Rattle.lms_hss.proofs.ReadLaws.{stands_told}
use Rattle.lms_hss.proofs.reading.stands.Goals as goal

pub returns-clause-there : goal.returns-clause-there
returns-clause-there g c =
    let at : c.place.result + 1 ≡ 66 + 57 * c.args.leaf = omega (arith, c.place.ensures) in
    stands_told (g.D.Disk.seen c.args.disk.now) c.args.leaf c.in_ok-n.n (c.place.result + 1) _ c.read_at.new.buf c.args.bottom.now c.eq.result at c.in_ok-n.ensures.bytes c.eq.ensures
