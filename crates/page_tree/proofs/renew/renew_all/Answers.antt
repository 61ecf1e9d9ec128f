use Rattle.std.proofs.Common.{arith, ◌≡◌}
use Rattle.page_tree.proofs.renew.renew_all.Goals as goal

pub loop-place-preserved : goal.loop-place-preserved
loop-place-preserved g c =
    let i = c.loop-place.invariant in
    let moved = c.renew_some-place.ensures in
    record { low = moved.some; renewing = moved.renewing; count = moved.count _ i.count }

pub returns-clause-count : goal.returns-clause-count
returns-clause-count g c =
    let i = c.loop-place.invariant in
    let one : c.loop-place.place ≡ 1 = omega arith in
    rw one at i.count
