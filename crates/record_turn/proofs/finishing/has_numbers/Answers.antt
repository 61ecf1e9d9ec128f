use Rattle.std.proofs.Common.{arith}
use Rattle.jrnl_store.specs.Kept.{kept as kept_of}
use Rattle.record_turn.proofs.Batches.{next_low}
use Rattle.record_turn.proofs.finishing.has_numbers.Goals as goal

pub returns-clause-number : goal.returns-clause-number
returns-clause-number c =
    let j = c.args.store.now.journal in
    let n = next_low (kept_of j) c.args.store.now.batch c.requires.open in
    let near = j.near in
    let first = j.first in
    let place = j.place in
    let size = c.requires.place in
    record { first = omega (arith, n.1); below = omega (arith, n.0, near, first, place, size) }

pub returns-clause-more : goal.returns-clause-more
returns-clause-more c =
    let j = c.args.store.now.journal in
    let n = next_low (kept_of j) c.args.store.now.batch c.requires.open in
    let near = j.near in
    let first = j.first in
    let place = j.place in
    let size = c.requires.place in
    omega (arith, n.0, near, first, place, size)
