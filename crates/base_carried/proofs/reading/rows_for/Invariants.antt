use Rattle.std.proofs.Common.{◌≡◌, map, take}
use Rattle.base_carried.specs.Rows.{row_for}
use Rattle.base_carried.proofs.reading.rows_for.Given as goal

abbrev pub invariant-loop-peer : goal.invariant-loop-peer
invariant-loop-peer l = l.rows.items ≡ map row_for (take l.peer-index l.fn.peers)
