use Rattle.std.proofs.Common.{◌≡◌, ◌+◌, ◌*◌, drop}
use Rattle.avm_num.specs.Room.{with_bytes, left}
use Rattle.avm_num.specs.Lists.{list_bytes}
use Rattle.avm_model.specs.Head.{peer_bytes}
use Rattle.snap_state.proofs.put.put_rows.Given as goal

abbrev pub invariant-loop-peer : goal.invariant-loop-peer
invariant-loop-peer l = record {
  value : with_bytes l.out (list_bytes peer_bytes (drop l.peer-index l.peers)) ≡ with_bytes l.fn.out (list_bytes peer_bytes l.peers);
  left : left l.out + 81 * l.peer-index ≡ left l.fn.out;
}
