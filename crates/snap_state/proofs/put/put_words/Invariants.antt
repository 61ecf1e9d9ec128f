use Rattle.std.proofs.Common.{◌≡◌, ◌+◌, ◌*◌, drop}
use Rattle.std.specs.Int.{w32}
use Rattle.avm_num.specs.Room.{with_bytes, left}
use Rattle.avm_num.specs.Lists.{list_bytes, be}
use Rattle.snap_state.proofs.put.put_words.Given as goal

abbrev pub invariant-loop-word : goal.invariant-loop-word
invariant-loop-word l = record {
  value : with_bytes l.out (list_bytes (be w32) (drop l.word-index l.words)) ≡ with_bytes l.fn.out (list_bytes (be w32) l.words);
  left : left l.out + 4 * l.word-index ≡ left l.fn.out;
}
