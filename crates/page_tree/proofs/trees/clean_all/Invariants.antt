use Rattle.std.proofs.Common.{◌≡◌, ◌++◌, false, replicate, drop, length}
use Rattle.page_tree.proofs.trees.clean_all.Given as goal

abbrev pub invariant-loop-i : goal.invariant-loop-i
invariant-loop-i l = record {
  bytes : l.ram.bytes ≡ l.fn.ram.bytes;
  dirty : l.ram.dirty ≡ replicate l.i false ++ drop l.i l.fn.ram.dirty;
  len : length l.ram.dirty ≡ length l.fn.ram.dirty;
}
