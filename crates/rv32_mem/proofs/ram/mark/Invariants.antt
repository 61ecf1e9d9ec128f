use Rattle.std.proofs.Common.{◌≡◌, ◌-◌, length}
use Rattle.avm_model.specs.Memory.{marked_from}
use Rattle.rv32_mem.proofs.ram.mark.Given as goal

abbrev pub invariant-loop-i : goal.invariant-loop-i
invariant-loop-i l = record {
  marks : marked_from l.dirty l.i (l.to - l.i) ≡ marked_from l.fn.dirty l.from (l.to - l.from);
  len : length l.dirty ≡ length l.fn.dirty;
}
