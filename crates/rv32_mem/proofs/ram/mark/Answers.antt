use Rattle.std.proofs.Common.{◌∙◌, true, length-set}
use Rattle.rv32_mem.proofs.Marks.{marks_step}
use Rattle.rv32_mem.proofs.ram.mark.Goals as goal

pub loop-i-preserved : goal.loop-i-preserved
loop-i-preserved c = record {
  marks = marks_step c.loop-i.dirty c.loop-i.i c.args.to c.loop-i-test.true ∙ c.loop-i.invariant.marks;
  len = length-set c.loop-i.dirty c.loop-i.i true ∙ c.loop-i.invariant.len;
}
