use Rattle.std.proofs.Common.{◌∙◌, length}
use Rattle.avm_model.specs.Image.{is_bad, is_outside}
use Rattle.rv32_loader.proofs.Steps.{headers_none, put_step, mark_step}
use Rattle.rv32_loader.proofs.loading.put_each.Goals as goal

pub loop-i-preserved : goal.loop-i-preserved
loop-i-preserved c = record {
  left = put_step c.args.file.now c.loop-i.ram.bytes _ c.args.at c.args.count c.loop-i.i c.loop-i-test.true (rw c.read_header.ensures at c.put_one.ensures.bytes) ∙ c.loop-i.invariant.left;
  file = (headers_none (is_bad (length c.args.file.now)) c.args.file.now c.args.at c.args.count c.loop-i.i c.loop-i-test.true c.loop-i.invariant.file).1;
  inside = (headers_none (is_outside (length c.args.ram.now.bytes)) c.args.file.now c.args.at c.args.count c.loop-i.i c.loop-i-test.true c.loop-i.invariant.inside).1;
  marks = mark_step c.args.file.now c.loop-i.ram.dirty _ c.args.at c.args.count c.loop-i.i c.loop-i-test.true (rw c.read_header.ensures at c.put_one.ensures.marks) ∙ c.loop-i.invariant.marks;
  len = c.put_one.ensures.len ∙ c.loop-i.invariant.len;
  pages = c.put_one.ensures.pages ∙ c.loop-i.invariant.pages;
}
