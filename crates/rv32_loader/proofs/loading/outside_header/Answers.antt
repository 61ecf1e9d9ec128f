use Rattle.std.proofs.Common.{◌∙◌, sym}
use Rattle.avm_model.specs.Image.{is_outside}
use Rattle.rv32_loader.proofs.Steps.{headers_pass, headers_hit}
use Rattle.rv32_loader.proofs.loading.outside_header.Goals as goal

pub loop-i-preserved : goal.loop-i-preserved
loop-i-preserved c = headers_pass (is_outside c.args.len) c.args.file.now c.args.at c.args.count c.loop-i.i c.loop-i-test.true (rw c.read_header.ensures at (sym c.is_outside_ram.ensures ∙ c.if-is_outside_ram.false)) ∙ c.loop-i.invariant

pub returns-then-is_outside_ram : goal.returns-then-is_outside_ram
returns-then-is_outside_ram c = headers_hit (is_outside c.args.len) c.args.file.now c.args.at c.args.count c.loop-i.i c.loop-i-test.true (rw c.read_header.ensures at (sym c.is_outside_ram.ensures ∙ c.if-is_outside_ram.true)) ∙ c.loop-i.invariant
