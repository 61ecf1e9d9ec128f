use Rattle.std.proofs.Common.{◌∙◌, length, sym}
use Rattle.avm_model.specs.Image.{is_bad}
use Rattle.rv32_loader.proofs.Steps.{headers_pass, headers_hit}
use Rattle.rv32_loader.proofs.inspection.bad_header.Goals as goal

pub loop-i-preserved : goal.loop-i-preserved
loop-i-preserved c = headers_pass (is_bad (length c.args.file.now)) c.args.file.now c.args.at c.args.count c.loop-i.i c.loop-i-test.true (rw c.read_header.ensures at (sym c.is_bad_header.ensures ∙ c.if-is_bad_header.false)) ∙ c.loop-i.invariant

pub returns-then-is_bad_header : goal.returns-then-is_bad_header
returns-then-is_bad_header c = headers_hit (is_bad (length c.args.file.now)) c.args.file.now c.args.at c.args.count c.loop-i.i c.loop-i-test.true (rw c.read_header.ensures at (sym c.is_bad_header.ensures ∙ c.if-is_bad_header.true)) ∙ c.loop-i.invariant
