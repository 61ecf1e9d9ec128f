use Rattle.avm_script.specs.View.{signed_view, text_view}
use Rattle.audit_command.proofs.Judged.{signed_ends, signed_left, signed_refused}
use Rattle.audit_command.proofs.auditing.audit_signed.Goals as goal

pub returns-in-Ok-clause-ends : goal.returns-in-Ok-clause-ends
returns-in-Ok-clause-ends g c =
    signed_ends c.args.segment.now (text_view c.args.image) (signed_view c.args.signed.now) (g.F.Files.file c.args.files.now) (g.F.Files.file c.read_inputs.new.files) (g.F.Files.file c.judge_beside.new.files) c.in-Ok.inputs c.judge_beside.result (rw c.in-Ok.is at c.in_ok-inputs.ensures.read) c.read_inputs.ensures.same c.judge_beside.ensures.ends

pub returns-in-Ok-clause-left : goal.returns-in-Ok-clause-left
returns-in-Ok-clause-left g c =
    λ failed. signed_left c.args.segment.now (text_view c.args.image) (signed_view c.args.signed.now) (g.F.Files.file c.args.files.now) (g.F.Files.file c.read_inputs.new.files) (g.F.Files.file c.judge_beside.new.files) c.in-Ok.inputs (rw c.in-Ok.is at c.in_ok-inputs.ensures.read) c.read_inputs.ensures.same (c.judge_beside.ensures.left failed)

pub returns-in-Err-clause-ends : goal.returns-in-Err-clause-ends
returns-in-Err-clause-ends g c =
    signed_refused c.args.segment.now (text_view c.args.image) (signed_view c.args.signed.now) (g.F.Files.file c.args.files.now) (g.F.Files.file c.read_inputs.new.files) c.in-Err.option c.say.result (rw c.in-Err.is at c.in_ok-inputs.ensures.read) c.read_inputs.ensures.same c.say.ensures.end
