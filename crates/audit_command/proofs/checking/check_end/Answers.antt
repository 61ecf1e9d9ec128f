use Rattle.std.proofs.Common.{◌≡◌, None, rules}
use Rattle.audit_command.proofs.Checked.{check_no_key, check_told}
use Rattle.audit_command.proofs.checking.check_end.Goals as goal

pub returns-in_default-clause-ends : goal.returns-in_default-clause-ends
returns-in_default-clause-ends g c =
    let is : c.in_ok-key.field-0 ≡ None = search rules in
    check_no_key c.args.key.now c.args.evidence.now (g.F.Files.file c.args.files.now) (rw is at c.in_ok-key.ensures.key)

pub returns-clause-ends : goal.returns-clause-ends
returns-clause-ends g c =
    check_told c.args.key.now c.args.evidence.now (g.F.Files.file c.args.files.now) (g.F.Files.file c.read_public_key.new.files) c.in-Some.key c.in-Some-2.bytes.items c.judge_evidence.result c.read_public_key.ensures.same (rw c.in-Some.is at c.in_ok-key.ensures.key) (rw c.in-Some-2.is at c.in_ok-bytes.ensures.bytes) (rw c.deref.ensures.value at c.judge_evidence.ensures.ends)
