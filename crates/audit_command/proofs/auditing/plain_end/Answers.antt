use Rattle.std.proofs.Common.{[], None, Some, false}
use Rattle.avm_script.specs.View.{text_view}
use Rattle.file_audit.specs.Audited.{IsFileAudited}
use Rattle.audit_command.specs.Audit.{no_key}
use Rattle.audit_command.specs.Inputs.{image_bytes}
use Rattle.audit_command.proofs.Judged.{plain_ends, plain_missing, plain_refused}
use Rattle.audit_command.proofs.auditing.plain_end.Goals as goal

pub returns-in-Some-clause-ends : goal.returns-in-Some-clause-ends
returns-in-Some-clause-ends g c =
    let heard : IsFileAudited no_key [] (image_bytes c.in-Ok.beside) false (g.F.Files.file c.read_beside.new.files c.args.segment.now) (Some c.in-Some.audited) = rw (c.bytes.ensures, c.in-Some.is) at c.in_ok-audited.ensures.audited in
    plain_ends c.args.segment.now (text_view c.args.image) (g.F.Files.file c.args.files.now) (g.F.Files.file c.read_beside.new.files) c.in-Ok.beside c.in-Some.audited c.end_of.result c.read_beside.ensures.same (rw c.in-Ok.is at c.in_ok-beside.ensures.read) heard c.end_of.ensures

pub returns-in-Err-clause-ends : goal.returns-in-Err-clause-ends
returns-in-Err-clause-ends g c =
    plain_refused c.args.segment.now (text_view c.args.image) (g.F.Files.file c.args.files.now) c.in-Err.option (rw c.in-Err.is at c.in_ok-beside.ensures.read)

pub returns-clause-ends : goal.returns-clause-ends
returns-clause-ends g c =
    let heard : IsFileAudited no_key [] (image_bytes c.in-Ok.beside) false (g.F.Files.file c.read_beside.new.files c.args.segment.now) None = rw (c.bytes.ensures, c.in-None.is) at c.in_ok-audited.ensures.audited in
    plain_missing c.args.segment.now (text_view c.args.image) (g.F.Files.file c.args.files.now) (g.F.Files.file c.read_beside.new.files) c.in-Ok.beside c.read_beside.ensures.same (rw c.in-Ok.is at c.in_ok-beside.ensures.read) heard
