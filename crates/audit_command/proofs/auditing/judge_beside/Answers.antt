use Rattle.std.proofs.Common.{None, Some, true}
use Rattle.file_audit.specs.Audited.{IsFileAudited}
use Rattle.audit_command.specs.Inputs.{image_bytes}
use Rattle.audit_command.proofs.Judged.{kept_of, tail_ends, tail_missing, tail_cut}
use Rattle.audit_command.proofs.auditing.judge_beside.Goals as goal

pub settle-requires : goal.settle-requires
settle-requires g c =
    let i = c.args.inputs.now in
    let heard : IsFileAudited i.key i.auths.items (image_bytes i.beside) true (g.F.Files.file c.args.files.now c.args.segment.now) (Some c.in-Some.audited) = rw (c.bytes.ensures, c.in-Some.is, c.deref.ensures.value) at c.in_ok-audited.ensures.audited in
    (kept_of i.key i.auths.items (image_bytes i.beside) (g.F.Files.file c.args.files.now c.args.segment.now) c.in-Some.audited heard).1.judged

pub returns-in-Some-clause-ends : goal.returns-in-Some-clause-ends
returns-in-Some-clause-ends g c =
    let i = c.args.inputs.now in
    let heard : IsFileAudited i.key i.auths.items (image_bytes i.beside) true (g.F.Files.file c.args.files.now c.args.segment.now) (Some c.in-Some.audited) = rw (c.bytes.ensures, c.in-Some.is, c.deref.ensures.value) at c.in_ok-audited.ensures.audited in
    tail_ends i.key i.auths.items (image_bytes i.beside) (g.F.Files.file c.args.files.now c.args.segment.now) (g.F.Files.file c.args.files.now c.args.name.now) (g.F.Files.file c.audit_file.new.files c.args.name.now) (g.F.Files.file c.settle.new.files c.args.name.now) c.in-Some.audited c.settle.result (c.audit_file.ensures.same c.args.name.now) heard c.settle.ensures.ends

pub returns-in-Some-clause-left : goal.returns-in-Some-clause-left
returns-in-Some-clause-left g c =
    let i = c.args.inputs.now in
    let heard : IsFileAudited i.key i.auths.items (image_bytes i.beside) true (g.F.Files.file c.args.files.now c.args.segment.now) (Some c.in-Some.audited) = rw (c.bytes.ensures, c.in-Some.is, c.deref.ensures.value) at c.in_ok-audited.ensures.audited in
    λ failed. tail_cut i.key i.auths.items (image_bytes i.beside) (g.F.Files.file c.args.files.now c.args.segment.now) (g.F.Files.file c.args.files.now c.args.name.now) (g.F.Files.file c.audit_file.new.files c.args.name.now) (g.F.Files.file c.settle.new.files c.args.name.now) c.in-Some.audited (c.audit_file.ensures.same c.args.name.now) heard (c.settle.ensures.left failed)

pub returns-in-None-clause-ends : goal.returns-in-None-clause-ends
returns-in-None-clause-ends g c =
    let i = c.args.inputs.now in
    let heard : IsFileAudited i.key i.auths.items (image_bytes i.beside) true (g.F.Files.file c.args.files.now c.args.segment.now) None = rw (c.bytes.ensures, c.in-None.is) at c.in_ok-audited.ensures.audited in
    tail_missing i.key i.auths.items (image_bytes i.beside) (g.F.Files.file c.args.files.now c.args.segment.now) (g.F.Files.file c.args.files.now c.args.name.now) (g.F.Files.file c.audit_file.new.files c.args.name.now) c.say.result (c.audit_file.ensures.same c.args.name.now) heard c.say.ensures.end
