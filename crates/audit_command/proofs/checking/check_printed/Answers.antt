use Rattle.command_parts.specs.FileMap.{SameFiles}
use Rattle.audit_command.specs.Check.{CheckEnds}
use Rattle.audit_command.proofs.Runs.{run_ends}
use Rattle.audit_command.proofs.checking.check_printed.Goals as goal

pub returns-clause-ends : goal.returns-clause-ends
returns-clause-ends g c =
    let old = g.F.Files.file c.args.files.now in
    let new = g.F.Files.file c.checked-said.new.files in
    let e = c.checked-said.ensures in
    run_ends (CheckEnds c.args.key.now c.args.evidence.now old) (SameFiles old new) (SameFiles old new) c.checked-said.result _ _ _ _ _ _ c.print_said.result
    (record { ends = e.ends; line = e.line; left = λ failed. e.same; same = λ failed. e.same; faulted = e.fault; no_fault = e.no_fault })
    (record { said = c.print_said.ensures.line; memory = c.print_said.ensures.memory; files = c.print_said.ensures.files })
