use Rattle.std.proofs.Common.{option_map}
use Rattle.avm_script.specs.View.{signed_view, text_view}
use Rattle.command_parts.specs.FileMap.{SameFiles}
use Rattle.audit_command.specs.Audit.{AuditEnds, AuditLeaves}
use Rattle.audit_command.proofs.Runs.{run_ends}
use Rattle.audit_command.proofs.auditing.audit_printed.Goals as goal

pub returns-clause-ends : goal.returns-clause-ends
returns-clause-ends g c =
    let old = g.F.Files.file c.args.files.now in
    let new = g.F.Files.file c.audited-said.new.files in
    let image = text_view c.args.image in
    let signed = option_map signed_view c.args.signed in
    let e = c.audited-said.ensures in
    run_ends (AuditEnds c.args.segment.now image signed old new) (AuditLeaves c.args.segment.now image signed old new) (SameFiles old new) c.audited-said.result _ _ _ _ _ _ c.print_said.result
    (record { ends = e.ends; line = e.line; left = e.left; same = e.no_memory; faulted = e.fault; no_fault = e.no_fault })
    (record { said = c.print_said.ensures.line; memory = c.print_said.ensures.memory; files = c.print_said.ensures.files })
