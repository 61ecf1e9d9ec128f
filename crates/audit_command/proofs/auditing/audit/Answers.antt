use Rattle.std.proofs.Common.{option_map}
use Rattle.avm_script.specs.View.{signed_view, text_view}
use Rattle.audit_command.proofs.Later.{written_later}
use Rattle.audit_command.proofs.Meanings.{audit_means}
use Rattle.audit_command.proofs.Runs.{only_four, not_four}
use Rattle.audit_command.proofs.auditing.audit.Goals as goal

pub returns-clause-means : goal.returns-clause-means
returns-clause-means g c = audit_means c.args.segment.now (text_view c.args.image) (option_map signed_view c.args.signed) _ _ _ _ _ _ _ _ c.audit_printed.result c.audit_printed.ensures.ends

pub returns-clause-evidence : goal.returns-clause-evidence
returns-clause-evidence g c =
    written_later c.args.segment.now (text_view c.args.image) (option_map signed_view c.args.signed) _ _ _ _ c.audit_printed.result
    (audit_means c.args.segment.now (text_view c.args.image) (option_map signed_view c.args.signed) _ _ _ _ _ _ _ _ c.audit_printed.result c.audit_printed.ensures.ends)
    c.audit_printed.ensures.files

pub returns-clause-four : goal.returns-clause-four
returns-clause-four g c = only_four _ _ _ _ _ _ _ _ _ c.audit_printed.result c.audit_printed.ensures.ends

pub returns-clause-not_four : goal.returns-clause-not_four
returns-clause-not_four g c = not_four _ _ _ _ _ _ _ _ _ c.audit_printed.result c.audit_printed.ensures.ends
