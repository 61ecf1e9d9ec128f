use Rattle.std.proofs.Common.{Ok, Err}
use Rattle.jrnl_store.specs.Kept.{kept}
use Rattle.list_command.proofs.Telling.{lines_leave}
use Rattle.list_command.proofs.store.list_journal.Goals as goal

pub returns-in-Ok-clause-leaves : goal.returns-in-Ok-clause-leaves
returns-in-Ok-clause-leaves g c =
    lines_leave _ _ (kept c.args.journal) (kept c.has_head.new.journal) c.in-Ok-true.field-0 (Ok tt) _ _ _ _ c.in-Ok-true.field-0-test c.in-Ok-true.ensures.same c.in-Ok-true.ensures.kept c.requires.opened c.in-Ok-true.ensures.head c.in-Ok.ensures.lines

pub returns-clause-leaves : goal.returns-clause-leaves
returns-clause-leaves g c =
    lines_leave _ _ (kept c.args.journal) (kept c.has_head.new.journal) c.in-Ok-true.field-0 (Err c.in-Err-print_journal.fault) _ _ _ _ c.in-Ok-true.field-0-test c.in-Ok-true.ensures.same c.in-Ok-true.ensures.kept c.requires.opened c.in-Ok-true.ensures.head c.in-Err-print_journal.ensures.lines
