use Rattle.std.proofs.Common.{◌∙◌, ap}
use Rattle.jrnl_store.specs.Kept.{Kept, kept}
use Rattle.list_command.proofs.Telling.{items_fault, mark_on}
use Rattle.list_command.proofs.store.print_journal.Goals as goal

pub returns-in-Err-clause-lines : goal.returns-in-Err-clause-lines
returns-in-Err-clause-lines g c = items_fault (kept c.args.journal.now) _ c.in-Err.fault _ _ _ _ c.in-Err.ensures.lines

pub returns-clause-lines : goal.returns-clause-lines
returns-clause-lines g c =
    let mark = c.retired.ensures ∙ ap (λ (k : Kept). k.mark) c.in_default.ensures.kept in
    mark_on (kept c.args.journal.now) _ c.retired.result c.print_mark.result _ _ _ _ _ _ mark c.in_default.ensures.lines c.print_mark.ensures
