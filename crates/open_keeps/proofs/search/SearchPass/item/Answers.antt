use Rattle.std.proofs.Common.{◌++◌, List, sym, ap, subst}
use Rattle.record_kept.specs.Tickets.{AreKept}
use Rattle.record_kept.specs.declared.kept.KeptRow.{KeptRow}
use Rattle.open_keeps.proofs.search.SearchPass.item.Goals as goal

pub returns-in-Ok-clause-taken : goal.returns-in-Ok-clause-taken
returns-in-Ok-clause-taken c = record {
  pages = c.in-Ok.ensures.pages;
  sought = λ inside h n ps o. c.in-Ok.ensures.sought inside h n ps (record { own = o.own; first = o.first; last = o.last; ram = o.ram; told = o.told; keeps = o.keeps; found = o.found });
  kept = λ es more signed kept. subst (λ (rows : List KeptRow). AreKept rows (es ++ more)) (sym c.in-Ok.ensures.kept) (c.item.ensures.kept es more signed kept);
}
