use Rattle.log_entry.proofs.Contents.{found, none, only}
use Rattle.log_entry.proofs.reading.content.Goals as goal

pub returns-clause-found : goal.returns-clause-found
returns-clause-found c = found _ _ _ c.are_bytes.ensures c.form.ensures

pub returns-clause-none : goal.returns-clause-none
returns-clause-none c = none _ _ _ c.form.ensures

pub returns-clause-only : goal.returns-clause-only
returns-clause-only c = only _ _ _ c.form.ensures
