use Rattle.jrnl_store.specs.Kept.{kept}
use Rattle.rebuttal.proofs.Headers.{pages_told}
use Rattle.rebuttal.proofs.starting.filled.Goals as goal

pub returns-in-Ok-machine_with-clause-state : goal.returns-in-Ok-machine_with-clause-state
returns-in-Ok-machine_with-clause-state g c = pages_told _ (kept c.args.journal.now) c.args.head.now c.pages.new.ram.bytes c.in-Ok-machine_with.parts.0.state c.in-Ok.ensures.pages c.in-Ok-machine_with.ensures.state
