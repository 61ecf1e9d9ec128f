use Rattle.jrnl_store.specs.Kept.{kept}
use Rattle.stretch_replay.proofs.Sought.{pages_told}
use Rattle.stretch_replay.proofs.searching.header_ram.Goals as goal

pub returns-in-Ok-clause-pages : goal.returns-in-Ok-clause-pages
returns-in-Ok-clause-pages g c = pages_told _ (kept c.args.journal.now) c.pages.new.ram.bytes c.in-Ok.ensures.pages
