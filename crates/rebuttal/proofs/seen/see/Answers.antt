use Rattle.evid_file.specs.Views.{evidence_view}
use Rattle.jrnl_store.specs.Kept.{kept}
use Rattle.rebuttal.proofs.Whole.{none_made, see_told}
use Rattle.rebuttal.proofs.seen.see.Goals as goal

pub returns-in-Ok-None-clause-seen : goal.returns-in-Ok-None-clause-seen
returns-in-Ok-None-clause-seen g c = none_made _ (kept c.args.journal.now) c.in-Ok-None.field-0 (λ s j. ⊥) c.in-Ok-None.field-0-is c.in-Ok-None.ensures.state

pub returns-in-Ok-clause-seen : goal.returns-in-Ok-clause-seen
returns-in-Ok-clause-seen g c =
    see_told (g.D.Disk.seen c.args.disk.now) (g.D.Disk.seen c.header_machine.new.disk) (kept c.args.journal.now) (kept c.header_machine.new.journal) c.in-Ok-Some.field-0 c.in-Ok-Some.parts (evidence_view c.args.evidence.now) c.begin-reading.result c.read_all.new.pass c.seen_by.result
    c.in-Ok-Some.ensures.reads.same c.in-Ok-Some.ensures.kept c.in-Ok-Some.field-0-is c.in-Ok-Some.ensures.state c.begin-reading.ensures c.in-Ok.ensures.taken c.seen_by.ensures.fault c.seen_by.ensures.one c.seen_by.ensures.two c.seen_by.ensures.found
