use Rattle.evid_file.specs.Views.{evidence_view}
use Rattle.jrnl_store.specs.Kept.{kept}
use Rattle.rebuttal.proofs.Covers.{covers_then, covers_else}
use Rattle.rebuttal.proofs.covering.covers.Goals as goal

pub returns-then-low : goal.returns-then-low
returns-then-low c = λ j keeps fits.
    covers_then (kept c.args.journal.now) j (evidence_view c.args.evidence.now) c.first.result c.last.result c.low_number.result c.high_number.result c.retired.result c.is_below-high.result keeps fits c.last.ensures.value c.first.ensures c.low_number.ensures c.high_number.ensures c.retired.ensures c.is_below-high.ensures c.if-low.true

pub returns-else-low : goal.returns-else-low
returns-else-low c = λ j keeps fits. covers_else (kept c.args.journal.now) j (evidence_view c.args.evidence.now) c.first.result c.last.result c.low_number.result keeps fits c.last.ensures.value c.first.ensures c.low_number.ensures c.if-low.false
