use Rattle.std.proofs.Common.{refl, sym, ◌∙◌}
use Rattle.keep_judge.proofs.Goodness.{fits_none, fits_same, fits_short}
use Rattle.keep_judge.proofs.heads.fits.Goals as goal

pub returns-in-Some-clause-value : goal.returns-in-Some-clause-value
returns-in-Some-clause-value c = fits_same c.args.head.now c.args.pages c.in-Some.count _ (sym c.if-not-read_head.false ∙ c.read_head.ensures.exact) (sym c.in-Some.is ∙ c.page_count.ensures) refl

pub returns-in-Some-clause-short : goal.returns-in-Some-clause-short
returns-in-Some-clause-short c = λ e. fits_short c.args.head.now c.are_bytes.ensures (sym c.if-not-read_head.false ∙ c.read_head.ensures.exact)

pub returns-in-None-clause-value : goal.returns-in-None-clause-value
returns-in-None-clause-value c = fits_none c.args.head.now (sym c.if-not-read_head.false ∙ c.read_head.ensures.exact) (sym c.in-None.is ∙ c.page_count.ensures)
