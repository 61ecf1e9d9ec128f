use Rattle.std.proofs.Common.{ℕ, Some, ap, sym, ◌∙◌}
use Rattle.rebuttal.proofs.Segments.{head_found}
use Rattle.rebuttal.proofs.starting.has_pages.Goals as goal

pub returns-then-count-pages-clause-found : goal.returns-then-count-pages-clause-found
returns-then-count-pages-clause-found c = head_found c.args.head.now c.args.pages c.read_head.result (ap (λ (n : ℕ). Some n) (sym c.if-count-pages.true) ∙ c.in-Some.ensures) c.read_head.ensures.exact
