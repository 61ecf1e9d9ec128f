use Rattle.avm_script.proofs.Pages.{too_many}
use Rattle.avm_script.proofs.bounds.pages_fit.Goals as goal

pub returns-then-pages-gt4096-clause-value : goal.returns-then-pages-gt4096-clause-value
returns-then-pages-gt4096-clause-value c = too_many c.args.pages c.if-pages-gt4096.true
