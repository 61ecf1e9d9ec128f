use Rattle.std.proofs.Common.{◌∙◌, ◌++◌, ap, sym, List, ℕ}
use Rattle.auditor.proofs.Walking.{cut_is, spell}
use Rattle.avm_model.specs.Holds.{upto}
use Rattle.auditor.proofs.showing.cut_after.Goals as goal

pub returns : goal.returns
returns c = λ x fs fits e w. c.front_of.ensures ∙ cut_is c.args.whole.now x (spell (upto c.args.number fs)) c.past.result.now (w ∙ ap (λ (l : List ℕ). x ++ l) (sym e ∙ c.past.ensures fs fits e))
