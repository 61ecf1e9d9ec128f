use Rattle.std.proofs.Common.{refl}
use Rattle.rebuttal.proofs.Entries.{none_told}
use Rattle.rebuttal.proofs.evidence.no_entries.Goals as goal

pub returns : goal.returns
returns c = λ j. none_told j _ _ _ refl
