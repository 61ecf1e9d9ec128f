use Rattle.hss_files.proofs.Endorsed.{endorsed_again}
use Rattle.hss_files.proofs.laws.endorsements_are_read.Goals as goal

pub returns : goal.returns
returns c = λ e short long. endorsed_again e short long
