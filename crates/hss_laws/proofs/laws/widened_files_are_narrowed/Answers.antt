use Rattle.hss_laws.proofs.Again.{narrowed_again}
use Rattle.hss_laws.proofs.laws.widened_files_are_narrowed.Goals as goal

pub returns : goal.returns
returns c = narrowed_again
