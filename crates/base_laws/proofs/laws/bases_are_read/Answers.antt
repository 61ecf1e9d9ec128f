use Rattle.base_laws.proofs.Spelling.{moved_spelled, moved_read, moved_behind}
use Rattle.base_laws.proofs.laws.bases_are_read.Goals as goal

pub returns-clause-fits : goal.returns-clause-fits
returns-clause-fits c j n s h m = moved_spelled j n s h m

pub returns-clause-read : goal.returns-clause-read
returns-clause-read c j n s h m = moved_read j n s h m

pub returns-clause-behind : goal.returns-clause-behind
returns-clause-behind c j n s gate rest h m shut = moved_behind j n s gate rest h m shut
