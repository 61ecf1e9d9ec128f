use Rattle.base_records.proofs.Standing.{stands_behind}
use Rattle.base_records.proofs.laws.records_stand.Goals as goal

pub returns : goal.returns
returns c = λ was j bytes is. stands_behind was j bytes is
