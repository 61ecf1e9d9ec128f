use Rattle.record_laws.proofs.Joining.{turns_record}
use Rattle.record_laws.proofs.laws.turns_record.Goals as goal

pub returns : goal.returns
returns c who j p s ts end last opened turns is_last = turns_record who j p s ts end last opened turns is_last
