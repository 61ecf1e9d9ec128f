use Rattle.base_laws.proofs.KeepCases.{moved_true}
use Rattle.base_laws.proofs.laws.moved_keeps_are_true.Goals as goal

pub returns : goal.returns
returns c j a n to before behind f m h head keeps split seq above writes tell = moved_true j a n to before behind f m h head keeps split seq above writes tell
