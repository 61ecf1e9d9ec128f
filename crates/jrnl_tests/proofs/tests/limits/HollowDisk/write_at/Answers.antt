use Rattle.std.proofs.Common.{length}
use Rattle.avm_outside.proofs.Tears.{Torn-refl}
use Rattle.jrnl_tests.proofs.tests.limits.HollowDisk.write_at.Goals as goal

pub returns-clause-crash : goal.returns-clause-crash
returns-clause-crash c = λ image left. (image, tt, Torn-refl _ _ image)
