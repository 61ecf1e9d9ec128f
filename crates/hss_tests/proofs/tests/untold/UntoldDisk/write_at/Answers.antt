use Rattle.avm_outside.proofs.Tears.{Torn-refl}
use Rattle.hss_tests.proofs.tests.untold.UntoldDisk.write_at.Goals as goal

pub returns-then-at-self-clause-crash : goal.returns-then-at-self-clause-crash
returns-then-at-self-clause-crash c = λ image left. (image, tt, Torn-refl _ _ image)

pub returns-in-Ok-clause-crash : goal.returns-in-Ok-clause-crash
returns-in-Ok-clause-crash c = λ image left. (image, tt, Torn-refl _ _ image)

pub returns-in-Err-clause-crash : goal.returns-in-Err-clause-crash
returns-in-Err-clause-crash c = λ image left. (image, tt, Torn-refl _ _ image)
