use Rattle.std.proofs.Common.{length}
use Rattle.avm_outside.proofs.Tears.{Torn-refl}
use Rattle.real_outside.proofs.real_disk.RealDiskDisk.write_at.Goals as goal

pub returns-in-Ok-clause-crash : goal.returns-in-Ok-clause-crash
returns-in-Ok-clause-crash c = λ image left. (image, tt, Torn-refl c.args.at (length c.args.bytes.now) image)

pub returns-in-Err-clause-crash : goal.returns-in-Err-clause-crash
returns-in-Err-clause-crash c = λ image left. (image, tt, Torn-refl c.args.at (length c.args.bytes.now) image)
