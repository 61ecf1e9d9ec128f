use Rattle.std.proofs.Common.{length}
use Rattle.avm_outside.proofs.Tears.{Torn-refl}
use Rattle.avm_outside.proofs.no_disk.NoDiskDisk.write_at.Goals as goal

pub returns-clause-crash : goal.returns-clause-crash
returns-clause-crash c = λ image left. (image, tt, Torn-refl c.args._at (length c.args._bytes.now) image)
