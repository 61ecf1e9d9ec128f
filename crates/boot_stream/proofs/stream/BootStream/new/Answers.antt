use Rattle.std.proofs.Common.{refl}
use Rattle.seg_file.specs.Coming.{nothing}
use Rattle.boot_stream.proofs.Streamed.{taken_nothing, no_bytes}
use Rattle.boot_stream.proofs.stream.BootStream.new.Goals as goal

pub returns : goal.returns
returns c = record { bytes_are = no_bytes; image_is = refl; by = (nothing, taken_nothing, c.in_ok-reader.ensures, refl) }
