use Rattle.std.proofs.Common.{◌^◌, option_map}
use Rattle.audit_command.specs.ImageFile.{image_file}
use Rattle.command_parts.proofs.Cuts.{tested_read, tested_missing}
use Rattle.audit_command.proofs.Long.{image_long}
use Rattle.audit_command.proofs.image_file.read_image.Goals as goal

pub returns-in-Some-clause-image : goal.returns-in-Some-clause-image
returns-in-Some-clause-image g c =
    tested_read image_file (2 ^ 25) image_long (g.F.Files.file c.args.files.now c.args.name.now) c.in-Some.bytes.items (option_map (λ v. v.items) c.checked.result) (rw c.in-Some.is at c.in_ok-bytes.ensures.bytes) c.checked.ensures

pub returns-in-None-clause-image : goal.returns-in-None-clause-image
returns-in-None-clause-image g c =
    tested_missing image_file (2 ^ 25) (g.F.Files.file c.args.files.now c.args.name.now) (rw c.in-None.is at c.in_ok-bytes.ensures.bytes)
