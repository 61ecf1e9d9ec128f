use Rattle.std.proofs.Common.{◌≡◌, None, Some, refl, ap, rules}
use Rattle.avm_script.specs.View.{text_view}
use Rattle.audit_command.proofs.Judged.{read_alone, read_no_image, read_image_there}
use Rattle.audit_command.proofs.inputs.read_beside.Goals as goal

pub returns-in_default-clause-read : goal.returns-in_default-clause-read
returns-in_default-clause-read g c =
    let is : c.args.image ≡ None = search rules in
    read_alone (text_view c.args.image) (g.F.Files.file c.args.files.now) (record { image = None }) (ap text_view is) refl

pub returns-in-Some-2-clause-read : goal.returns-in-Some-2-clause-read
returns-in-Some-2-clause-read g c =
    read_image_there (text_view c.args.image) (g.F.Files.file c.args.files.now) c.in-Some.name.now c.in-Some-2.image.items (record { image = Some c.in-Some-2.image }) (ap text_view c.in-Some.is) refl (rw c.in-Some-2.is at c.in_ok-image.ensures.image)

pub returns-in-None-clause-read : goal.returns-in-None-clause-read
returns-in-None-clause-read g c =
    read_no_image (text_view c.args.image) (g.F.Files.file c.args.files.now) c.in-Some.name.now (ap text_view c.in-Some.is) (rw c.in-None.is at c.in_ok-image.ensures.image)
