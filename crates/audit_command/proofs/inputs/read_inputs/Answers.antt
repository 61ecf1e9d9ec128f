use Rattle.std.proofs.Common.{◌≡◌, ◌∙◌, None, rules}
use Rattle.avm_script.specs.View.{signed_view, text_view}
use Rattle.audit_command.proofs.Judged.{read_no_beside, read_no_key, read_no_auths, read_all}
use Rattle.audit_command.proofs.inputs.read_inputs.Goals as goal

pub returns-in-Err-clause-read : goal.returns-in-Err-clause-read
returns-in-Err-clause-read g c =
    read_no_beside (text_view c.args.image) (signed_view c.args.signed.now) (g.F.Files.file c.args.files.now) c.in-Err.option (rw c.in-Err.is at c.in_ok-beside.ensures.read)

pub returns-in_default-clause-read : goal.returns-in_default-clause-read
returns-in_default-clause-read g c =
    let is : c.in_ok-key.field-0 ≡ None = search rules in
    read_no_key (text_view c.args.image) (signed_view c.args.signed.now) (g.F.Files.file c.args.files.now) (g.F.Files.file c.read_beside.new.files) c.in-Ok.beside c.read_beside.ensures.same (rw c.in-Ok.is at c.in_ok-beside.ensures.read) (rw is at c.in_ok-key.ensures.key)

pub returns-in_default-2-clause-read : goal.returns-in_default-2-clause-read
returns-in_default-2-clause-read g c =
    let is : c.in_ok-auths.field-0 ≡ None = search rules in
    read_no_auths (text_view c.args.image) (signed_view c.args.signed.now) (g.F.Files.file c.args.files.now) (g.F.Files.file c.read_beside.new.files) (g.F.Files.file c.read_public_key.new.files) c.in-Ok.beside c.in-Some.key c.read_beside.ensures.same (λ n. c.read_public_key.ensures.same n ∙ c.read_beside.ensures.same n) (rw c.in-Ok.is at c.in_ok-beside.ensures.read) (rw c.in-Some.is at c.in_ok-key.ensures.key) (rw is at c.in_ok-auths.ensures.bytes)

pub returns-clause-read : goal.returns-clause-read
returns-clause-read g c =
    read_all (text_view c.args.image) (signed_view c.args.signed.now) (g.F.Files.file c.args.files.now) (g.F.Files.file c.read_beside.new.files) (g.F.Files.file c.read_public_key.new.files) (record { beside = c.in-Ok.beside; key = c.in-Some.key; auths = c.in-Some-2.auths }) c.read_beside.ensures.same (λ n. c.read_public_key.ensures.same n ∙ c.read_beside.ensures.same n) (rw c.in-Ok.is at c.in_ok-beside.ensures.read) (rw c.in-Some.is at c.in_ok-key.ensures.key) (rw c.in-Some-2.is at c.in_ok-auths.ensures.bytes)
