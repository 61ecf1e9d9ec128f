use Rattle.std.proofs.Common.{◌≡◌, Some, rules}
use Rattle.std.specs.Prelude.{option_map}
use Rattle.lms_signer.specs.Views.{key_data}
use Rattle.record_command.proofs.FileReads.{key_read, read_some}
use Rattle.record_command.proofs.files.read_private_key.Goals as goal

pub returns-in-Ok-Some-clause-key : goal.returns-in-Ok-Some-clause-key
returns-in-Ok-Some-clause-key g c =
    let same : c.in-Ok-Some.bytes.items ≡ c.deref.result.now = search rules in
    key_read _ (Some c.deref.result.now) (option_map key_data c.key_of.result) (read_some (λ v. v.items) 61 c.in-Ok-Some.field-0 c.in-Ok-Some.bytes _ c.deref.result.now c.in-Ok-Some.field-0-is same c.in-Ok-Some.ensures.bytes) c.key_of.ensures.value
