use Rattle.std.specs.Prelude.{option_map}
use Rattle.std.proofs.Common.{refl}
use Rattle.avm_model.specs.Keys.{key_file}
use Rattle.lms_signer.specs.Views.{key_data}
use Rattle.hss_command.proofs.InputLaws.{input_of}
use Rattle.roll_command.proofs.PrivateKeys.{private_long}
use Rattle.roll_command.proofs.inputs.read_private_key.Goals as goal

pub returns-in-Some-clause-key : goal.returns-in-Some-clause-key
returns-in-Some-clause-key g c =
    input_of key_file 61 private_long (g.F.Files.file c.args.files.now c.args.name.now) _ _ (option_map key_data c.read_key.result) refl (rw c.in-Some.is at c.in_ok-bytes.ensures.bytes) (rw c.deref.ensures.value at c.read_key.ensures.value)
