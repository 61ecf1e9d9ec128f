use Rattle.std.proofs.Common.{option_map, refl}
use Rattle.hss_command.specs.Inputs.{public_key_in}
use Rattle.hss_command.proofs.InputLaws.{input_of, key_long}
use Rattle.hss_command.proofs.inputs.read_public_key.Goals as goal

pub returns-in-Some-clause-key : goal.returns-in-Some-clause-key
returns-in-Some-clause-key g c =
    input_of public_key_in 56 key_long (g.F.Files.file c.args.files.now c.args.name.now) _ _ (option_map (λ k. k) c.public_key.result) refl (rw c.in-Some.is at c.in_ok-bytes.ensures.bytes) (rw c.deref.ensures.value at c.public_key.ensures.key)
