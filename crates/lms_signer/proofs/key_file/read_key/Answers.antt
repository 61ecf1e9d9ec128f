use Rattle.std.proofs.Common.{arith}
use Rattle.std.specs.Option.{option_map}
use Rattle.avm_model.specs.Keys.{key_file}
use Rattle.lms_signer.specs.Views.{key_data}
use Rattle.lms_signer.proofs.Files.{key_file-is, key_once}
use Rattle.lms_signer.proofs.key_file.read_key.Goals as goal

pub returns-clause-value : goal.returns-clause-value
returns-clause-value c =
    key_once (option_map key_data c.spelled_key.result) (key_file c.args.bytes.now) c.args.bytes.now c.spelled_key.ensures (key_file-is c.args.bytes.now (λ i. omega (arith, c.type_inv.bytes i)))
