use Rattle.std.proofs.Common.{rules, arith}
use Rattle.lms_signer.specs.Views.{key_data}
use Rattle.lms_signer.proofs.Files.{read_is}
use Rattle.lms_signer.proofs.key_file.spelled_key.Goals as goal

pub returns-then-has_types : goal.returns-then-has_types
returns-then-has_types c =
    read_is c.args.bytes.now (key_data c.fields-key.result) (λ i. omega (arith, c.type_inv.bytes i)) c.if-bytes-ne61.false (search rules) c.fields-key.ensures (c.if-has_types.ensures.0 (search rules))
