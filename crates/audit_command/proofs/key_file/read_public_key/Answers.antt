use Rattle.std.proofs.Common.{option_map}
use Rattle.avm_model.specs.Keys.{public_file}
use Rattle.command_parts.proofs.Cuts.{tested_read}
use Rattle.audit_command.proofs.Long.{key_long}
use Rattle.audit_command.proofs.key_file.read_public_key.Goals as goal

pub returns-in-Some-clause-key : goal.returns-in-Some-clause-key
returns-in-Some-clause-key g c =
    tested_read public_file 56 key_long (g.F.Files.file c.args.files.now c.args.name.now) c.in-Some.bytes.items (option_map (λ k. k) c.public_key.result) (rw c.in-Some.is at c.in_ok-bytes.ensures.bytes) (rw c.deref.ensures.value at c.public_key.ensures)
