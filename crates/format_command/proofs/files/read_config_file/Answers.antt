use Rattle.std.proofs.Common.{◌≡◌, rules}
use Rattle.format_command.proofs.Configs.{config_read}
use Rattle.format_command.proofs.Taking.{read_some}
use Rattle.format_command.proofs.files.read_config_file.Goals as goal

pub returns-in-Ok-clause-config : goal.returns-in-Ok-clause-config
returns-in-Ok-clause-config g c =
    let same : c.in-Ok-Some.bytes.items ≡ c.deref.result.now = search rules in
    config_read _ c.deref.result.now c.in-Ok.config (read_some (λ v. v.items) 65536 c.in-Ok-Some.field-0 c.in-Ok-Some.bytes _ c.deref.result.now c.in-Ok-Some.field-0-is same c.in-Ok-Some.ensures.bytes) c.in-Ok.ensures
