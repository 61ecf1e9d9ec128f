use Rattle.std.proofs.Common.{◌≡◌, ◌^◌, None, Some, refl, rules}
use Rattle.record_command.proofs.FileReads.{script_read, read_none, read_some}
use Rattle.record_command.proofs.files.read_script.Goals as goal

pub returns-in-Ok-clause-script : goal.returns-in-Ok-clause-script
returns-in-Ok-clause-script g c =
    let same : c.in-Ok-Some.bytes.items ≡ c.deref.result.now = search rules in
    script_read _ (Some c.deref.result.now) c.in-Ok.script (read_some (λ v. v.items) (2 ^ 26) c.in-Ok-Some.field-0 c.in-Ok-Some.bytes _ c.deref.result.now c.in-Ok-Some.field-0-is same c.in-Ok-Some.ensures.bytes) c.in-Ok.ensures

pub returns-in-Ok-None-clause-script : goal.returns-in-Ok-None-clause-script
returns-in-Ok-None-clause-script g c =
    script_read _ None None (read_none (λ v. v.items) (2 ^ 26) c.in-Ok-None.field-0 _ c.in-Ok-None.field-0-is c.in-Ok-None.ensures.bytes) refl
