use Rattle.std.proofs.Common.{ap}
use Rattle.std.specs.Prelude.{option_map}
use Rattle.lms_signer.specs.Views.{key_data}
use Rattle.record_command.specs.Inputs.{InputNames}
use Rattle.record_command.proofs.Taking.{no_key, no_script, both_read}
use Rattle.record_command.proofs.inputs.read_start.Goals as goal

pub returns-in-Ok-None-clause-read : goal.returns-in-Ok-None-clause-read
returns-in-Ok-None-clause-read g c =
    let names : InputNames = record { key = c.args.key.now; script = c.args.script.now } in
    no_key names (g.F.Files.file c.args.files.now) (option_map key_data c.in-Ok-None.field-0) (ap (option_map key_data) c.in-Ok-None.field-0-is) c.in-Ok-None.ensures.key

pub returns-in-Ok-Some-read_script-clause-read : goal.returns-in-Ok-Some-read_script-clause-read
returns-in-Ok-Some-read_script-clause-read g c =
    let names : InputNames = record { key = c.args.key.now; script = c.args.script.now } in
    both_read names (g.F.Files.file c.args.files.now) (g.F.Files.file c.read_private_key.new.files) (option_map key_data c.in-Ok-Some.field-0) c.in-Ok-Some-read_script.field-0 (record { key = c.in-Ok-Some.key; script = c.in-Ok-Some-read_script.script }) (c.in-Ok-Some.ensures.same c.args.script.now)
    (ap (option_map key_data) c.in-Ok-Some.field-0-is) c.in-Ok-Some-read_script.field-0-is c.in-Ok-Some.ensures.key c.in-Ok-Some-read_script.ensures.script

pub returns-in-Ok-None-read_script-clause-read : goal.returns-in-Ok-None-read_script-clause-read
returns-in-Ok-None-read_script-clause-read g c =
    let names : InputNames = record { key = c.args.key.now; script = c.args.script.now } in
    no_script names (g.F.Files.file c.args.files.now) (g.F.Files.file c.read_private_key.new.files) (option_map key_data c.in-Ok-Some.field-0) (key_data c.in-Ok-Some.key) c.in-Ok-None-read_script.field-0 (c.in-Ok-Some.ensures.same c.args.script.now)
    (ap (option_map key_data) c.in-Ok-Some.field-0-is) c.in-Ok-None-read_script.field-0-is c.in-Ok-Some.ensures.key c.in-Ok-None-read_script.ensures.script
