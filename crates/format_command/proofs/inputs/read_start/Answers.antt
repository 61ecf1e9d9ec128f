use Rattle.std.proofs.Common.{◌≡◌, ◌∙◌, ◌^◌, Option, ap, subst, rules}
use Rattle.std.specs.Prelude.{option_map, MatchOption}
use Rattle.avm_script.specs.ConfigView.{config_view}
use Rattle.lms_signer.specs.Views.{key_data}
use Rattle.format_command.specs.Booting.{IsNoImage}
use Rattle.format_command.specs.Booted.{IsBootOf}
use Rattle.format_command.specs.Inputs.{Names}
use Rattle.format_command.specs.declared.boot.Boot.{Boot}
use Rattle.format_command.proofs.Configs.{found_ready}
use Rattle.format_command.proofs.Taking.{no_key, no_config, both, image_missing, image_refused, all_taken, read_some, read_none}
use Rattle.format_command.proofs.inputs.read_start.Goals as goal

pub returns-in-Ok-None-clause-read : goal.returns-in-Ok-None-clause-read
returns-in-Ok-None-clause-read g c =
    let names : Names = record { key = c.args.key.now; config = c.args.config.now; image = c.args.image.now } in
    no_key names (g.F.Files.file c.args.files.now) (option_map key_data c.in-Ok-None.field-0) (ap (option_map key_data) c.in-Ok-None.field-0-is) c.in-Ok-None.ensures.key

pub returns-in-Ok-None-read_config_file-clause-read : goal.returns-in-Ok-None-read_config_file-clause-read
returns-in-Ok-None-read_config_file-clause-read g c =
    let names : Names = record { key = c.args.key.now; config = c.args.config.now; image = c.args.image.now } in
    no_config names (g.F.Files.file c.args.files.now) (g.F.Files.file c.read_private_key.new.files) (option_map key_data c.in-Ok-Some.field-0) (key_data c.in-Ok-Some.key) (option_map config_view c.in-Ok-None-read_config_file.field-0) (c.in-Ok-Some.ensures.same c.args.config.now)
    (ap (option_map key_data) c.in-Ok-Some.field-0-is) (ap (option_map config_view) c.in-Ok-None-read_config_file.field-0-is) c.in-Ok-Some.ensures.key c.in-Ok-None-read_config_file.ensures.config

pub returns-in-Ok-None-read_file-clause-read : goal.returns-in-Ok-None-read_file-clause-read
returns-in-Ok-None-read_file-clause-read g c =
    let names : Names = record { key = c.args.key.now; config = c.args.config.now; image = c.args.image.now } in
    let b = both names (g.F.Files.file c.args.files.now) (g.F.Files.file c.read_private_key.new.files) (option_map key_data c.in-Ok-Some.field-0) (key_data c.in-Ok-Some.key) (option_map config_view c.in-Ok-Some-read_config_file.field-0) (config_view c.in-Ok-Some-read_config_file.config) (c.in-Ok-Some.ensures.same c.args.config.now)
    (ap (option_map key_data) c.in-Ok-Some.field-0-is) (ap (option_map config_view) c.in-Ok-Some-read_config_file.field-0-is) c.in-Ok-Some.ensures.key c.in-Ok-Some-read_config_file.ensures.config in
    image_missing names (g.F.Files.file c.args.files.now) (g.F.Files.file c.read_config_file.new.files) (key_data c.in-Ok-Some.key) (config_view c.in-Ok-Some-read_config_file.config) (c.in-Ok-Some-read_config_file.ensures.same c.args.image.now ∙ c.in-Ok-Some.ensures.same c.args.image.now) b
    (read_none (λ v. v.items) (2 ^ 25) c.in-Ok-None-read_file.field-0 _ c.in-Ok-None-read_file.field-0-is c.in-Ok-None-read_file.ensures.bytes)

pub boot_machine-requires : goal.boot_machine-requires
boot_machine-requires g c =
    let names : Names = record { key = c.args.key.now; config = c.args.config.now; image = c.args.image.now } in
    let b = both names (g.F.Files.file c.args.files.now) (g.F.Files.file c.read_private_key.new.files) (option_map key_data c.in-Ok-Some.field-0) (key_data c.in-Ok-Some.key) (option_map config_view c.in-Ok-Some-read_config_file.field-0) (config_view c.in-Ok-Some-read_config_file.config) (c.in-Ok-Some.ensures.same c.args.config.now)
    (ap (option_map key_data) c.in-Ok-Some.field-0-is) (ap (option_map config_view) c.in-Ok-Some-read_config_file.field-0-is) c.in-Ok-Some.ensures.key c.in-Ok-Some-read_config_file.ensures.config in
    record { ready = found_ready b.config.0 (config_view c.in-Ok-Some-read_config_file.config) b.config.2 }

pub returns-in-Ok-Some-boot_machine-clause-read : goal.returns-in-Ok-Some-boot_machine-clause-read
returns-in-Ok-Some-boot_machine-clause-read g c =
    let names : Names = record { key = c.args.key.now; config = c.args.config.now; image = c.args.image.now } in
    let b = both names (g.F.Files.file c.args.files.now) (g.F.Files.file c.read_private_key.new.files) (option_map key_data c.in-Ok-Some.field-0) (key_data c.in-Ok-Some.key) (option_map config_view c.in-Ok-Some-read_config_file.field-0) (config_view c.in-Ok-Some-read_config_file.config) (c.in-Ok-Some.ensures.same c.args.config.now)
    (ap (option_map key_data) c.in-Ok-Some.field-0-is) (ap (option_map config_view) c.in-Ok-Some-read_config_file.field-0-is) c.in-Ok-Some.ensures.key c.in-Ok-Some-read_config_file.ensures.config in
    let same : c.in-Ok-Some-read_file.bytes.items ≡ c.deref.result.now = search rules in
    let got : IsBootOf (config_view c.in-Ok-Some-read_config_file.config) c.deref.result.now c.in-Ok-Some-boot_machine.boot = subst (λ (o : Option Boot). MatchOption o (IsNoImage (config_view c.in-Ok-Some-read_config_file.config) c.deref.result.now) (IsBootOf (config_view c.in-Ok-Some-read_config_file.config) c.deref.result.now)) c.in-Ok-Some-boot_machine.field-0-is c.in-Ok-Some-boot_machine.ensures in
    all_taken names (g.F.Files.file c.args.files.now) (g.F.Files.file c.read_config_file.new.files) (config_view c.in-Ok-Some-read_config_file.config) c.deref.result.now (record { key = c.in-Ok-Some.key; boot = c.in-Ok-Some-boot_machine.boot }) (c.in-Ok-Some-read_config_file.ensures.same c.args.image.now ∙ c.in-Ok-Some.ensures.same c.args.image.now) b
    (read_some (λ v. v.items) (2 ^ 25) c.in-Ok-Some-read_file.field-0 c.in-Ok-Some-read_file.bytes _ c.deref.result.now c.in-Ok-Some-read_file.field-0-is same c.in-Ok-Some-read_file.ensures.bytes) got.boots

pub returns-in-Ok-Some-boot_machine-clause-same : goal.returns-in-Ok-Some-boot_machine-clause-same
returns-in-Ok-Some-boot_machine-clause-same g c = λ n. c.in-Ok-Some-read_file.ensures.same n ∙ c.in-Ok-Some-read_config_file.ensures.same n ∙ c.in-Ok-Some.ensures.same n

pub returns-in-Ok-None-boot_machine-clause-read : goal.returns-in-Ok-None-boot_machine-clause-read
returns-in-Ok-None-boot_machine-clause-read g c =
    let names : Names = record { key = c.args.key.now; config = c.args.config.now; image = c.args.image.now } in
    let b = both names (g.F.Files.file c.args.files.now) (g.F.Files.file c.read_private_key.new.files) (option_map key_data c.in-Ok-Some.field-0) (key_data c.in-Ok-Some.key) (option_map config_view c.in-Ok-Some-read_config_file.field-0) (config_view c.in-Ok-Some-read_config_file.config) (c.in-Ok-Some.ensures.same c.args.config.now)
    (ap (option_map key_data) c.in-Ok-Some.field-0-is) (ap (option_map config_view) c.in-Ok-Some-read_config_file.field-0-is) c.in-Ok-Some.ensures.key c.in-Ok-Some-read_config_file.ensures.config in
    let same : c.in-Ok-Some-read_file.bytes.items ≡ c.deref.result.now = search rules in
    let none : IsNoImage (config_view c.in-Ok-Some-read_config_file.config) c.deref.result.now = subst (λ (o : Option Boot). MatchOption o (IsNoImage (config_view c.in-Ok-Some-read_config_file.config) c.deref.result.now) (IsBootOf (config_view c.in-Ok-Some-read_config_file.config) c.deref.result.now)) c.in-Ok-None-boot_machine.field-0-is c.in-Ok-None-boot_machine.ensures in
    image_refused names (g.F.Files.file c.args.files.now) (g.F.Files.file c.read_config_file.new.files) (key_data c.in-Ok-Some.key) (config_view c.in-Ok-Some-read_config_file.config) c.deref.result.now (c.in-Ok-Some-read_config_file.ensures.same c.args.image.now ∙ c.in-Ok-Some.ensures.same c.args.image.now) b
    (read_some (λ v. v.items) (2 ^ 25) c.in-Ok-Some-read_file.field-0 c.in-Ok-Some-read_file.bytes _ c.deref.result.now c.in-Ok-Some-read_file.field-0-is same c.in-Ok-Some-read_file.ensures.bytes) none
