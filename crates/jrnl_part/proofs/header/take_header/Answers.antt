use Rattle.journal_model.proofs.Locals.{main_fields}
use Rattle.jrnl_part.specs.Views.{main_view}
use Rattle.jrnl_part.proofs.CarriedLaws.{no_magic, no_version, no_main, no_rest, a_header}
use Rattle.jrnl_part.proofs.header.take_header.Goals as goal

pub returns-in_default-clause-value : goal.returns-in_default-clause-value
returns-in_default-clause-value c = no_magic c.args.view.now c.in_default.ensures.0

pub returns-in_default-take_u8-clause-value : goal.returns-in_default-take_u8-clause-value
returns-in_default-take_u8-clause-value c = no_version c.args.view.now _ c.in-Some.ensures c.in_default-take_u8.ensures.0

pub returns-in_default-take_main-clause-value : goal.returns-in_default-take_main-clause-value
returns-in_default-take_main-clause-value c = no_main c.args.view.now _ c.in-Some-take_u8.version _ c.in-Some.ensures c.in-Some-take_u8.ensures c.in_default-take_main.ensures.0

pub returns-then-not-take_version-clause-value : goal.returns-then-not-take_version-clause-value
returns-then-not-take_version-clause-value c =
    no_rest c.args.view.now _ _ c.in-Some-take_u8.version (main_view c.in-Some-take_main.main) _ c.in-Some.ensures c.in-Some-take_u8.ensures c.in-Some-take_main.ensures c.if-not-take_version.ensures.value

pub returns-clause-value : goal.returns-clause-value
returns-clause-value c =
    let v = c.if-not-take_version.ensures.value in
    (v.0, a_header c.args.view.now _ _ _ c.in-Some-take_u8.version (main_view c.in-Some-take_main.main) _ _ c.in-Some.ensures c.in-Some-take_u8.ensures c.in-Some-take_main.ensures v.1)

pub returns-clause-main : goal.returns-clause-main
returns-clause-main c = let f = main_fields _ _ c.in-Some-take_main.ensures in record { head = f.head; pages = f.pages; key = f.key; leaves = f.leaves }
