use Rattle.lms_signer.specs.Views.{key_data}
use Rattle.keygen_command.proofs.Runs.{only_four, not_four}
use Rattle.keygen_command.proofs.making.keygen.Goals as goal

pub returns-clause-four : goal.returns-clause-four
returns-clause-four g c =
    only_four (key_data c.args.key) c.args.private_name.now c.args.public_name.now (g.F.Files.file c.args.files.now) (g.F.Files.file c.make_printed.new.files) _ _ _ _ _ _ c.make_printed.result c.make_printed.ensures.ends

pub returns-clause-not_four : goal.returns-clause-not_four
returns-clause-not_four g c =
    not_four (key_data c.args.key) c.args.private_name.now c.args.public_name.now (g.F.Files.file c.args.files.now) (g.F.Files.file c.make_printed.new.files) _ _ _ _ _ _ c.make_printed.result c.make_printed.ensures.ends
