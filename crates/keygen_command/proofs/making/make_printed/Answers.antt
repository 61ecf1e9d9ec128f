use Rattle.lms_signer.specs.Views.{key_data}
use Rattle.keygen_command.proofs.Runs.{run_ends}
use Rattle.keygen_command.proofs.making.make_printed.Goals as goal

pub returns-clause-ends : goal.returns-clause-ends
returns-clause-ends g c =
    let e = c.make-made.ensures in
    let p = c.print_made.ensures in
    run_ends (key_data c.args.key) c.args.private_name.now c.args.public_name.now (g.F.Files.file c.args.files.now) (g.F.Files.file c.make-made.new.files) c.make-made.result _ _ _ _ _ _ c.print_made.result (record { made = e.made; left = e.left; same = e.no_memory; faulted = e.fault; no_fault = e.no_fault }) (record { made = p.made; memory = p.memory; files = p.files })
