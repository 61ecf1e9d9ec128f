use Rattle.std.proofs.Common.{List, ℕ, subst}
use Rattle.avm_auth.specs.Views.{auth_view}
use Rattle.evid_file.specs.Pieces.{Leaves}
use Rattle.evid_file.proofs.Joined.{double_joined}
use Rattle.evid_file.proofs.writing.write_double.Goals as goal

pub returns-clause-leaves : goal.returns-clause-leaves
returns-clause-leaves g c =
    let w = rw (c.head-head.ensures, c.position-first.ensures, c.position-second.ensures) at c.write_pieces.ensures.leaves in
    subst (λ (b : List ℕ). Leaves c.write_pieces.result b (g.F.Files.file c.args.files.now c.args.name.now) (g.F.Files.file c.write_pieces.new.files c.args.name.now)) (double_joined c.args.key.now (auth_view c.args.a.now) (auth_view c.args.b.now)) w
