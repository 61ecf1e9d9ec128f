use Rattle.std.proofs.Common.{List, ℕ, subst}
use Rattle.avm_auth.specs.Views.{auth_view}
use Rattle.evid_file.specs.Pieces.{Leaves}
use Rattle.evid_file.proofs.Joined.{fork_joined}
use Rattle.evid_file.proofs.writing.write_fork.Goals as goal

pub returns-clause-leaves : goal.returns-clause-leaves
returns-clause-leaves g c =
    let w = rw (c.head-head.ensures, c.position-begin.ensures, c.position-first.ensures, c.position-second.ensures) at c.write_pieces.ensures.leaves in
    subst (λ (b : List ℕ). Leaves c.write_pieces.result b (g.F.Files.file c.args.files.now c.args.name.now) (g.F.Files.file c.write_pieces.new.files c.args.name.now)) (fork_joined c.args.key.now c.args.start c.args.before.now.0 c.args.frames.now (auth_view c.args.top.now) (auth_view c.args.other.now)) w
