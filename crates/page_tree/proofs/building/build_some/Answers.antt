use Rattle.std.proofs.Common.{arith, ◌≡◌, ◌+◌, ◌-◌}
use Rattle.page_tree.proofs.Renewals.{build_step}
use Rattle.page_tree.proofs.building.build_some.Goals as goal

pub returns-clause-building : goal.returns-clause-building
returns-clause-building g c =
    let q : c.args.place ≡ c.args.place - 1 + 1 = omega arith in
    rw c.built.ensures (build_step _ _ _ _ (c.args.place - 1) c.args.place (omega arith) q c.requires.building)
