use Rattle.std.proofs.Common.{◌≡◌, List, None, Some, length, refl, sym, ap, subst, ◌∙◌}
use Rattle.world_core.proofs.Steps.{AllRun, join_runs, not_some}
use Rattle.world_core.specs.Joining.{place_of_clash, place_of_id}
use Rattle.world_core.specs.declared.node.Node.{Node}
use Rattle.world_core.proofs.world.World.join.Goals as goal

pub returns-in-Some-clause-joins : goal.returns-in-Some-clause-joins
returns-in-Some-clause-joins c =
    (c.in-Ok.node, c.in-Ok.ensures.opens, subst (λ (ns : List Node). place_of_id ns c.in-Ok.node.own ≡ Some c.in-Some.other) c.deref.ensures.value (sym c.same_id.ensures.value ∙ c.in-Some.is), record { nodes = refl; pool = refl; events = refl })

pub returns-in-Some-other_key-clause-joins : goal.returns-in-Some-other_key-clause-joins
returns-in-Some-other_key-clause-joins c =
    let none : place_of_id c.deref.result.now c.in-Ok.node.own ≡ None = not_some _ (λ x q. c.in_default.not-Some x (c.same_id.ensures.value ∙ q)) in (
      c.in-Ok.node,
      c.in-Ok.ensures.opens,
      subst (λ (ns : List Node). place_of_id ns c.in-Ok.node.own ≡ None) c.deref.ensures.value none,
      subst (λ (ns : List Node). place_of_clash ns c.in-Ok.node ≡ Some c.in-Some-other_key.other) c.deref-2.ensures.value (sym c.other_key.ensures.value ∙ c.in-Some-other_key.is),
      record { nodes = refl; pool = refl; events = refl },
    )

pub returns-then-add-clause-joins : goal.returns-then-add-clause-joins
returns-then-add-clause-joins c =
    let own : place_of_id c.deref.result.now c.in-Ok.node.own ≡ None = not_some _ (λ x q. c.in_default.not-Some x (c.same_id.ensures.value ∙ q)) in
    let keys : place_of_clash c.deref-2.result.now c.in-Ok.node ≡ None = not_some _ (λ x q. c.in_default-other_key.not-Some x (c.other_key.ensures.value ∙ q)) in (
      c.len-number.ensures ∙ sym c.deref.ensures.len ∙ ap (λ (ns : List Node). length ns) c.deref.ensures.value,
      c.in-Ok.node,
      c.in-Ok.ensures.opens,
      subst (λ (ns : List Node). place_of_id ns c.in-Ok.node.own ≡ None) c.deref.ensures.value own,
      subst (λ (ns : List Node). place_of_clash ns c.in-Ok.node ≡ None) c.deref-2.ensures.value keys,
      c.add.ensures.added c.if-add.true,
      refl,
      refl,
    )

pub returns-then-add-clause-world : goal.returns-then-add-clause-world
returns-then-add-clause-world c = subst AllRun (sym (c.add.ensures.added c.if-add.true)) (join_runs c.args.self.now.nodes.items c.in-Ok.node c.requires.world c.in-Ok.ensures.runs)
