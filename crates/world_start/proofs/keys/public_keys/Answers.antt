use Rattle.std.proofs.Common.{◌∙◌, List, ℕ, ap, sym, subst, arith, length, map}
use Rattle.std.proofs.lemmas.List.{length-map, take_all}
use Rattle.world_schedule.specs.Read.{node_in}
use Rattle.world_start.specs.Start.{AreKeys, keys_from}
use Rattle.world_start.proofs.Starts.{keys_good, keys_long, keys_next}
use Rattle.world_start.proofs.keys.public_keys.Goals as goal

pub loop-node-preserved : goal.loop-node-preserved
loop-node-preserved c =
    let i = c.loop-node.invariant.counts in
    let lt = c.loop-node-test.true in
    record {
      counts = omega (arith, i, lt, c.requires.few, c.saturating_add-own.ensures);
      so_far = keys_next c.args.nodes.now c.loop-node.node-index c.loop-node.own c.node-item.result c.in_ok-key.key c.loop-node.keys.items c.add_key.new.keys.items lt c.node-item.is i c.loop-node.invariant.so_far c.in_ok-key.ensures c.in_ok-add_key.ensures;
    }

pub returns-clause-value : goal.returns-clause-value
returns-clause-value c =
    c.loop-node.invariant.so_far ∙ ap (λ xs. keys_from 0 (map node_in xs)) (take_all c.loop-node.node-index c.args.nodes.now c.loop-node-test.false)

pub returns-clause-keys : goal.returns-clause-keys
returns-clause-keys c = subst AreKeys (sym (returns-clause-value c)) (keys_good 0 (map node_in c.args.nodes.now))

pub returns-clause-many : goal.returns-clause-many
returns-clause-many c = ap (λ (xs : List (List ℕ)). length xs) (returns-clause-value c) ∙ keys_long 0 (map node_in c.args.nodes.now) ∙ length-map c.args.nodes.now node_in
