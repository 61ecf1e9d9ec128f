use Rattle.std.proofs.Common.{◌≡◌}
use Rattle.std.specs.List.{AllByRecursion}
use Rattle.jrnl_store.specs.Items.{IsLowItem}
use Rattle.rebut_pass.specs.Items.{HasForm}
use Rattle.rebut_pass.proofs.Passes.{Taken}
use Rattle.open_pass.proofs.pass.read_items.Given as goal

abbrev pub invariant-loop-item : goal.invariant-loop-item
invariant-loop-item g l = record {
  can : (goal.iterator-loop-item g).can_next l.left × (goal.iterator-loop-item g).is_finite l.left;
  taken : Taken g.P.Pass.takes l.fn.items l.left l.fn.pass l.pass;
  forms : AllByRecursion HasForm l.left;
  low : AllByRecursion (IsLowItem (g.P.Pass.most l.fn.pass)) l.left;
  stays : g.P.Pass.most l.pass ≡ g.P.Pass.most l.fn.pass;
}
