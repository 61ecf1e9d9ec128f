use Rattle.std.proofs.Common.{◌≡◌, ℕ, true, List, Some}
use Rattle.avm_num.specs.Lists.{list_at}
use Rattle.journal_model.specs.Header.{CarriedData, carried_at, ascend}
use Rattle.jrnl_part.proofs.header.skip_carried.Given as goal

abbrev pub invariant-loop-left : goal.invariant-loop-left
invariant-loop-left l = record {
  found : (cs : List CarriedData) (rest : List ℕ) → list_at carried_at l.left l.view ≡ Some (cs, rest) → ascend l.seq l.leaf l.first l.leaves cs ≡ true
      → (all : List CarriedData) × (list_at carried_at l.fn.count l.fn.view ≡ Some (all, rest)) × (ascend 0 0 l.first l.leaves all ≡ true);
  left : (all : List CarriedData) (rest : List ℕ) → list_at carried_at l.fn.count l.fn.view ≡ Some (all, rest) → ascend 0 0 l.first l.leaves all ≡ true
      → (cs : List CarriedData) × (list_at carried_at l.left l.view ≡ Some (cs, rest)) × (ascend l.seq l.leaf l.first l.leaves cs ≡ true);
}

abbrev pub decreases-loop-left : goal.decreases-loop-left
decreases-loop-left l = l.left
