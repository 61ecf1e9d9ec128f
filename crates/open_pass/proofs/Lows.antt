-- The leaves of items are low.
use Rattle.std.proofs.Common.{◌≡◌, ℕ, List, ◌∷◌, sym, subst}
use Rattle.std.specs.Prelude.{All}
use Rattle.std.specs.List.{AllByRecursion}
use Rattle.std.proofs.lemmas.List.Elements.{recursion_from_All}
use Rattle.jrnl_store.specs.Items.{ItemData, IsLowItem}

pub all_low : (most n : ℕ) (xs : List ItemData) → n ≡ most → All (IsLowItem n) xs → AllByRecursion (IsLowItem most) xs
all_low most n xs e h = subst (λ (m : ℕ). AllByRecursion (IsLowItem m) xs) e (recursion_from_All (IsLowItem n) xs h)

pub low_first : (most n : ℕ) (left rest : List ItemData) (x : ItemData) → left ≡ x ∷ rest → most ≡ n → AllByRecursion (IsLowItem n) left → IsLowItem most x
low_first most n left rest x e same h = subst (λ (m : ℕ). IsLowItem m x) (sym same) (subst (AllByRecursion (IsLowItem n)) e h).0

pub low_rest : (n : ℕ) (left rest : List ItemData) (x : ItemData) → left ≡ x ∷ rest → AllByRecursion (IsLowItem n) left → AllByRecursion (IsLowItem n) rest
low_rest n left rest x e h = (subst (AllByRecursion (IsLowItem n)) e h).1
