-- Items that stand one after another.
use Rattle.std.specs.Prelude.{ℕ, zero, suc, Bool, true, false, List, [], ◌∷◌, length, Option, Some, None}
use Rattle.avm_num.specs.Bytes.{kept}

-- a reader of one item: the item and the bytes behind it, or none
abbrev pub Reader : Type 0 → Type 0
Reader X = List ℕ → Option (X × List ℕ)

abbrev pub walked : {X : Type 0} → Option (X × List ℕ) → List ℕ → (List ℕ → List X × List ℕ) → List X × List ℕ
walked None bytes f = ([], bytes)
walked (Some p) bytes f = (p.0 ∷ (f p.1).0, (f p.1).1)

-- at most n items at the front, and the bytes behind them
abbrev pub walk : {X : Type 0} → Reader X → ℕ → List ℕ → List X × List ℕ
walk read zero bytes = ([], bytes)
walk read (suc n) bytes = walked (read bytes) bytes (walk read n)

-- the items at the front: no item stands behind the last (an item has a byte or more)
unfoldable pub items_of : {X : Type 0} → Reader X → List ℕ → List X
items_of read bytes = (walk read (length bytes) bytes).0

unfoldable pub behind_of : {X : Type 0} → Reader X → List ℕ → List ℕ
behind_of read bytes = (walk read (length bytes) bytes).1

abbrev pub is_nil : List ℕ → Bool
is_nil [] = true
is_nil (b ∷ bytes) = false

-- items and nothing behind them
abbrev pub all_at : {X : Type 0} → Reader X → List ℕ → Option (List X)
all_at read bytes = kept (is_nil (behind_of read bytes)) (items_of read bytes)
