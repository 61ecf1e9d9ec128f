-- A pass over items, one after another.
use Rattle.std.specs.Prelude.{◌≡◌, List, [], ◌∷◌}
use Rattle.jrnl_store.specs.Items.{ItemData}

-- the first step takes the first item, and so on
abbrev pub Takes : {S : Type 0} → (S → ItemData → S → Type 0) → S → List ItemData → S → Type 0
Takes step s [] t = s ≡ t
Takes {S} step s (x ∷ xs) t = (u : S) × step s x u × Takes step u xs t
