-- Lines that are printed at once.
use Rattle.std.proofs.Common.{◌≡◌, ◌⊎◌, ℕ, List, [], ◌∷◌, ◌++◌, Option, subst, ◌∙◌, append-nil}
use Rattle.std.specs.Prelude.{option_map}
use Rattle.std.specs.List.{concat}
use Rattle.avm_outside.specs.Outside.{Rises, BothTold, AddsFront}
use Rattle.command_parts.specs.Printing.{Printed}

-- what is printed of bytes
abbrev PrintedBytes : List ℕ → ℕ → ℕ → ℕ → Option (List ℕ) → Option (List ℕ) → ℕ → Type 0
PrintedBytes l status before now old new result = ((result ≡ status) × ((now ≡ before) × (new ≡ option_map (λ was. was ++ l) old))) ⊎ ((result ≡ 4) × (Rises before now × BothTold old new (AddsFront l)))

pub printed_as : (text : List ℕ) (lines : List (List ℕ)) (status before now : ℕ) (old new : Option (List ℕ)) (result : ℕ) → text ≡ concat lines → Printed (text ∷ []) status before now old new result → Printed lines status before now old new result
printed_as text lines status before now old new result e p = subst (λ (l : List ℕ). PrintedBytes l status before now old new result) (append-nil text ∙ e) p
