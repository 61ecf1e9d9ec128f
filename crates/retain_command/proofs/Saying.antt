-- What is said of an answer.
use Rattle.std.proofs.Common.{◌≡◌, ◌⊎◌, inl, inr, ℕ, List, [], ◌∷◌, Option, refl, sym, subst}
use Rattle.std.specs.Prelude.{codes, Err}
use Rattle.command_parts.specs.Printing.{line, Printed}
use Rattle.store_move.specs.declared.fault.RetainFault.{RetainFault}
use Rattle.store_move.specs.declared.fault.RetainFault.TheVariants as fault
use Rattle.retain_command.specs.Ends.{Answer, text_of}
use Rattle.retain_command.specs.Outcomes.{HasNumber, IsSaidOf, Says}

pub said_as : (a : ℕ) (f g : RetainFault) (sb sn : ℕ) (old new : Option (List ℕ)) (result : ℕ) → f ≡ g → Says a (Err g) sb sn old new result → (x : Answer) × IsSaidOf (Err f) x × Says a x sb sn old new result
said_as a f g sb sn old new result is says = let same : ◌≡◌ {A = Answer} (Err g) (Err f) = cc in (Err g, inl same, says)

unsaid_as : (a : ℕ) (f g : RetainFault) (sb sn : ℕ) (old new : Option (List ℕ)) (result : ℕ) → HasNumber (Err g) → f ≡ g → Says a (Err fault.NoMemory) sb sn old new result → (x : Answer) × IsSaidOf (Err f) x × Says a x sb sn old new result
unsaid_as a f g sb sn old new result has is says = (Err fault.NoMemory, inr (refl, subst (λ (e : RetainFault). HasNumber (Err e)) (sym is) has), says)

-- the line of a refusal with a number, or that memory is wanted
abbrev pub Refuses : Answer → ℕ → ℕ → Option (List ℕ) → Option (List ℕ) → ℕ → Type 0
Refuses answer sb sn old new result = Printed (line (text_of 0 answer) ∷ []) 2 sb sn old new result ⊎ Printed (line (codes "no memory") ∷ []) 5 sb sn old new result

pub damaged_as : (a : ℕ) (f : RetainFault) (p sb sn : ℕ) (old new : Option (List ℕ)) (result : ℕ) → f ≡ fault.Damaged p → Refuses (Err (fault.Damaged p)) sb sn old new result → (x : Answer) × IsSaidOf (Err f) x × Says a x sb sn old new result
damaged_as a f p sb sn old new result is (inl q) = said_as a f (fault.Damaged p) sb sn old new result is q
damaged_as a f p sb sn old new result is (inr q) = unsaid_as a f (fault.Damaged p) sb sn old new result tt is q

pub journal_as : (a : ℕ) (f : RetainFault) (n sb sn : ℕ) (old new : Option (List ℕ)) (result : ℕ) → f ≡ fault.Unreplayed n → Refuses (Err (fault.Unreplayed n)) sb sn old new result → (x : Answer) × IsSaidOf (Err f) x × Says a x sb sn old new result
journal_as a f n sb sn old new result is (inl q) = said_as a f (fault.Unreplayed n) sb sn old new result is q
journal_as a f n sb sn old new result is (inr q) = unsaid_as a f (fault.Unreplayed n) sb sn old new result tt is q
