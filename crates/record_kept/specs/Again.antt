-- Tickets of a journal's signed entries.
use Rattle.std.specs.Prelude.{◌≡◌, ◌⊎◌, List, [], ◌∷◌}
use Rattle.journal_model.specs.Header.{CarriedData}
use Rattle.journal_model.specs.Journal.{JournalData}
use Rattle.journal_model.specs.Standing.{SignedData}
use Rattle.jrnl_part.specs.Carriage.{carried_signed}
use Rattle.record_model.specs.Released.{signed_entries}

-- an entry is one of these
abbrev pub Among : CarriedData → List CarriedData → Type 0
Among e [] = ⊥
Among e (x ∷ xs) = (x ≡ e) ⊎ Among e xs

-- the ticket of a signed entry of a journal
pub record IsTicketOf (j : JournalData) (t : SignedData) (e : CarriedData) : Type 0 where
  pub among : Among e (signed_entries j)
  pub ticket : carried_signed e ≡ t
