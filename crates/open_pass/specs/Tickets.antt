-- The signed entries among a journal's items.
use Rattle.std.specs.Prelude.{◌≡◌, List, [], ◌∷◌, ◌++◌, Option, Some, None}
use Rattle.avm_model.specs.Frame.{FrameData}
use Rattle.journal_model.specs.Header.{CarriedData}
use Rattle.journal_model.specs.Standing.{SignedData}
use Rattle.jrnl_part.specs.Carriage.{carried_signed}
use Rattle.jrnl_store.specs.Items.{ItemData, carried_item, entry_item, seal_item, keep_item}
use Rattle.record_kept.specs.declared.kept.Kept.{Kept}
use Rattle.record_kept.specs.declared.kept.KeptRow.{KeptRow}

abbrev pub rows_in : Kept → List KeptRow
rows_in k = k.rows

-- an entry with the ticket that signs it
pub record IsOne (f : FrameData) (s : SignedData) (es : List CarriedData) : Type 0 where
  pub entry : CarriedData
  pub only : es ≡ entry ∷ []
  pub frame : entry.frame ≡ f
  pub ticket : carried_signed entry ≡ s

abbrev pub IsTicketed : FrameData → Option SignedData → List CarriedData → Type 0
IsTicketed f None es = es ≡ []
IsTicketed f (Some s) es = IsOne f s es

-- the signed entry that an item is, or none
abbrev pub IsSignedBy : ItemData → List CarriedData → Type 0
IsSignedBy (carried_item f s) es = IsOne f s es
IsSignedBy (entry_item f t) es = IsTicketed f t es
IsSignedBy (seal_item s) es = es ≡ []
IsSignedBy (keep_item k) es = es ≡ []

-- the signed entries among items, in order
abbrev pub AreSignedBy : List ItemData → List CarriedData → Type 0
AreSignedBy [] es = es ≡ []
AreSignedBy (x ∷ xs) es = (a : List CarriedData) × (b : List CarriedData) × (es ≡ a ++ b) × IsSignedBy x a × AreSignedBy xs b
