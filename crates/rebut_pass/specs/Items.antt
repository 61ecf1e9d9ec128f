-- The entries and the tickets among a journal's items.
use Rattle.std.specs.Prelude.{List, [], ◌∷◌, ◌++◌, Option, Some, None, IsSome}
use Rattle.avm_model.specs.Content.{content_at}
use Rattle.avm_model.specs.Frame.{FrameData}
use Rattle.journal_model.specs.Standing.{SignedData}
use Rattle.jrnl_store.specs.Items.{ItemData, carried_item, entry_item, seal_item, keep_item}

-- an item's entry; a carried one is an earlier journal's
abbrev pub frame_in : ItemData → List FrameData
frame_in (carried_item f s) = []
frame_in (entry_item f t) = f ∷ []
frame_in (seal_item s) = []
frame_in (keep_item k) = []

abbrev pub frames_of_items : List ItemData → List FrameData
frames_of_items [] = []
frames_of_items (x ∷ xs) = frame_in x ++ frames_of_items xs

abbrev pub listed : Option SignedData → List SignedData
listed None = []
listed (Some s) = s ∷ []

-- an item's ticket
abbrev pub ticket_in : ItemData → List SignedData
ticket_in (carried_item f s) = []
ticket_in (entry_item f t) = listed t
ticket_in (seal_item s) = s ∷ []
ticket_in (keep_item k) = []

abbrev pub tickets_of_items : List ItemData → List SignedData
tickets_of_items [] = []
tickets_of_items (x ∷ xs) = ticket_in x ++ tickets_of_items xs

-- an entry has the form of its kind
abbrev pub HasForm : ItemData → Type 0
HasForm (carried_item f s) = Unit {0}
HasForm (entry_item f t) = IsSome (content_at f.kind f.content)
HasForm (seal_item s) = Unit {0}
HasForm (keep_item k) = Unit {0}
