-- What is listed of a store, and what is refused.
use Rattle.std.specs.Prelude.{◌≡◌, ◌⊎◌, ℕ, List, [], ◌∷◌, ◌++◌, map, Option, None, IfSome, IsSome, Result, Ok, Err}
use Rattle.avm_model.specs.HeadReading.{head_of}
use Rattle.avm_outside.specs.Outside.{Rises}
use Rattle.command_parts.specs.Printing.{line, Prints, PrintsCut}
use Rattle.command_parts.specs.declared.fault.Fault.{Fault}
use Rattle.command_parts.specs.declared.fault.Fault.TheVariants.{NoMemory, Files, Disk, Sink}
use Rattle.journal_model.specs.Journal.{JournalData, journal_of, ended, Is, NoStore, Damaged}
use Rattle.jrnl_store.specs.Items.{ItemData, carried_item, entry_item, seal_item, keep_item, items_in}
use Rattle.jrnl_store.specs.Kept.{Kept}
use Rattle.jrnl_store.specs.Own.{IsAt}
use Rattle.list_model.specs.Lines.{entry_line, seal_line, mark_lines, journal_lines}
use Rattle.jrnl_store.specs.declared.fault.StoreFault.{StoreFault}
use Rattle.jrnl_store.specs.declared.fault.StoreFault.TheVariants as store
use Rattle.list_command.specs.declared.ends.End.{End}
use Rattle.list_command.specs.declared.ends.End.TheVariants.{Listed, RefusedNoStore, RefusedDamaged}

-- the lines of a journal as they are printed
unfoldable pub listing : JournalData → List (List ℕ)
listing j = map line (journal_lines j)

-- ---- of items that are read

-- an entry and a seal have a line, a carried entry and a keep none
abbrev pub item_lines : ItemData → List (List ℕ)
item_lines (carried_item f s) = []
item_lines (entry_item f t) = line (entry_line f) ∷ []
item_lines (seal_item s) = line (seal_line s.seq) ∷ []
item_lines (keep_item k) = []

abbrev pub items_lines : List ItemData → List (List ℕ)
items_lines [] = []
items_lines (x ∷ xs) = item_lines x ++ items_lines xs

-- the lines of all items
unfoldable pub all_items : JournalData → List (List ℕ)
all_items j = items_lines (items_in j)

-- and that of the mark
abbrev pub all_lines : JournalData → List (List ℕ)
all_lines j = all_items j ++ map line (mark_lines j.mark)

-- these are all lines of the journal that the value keeps
abbrev pub AreAll : (JournalData → List (List ℕ)) → Kept → List (List ℕ) → List ℕ → Type 0
AreAll all k lines was = (j : JournalData) → IsAt k was j → ended j ≡ Is j → all j ≡ lines

-- these are the first of them
abbrev pub AreFirst : (JournalData → List (List ℕ)) → Kept → List (List ℕ) → List ℕ → Type 0
AreFirst all k lines was = (j : JournalData) → IsAt k was j → ended j ≡ Is j → (rest : List (List ℕ)) × (all j ≡ lines ++ rest)

-- what printing the lines of a journal leaves
abbrev pub PrintsOf : (JournalData → List (List ℕ)) → Kept → Option (List ℕ) → Result (Unit {0}) Fault → ℕ → ℕ → Option (List ℕ) → Option (List ℕ) → Type 0
PrintsOf all k told (Ok t) before now old new = (lines : List (List ℕ)) × IfSome told (AreAll all k lines) × Prints lines before now old new
PrintsOf all k told (Err NoMemory) before now old new = (lines : List (List ℕ)) × IfSome told (AreFirst all k lines) × Prints lines before now old new
PrintsOf all k told (Err Disk) before now old new = (lines : List (List ℕ)) × IfSome told (AreFirst all k lines) × Prints lines before now old new
PrintsOf all k told (Err Sink) before now old new = (lines : List (List ℕ)) × IfSome told (AreFirst all k lines) × PrintsCut lines before now old new
PrintsOf all k told (Err Files) before now old new = ⊥

-- ---- of a store

-- the value keeps the journal that the bytes stand for
pub record IsOpened (k : Kept) (was : List ℕ) : Type 0 where
  pub journal : JournalData
  pub is : journal_of was ≡ Is journal
  pub at : IsAt k was journal
  pub begun : ended journal ≡ Is journal

-- the bytes stand for a journal whose header has a head
pub record IsListed (was : List ℕ) (j : JournalData) : Type 0 where
  pub is : journal_of was ≡ Is j
  pub head : IsSome (head_of j.header.head)

abbrev pub IsListing : List ℕ → List (List ℕ) → Type 0
IsListing was lines = (j : JournalData) × IsListed was j × (listing j ≡ lines)

-- the first lines of a listing, or nothing
abbrev pub BeginsListing : List ℕ → List (List ℕ) → Type 0
BeginsListing was lines = (lines ≡ []) ⊎ ((rest : List (List ℕ)) × IsListing was (lines ++ rest))

-- no journal, or one whose header has no head
abbrev pub IsNoStore : List ℕ → Type 0
IsNoStore was = (journal_of was ≡ NoStore) ⊎ ((j : JournalData) × (journal_of was ≡ Is j) × (head_of j.header.head ≡ None))

abbrev pub Refuses : List ℕ → End → Type 0
Refuses was Listed = ⊥
Refuses was RefusedNoStore = IsNoStore was
Refuses was (RefusedDamaged p) = journal_of was ≡ Damaged p

-- how the showing ends, and what it prints
abbrev pub Leaves : Option (List ℕ) → Result End Fault → ℕ → ℕ → Option (List ℕ) → Option (List ℕ) → Type 0
Leaves told (Ok Listed) before now old new = (lines : List (List ℕ)) × IfSome told (λ was. IsListing was lines) × Prints lines before now old new
Leaves told (Ok e) before now old new = IfSome told (λ was. Refuses was e) × Prints [] before now old new
Leaves told (Err NoMemory) before now old new = (lines : List (List ℕ)) × IfSome told (λ was. BeginsListing was lines) × Prints lines before now old new
Leaves told (Err Disk) before now old new = (lines : List (List ℕ)) × IfSome told (λ was. BeginsListing was lines) × Prints lines before now old new
Leaves told (Err Sink) before now old new = (lines : List (List ℕ)) × IfSome told (λ was. IsListing was lines) × PrintsCut lines before now old new
Leaves told (Err Files) before now old new = ⊥

-- the count of the disk's faults rises where a call on it failed, and else stays
abbrev pub CountsDisk : {T : Type 0} → ℕ → ℕ → Result T Fault → Type 0
CountsDisk before now (Ok t) = now ≡ before
CountsDisk before now (Err NoMemory) = now ≡ before
CountsDisk before now (Err Files) = now ≡ before
CountsDisk before now (Err Disk) = Rises before now
CountsDisk before now (Err Sink) = now ≡ before

-- why a call on the store ends without an answer
abbrev pub IsOfStore : Fault → Type 0
IsOfStore NoMemory = Unit {0}
IsOfStore Files = ⊥
IsOfStore Disk = Unit {0}
IsOfStore Sink = ⊥

-- why a store can't be opened, as an end
abbrev pub refusal_of : StoreFault → Result End Fault
refusal_of store.NoMemory = Err NoMemory
refusal_of store.DiskFault = Err Disk
refusal_of (store.Damaged p) = Ok (RefusedDamaged p)
refusal_of e = Ok RefusedNoStore
