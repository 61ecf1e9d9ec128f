-- The one spelling of a journal (docs/FORMATS.md, "Journal").
use Rattle.std.specs.Prelude.{ℕ, ◌==◌, List, [], ◌∷◌, ◌++◌, length, Option, Some, None, if◌then◌else◌}
use Rattle.std.specs.Int.{w32, w64}
use Rattle.avm_num.specs.Lists.{be, one, sized_bytes, list_bytes}
use Rattle.avm_model.specs.Frame.{frame_bytes}
use Rattle.journal_model.specs.Part.{Part, entry, seal, keep, KeepData, pages_of}
use Rattle.journal_model.specs.Header.{HeaderData, CarriedData, journal_magic}
use Rattle.journal_model.specs.Journal.{JournalData}

-- ---- the header

unfoldable pub carried_bytes : CarriedData → List ℕ
carried_bytes c = be w64 c.leaf ++ c.before ++ sized_bytes (be w32) (frame_bytes c.frame)

-- what stands behind the pages: nothing where the first entry has number 1, else how many entries are carried, and these
abbrev pub carried_part : HeaderData → List ℕ
carried_part h = if h.first == 1 then [] else one (length h.carried) ++ list_bytes carried_bytes h.carried

abbrev pub version : HeaderData → ℕ
version h = if h.first == 1 then 1 else 2

unfoldable pub header_bytes : HeaderData → List ℕ
header_bytes h =
    journal_magic ++ one (version h) ++ h.key ++ be w64 h.first ++ h.before ++ be w64 h.leaves ++ sized_bytes (be w32) h.head ++ h.pages
    ++ carried_part h

-- ---- parts

unfoldable pub keep_bytes : KeepData → List ℕ
keep_bytes k = be w64 k.seq ++ sized_bytes (be w32) k.head ++ be w32 (length (pages_of k)) ++ k.pages

unfoldable pub part_bytes : Part → List ℕ
part_bytes (entry f) = 1 ∷ frame_bytes f
part_bytes seal = 2 ∷ []
part_bytes (keep k) = 3 ∷ keep_bytes k

-- the items of a record
abbrev pub parts_bytes : List Part → List ℕ
parts_bytes ps = list_bytes part_bytes ps

-- the items of the record that is a mark
abbrev pub mark_items : ℕ → List ℕ
mark_items n = 4 ∷ be w64 n

-- ---- gates

-- an open gate, and a record's items behind it
unfoldable pub record_bytes : List ℕ → List ℕ
record_bytes items = 1 ∷ sized_bytes (be w32) items

abbrev pub mark_bytes : Option ℕ → List ℕ
mark_bytes None = []
mark_bytes (Some n) = record_bytes (mark_items n)

-- the header, the records, and the mark: all that stands before the last gate
unfoldable pub front_bytes : JournalData → List ℕ
front_bytes j = header_bytes j.header ++ list_bytes (λ ps. record_bytes (parts_bytes ps)) j.records ++ mark_bytes j.mark

-- and the last gate, closed
unfoldable pub spelled : JournalData → List ℕ
spelled j = front_bytes j ++ 0 ∷ []
