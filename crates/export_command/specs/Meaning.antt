-- What the statuses of an export say.
use Rattle.std.specs.Prelude.{◌≡◌, ◌≢◌, ℕ, List, Option, Some, IfSome}
use Rattle.command_parts.specs.FileMap.{FileMap, SameFiles}
use Rattle.export_model.specs.Exports.{IsExport, exported}
use Rattle.journal_export.specs.Exporting.{HasHead, IsWritten}
use Rattle.journal_model.specs.Journal.{JournalData, Is, journal_of}
use Rattle.export_command.specs.Outcomes.{Asked}

-- the store's bytes stand for a journal whose header has a head, and the file has the segment of its entries, with the state at the first
abbrev pub Wrote : Asked → FileMap → FileMap → List ℕ → Type 0
Wrote a old new was = (j : JournalData) × (journal_of was ≡ Is j) × IsWritten a.from a.to j (old a.segment) (new a.segment)

-- the store's bytes stand for such a journal, and these entries of it are a segment: up to the first of them it replays, and they are in range
pub record CanExport (a : Asked) (was : List ℕ) : Type 0 where
  pub journal : JournalData
  pub stands : journal_of was ≡ Is journal
  pub head : HasHead journal
  pub bytes : List ℕ
  pub export_is : IsExport journal a.from a.to (exported bytes)

-- An export ends with 0 exactly where the store's bytes stand for a journal of which these entries are a segment, but for a fault of the
-- outside and want of memory; and then the file has exactly the segment's bytes. Where it ends with 2 or 5 no file is changed.
pub record ExportMeans (a : Asked) (store : Option (List ℕ)) (old new : FileMap) (result : ℕ) : Type 0 where
  pub exported_is : result ≡ 0 → IfSome store (Wrote a old new)
  pub exports : (was : List ℕ) → store ≡ Some was → CanExport a was → result ≢ 4 → result ≢ 5 → result ≡ 0
  pub refuses : result ≢ 0 → result ≢ 4 → SameFiles old new
