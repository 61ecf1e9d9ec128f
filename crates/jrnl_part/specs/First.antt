-- The header of a new journal, and its first entry.
use Rattle.std.specs.Prelude.{ℕ, List, [], ◌∷◌, ◌++◌, replicate, None}
use Rattle.std.specs.Int.{w32, w64}
use Rattle.avm_num.specs.Lists.{be, one, sized_bytes}
use Rattle.avm_model.specs.Frame.{FrameData}
use Rattle.journal_model.specs.Part.{entry}
use Rattle.journal_model.specs.Header.{journal_magic}
use Rattle.journal_model.specs.Journal.{JournalData}
use Rattle.jrnl_part.specs.Places.{new_header}

-- the header's bytes before its pages
unfoldable pub new_front : List ℕ → List ℕ → List ℕ
new_front key head = journal_magic ++ one 1 ++ key ++ be w64 1 ++ replicate 32 0 ++ be w64 0 ++ sized_bytes (be w32) head

-- BOOT: the count 0 and the root of the state
abbrev pub boot_frame : List ℕ → FrameData
boot_frame root = record { seq = 1; kind = 1; content = be w64 0 ++ root }

-- the journal that has BOOT alone
abbrev pub new_journal : List ℕ → List ℕ → List ℕ → List ℕ → JournalData
new_journal key head pages root = record { header = new_header key head pages; records = (entry (boot_frame root) ∷ []) ∷ []; mark = None }
