-- Saving parts as one record behind a journal (docs/FORMATS.md, "Journal"), and why that is refused.
use Rattle.std.specs.Prelude.{ℕ, ◌+◌, ◌^◌, ◌==◌, ◌&&◌, nat_lt, nat_le, Bool, List, length, Option, Some, None, if◌then◌else◌}
use Rattle.journal_model.specs.Part.{Part, signing}
use Rattle.journal_model.specs.Header.{most_leaves}
use Rattle.journal_model.specs.Journal.{JournalData, used}
use Rattle.journal_model.specs.Spelling.{parts_bytes, front_bytes}

-- the place of the last gate
abbrev pub last_gate : JournalData → ℕ
last_gate j = length (front_bytes j)

-- why a batch isn't saved: it signs and no leaf is left; the next gate would stand at place 2 ^ 30 or behind it
pub data CommitRefusal : Type 0 where
  NoLeaf : CommitRefusal
  NoRoom : CommitRefusal

-- some part of a batch signs
abbrev pub batch_signs : List Part → Bool
batch_signs batch = nat_lt 0 (signing batch)

abbrev pub commit_refusal : JournalData → List Part → Option CommitRefusal
commit_refusal j batch =
    if batch_signs batch && used j == most_leaves j.header.key then Some NoLeaf else
    if nat_le (2 ^ 30) (last_gate j + 5 + length (parts_bytes batch)) then Some NoRoom else None
