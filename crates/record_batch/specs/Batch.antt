-- A batch that isn't saved yet.
use Rattle.std.specs.Prelude.{◌≡◌, ℕ, ◌+◌, ◌≤◌, true, is_some, List, ◌∷◌, [], ◌++◌, length}
use Rattle.avm_num.specs.Room.{Buffer}
use Rattle.avm_num.specs.Walk.{all_at}
use Rattle.journal_model.specs.Part.{Part, part_at}
use Rattle.journal_model.specs.Journal.{longest_record}
use Rattle.journal_model.specs.Spelling.{parts_bytes}

-- its parts, and the number that the next entry gets
pub record BatchData : Type 0 where
  pub parts : List Part
  pub next : ℕ

-- how many bytes its parts have: shut, so that sums of it stay sums
unfoldable pub batch_size : BatchData → ℕ
batch_size b = length (parts_bytes b.parts)

-- so many more bytes have a place in a record
abbrev pub HasPlace : ℕ → BatchData → Type 0
HasPlace n b = batch_size b + n ≤ longest_record

-- one part more, of a number of entries
abbrev pub with_part : BatchData → Part → ℕ → BatchData
with_part b p entries = record { parts = b.parts ++ p ∷ []; next = b.next + entries }

-- the buffer holds whole parts and has a record's capacity
abbrev pub IsWhole : Buffer → Type 0
IsWhole room = (is_some (all_at part_at room.bytes) ≡ true) × (room.capacity ≡ longest_record)
