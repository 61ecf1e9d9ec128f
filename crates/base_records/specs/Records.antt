-- A journal's records from an entry on, as they stand behind its header.
use Rattle.std.specs.Prelude.{◌≡◌, ℕ, ◌+◌, ◌^◌, ◌<◌, ◌==◌, ◌&&◌, not, nat_le, Bool, true, false, List, [], ◌∷◌, ◌++◌, length, drop, Option, Some, None, is_some}
use Rattle.std.specs.List.{AllByRecursion}
use Rattle.std.specs.Int.{w32}
use Rattle.avm_num.specs.Bytes.{◌>>=◌, byte_at, kept, number_at}
use Rattle.avm_num.specs.Lists.{list_bytes}
use Rattle.base_model.specs.Base.{from_entry, records_from, without_keep}
use Rattle.journal_model.specs.Journal.{longest_record}
use Rattle.journal_model.specs.Part.{Part, entry, seal, keep}
use Rattle.journal_model.specs.Spelling.{mark_bytes, parts_bytes, record_bytes}
use Rattle.journal_spelling.specs.Spelled.{FitsRecord}

abbrev pub is_entry : ℕ → Part → Bool
is_entry n (entry f) = f.seq == n
is_entry n seal = false
is_entry n (keep k) = false

-- records as they stand on a disk
abbrev pub records_bytes : List (List Part) → List ℕ
records_bytes rs = list_bytes (λ ps. record_bytes (parts_bytes ps)) rs

-- Where the entry was found before these records, all of them; else those from it on.
abbrev pub records_on : Bool → ℕ → List (List Part) → List (List Part)
records_on true n rs = rs
records_on false n rs = records_from n rs

-- of one record: whether the entry is found then, and what belongs to the base
abbrev pub found_in : Bool → ℕ → List Part → Bool
found_in true n ps = true
found_in false n ps = is_some (from_entry n ps)

abbrev pub tail_in : Option (List Part) → List (List Part)
tail_in None = []
tail_in (Some qs) = without_keep qs ∷ []

abbrev pub record_on : Bool → ℕ → List Part → List (List Part)
record_on true n ps = ps ∷ []
record_on false n ps = tail_in (from_entry n ps)

-- the size of a record's items by what stands at its gate: it is open, a length within the limit stands there, and no mark
unfoldable pub size_in : List ℕ → Option ℕ
size_in bytes = do
  gate ← byte_at bytes
  size ← number_at w32 gate.1
  tag ← byte_at size.1
  kept (gate.0 == 1 && not (tag.0 == 4) && nat_le size.0 longest_record) size.0

-- Records stand at a place, behind them a mark or none, and then a closed gate.
pub record Stand (at : ℕ) (was : List ℕ) (rs : List (List Part)) : Type 0 where
  pub mark : Option ℕ
  pub gate : ℕ
  pub rest : List ℕ
  pub bytes : drop at was ≡ records_bytes rs ++ (mark_bytes mark ++ gate ∷ rest)
  pub shut : (gate == 1) ≡ false
  pub fit : AllByRecursion FitsRecord rs
  pub below : at + length (records_bytes rs) < 2 ^ 30

-- these bytes are the records from entry n on of those that stand at a place
abbrev pub IsAll : ℕ → ℕ → List ℕ → List ℕ → Type 0
IsAll n at bytes was = (rs : List (List Part)) → Stand at was rs → bytes ≡ records_bytes (records_from n rs)
