-- What holds of every header and of every journal that bytes stand for (docs/FORMATS.md, "Journal").
use Rattle.std.specs.Prelude.{◌≡◌, ℕ, ◌*◌, ◌≤◌, ◌⊎◌, true, List, ◌∷◌, length, Some, None}
use Rattle.journal_model.specs.Part.{Part, longest_head}
use Rattle.journal_model.specs.Header.{HeaderData, is_store_key, most_leaves, pages_in, is_first, is_base}
use Rattle.journal_model.specs.Journal.{JournalData, parts, used, page_count_of, follows}

-- A key of 56 bytes and its types, a hash of 32 bytes, no more leaves than the key has, a head within its limit, as many pages as
-- it says, and what either version asks for.
pub record FitsHeader (h : HeaderData) : Type 0 where
  pub key : length h.key ≡ 56
  pub types : is_store_key h.key ≡ true
  pub before : length h.before ≡ 32
  pub leaves : h.leaves ≤ most_leaves h.key
  pub head : length h.head ≤ longest_head
  pub pages : (n : ℕ) × (pages_in h.head ≡ Some n) × (length h.pages ≡ 4096 * n)
  pub version : (is_first h ≡ true) ⊎ (is_base h ≡ true)

-- There is a part, the parts of all records follow one another from the header's number on, and the leaves suffice.
pub record FitsJournal (j : JournalData) : Type 0 where
  pub header : FitsHeader j.header
  pub some : (p : Part) × (ps : List Part) × (parts j ≡ p ∷ ps)
  pub whole : follows j.header.first (page_count_of j) j.header.first None (parts j) ≡ true
  pub leaves : used j ≤ most_leaves j.header.key
