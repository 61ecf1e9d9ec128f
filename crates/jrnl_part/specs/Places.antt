-- Where the fields of a header stand.
use Rattle.std.specs.Prelude.{◌≡◌, ◌⊎◌, ℕ, ◌+◌, ◌*◌, ◌==◌, true, false, List, [], length, take, drop, replicate, Some}
use Rattle.journal_model.specs.Header.{HeaderData, pages_in, judged_carried}

-- The fields of both versions: the head behind so many bytes, the pages behind it, and then what is left.
pub record Stands (h : HeaderData) (at : ℕ) (bytes rest : List ℕ) : Type 0 where
  pub count : ℕ
  pub count_is : pages_in h.head ≡ Some count
  pub pages_len : length h.pages ≡ 4096 * count
  pub key_len : length h.key ≡ 56
  pub before_len : length h.before ≡ 32
  pub head : take (length h.head) (drop at bytes) ≡ h.head
  pub pages : take (4096 * count) (drop (at + length h.head) bytes) ≡ h.pages
  pub behind : rest ≡ drop (at + length h.head + 4096 * count) bytes
  pub size : at + length h.head + length h.pages + length rest ≡ length bytes

-- what stands behind the pages: nothing where the first entry has number 1, else the carried entries
pub record no_more (h : HeaderData) (bytes rest : List ℕ) : Type 0 where
  pub first : (h.first == 1) ≡ true
  pub carried : h.carried ≡ []
  pub same : rest ≡ bytes

pub record and_more (h : HeaderData) (bytes rest : List ℕ) : Type 0 where
  pub first : (h.first == 1) ≡ false
  pub judged : judged_carried h.first h.leaves bytes ≡ Some (h.carried, rest)

abbrev pub BehindPages : HeaderData → List ℕ → List ℕ → Type 0
BehindPages h bytes rest = no_more h bytes rest ⊎ and_more h bytes rest

-- the place of the head in each header
abbrev pub head_place : ℕ
head_place = 113

-- a header stands at the front of the bytes
pub record HeaderStands (h : HeaderData) (bytes rest : List ℕ) : Type 0 where
  pub behind : List ℕ
  pub fields : Stands h head_place bytes behind
  pub pages : BehindPages h behind rest

-- the header of a new journal
abbrev pub new_header : List ℕ → List ℕ → List ℕ → HeaderData
new_header key head pages = record { key = key; first = 1; before = replicate 32 0; leaves = 0; head = head; pages = pages; carried = [] }
