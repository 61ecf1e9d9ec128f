-- What is written as a base.
use Rattle.std.specs.Prelude.{◌≡◌, ◌==◌, false, None, List, ℕ, length}
use Rattle.avm_num.specs.Lists.{list_bytes}
use Rattle.journal_model.specs.Header.{HeaderData}
use Rattle.journal_model.specs.Journal.{JournalData}
use Rattle.journal_model.specs.Part.{Part}
use Rattle.journal_model.specs.Spelling.{carried_bytes, parts_bytes, record_bytes}
use Rattle.base_write.specs.declared.header.BaseHeader.{BaseHeader}

-- the header of a journal that begins behind an earlier one
pub record IsHeader (v : BaseHeader) (h : HeaderData) : Type 0 where
  pub key : v.key.now ≡ h.key
  pub first : v.first ≡ h.first
  pub before : v.before.0 ≡ h.before
  pub leaves : v.leaves ≡ h.leaves
  pub head : v.head.now ≡ h.head
  pub pages : v.pages.now ≡ h.pages
  pub count : v.count ≡ length h.carried
  pub carried : v.carried.now ≡ list_bytes carried_bytes h.carried
  pub later : (h.first == 1) ≡ false

-- records as they stand behind a header
abbrev pub records_bytes : List (List Part) → List ℕ
records_bytes rs = list_bytes (λ ps. record_bytes (parts_bytes ps)) rs

abbrev pub unmarked : HeaderData → List (List Part) → JournalData
unmarked h rs = record { header = h; records = rs; mark = None }
