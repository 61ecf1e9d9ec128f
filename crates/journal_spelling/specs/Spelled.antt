-- Which journals have a spelling (docs/FORMATS.md, "Journal").
use Rattle.std.specs.Prelude.{◌≡◌, ℕ, ◌^◌, ◌*◌, ◌<◌, ◌≤◌, true, List, [], ◌∷◌, length, Some}
use Rattle.std.specs.List.{AllByRecursion}
use Rattle.avm_model.specs.Frame.{frame_bytes, FitsFrame}
use Rattle.journal_model.specs.Part.{Part, entry, seal, keep, KeepData, longest_head, is_signed_kind}
use Rattle.journal_model.specs.Header.{HeaderData, CarriedData, longest_carried, ascend}
use Rattle.journal_model.specs.Journal.{JournalData, entries, has_snap, longest_record}
use Rattle.journal_model.specs.Spelling.{parts_bytes, front_bytes}
use Rattle.journal_model.specs.Fits.{FitsJournal}

-- a number of eight bytes, a head within its limit, and whole pages
pub record FitsKeep (k : KeepData) : Type 0 where
  pub seq : k.seq < 2 ^ 64
  pub head : length k.head ≤ longest_head
  pub pages : (n : ℕ) × (n < 2 ^ 32) × (length k.pages ≡ 4100 * n)

abbrev pub FitsPart : Part → Type 0
FitsPart (entry f) = FitsFrame f
FitsPart seal = Unit {0}
FitsPart (keep k) = FitsKeep k

-- a record begins with an entry or a seal
abbrev pub Begins : List Part → Type 0
Begins [] = ⊥
Begins (entry f ∷ ps) = Unit {0}
Begins (seal ∷ ps) = Unit {0}
Begins (keep k ∷ ps) = ⊥

pub record FitsRecord (ps : List Part) : Type 0 where
  pub begins : Begins ps
  pub parts : AllByRecursion FitsPart ps
  pub short : length (parts_bytes ps) ≤ longest_record

-- a SEND or RECV within the limit
pub record FitsCarried (c : CarriedData) : Type 0 where
  pub leaf : c.leaf < 2 ^ 64
  pub before : length c.before ≡ 32
  pub frame : FitsFrame c.frame
  pub short : length (frame_bytes c.frame) ≤ longest_carried
  pub signed : is_signed_kind c.frame.kind ≡ true

-- the number of eight bytes; at most 30 carried entries in ascending order, and none where the first entry has number 1
pub record FitsFields (h : HeaderData) : Type 0 where
  pub first : h.first < 2 ^ 64
  pub few : length h.carried ≤ 30
  pub carried : AllByRecursion FitsCarried h.carried
  pub ascends : ascend 0 0 h.first h.leaves h.carried ≡ true
  pub none : h.first ≡ 1 → h.carried ≡ []

-- its parts fit together, each has a spelling, the mark names a SNAP entry, and the last gate stands below place 2 ^ 30
pub record HasSpelling (j : JournalData) : Type 0 where
  pub journal : FitsJournal j
  pub fields : FitsFields j.header
  pub records : AllByRecursion FitsRecord j.records
  pub mark : (n : ℕ) → j.mark ≡ Some n → (n < 2 ^ 64) × (has_snap n (entries j) ≡ true)
  pub below : length (front_bytes j) < 2 ^ 30
