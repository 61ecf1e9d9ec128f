-- When a journal can be moved (docs/FORMATS.md, "Bases").
use Rattle.std.specs.Prelude.{List, [], ◌∷◌, ◌++◌, ◌⊎◌, ◌≡◌, ℕ, ◌+◌, ◌^◌, ◌*◌, ◌<◌, ◌≤◌, true, length, Some}
use Rattle.std.specs.List.{AllByRecursion}
use Rattle.avm_model.specs.Frame.{FrameData}
use Rattle.avm_model.specs.Machine.{State}
use Rattle.journal_model.specs.Part.{Part, entry, seal, keep, keeps_in, pages_of, signing, longest_head}
use Rattle.journal_model.specs.Header.{pages_in, has_early_count, ascend}
use Rattle.journal_model.specs.Journal.{JournalData, parts, entries, has_snap}
use Rattle.journal_model.specs.Spelling.{front_bytes}
use Rattle.journal_spelling.specs.Spelled.{FitsCarried}
use Rattle.honest_model.specs.Keeps.{kept_ram, with_pages}
use Rattle.base_model.specs.Base.{MovedState, before_entry, moved}

-- n is the number of a SNAP entry, below 2 ^ 61. The head is within its limit, has a count below 2 ^ 61 and the header's page count,
-- and these are its pages. At most 30 entries are carried, in ascending order, with leaves below those that the base begins with. The
-- base's last gate stands below place 2 ^ 30.
pub record CanMove (j : JournalData) (n : ℕ) (s : MovedState) : Type 0 where
  pub snap : has_snap n (entries j) ≡ true
  pub low : n < 2 ^ 61
  pub head : length s.head ≤ longest_head
  pub early : has_early_count s.head ≡ true
  pub count : pages_in s.head ≡ pages_in j.header.head
  pub pages : (p : ℕ) × (pages_in s.head ≡ Some p) × (length s.pages ≡ 4096 * p)
  pub few : length s.carried ≤ 30
  pub carried : AllByRecursion FitsCarried s.carried
  pub ascends : ascend 0 0 n (j.header.leaves + signing (before_entry n (parts j))) s.carried ≡ true
  pub below : length (front_bytes (moved j n s)) < 2 ^ 30

-- the first keep among these parts, where there is one, makes the same RAM of both
abbrev pub MeetsAt : List ℕ → List ℕ → List Part → Type 0
MeetsAt x y [] = Unit {0}
MeetsAt x y (entry f ∷ ps) = MeetsAt x y ps
MeetsAt x y (seal ∷ ps) = MeetsAt x y ps
MeetsAt x y (keep k ∷ ps) = with_pages x (pages_of k) ≡ with_pages y (pages_of k)

-- a keep stands in front
abbrev pub BeginsKeep : List Part → Type 0
BeginsKeep [] = ⊥
BeginsKeep (entry f ∷ ps) = ⊥
BeginsKeep (seal ∷ ps) = ⊥
BeginsKeep (keep k ∷ ps) = Unit {0}

-- The keeps behind entry n tell the same states when the pages are those at that entry: the journal begins there, or the entry has
-- its keep, or the first keep behind it gives the same RAM from either, as where it has all pages, or none stands there.
abbrev pub KeepsTell : JournalData → ℕ → State → List Part → FrameData → List Part → Type 0
KeepsTell j n at before f behind =
    (n ≡ j.header.first) ⊎ BeginsKeep behind ⊎ MeetsAt at.ram (kept_ram j.header.pages (keeps_in (before ++ entry f ∷ []))) behind
