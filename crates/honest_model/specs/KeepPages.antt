-- Which pages a keep has (docs/FORMATS.md, "Journal"): all that differ from what the header and the keeps before it give.
use Rattle.std.specs.Prelude.{◌≡◌, ℕ, ◌+◌, ◌<◌, ◌≤◌, Bool, true, false, List, [], ◌∷◌, length, Some, ◌⊎◌, ◌*◌, ◌/◌, get_or}
use Rattle.avm_model.specs.Machine.{State}
use Rattle.avm_model.specs.Head.{HeadData, head_bytes}
use Rattle.avm_model.specs.HeadState.{state_of, data_of}
use Rattle.avm_model.specs.HeadReading.{head_of}
use Rattle.avm_model.specs.Memory.{RamState}
use Rattle.avm_model.specs.Pages.{page_of}
use Rattle.honest_model.specs.Keeps.{kept_ram}
use Rattle.journal_model.specs.Header.{HeaderData}
use Rattle.journal_model.specs.Part.{PageData, Part, keeps_in}

-- page i is one of them
abbrev pub Among : ℕ → List PageData → Type 0
Among i [] = ⊥
Among i (p ∷ ps) = (p.number ≡ i) ⊎ Among i ps

-- they are pages of this RAM
abbrev pub ArePages : List ℕ → List PageData → Type 0
ArePages ram [] = Unit {0}
ArePages ram (p ∷ ps) = ((p.bytes ≡ page_of ram p.number) × (4096 * p.number + 4096 ≤ length ram)) × ArePages ram ps

-- each place that isn't in one of the pages is the same
abbrev pub Same : List PageData → List ℕ → List ℕ → Type 0
Same ps old new = (p : ℕ) → p < length new → Among (p / 4096) ps ⊎ (get_or old p 0 ≡ get_or new p 0)

-- The pages of a keep behind these parts: pages of the machine's RAM, all that differ from what the header and the keeps so far give.
pub record KeepsPages (h : HeaderData) (before : List Part) (s : State) (pages : List PageData) : Type 0 where
  pub len : length (kept_ram h.pages (keeps_in before)) ≡ length s.ram
  pub are : ArePages s.ram pages
  pub same : Same pages (kept_ram h.pages (keeps_in before)) s.ram

-- what the grammar of a journal says of its header: the head is this, with as many pages, and the first count is 0 where s is 1
pub record IsHeader (h : HeaderData) (a : HeadData) : Type 0 where
  pub head : head_of h.head ≡ Some a
  pub pages : length h.pages ≡ 4096 * a.front.pages
  pub snap : 0 < a.front.snap
  pub begins : h.first ≡ 1 → a.hart.count ≡ 0

-- the head of a state can be read, and gives the state again: no clock is pending, and the state is within the bounds of a head
pub record WritesHead (s : State) : Type 0 where
  pub read : head_of (head_bytes (data_of s)) ≡ Some (data_of s)
  pub again : state_of (data_of s) s.ram ≡ s

-- the pages of a keep: pages of the machine's RAM, each that has a mark among them
pub record KeepsMarked (s : State) (marks : List Bool) (pages : List PageData) : Type 0 where
  pub are : ArePages s.ram pages
  pub marked : (i : ℕ) → get_or marks i false ≡ true → Among i pages

-- a page of the RAM without a mark is as the header and the keeps so far have it
pub record IsKeptRam (h : HeaderData) (before : List Part) (ram : RamState) : Type 0 where
  pub len : length (kept_ram h.pages (keeps_in before)) ≡ length ram.bytes
  pub size : length ram.bytes ≡ 4096 * length ram.dirty
  pub same : (i : ℕ) → i < length ram.dirty → get_or ram.dirty i false ≡ false → page_of (kept_ram h.pages (keeps_in before)) i ≡ page_of ram.bytes i

abbrev pub ram_with : State → List Bool → RamState
ram_with s dirty = record { bytes = s.ram; dirty = dirty }
