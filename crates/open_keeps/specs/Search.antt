-- What is found among a journal's parts, one after another.
use Rattle.std.specs.Prelude.{◌≡◌, ℕ, true, List, [], ◌∷◌, ◌++◌, length, Some, None, option_map}
use Rattle.avm_model.specs.Head.{HeadData}
use Rattle.avm_model.specs.HeadReading.{head_of}
use Rattle.avm_model.specs.HeadState.{data_of, state_of}
use Rattle.honest_model.specs.Keeps.{IsBase, content_of, kept_ram, last_frame}
use Rattle.journal_model.specs.Header.{CarriedData, HeaderData}
use Rattle.journal_model.specs.Journal.{JournalData, pages_ascend}
use Rattle.journal_model.specs.Part.{Part, entry, frames_in, keep, keeps_in, pages_of, seal}
use Rattle.jrnl_store.specs.Items.{ItemData, carried_item, entry_item, keep_item, seal_item}
use Rattle.open_pass.specs.Tickets.{IsSignedBy, rows_in}
use Rattle.record_kept.specs.Tickets.{AreKept}
use Rattle.keep_judge.specs.Good.{told_in, told_view}
use Rattle.open_keeps.specs.declared.base.Search.{Search}

-- the part that an item is; a carried entry is an earlier journal's
abbrev pub part_in : ItemData → List Part
part_in (carried_item f s) = []
part_in (entry_item f t) = entry f ∷ []
part_in (seal_item s) = seal ∷ []
part_in (keep_item k) = keep k ∷ []

abbrev pub parts_of_items : List ItemData → List Part
parts_of_items [] = []
parts_of_items (x ∷ xs) = part_in x ++ parts_of_items xs

-- the pages of a keep are in order, and inside a RAM of so many pages
abbrev pub IsInside : ℕ → ItemData → Type 0
IsInside most (carried_item f s) = Unit {0}
IsInside most (entry_item f t) = Unit {0}
IsInside most (seal_item s) = Unit {0}
IsInside most (keep_item k) = pages_ascend 0 most (pages_of k) ≡ true

-- a journal with this header, whose parts are these so far
abbrev pub so_far : HeaderData → List Part → JournalData
so_far h ps = record { header = h; records = ps ∷ []; mark = None }

-- the base for a number among these parts has this head and these pages, and so many keeps are in front of it, its own among them
pub record IsFound (h : HeaderData) (n : ℕ) (ps : List Part) (head pages : List ℕ) (keeps : ℕ) : Type 0 where
  pub front : List Part
  pub behind : List Part
  pub told : HeadData
  pub is : head_of head ≡ Some told
  pub base : IsBase (so_far h ps) n front behind (state_of told pages)
  pub count : length (keeps_in front) ≡ keeps

-- these parts were gone over: the RAM is that of all their keeps, and the base for a number is found
pub record IsSought (h : HeaderData) (n : ℕ) (ps : List Part) (v : Search) : Type 0 where
  pub own : head_of h.head ≡ Some (data_of v.own.state)
  pub first : v.first ≡ h.first
  pub last : v.last ≡ n
  pub ram : v.now.ram.bytes ≡ kept_ram h.pages (keeps_in ps)
  pub told : option_map told_view v.told ≡ told_in (content_of (last_frame (frames_in ps)))
  pub keeps : v.keeps ≡ length (keeps_in ps)
  pub found : IsFound h n ps v.base.head.bytes v.base.ram.bytes v.base.keeps

-- and these parts more
abbrev pub SeeksOn : Search → List Part → Search → Type 0
SeeksOn old more new = (h : HeaderData) (n : ℕ) (ps : List Part) → IsSought h n ps old → IsSought h n (ps ++ more) new

-- one item more, and its ticket is kept
pub record Seeks (old : Search) (x : ItemData) (new : Search) : Type 0 where
  pub pages : length new.now.ram.dirty ≡ length old.now.ram.dirty
  pub sought : IsInside (length old.now.ram.dirty) x → SeeksOn old (part_in x) new
  pub kept : (es more : List CarriedData) → IsSignedBy x more → AreKept (rows_in old.tickets.kept) es → AreKept (rows_in new.tickets.kept) (es ++ more)
