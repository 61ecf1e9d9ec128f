-- How much of a part has come, and what follows from it.
use Rattle.std.specs.Prelude.{◌≡◌, ℕ, ◌<◌, ◌≤◌, ◌==◌, ◌&&◌, Bool, true, false, List, [], length, Option, Some, None}
use Rattle.avm_num.specs.Sizes.{IsShort}
use Rattle.seg_file.specs.Held.{Held}
use Rattle.seg_file.specs.Places.{part_size, longest, with_stage, behind}
use Rattle.seg_file.specs.declared.place.Stage.{Stage}
use Rattle.seg_file.specs.declared.place.Stage.TheVariants as stage
use Rattle.seg_file.specs.declared.place.Place.{Place}
use Rattle.seg_file.specs.declared.filling.Filled.{Filled}
use Rattle.seg_file.specs.declared.filling.Filled.TheVariants.{Short, Whole, Long}
use Rattle.seg_file.specs.declared.filling.Part.{Part}
use Rattle.seg_file.specs.declared.filling.Part.TheVariants as part

abbrev pub is_live : Stage → Bool
is_live stage.Front = true
is_live (stage.Page i) = true
is_live stage.Entries = true
is_live stage.Bad = false

abbrev pub ends_at : Stage → Bool → Bool
ends_at stage.Front b = false
ends_at (stage.Page i) b = false
ends_at stage.Entries b = b
ends_at stage.Bad b = false

-- the parts that have come may be all: an entry is the last, and nothing behind it
abbrev pub whole_at : Place → List ℕ → Bool
whole_at p bytes = ends_at p.stage (p.opened && length bytes == 0)

abbrev pub HasFilled : Stage → List ℕ → Filled → Type 0
HasFilled s bytes Short = IsShort (part_size s bytes) bytes × (length bytes ≤ longest s)
HasFilled s bytes Whole = (part_size s bytes ≡ Some (length bytes)) × (length bytes ≤ longest s)
HasFilled s bytes Long = (n : ℕ) × (part_size s bytes ≡ Some n) × (longest s < n)

-- the part of a stage
abbrev pub part_of : Stage → Part
part_of stage.Front = part.Head
part_of (stage.Page i) = part.Page i
part_of stage.Entries = part.Frame
part_of stage.Bad = part.Bad

pub record Settled : Type 0 where
  pub answer : Part
  pub place : Place
  pub held : Held

abbrev pub refused : Place → Held → Settled
refused p h = record { answer = part.Bad; place = with_stage p stage.Bad; held = h }

abbrev pub closed : Option Place → Place → Held → Settled
closed None p h = refused p h
closed (Some q) p h = record { answer = part_of p.stage; place = q; held = record { part = []; last = h.part } }

abbrev pub settled : Filled → Place → Held → Settled
settled Short p h = record { answer = part.More; place = p; held = h }
settled Long p h = refused p h
settled Whole p h = closed (behind p h.part) p h

-- the answer says that a part ended
abbrev pub is_end : Part → Bool
is_end part.More = false
is_end part.Head = true
is_end (part.Page i) = true
is_end part.Frame = true
is_end part.Bad = false
