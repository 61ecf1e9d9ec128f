-- What a reader of a segment shows, and what its calls say.
use Rattle.std.specs.Prelude.{IsSome}
use Rattle.std.specs.Prelude.{◌≡◌, ℕ, ◌*◌, ◌≤◌, true, List, [], ◌∷◌, ◌++◌, length, Some, None}
use Rattle.avm_model.specs.Frame.{FrameData, FitsFrame, frame_at, frame_bytes, frames_of}
use Rattle.avm_model.specs.Segment.{SegmentFront, SegmentData, segment_front_bytes, segment_of}
use Rattle.seg_file.specs.Coming.{Coming, taken, with_rest}
use Rattle.seg_file.specs.Places.{Standing, IsPlace, Knows}
use Rattle.seg_file.specs.Filling.{is_live}
use Rattle.seg_file.specs.declared.place.Place.{Place}
use Rattle.seg_file.specs.declared.place.Stage.TheVariants as stage
use Rattle.seg_file.specs.declared.filling.Part.{Part}
use Rattle.seg_file.specs.declared.filling.Part.TheVariants as part
use Rattle.seg_file.specs.declared.reader.SegReader.TheInside.{Inside}

-- where it stands, the bytes of the part that is coming, and those of the part that ended last, until the next call
pub record Reading : Type 0 where
  pub place : Place
  pub part : List ℕ
  pub last : List ℕ

abbrev pub reading_of : Inside → Reading
reading_of r = record { place = r.place; part = r.store.part; last = r.store.last }

abbrev pub IsReader : Inside → Type 0
IsReader r = IsPlace r.place r.store.part

-- the reader has come so far
abbrev pub Took : Reading → Coming → Type 0
Took r c = Standing r.place r.part c

-- a call took these bytes and gave this answer, where so much had come
abbrev pub Goes : Part → List ℕ → Coming → Reading → Type 0
-- the part isn't whole
Goes part.More bytes c r = (is_live r.place.stage ≡ true) × Took r (with_rest c bytes)
-- the front is whole
Goes part.Head bytes c r = (f : SegmentFront) × (c.front ≡ None) × (c.rest ++ bytes ≡ segment_front_bytes f) × (r.last ≡ segment_front_bytes f) × Knows r.place f
    × Took r (record { front = Some f; pages = []; frames = []; rest = [] })
-- page i is whole
Goes (part.Page i) bytes c r = (length c.pages ≡ 4096 * i) × (c.frames ≡ []) × (length (c.rest ++ bytes) ≡ 4096) × (r.last ≡ c.rest ++ bytes) × (is_live r.place.stage ≡ true)
    × Took r (record { front = c.front; pages = c.pages ++ (c.rest ++ bytes); frames = []; rest = [] })
-- an entry is whole
Goes part.Frame bytes c r = (f : FrameData) × FitsFrame f × (c.rest ++ bytes ≡ frame_bytes f) × (r.last ≡ frame_bytes f) × (is_live r.place.stage ≡ true)
    × Took r (record { front = c.front; pages = c.pages; frames = c.frames ++ f ∷ []; rest = [] })
-- no continuation is a segment
Goes part.Bad bytes c r = (r.place.stage ≡ stage.Bad) × Took r (with_rest c bytes)

-- the bytes that have come are a segment of just these parts
pub record IsRead (c : Coming) : Type 0 where
  pub segment : SegmentData
  pub is : segment_of (taken c) ≡ Some segment
  pub front : c.front ≡ Some segment.front
  pub pages : segment.pages ≡ c.pages
  pub frames : frames_of segment.frames ≡ c.frames

-- what is held of the part that an answer names
abbrev pub IsHeld : Part → List ℕ → Type 0
IsHeld part.More bytes = Unit {0}
IsHeld part.Head bytes = 49 ≤ length bytes
IsHeld (part.Page i) bytes = length bytes ≡ 4096
IsHeld part.Frame bytes = IsSome (frame_at bytes)
IsHeld part.Bad bytes = Unit {0}
