-- What has come of a segment that is taken in pieces (docs/FORMATS.md, Segment).
use Rattle.std.specs.Prelude.{ℕ, ◌+◌, nat_le, List, [], ◌∷◌, ◌++◌, length, Option, Some, None}
use Rattle.std.specs.Option.{option_map}
use Rattle.avm_num.specs.Bytes.{◌>>=◌, kept}
use Rattle.avm_num.specs.Sizes.{number_there}
use Rattle.avm_num.specs.Lists.{list_bytes}
use Rattle.avm_model.specs.Frame.{FrameData, frame_bytes}
use Rattle.avm_model.specs.Segment.{SegmentFront, SegmentData, segment_front_bytes, segment_of}

-- the longest head, which is one of version 2
abbrev pub longest_head : ℕ
longest_head = 11783

-- a segment whose head is no longer than a head can be; the inside of the head is left open
unfoldable pub segment_in : List ℕ → Option SegmentData
segment_in bytes = do
  s ← segment_of bytes
  kept (nat_le (length s.front.head) longest_head) s

-- the front, if it is whole; the bytes of the whole pages; the whole entries; the bytes of the part that isn't whole
pub record Coming : Type 0 where
  pub front : Option SegmentFront
  pub pages : List ℕ
  pub frames : List FrameData
  pub rest : List ℕ

abbrev pub nothing : Coming
nothing = record { front = None; pages = []; frames = []; rest = [] }

abbrev pub front_part : Option SegmentFront → List ℕ
front_part None = []
front_part (Some f) = segment_front_bytes f

-- all bytes that have come
unfoldable pub taken : Coming → List ℕ
taken c = front_part c.front ++ (c.pages ++ (list_bytes frame_bytes c.frames ++ c.rest))

-- with more bytes of the part that isn't whole
abbrev pub with_rest : Coming → List ℕ → Coming
with_rest c bytes = record { front = c.front; pages = c.pages; frames = c.frames; rest = c.rest ++ bytes }

-- the front is whole
abbrev pub with_front : SegmentFront → Coming
with_front f = record { front = Some f; pages = []; frames = []; rest = [] }

-- with one page more
abbrev pub with_page : Coming → List ℕ → Coming
with_page c page = record { front = c.front; pages = c.pages ++ page; frames = []; rest = [] }

-- with one entry more
abbrev pub with_frame : Coming → FrameData → Coming
with_frame c f = record { front = c.front; pages = c.pages; frames = c.frames ++ f ∷ []; rest = [] }

-- ---- the sizes of parts, once their first bytes say them

-- of a front: its head's length stands at place 45
abbrev pub front_size : List ℕ → Option ℕ
front_size bytes = option_map (λ n. 49 + n) (number_there 45 bytes)

-- of an entry's frame: its content's length stands at place 9
abbrev pub frame_size : List ℕ → Option ℕ
frame_size bytes = option_map (λ n. 13 + n) (number_there 9 bytes)
