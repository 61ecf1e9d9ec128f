-- A segment: its data, the one spelling, and reading it (docs/FORMATS.md, Segment).
use Rattle.std.specs.Prelude.{◌≡◌, ℕ, ◌*◌, ◌^◌, ◌<◌, ◌≤◌, ◌&&◌, nat_le, true, List, ◌++◌, length, drop, Option, Some}
use Rattle.std.specs.Int.{w32, w64}
use Rattle.avm_num.specs.Bytes.{◌>>=◌, number_at, piece_at, byte_at, kept}
use Rattle.avm_num.specs.Lists.{exact_at, sized_at, sized_bytes, be, one}
use Rattle.avm_model.specs.Entries.{are_entries}
use Rattle.avm_model.specs.Head.{HeadData}
use Rattle.avm_model.specs.HeadReading.{head_of}

-- what stands before the pages: the first entry's number, the hash before it, and the head's bytes
pub record SegmentFront : Type 0 where
  pub start : ℕ
  pub before : List ℕ
  pub head : List ℕ

pub record SegmentData : Type 0 where
  pub front : SegmentFront
  pub pages : List ℕ
  pub frames : List ℕ

-- AVMS
abbrev pub segment_magic : ℕ
segment_magic = 0x41564d53

unfoldable pub segment_front_bytes : SegmentFront → List ℕ
segment_front_bytes f = be w32 segment_magic ++ one 1 ++ be w64 f.start ++ f.before ++ sized_bytes (be w32) f.head

unfoldable pub segment_bytes : SegmentData → List ℕ
segment_bytes s = segment_front_bytes s.front ++ s.pages ++ s.frames

-- the page count in a head: the number at place 6
abbrev pub page_count : List ℕ → Option (ℕ × List ℕ)
page_count head = number_at w32 (drop 6 head)

pub record FitsSegmentFront (f : SegmentFront) : Type 0 where
  pub start : f.start < 2 ^ 64
  pub before : length f.before ≡ 32
  pub head : length f.head < 2 ^ 32

pub record FitsSegment (s : SegmentData) : Type 0 where
  pub front : FitsSegmentFront s.front
  pub pages : (n : ℕ) × (rest : List ℕ) × (page_count s.front.head ≡ Some (n, rest)) × (length s.pages ≡ 4096 * n)
  pub entries : are_entries s.front.start s.front.before s.frames ≡ true
  pub whole : length (segment_bytes s) ≤ 2 ^ 26

-- ---- reading

unfoldable pub segment_front_at : List ℕ → Option (SegmentFront × List ℕ)
segment_front_at bytes = do
  word ← exact_at (number_at w32) segment_magic bytes
  version ← exact_at byte_at 1 word.1
  start ← number_at w64 version.1
  before ← piece_at 32 start.1
  head ← sized_at (number_at w32) before.1
  Some (record { start = start.0; before = before.0; head = head.0 }, head.1)

-- a segment, but for the inside of its head
unfoldable pub segment_of : List ℕ → Option SegmentData
segment_of bytes = do
  front ← segment_front_at bytes
  count ← page_count front.0.head
  pages ← piece_at (4096 * count.0) front.1
  kept (nat_le (length bytes) (2 ^ 26) && are_entries front.0.start front.0.before pages.1) (record { front = front.0; pages = pages.0; frames = pages.1 })

-- a segment whose head is one: its data, and the head's
unfoldable pub whole_segment_of : List ℕ → Option (SegmentData × HeadData)
whole_segment_of bytes = do
  s ← segment_of bytes
  h ← head_of s.front.head
  Some (s, h)
