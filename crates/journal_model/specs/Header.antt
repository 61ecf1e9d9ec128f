-- The header of a journal (docs/FORMATS.md, "Journal"): whose it is, where it begins, and the state there. A journal that begins
-- behind an earlier one has a header of version 2, which carries entries of that one.
use Rattle.std.specs.Prelude.{ℕ, ◌+◌, ◌*◌, ◌^◌, ◌==◌, ◌&&◌, nat_lt, nat_le, Bool, true, List, [], ◌∷◌, drop, slice_index, Option, Some, None, if◌then◌else◌}
use Rattle.std.specs.Int.{w64}
use Rattle.avm_num.specs.Bytes.{◌>>=◌, number_at, piece_at, byte_at, kept}
use Rattle.std.specs.Str.{bytes_eq}
use Rattle.avm_num.specs.Lists.{list_at, limited_at}
use Rattle.avm_num.specs.Walk.{is_nil}
use Rattle.avm_model.specs.Entries.{all_zero}
use Rattle.avm_model.specs.Frame.{FrameData, frame_at}
use Rattle.avm_model.specs.LmsTypes.{height_of}
use Rattle.avm_model.specs.LmsValid.{number}
use Rattle.avm_model.specs.Memory.{is_page_count}
use Rattle.avm_model.specs.Segment.{page_count}
use Rattle.journal_model.specs.Part.{longest_head, is_signed_kind}

-- an entry of an earlier journal: its leaf, the hash before it, and its frame
pub record CarriedData : Type 0 where
  pub leaf : ℕ
  pub before : List ℕ
  pub frame : FrameData

-- the public key, the number of the first entry and the hash before it, how many leaves were used before it, the head's bytes and
-- the pages of the state there, and carried entries
pub record HeaderData : Type 0 where
  pub key : List ℕ
  pub first : ℕ
  pub before : List ℕ
  pub leaves : ℕ
  pub head : List ℕ
  pub pages : List ℕ
  pub carried : List CarriedData

-- AVMJ, which stands in front of every header
abbrev pub journal_magic : List ℕ
journal_magic = 0x41 ∷ 0x56 ∷ 0x4d ∷ 0x4a ∷ []

unfoldable pub magic_at : List ℕ → Option (Unit {0} × List ℕ)
magic_at bytes = do
  word ← piece_at 4 bytes
  kept (bytes_eq word.0 journal_magic) (tt, word.1)

-- how many leaves the key has
unfoldable pub most_leaves : List ℕ → ℕ
most_leaves key = 2 ^ height_of (number key 0)

-- types of private keys: heights 5, 10 and 15
unfoldable pub is_store_key : List ℕ → Bool
is_store_key key = nat_le 5 (number key 0) && nat_le (number key 0) 7

-- the page count that stands in a head, where it is one
unfoldable pub pages_in : List ℕ → Option ℕ
pages_in head = do
  count ← page_count head
  kept (is_page_count count.0) count.0

-- ---- carried entries

-- a frame of SEND or RECV has fewer bytes
abbrev pub longest_carried : ℕ
longest_carried = 32768

unfoldable pub carried_at : List ℕ → Option (CarriedData × List ℕ)
carried_at bytes = do
  leaf ← number_at w64 bytes
  before ← piece_at 32 leaf.1
  raw ← limited_at longest_carried before.1
  frame ← frame_at raw.0
  kept (is_nil frame.1 && is_signed_kind frame.0.kind) (record { leaf = leaf.0; before = before.0; frame = frame.0 }, raw.1)

-- numbers ascend from one on, and leaves from another on, up to the journal's own
abbrev pub ascend : ℕ → ℕ → ℕ → ℕ → List CarriedData → Bool
ascend seq leaf first leaves [] = true
ascend seq leaf first leaves (c ∷ cs) =
    nat_le seq c.frame.seq && nat_lt c.frame.seq first && nat_le leaf c.leaf && nat_lt c.leaf leaves && ascend (c.frame.seq + 1) (c.leaf + 1) first leaves cs

-- ---- the two versions

-- the number of a head's count, behind its peers, is below 2 ^ 61 where there is one
abbrev pub is_early : Option (ℕ × List ℕ) → Bool
is_early None = true
is_early (Some count) = nat_lt count.0 (2 ^ 61)

unfoldable pub has_early_count : List ℕ → Bool
has_early_count head = is_early (number_at w64 (drop (139 + 81 * slice_index head 10) head))

-- a journal that begins with BOOT
abbrev pub is_first : HeaderData → Bool
is_first h = h.first == 1 && all_zero h.before && h.leaves == 0

-- a journal that begins behind an earlier one
abbrev pub is_base : HeaderData → Bool
is_base h = nat_lt 1 h.first && nat_lt h.first (2 ^ 61) && has_early_count h.head

-- what stands behind the version, but for carried entries
unfoldable pub main_at : List ℕ → Option (HeaderData × List ℕ)
main_at bytes = do
  key ← piece_at 56 bytes
  first ← number_at w64 key.1
  before ← piece_at 32 first.1
  leaves ← number_at w64 before.1
  head ← limited_at longest_head leaves.1
  count ← pages_in head.0
  pages ← piece_at (4096 * count) head.1
  kept (is_store_key key.0 && nat_le leaves.0 (most_leaves key.0))
      (record { key = key.0; first = first.0; before = before.0; leaves = leaves.0; head = head.0; pages = pages.0; carried = [] }, pages.1)

-- at most 30 carried entries behind their count
unfoldable pub few_carried_at : List ℕ → Option (List CarriedData × List ℕ)
few_carried_at bytes = do
  count ← byte_at bytes
  carried ← list_at carried_at count.0 count.1
  kept (nat_le count.0 30) carried

-- and their numbers and leaves ascend
unfoldable pub judged_carried : ℕ → ℕ → List ℕ → Option (List CarriedData × List ℕ)
judged_carried first leaves bytes = do
  carried ← few_carried_at bytes
  kept (ascend 0 0 first leaves carried.0) carried

unfoldable pub base_at : HeaderData → List ℕ → Option (HeaderData × List ℕ)
base_at h bytes = do
  carried ← judged_carried h.first h.leaves bytes
  kept (is_base h) (record h { carried = carried.0 }, carried.1)

unfoldable pub version_at : ℕ → HeaderData → List ℕ → Option (HeaderData × List ℕ)
version_at version h bytes =
    if version == 1 then kept (is_first h) (h, bytes) else
    if version == 2 then base_at h bytes else None

unfoldable pub header_at : List ℕ → Option (HeaderData × List ℕ)
header_at bytes = do
  word ← magic_at bytes
  version ← byte_at word.1
  main ← main_at version.1
  version_at version.0 main.0 main.1
