-- The parts of a journal's records (docs/FORMATS.md, "Journal"): entries, seals, and keeps, which stand behind a SNAP entry.
use Rattle.std.specs.Prelude.{ℕ, ◌*◌, ◌==◌, ◌||◌, nat_le, Bool, true, false, List, [], ◌∷◌, length, Option, Some, None, option_map, if◌then◌else◌}
use Rattle.std.specs.List.{count_by}
use Rattle.std.specs.Int.{w32, w64}
use Rattle.avm_num.specs.Bytes.{◌>>=◌, number_at, piece_at, byte_at, kept}
use Rattle.avm_num.specs.Lists.{sized_at}
use Rattle.avm_num.specs.Walk.{items_of}
use Rattle.avm_model.specs.Frame.{FrameData, frame_at}

-- the state at a SNAP entry: its number, the head's bytes, and the bytes of the pages kept, each behind its number
pub record KeepData : Type 0 where
  pub seq : ℕ
  pub head : List ℕ
  pub pages : List ℕ

pub data Part : Type 0 where
  entry : FrameData → Part
  seal : Part
  keep : KeepData → Part

-- ---- keeps

-- a page that is kept
pub record PageData : Type 0 where
  pub number : ℕ
  pub bytes : List ℕ

unfoldable pub page_at : List ℕ → Option (PageData × List ℕ)
page_at bytes = do
  number ← number_at w32 bytes
  page ← piece_at 4096 number.1
  Some (record { number = number.0; bytes = page.0 }, page.1)

-- the pages that a keep keeps
abbrev pub pages_of : KeepData → List PageData
pages_of k = items_of page_at k.pages

abbrev pub longest_head : ℕ
longest_head = 16384

unfoldable pub keep_at : List ℕ → Option (KeepData × List ℕ)
keep_at bytes = do
  seq ← number_at w64 bytes
  head ← sized_at (number_at w32) seq.1
  count ← number_at w32 head.1
  pages ← piece_at (4100 * count.0) count.1
  kept (nat_le (length head.0) longest_head) (record { seq = seq.0; head = head.0; pages = pages.0 }, pages.1)

-- ---- parts: a byte that tells which, and what it tells

abbrev pub body_at : ℕ → List ℕ → Option (Part × List ℕ)
body_at tag bytes =
    if tag == 1 then option_map (λ f. (entry f.0, f.1)) (frame_at bytes) else
    if tag == 2 then Some (seal, bytes) else
    if tag == 3 then option_map (λ k. (keep k.0, k.1)) (keep_at bytes) else None

unfoldable pub part_at : List ℕ → Option (Part × List ℕ)
part_at bytes = do
  tag ← byte_at bytes
  body_at tag.0 tag.1

-- the parts that stand one after another at the front
abbrev pub parts_of : List ℕ → List Part
parts_of bytes = items_of part_at bytes

-- ---- what parts hold

-- SEND and RECV
abbrev pub is_signed_kind : ℕ → Bool
is_signed_kind kind = kind == 8 || kind == 5

-- the signing items: SEND, RECV and seals
abbrev pub signs : Part → Bool
signs (entry f) = is_signed_kind f.kind
signs seal = true
signs (keep k) = false

-- the items among parts: entries and seals
abbrev pub items_in : List Part → List Part
items_in [] = []
items_in (entry f ∷ ps) = entry f ∷ items_in ps
items_in (seal ∷ ps) = seal ∷ items_in ps
items_in (keep k ∷ ps) = items_in ps

-- the keeps among parts
abbrev pub keeps_in : List Part → List KeepData
keeps_in [] = []
keeps_in (entry f ∷ ps) = keeps_in ps
keeps_in (seal ∷ ps) = keeps_in ps
keeps_in (keep k ∷ ps) = k ∷ keeps_in ps

-- the entries among parts, and how many parts sign
abbrev pub frames_in : List Part → List FrameData
frames_in [] = []
frames_in (entry f ∷ ps) = f ∷ frames_in ps
frames_in (seal ∷ ps) = frames_in ps
frames_in (keep k ∷ ps) = frames_in ps

unfoldable pub signing : List Part → ℕ
signing ps = count_by signs ps
