-- A frame: an entry as it stands in a log (docs/FORMATS.md, "Entries").
use Rattle.std.specs.Prelude.{◌≡◌, ℕ, ◌^◌, ◌<◌, List, ◌++◌, length, Option, is_some}
use Rattle.std.specs.Int.{w32, w64}
use Rattle.avm_num.specs.Bytes.{◌>>=◌, number_at, byte_at, kept}
use Rattle.avm_num.specs.Lists.{be, one, sized_at, sized_bytes}
use Rattle.avm_num.specs.Walk.{items_of}
use Rattle.avm_model.specs.Parts.{IsOrdinal, ordinal_at}
use Rattle.avm_model.specs.Content.{ContentData, kind_of, content_bytes, FitsContent, content_at}

pub record FrameData : Type 0 where
  pub seq : ℕ
  pub kind : ℕ
  pub content : List ℕ

-- the spelling
unfoldable pub frame_bytes : FrameData → List ℕ
frame_bytes f = be w64 f.seq ++ one f.kind ++ sized_bytes (be w32) f.content

-- the content has its kind's form
abbrev pub HasForm : FrameData → Type 0
HasForm f = (c : ContentData) × FitsContent c × (kind_of c ≡ f.kind) × (content_bytes c ≡ f.content)

pub record FitsFrame (f : FrameData) : Type 0 where
  pub seq : IsOrdinal f.seq
  pub short : length f.content < 2 ^ 32
  pub form : HasForm f

-- reading
unfoldable pub frame_at : List ℕ → Option (FrameData × List ℕ)
frame_at bytes = do
  seq ← ordinal_at bytes
  kind ← byte_at seq.1
  content ← sized_at (number_at w32) kind.1
  kept (is_some (content_at kind.0 content.0)) (record { seq = seq.0; kind = kind.0; content = content.0 }, content.1)

-- the frames that stand one after another at the front
abbrev pub frames_of : List ℕ → List FrameData
frames_of bytes = items_of frame_at bytes
