-- A segment that comes in pieces, beside an image.
use Rattle.std.specs.Prelude.{◌≡◌, ℕ, ◌*◌, ◌==◌, ◌++◌, Bool, true, false, List, [], ◌∷◌, length, take, Option, None, Some}
use Rattle.std.specs.Str.{bytes_eq}
use Rattle.avm_num.specs.Bytes.{IsBytes}
use Rattle.avm_model.specs.Frame.{FrameData}
use Rattle.avm_model.specs.Head.{HeadData}
use Rattle.avm_model.specs.HeadReading.{head_of}
use Rattle.avm_model.specs.HeadState.{state_of}
use Rattle.avm_model.specs.ImageState.{is_image_of}
use Rattle.avm_model.specs.Machine.{MachineState}
use Rattle.avm_model.specs.Segment.{SegmentFront, whole_segment_of}
use Rattle.seg_file.specs.Coming.{Coming, taken}
use Rattle.seg_file.specs.Reading.{Took}
use Rattle.boot_stream.specs.declared.compared.Compared.{Compared}
use Rattle.boot_stream.specs.declared.stream.BootStream.{BootStream}

-- the machine's RAM is that with which pages behind this head are the image's initial state; without one no pages are
abbrev pub BootsAs : Option MachineState → List ℕ → List ℕ → Type 0
BootsAs None image head = (h : HeadData) → head_of head ≡ Some h → (pages : List ℕ) → length pages ≡ 4096 * h.front.pages → is_image_of (state_of h pages) image ≡ false
BootsAs (Some m) image head =
    (h : HeadData) × (head_of head ≡ Some h) × (length m.state.ram ≡ 4096 * h.front.pages)
    × ((pages : List ℕ) → length pages ≡ 4096 * h.front.pages → is_image_of (state_of h pages) image ≡ bytes_eq pages m.state.ram)

-- the pages are the front of the RAM, or they aren't
abbrev pub IsFrontOf : Bool → List ℕ → List ℕ → Type 0
IsFrontOf true ram pages = take (length pages) ram ≡ pages
IsFrontOf false ram pages = take (length pages) ram ≡ pages → ⊥

abbrev pub IsSame : Option MachineState → Bool → List ℕ → Type 0
IsSame None same pages = same ≡ false
IsSame (Some m) same pages = IsFrontOf same m.state.ram pages

-- the kind of the first entry
abbrev pub first_kind : List FrameData → Option ℕ
first_kind [] = None
first_kind (f ∷ fs) = Some f.kind

abbrev pub is_boot : Option ℕ → Bool
is_boot None = false
is_boot (Some kind) = kind == 1

-- what was compared so far
abbrev pub IsSeen : Option Compared → List ℕ → Coming → Type 0
IsSeen None image c = c.front ≡ None
IsSeen (Some k) image c = (f : SegmentFront) × (c.front ≡ Some f) × BootsAs k.machine image f.head × IsSame k.machine k.same c.pages × (k.first ≡ first_kind c.frames)

-- closed, nothing that begins with these bytes is a segment
abbrev pub SawBy : Bool → BootStream → List ℕ → List ℕ → Type 0
SawBy true b image bytes = (c : Coming) × (bytes ≡ taken c) × Took b.reader c × IsSeen b.compared image c
SawBy false b image bytes = (more : List ℕ) → IsBytes more → whole_segment_of (bytes ++ more) ≡ None

-- these bytes have come
pub record Saw (b : BootStream) (image bytes : List ℕ) : Type 0 where
  pub bytes_are : IsBytes bytes
  pub image_is : b.image.now ≡ image
  pub by : SawBy b.live b image bytes
