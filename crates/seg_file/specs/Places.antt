-- Where a reader of a segment stands.
use Rattle.std.specs.Prelude.{◌≡◌, ℕ, ◌+◌, ◌*◌, ◌<◌, ◌≤◌, ◌^◌, ◌==◌, ◌&&◌, not, nat_le, nat_lt, Bool, true, false, List, [], ◌++◌, length, Option, Some, None, if◌then◌else◌, All}
use Rattle.std.specs.Option.{option_map}
use Rattle.avm_num.specs.Bytes.{IsBytes, ◌>>=◌, kept}
use Rattle.avm_model.specs.Basics.{flag}
use Rattle.avm_model.specs.Entries.{begins, follow, opens}
use Rattle.avm_model.specs.Frame.{FrameData, FitsFrame, frame_at}
use Rattle.avm_model.specs.Segment.{SegmentFront, FitsSegmentFront, page_count}
use Rattle.seg_file.specs.Coming.{Coming, taken, segment_in, longest_head, front_size, frame_size}
use Rattle.avm_num.specs.Sizes.{IsShort}
use Rattle.seg_file.specs.Fronts.{counted_at}
use Rattle.seg_file.specs.declared.place.Stage.{Stage}
use Rattle.seg_file.specs.declared.place.Stage.TheVariants.{Front, Page, Entries, Bad}
use Rattle.seg_file.specs.declared.place.Place.{Place}

-- ---- sizes

-- of a part, once its first bytes say it
abbrev pub part_size : Stage → List ℕ → Option ℕ
part_size Front part = front_size part
part_size (Page i) part = Some 4096
part_size Entries part = frame_size part
part_size Bad part = None

-- how many bytes say the size
abbrev pub least : Stage → ℕ
least Front = 49
least (Page i) = 4096
least Entries = 13
least Bad = 0

-- the longest part
abbrev pub longest : Stage → ℕ
longest Front = 49 + longest_head
longest (Page i) = 4096
longest Entries = 24589
longest Bad = 24589

-- ---- what stands behind a whole part

-- page i, or entries
abbrev pub page_or_entries : ℕ → ℕ → Stage
page_or_entries i pages = if i == pages then Entries else Page i

abbrev pub behind_front : Place → List ℕ → Option Place
behind_front p part = option_map (λ (q : SegmentFront × ℕ). record {
  stage = page_or_entries 0 q.1;
  start = q.0.start;
  before = record { 0 = q.0.before };
  pages = q.1;
  next = p.next;
  snaps = p.snaps;
  opened = p.opened;
  done = p.done;
}) (counted_at part)

-- an entry that may stand next
abbrev pub may_come : Place → FrameData → Bool
may_come p f = if p.opened then f.seq == p.next && not (f.kind == 1) && nat_le (p.snaps + flag (f.kind == 2)) 64 else f.seq == p.start && begins p.start p.before.0 f.kind

abbrev pub with_frame : Place → FrameData → Place
with_frame p f = record { stage = p.stage; start = p.start; before = p.before; pages = p.pages; next = f.seq + 1; snaps = p.snaps + flag (f.kind == 2); opened = true; done = p.done }

abbrev pub behind_frame : Place → List ℕ → Option Place
behind_frame p part = frame_at part >>= λ (q : FrameData × List ℕ). kept (may_come p q.0) (with_frame p q.0)

abbrev pub with_stage : Place → Stage → Place
with_stage p s = record { stage = s; start = p.start; before = p.before; pages = p.pages; next = p.next; snaps = p.snaps; opened = p.opened; done = p.done }

abbrev pub with_done : Place → ℕ → Place
with_done p n = record { stage = p.stage; start = p.start; before = p.before; pages = p.pages; next = p.next; snaps = p.snaps; opened = p.opened; done = p.done + n }

abbrev pub behind_stage : Stage → Place → List ℕ → Option Place
behind_stage Front p part = behind_front p part
behind_stage (Page i) p part = Some (with_stage p (page_or_entries (i + 1) p.pages))
behind_stage Entries p part = behind_frame p part
behind_stage Bad p part = None

-- the place behind a whole part, or none where no segment has it there
abbrev pub behind : Place → List ℕ → Option Place
behind p part = if nat_lt (2 ^ 26) (p.done + length part) then None else option_map (λ q. with_done q (length part)) (behind_stage p.stage p part)

-- ---- the reader has come so far

-- what is known of the front
pub record Knows (p : Place) (f : SegmentFront) : Type 0 where
  pub fits : FitsSegmentFront f
  pub short : length f.head ≤ longest_head
  pub start : p.start ≡ f.start
  pub before : p.before.0 ≡ f.before
  pub count : (rest : List ℕ) × (page_count f.head ≡ Some (p.pages, rest))

-- what may follow the entries
abbrev pub Follows : Bool → Place → List FrameData → Type 0
Follows false p frames = (frames ≡ []) × (p.snaps ≡ 0)
Follows true p frames = (more : List FrameData) → opens p.start p.before.0 (frames ++ more) ≡ follow p.next p.snaps more

pub record AtFront (p : Place) (part : List ℕ) (c : Coming) : Type 0 where
  pub front : c.front ≡ None
  pub pages : c.pages ≡ []
  pub frames : c.frames ≡ []
  pub opened : p.opened ≡ false
  pub snaps : p.snaps ≡ 0
  pub rest : c.rest ≡ part

pub record AtPage (i : ℕ) (p : Place) (part : List ℕ) (c : Coming) : Type 0 where
  pub head : SegmentFront
  pub front : c.front ≡ Some head
  pub knows : Knows p head
  pub within : i < p.pages
  pub pages : length c.pages ≡ 4096 * i
  pub frames : c.frames ≡ []
  pub opened : p.opened ≡ false
  pub snaps : p.snaps ≡ 0
  pub rest : c.rest ≡ part

pub record AtEntries (p : Place) (part : List ℕ) (c : Coming) : Type 0 where
  pub head : SegmentFront
  pub front : c.front ≡ Some head
  pub knows : Knows p head
  pub pages : length c.pages ≡ 4096 * p.pages
  pub frames : All FitsFrame c.frames
  pub follows : Follows p.opened p c.frames
  pub rest : c.rest ≡ part

-- no continuation is a segment
abbrev pub Never : Coming → Type 0
Never c = (more : List ℕ) → IsBytes more → segment_in (taken c ++ more) ≡ None

abbrev pub At : Stage → Place → List ℕ → Coming → Type 0
At Front p part c = AtFront p part c
At (Page i) p part c = AtPage i p part c
At Entries p part c = AtEntries p part c
At Bad p part c = Never c

-- how far the whole parts reach, and what the numbers keep
pub record Reached (p : Place) (c : Coming) : Type 0 where
  pub done : p.done + length c.rest ≡ length (taken c)
  pub limit : p.done ≤ 2 ^ 26
  pub snaps : p.snaps ≤ 64

pub record Standing (p : Place) (part : List ℕ) (c : Coming) : Type 0 where
  pub at : At p.stage p part c
  pub reached : Reached p c
  pub short : IsShort (part_size p.stage part) part
  pub most : length part ≤ longest p.stage

-- ---- what holds of every reader

abbrev pub InPages : Stage → ℕ → Type 0
InPages Front n = Unit {0}
InPages (Page i) n = i < n
InPages Entries n = Unit {0}
InPages Bad n = Unit {0}

pub record IsPlace (p : Place) (part : List ℕ) : Type 0 where
  pub short : IsShort (part_size p.stage part) part
  pub limit : p.done ≤ 2 ^ 26
  pub snaps : p.snaps ≤ 64
  pub first : p.opened ≡ false → p.snaps ≡ 0
  pub page : InPages p.stage p.pages
