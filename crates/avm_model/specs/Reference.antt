-- The reference machine, as a log of entries sees it: its inputs and outputs carry their counts.
use Rattle.std.specs.Prelude.{◌≡◌, ℕ, ◌==◌, ◌&&◌, Bool, false, List, ◌∷◌, ◌++◌, map, length, Option, Some, None, if◌then◌else◌}
use Rattle.std.specs.Str.{bytes_eq}
use Rattle.avm_model.specs.Machine.{State, Output, Out, Send, Halt, Snap, Step, Stepped, can_step}
use Rattle.avm_model.specs.Offer.{Offer, OfferConsole, OfferClock, OfferData, OfferAck, refused, taken}
use Rattle.avm_model.specs.Root.{root}
use Rattle.avm_model.specs.Content.{ContentData, boot, snap, conin, clock, recv, acked, out, send, halt, content_at}
use Rattle.avm_model.specs.Frame.{FrameData}
use Rattle.avm_model.specs.Timed.{Timed, Entry, given, made}
use Rattle.avm_model.specs.Rerun.{Replays, IsFirstFault}
use Rattle.avm_model.specs.declared.NotTaken.{NotTaken}

-- an input, with the count at which it is applied
pub record Given : Type 0 where
  pub count : ℕ
  pub offer : Offer

-- An output, with the count after its step: a line; a peer, a number and a payload; a cause and a value; the root of the state
-- after the step. The last is an entry that no step makes, as BOOT.
pub data Made : Type 0 where
  OutAt : ℕ → List ℕ → Made
  SendAt : ℕ → ℕ → ℕ → List ℕ → Made
  HaltAt : ℕ → ℕ → ℕ → Made
  SnapAt : ℕ → List ℕ → Made
  NothingAt : ℕ → Made

abbrev pub made_count : Made → ℕ
made_count (OutAt count bytes) = count
made_count (SendAt count peer number payload) = count
made_count (HaltAt count cause value) = count
made_count (SnapAt count r) = count
made_count (NothingAt count) = count

-- ---- what the machine does

-- an output of a step that leads to the state
abbrev pub made_of : State → Output → Made
made_of s (Out bytes) = OutAt s.count bytes
made_of s (Send peer number payload) = SendAt s.count peer number payload
made_of s (Halt cause value) = HaltAt s.count cause value
made_of s Snap = SnapAt s.count (root s)

abbrev pub made_by : Stepped → State × List Made
made_by t = (t.state, map (made_of t.state) t.outs)

-- a step, where the state can make one
unfoldable pub step_of : State → Option (State × List Made)
step_of s = if can_step s then Some (made_by (Step s)) else None

abbrev pub unless : Option NotTaken → State → Option State
unless None s = Some s
unless (Some why) s = None

-- an input, where it is not refused
unfoldable pub take_of : State → Given → Option State
take_of s i = unless (refused s i.offer) (taken s i.offer)

-- ---- outputs are compared

abbrev pub same_made : Made → Made → Bool
same_made (OutAt n a) (OutAt m b) = n == m && bytes_eq a b
same_made (SendAt n p k a) (SendAt m q l b) = n == m && p == q && k == l && bytes_eq a b
same_made (HaltAt n c v) (HaltAt m d w) = n == m && c == d && v == w
same_made (SnapAt n a) (SnapAt m b) = n == m && bytes_eq a b
same_made (NothingAt n) (NothingAt m) = n == m
same_made _ _ = false

-- the reference machine
abbrev pub timed : Timed State Given Made
timed = record
    { count = λ s. s.count; input_count = λ i. i.count; output_count = made_count; step = step_of; take = take_of; same = same_made }

-- ---- the entries of a log

abbrev pub entry_of_content : ContentData → Entry Given Made
entry_of_content (boot count r) = made (NothingAt count)
entry_of_content (snap count r) = made (SnapAt count r)
entry_of_content (conin count bytes) = given (record { count = count; offer = OfferConsole bytes })
entry_of_content (clock count value) = given (record { count = count; offer = OfferClock value })
entry_of_content (recv count packet) = given (record { count = count; offer = OfferData packet })
entry_of_content (acked count packet) = given (record { count = count; offer = OfferAck packet })
entry_of_content (out count bytes) = made (OutAt count bytes)
entry_of_content (send count peer number payload) = made (SendAt count peer number payload)
entry_of_content (halt count cause value) = made (HaltAt count cause value)

-- what has no content is an entry that no step makes
abbrev pub entry_in : Option ContentData → Entry Given Made
entry_in None = made (NothingAt 0)
entry_in (Some c) = entry_of_content c

unfoldable pub entry_of_frame : FrameData → Entry Given Made
entry_of_frame f = entry_in (content_at f.kind f.content)

abbrev pub entries_of : List FrameData → List (Entry Given Made)
entries_of fs = map entry_of_frame fs

-- ---- the number of the first fault

-- n is the number of the first of these frames that does not replay from s
pub record IsFaultAt (s : State) (fs : List FrameData) (n : ℕ) : Type 0 where
  pub before : List FrameData
  pub frame : FrameData
  pub behind : List FrameData
  pub split : fs ≡ before ++ frame ∷ behind
  pub number : frame.seq ≡ n
  pub first : IsFirstFault timed s (entries_of fs) (length before)

-- that number, or none where all of them replay
abbrev pub IsFaultNumber : State → List FrameData → Option ℕ → Type 0
IsFaultNumber s fs None = Replays timed s (entries_of fs)
IsFaultNumber s fs (Some n) = IsFaultAt s fs n
