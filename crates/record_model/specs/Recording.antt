-- What a recorder does: an act changes the machine and the batch that isn't saved yet, and a batch that closes is saved before
-- anything of it is released.
use Rattle.std.specs.Prelude.{fold, length, ℕ, ◌+◌, ◌-◌, ◌^◌, ◌==◌, ◌&&◌, ◌||◌, not, nat_lt, nat_le, Bool, true, false, List, [], ◌∷◌, ◌++◌, Option, Some, None, if◌then◌else◌}
use Rattle.std.specs.Option.{option_map}
use Rattle.avm_num.specs.Bytes.{◌>>=◌}
use Rattle.avm_model.specs.Machine.{State}
use Rattle.avm_model.specs.Head.{head_bytes}
use Rattle.avm_model.specs.HeadState.{data_of}
use Rattle.avm_model.specs.Content.{ContentData, boot, snap, conin, clock, recv, acked, out, send, halt, kind_of, content_bytes}
use Rattle.avm_model.specs.Frame.{FrameData}
use Rattle.avm_model.specs.Offer.{Offer, OfferConsole, OfferClock, OfferData, OfferAck, refuse_packet, taken}
use Rattle.avm_model.specs.Device.{row_of}
use Rattle.avm_model.specs.Reference.{Given, Made, OutAt, SendAt, HaltAt, SnapAt, NothingAt, step_of, take_of}
use Rattle.avm_model.specs.declared.NotTaken.{NotTaken}
use Rattle.avm_outside.specs.Outlet.{Piece, auth}
use Rattle.journal_model.specs.Journal.{JournalData, with_record}
use Rattle.journal_model.specs.Part.{Part, entry, keep, seal}
use Rattle.journal_model.specs.Saving.{CommitRefusal, commit_refusal}
use Rattle.journal_model.specs.Spelling.{parts_bytes}
use Rattle.journal_model.specs.Standing.{behind, is_sealed, standing}
use Rattle.record_model.specs.Released.{Sender, again, again_to, authenticator, outstanding, pieces_from, repeated_from, resend_refusal}

-- the journal, the parts that aren't saved yet, and the machine
pub record Recording : Type 0 where
  pub journal : JournalData
  pub batch : List Part
  pub machine : State

-- ---- entries

-- an output as an entry; no step makes the last
abbrev pub made_content : Made → ContentData
made_content (OutAt count bytes) = out count bytes
made_content (SendAt count peer number payload) = send count peer number payload
made_content (HaltAt count cause value) = halt count cause value
made_content (SnapAt count r) = snap count r
made_content (NothingAt count) = boot count []

abbrev pub offer_content : ℕ → Offer → ContentData
offer_content count (OfferConsole bytes) = conin count bytes
offer_content count (OfferClock value) = clock count value
offer_content count (OfferData inner) = recv count inner
offer_content count (OfferAck inner) = acked count inner

-- an input at the state's count
abbrev pub given_at : State → Offer → Given
given_at s offer = record { count = s.count; offer = offer }

abbrev pub frame_of : ℕ → ContentData → FrameData
frame_of n c = record { seq = n; kind = kind_of c; content = content_bytes c }

-- An entry of a number, made where the machine has this state. Behind a SNAP stands its keep: the head, and some pages.
abbrev pub content_parts : ℕ → State → List ℕ → ContentData → List Part
content_parts n s pages (snap count r) = entry (frame_of n (snap count r)) ∷ keep (record { seq = n; head = head_bytes (data_of s); pages = pages }) ∷ []
content_parts n s pages c = entry (frame_of n c) ∷ []

abbrev pub made_parts : ℕ → State → List ℕ → List Made → List Part
made_parts n s pages [] = []
made_parts n s pages (o ∷ os) = content_parts n s pages (made_content o) ++ made_parts (n + 1) s pages os

-- the number of the next entry
abbrev pub next_of : Recording → ℕ
next_of r = (fold behind (standing r.journal) r.batch).next

-- ---- acts

-- a step; a clock value and the step that uses it; what comes in, or bytes that are no packet; sending again to a peer
pub data Act : Type 0 where
  StepOn : Act
  AnswerClock : ℕ → Act
  TakeIn : Option Offer → Act
  SendAgain : ℕ → Act

-- What an act leaves: the recording with its batch open, whether the batch closes now, what is released again, and why what came
-- in was dropped.
pub record Effect : Type 0 where
  pub recording : Recording
  pub closes : Bool
  pub again : List Piece
  pub dropped : Option NotTaken

-- a batch closes by an entry by which it passes this size
abbrev pub most_open : ℕ
most_open = 32768

abbrev pub is_large : List Part → Bool
is_large batch = nat_lt most_open (length (parts_bytes batch))

abbrev pub is_none : {A : Type 0} → List A → Bool
is_none [] = true
is_none (x ∷ xs) = false

-- A step, with its outputs as entries. The batch closes where there are some.
abbrev pub with_step : Recording → List ℕ → State × List Made → Effect
with_step r pages step =
    let batch = r.batch ++ made_parts (next_of r) step.0 pages step.1 in
    record {
      recording = record r { machine = step.0; batch = batch };
      closes = not (is_none step.1) || is_large batch;
      again = [];
      dropped = None;
    }

abbrev pub stepped_on : Recording → List ℕ → Option Effect
stepped_on r pages = option_map (with_step r pages) (step_of r.machine)

-- an input that is taken is an entry
abbrev pub with_input : Recording → Offer → State → Recording
with_input r offer s = record r { machine = s; batch = r.batch ++ entry (frame_of (next_of r) (offer_content r.machine.count offer)) ∷ [] }

abbrev pub is_data : Offer → Bool
is_data (OfferConsole bytes) = false
is_data (OfferClock value) = false
is_data (OfferData inner) = true
is_data (OfferAck inner) = false

-- the batch closes behind a RECV
abbrev pub taken_in : Recording → Offer → Effect
taken_in r offer =
    let after = with_input r offer (taken r.machine offer) in
    record { recording = after; closes = is_data offer || is_large after.batch; again = []; dropped = None }

abbrev pub dropped_for : Sender → Recording → Option Offer → NotTaken → Effect
dropped_for who r offer why =
    record { recording = r; closes = false; again = again_to who r.journal (repeated_from why offer); dropped = Some why }

abbrev pub take_in : Sender → Recording → Option Offer → Option NotTaken → Option Effect
take_in who r offer (Some why) = Some (dropped_for who r offer why)
take_in who r None None = None
take_in who r (Some offer) None = Some (taken_in r offer)

abbrev pub sent_again : Sender → Recording → ℕ → Effect
sent_again who r peer =
    let e = outstanding r.journal r.machine peer in
    record { recording = r; closes = false; again = again who e; dropped = resend_refusal (row_of r.machine.devices.peers peer) e }

-- the effect of an act, with the pages of the keep behind its SNAP; none where it can't be done
abbrev pub effect : Sender → List ℕ → Recording → Act → Option Effect
effect who pages r StepOn = stepped_on r pages
effect who pages r (AnswerClock value) =
    take_of r.machine (given_at r.machine (OfferClock value)) >>= λ s. stepped_on (with_input r (OfferClock value) s) pages
effect who pages r (TakeIn offer) = take_in who r offer (refuse_packet r.machine offer)
effect who pages r (SendAgain peer) = Some (sent_again who r peer)

-- ---- a batch is saved

abbrev pub saved : Recording → Recording
saved r = record r { journal = with_record r.journal r.batch; batch = [] }

-- What is done: the recording, what is released, why what came in was dropped, and why the batch wasn't saved.
pub record Done : Type 0 where
  pub recording : Recording
  pub pieces : List Piece
  pub dropped : Option NotTaken
  pub stop : Option CommitRefusal

-- everything of a batch is released behind its saving, and nothing where it is refused
abbrev pub closed_by : Sender → Recording → Option CommitRefusal → Done
closed_by who r (Some why) = record { recording = r; pieces = []; dropped = None; stop = Some why }
closed_by who r None = record { recording = saved r; pieces = pieces_from who (standing r.journal) r.batch; dropped = None; stop = None }

abbrev pub closed : Sender → Recording → Done
closed who r = closed_by who r (commit_refusal r.journal r.batch)

abbrev pub finished : Sender → Effect → Done
finished who e =
    if e.closes then closed who e.recording
    else record { recording = e.recording; pieces = e.again; dropped = e.dropped; stop = None }

abbrev pub done : Sender → List ℕ → Recording → Act → Option Done
done who pages r act = option_map (finished who) (effect who pages r act)

-- ---- sealing

abbrev pub with_seal : Recording → Recording
with_seal r = record r { batch = r.batch ++ seal ∷ [] }

-- nothing is open, and the last item is a seal
abbrev pub needs_no_seal : Recording → Bool
needs_no_seal r = is_none r.batch && is_sealed r.journal

-- the leaf of the last item is the last one used
abbrev pub seal_again : Sender → JournalData → List ℕ
seal_again who j = authenticator who (record (standing j) { used = (standing j).used - 1 })

-- a seal joins the open batch, unless that is empty and the last item is a seal; the last entry's authenticator is released
abbrev pub sealed : Sender → Recording → Done
sealed who r =
    if needs_no_seal r
    then record { recording = r; pieces = auth (seal_again who r.journal) ∷ []; dropped = None; stop = None }
    else closed who (with_seal r)
