-- The mail of a recording, and what its machine's rows count of it.
use Rattle.std.specs.Prelude.{◌≡◌, ℕ, ◌+◌, List, [], ◌∷◌, ◌++◌, length, Option, Some, None}
use Rattle.avm_model.specs.Content.{ContentData, recv, acked, send, content_at}
use Rattle.avm_model.specs.Device.{row_of, with_row, sends_one}
use Rattle.avm_model.specs.Offer.{Offer, OfferConsole, OfferClock, OfferData, OfferAck, DataIn, AckIn, data_in, ack_in}
use Rattle.avm_model.specs.Reference.{Made, OutAt, SendAt, HaltAt, SnapAt, NothingAt}
use Rattle.avm_model.specs.declared.Peer.{Peer}
use Rattle.world_model.specs.World.{Mail, SentTo, ReceivedFrom, AckedBy, sent_to, received_from, acked_by, IsNumbered, Node, mail_of, Parcel, IsDelivered}
use Rattle.journal_model.specs.Part.{Part, entry, seal, keep}
use Rattle.journal_model.specs.Journal.{parts}
use Rattle.record_model.specs.Recording.{Recording, Act, StepOn, AnswerClock, TakeIn, SendAgain, Effect}
use Rattle.life_model.specs.Life.{Among}

-- ---- the mail of parts

abbrev pub data_mail : Option DataIn → List Mail
data_mail None = []
data_mail (Some d) = ReceivedFrom d.packet.from d.message.number d.message.payload ∷ []

abbrev pub ack_mail : Option AckIn → List Mail
ack_mail None = []
ack_mail (Some a) = AckedBy a.packet.from a.inner.message.number ∷ []

-- SEND, RECV and ACKED are mail; the others aren't
abbrev pub content_mail : Option ContentData → List Mail
content_mail (Some (send count peer number payload)) = SentTo peer number payload ∷ []
content_mail (Some (recv count packet)) = data_mail (data_in packet)
content_mail (Some (acked count packet)) = ack_mail (ack_in packet)
content_mail content = []

abbrev pub part_mail : Part → List Mail
part_mail (entry f) = content_mail (content_at f.kind f.content)
part_mail seal = []
part_mail (keep k) = []

abbrev pub mail_in : List Part → List Mail
mail_in [] = []
mail_in (p ∷ ps) = part_mail p ++ mail_in ps

-- a recording as a node
abbrev pub node_of : Recording → Node
node_of r = record { own = r.machine.devices.own; saved = mail_in (parts r.journal); unsaved = mail_in r.batch }

-- ---- what a step sends

abbrev pub sent_in : List Made → List Mail
sent_in [] = []
sent_in (OutAt count bytes ∷ os) = sent_in os
sent_in (SendAt count peer number payload ∷ os) = SentTo peer number payload ∷ sent_in os
sent_in (HaltAt count cause value ∷ os) = sent_in os
sent_in (SnapAt count r ∷ os) = sent_in os
sent_in (NothingAt count ∷ os) = sent_in os

-- the next message to a peer, which its row counts
pub record IsNext (old new : List Peer) (peer number : ℕ) : Type 0 where
  pub row : Peer
  pub row_is : row_of old peer ≡ Some row
  pub number_is : number ≡ row.sent + 1
  pub rows : new ≡ with_row old peer sends_one

-- nothing is sent and the rows stay, or one message is
pub data Sends (old new : List Peer) (ms : List Mail) : Type 0 where
  SendsNone : new ≡ old → ms ≡ [] → Sends old new ms
  SendsOne : (peer number : ℕ) → (payload : List ℕ) → IsNext old new peer number → ms ≡ SentTo peer number payload ∷ [] → Sends old new ms

-- ---- what rows count

-- The mail is numbered, and each row counts it: the messages sent to its peer, those received from it, and the last that it acknowledged.
pub record IsCounted (peers : List Peer) (ms : List Mail) : Type 0 where
  pub numbered : IsNumbered ms
  pub sent : (id : ℕ) (row : Peer) → row_of peers id ≡ Some row → row.sent ≡ length (sent_to id ms)
  pub received : (id : ℕ) (row : Peer) → row_of peers id ≡ Some row → row.received ≡ length (received_from id ms)
  pub acked : (id : ℕ) (row : Peer) → row_of peers id ≡ Some row → row.acked ≡ acked_by id ms

-- each row counts the mail of the journal and of the batch
abbrev pub IsMailCounted : Recording → Type 0
IsMailCounted r = IsCounted r.machine.devices.peers (mail_of (node_of r))

-- ---- what a packet shows

-- a DATA packet shows a message that its sender sent
abbrev pub data_shows : Option DataIn → List Parcel
data_shows None = []
data_shows (Some d) = record { from = d.packet.from; mail = SentTo d.message.peer d.message.number d.message.payload } ∷ []

-- an ACK packet shows a message that its sender received
abbrev pub ack_shows : Option AckIn → List Parcel
ack_shows None = []
ack_shows (Some a) = record { from = a.packet.from; mail = ReceivedFrom a.inner.packet.from a.inner.message.number a.inner.message.payload } ∷ []

-- the packet that an act takes in
abbrev pub offer_shows : Offer → List Parcel
offer_shows (OfferConsole bytes) = []
offer_shows (OfferClock value) = []
offer_shows (OfferData bytes) = data_shows (data_in bytes)
offer_shows (OfferAck bytes) = ack_shows (ack_in bytes)

abbrev pub act_shows : Act → List Parcel
act_shows StepOn = []
act_shows (AnswerClock value) = []
act_shows (TakeIn None) = []
act_shows (TakeIn (Some o)) = offer_shows o
act_shows (SendAgain peer) = []

-- ---- what an act adds

-- one recording is another with more mail in its batch, and its rows count it
pub record HasMore (r q : Recording) (more : List Mail) : Type 0 where
  pub journal : q.journal ≡ r.journal
  pub batch : mail_in q.batch ≡ mail_in r.batch ++ more
  pub own : q.machine.devices.own ≡ r.machine.devices.own
  pub counted : IsMailCounted q

-- an act adds only mail that the packet it takes in shows, and messages that it sends
pub record IsActed (r : Recording) (act : Act) (e : Effect) : Type 0 where
  pub more : List Mail
  pub adds : HasMore r e.recording more
  pub delivered : (m : Mail) → Among m more → IsDelivered (act_shows act) r.machine.devices.own m
