-- What a recorder releases: packets, lines and authenticators, signed at the leaves that the journal gives them.
use Rattle.std.specs.Prelude.{ℕ, ◌-◌, ◌==◌, Bool, false, List, [], ◌∷◌, ◌++◌, Option, Some, None, if◌then◌else◌}
use Rattle.avm_model.specs.Keys.{KeyData, sig_of}
use Rattle.avm_model.specs.Auth.{auth_bytes, signed_text_of}
use Rattle.avm_model.specs.Chain.{next_hash}
use Rattle.avm_model.specs.Content.{ContentData, recv, out, send, content_at}
use Rattle.avm_model.specs.Packet.{PacketData, data_at, data_bytes, ack_bytes}
use Rattle.avm_model.specs.Device.{row_of}
use Rattle.avm_model.specs.Machine.{State}
use Rattle.avm_model.specs.Offer.{Offer, OfferData}
use Rattle.avm_model.specs.declared.Peer.{Peer}
use Rattle.avm_model.specs.declared.NotTaken.{NotTaken}
use Rattle.avm_model.specs.declared.NotTaken.TheVariants.{UnknownPeer, NotOutstanding, Repeated}
use Rattle.avm_outside.specs.Outlet.{Piece, auth, console, packet}
use Rattle.journal_model.specs.Header.{CarriedData}
use Rattle.journal_model.specs.Journal.{JournalData, parts}
use Rattle.journal_model.specs.Part.{Part, entry, is_signed_kind, keep, seal}
use Rattle.journal_model.specs.Standing.{StandingData, behind, start}

-- who signs: the private key and the own id
pub record Sender : Type 0 where
  pub key : KeyData
  pub own : ℕ

-- the signature of a number and a hash at a leaf
abbrev pub signature_at : Sender → ℕ → ℕ → List ℕ → List ℕ
signature_at who leaf seq hash = sig_of who.key leaf (signed_text_of seq hash)

-- the packet of a signed entry
abbrev pub packet_of : Sender → CarriedData → PacketData
packet_of who e = record {
  from = who.own;
  seq = e.frame.seq;
  before = e.before;
  content = e.frame.content;
  sig = signature_at who e.leaf e.frame.seq (next_hash e.before e.frame);
}

abbrev pub sender_of : Option PacketData → ℕ
sender_of None = 0
sender_of (Some p) = p.from

-- what is released for a content: the line of an OUT, the DATA packet of a SEND, the ACK packet of a RECV to its packet's sender
abbrev pub content_pieces : Sender → CarriedData → Option ContentData → List Piece
content_pieces who e (Some (out count bytes)) = console bytes ∷ []
content_pieces who e (Some (send count peer number payload)) = packet peer (data_bytes (packet_of who e)) ∷ []
content_pieces who e (Some (recv count inner)) = packet (sender_of (data_at inner)) (ack_bytes (packet_of who e)) ∷ []
content_pieces who e content = []

abbrev pub entry_pieces : Sender → CarriedData → List Piece
entry_pieces who e = content_pieces who e (content_at e.frame.kind e.frame.content)

-- the authenticator of the last entry in front of a point
abbrev pub authenticator : Sender → StandingData → List ℕ
authenticator who p = auth_bytes (record { seq = p.next - 1; hash = p.hash; sig = signature_at who p.used (p.next - 1) p.hash })

-- what is released for a part at a point; for a seal the authenticator of the last entry
abbrev pub part_pieces : Sender → StandingData → Part → List Piece
part_pieces who p (entry f) = entry_pieces who (record { leaf = p.used; before = p.hash; frame = f })
part_pieces who p seal = auth (authenticator who p) ∷ []
part_pieces who p (keep k) = []

abbrev pub pieces_from : Sender → StandingData → List Part → List Piece
pieces_from who p [] = []
pieces_from who p (x ∷ xs) = part_pieces who p x ++ pieces_from who (behind p x) xs

-- ---- what is signed

-- the signed entries among parts, with their leaves and the hashes before them
abbrev pub signed_frame : StandingData → Part → List CarriedData
signed_frame p (entry f) = if is_signed_kind f.kind then record { leaf = p.used; before = p.hash; frame = f } ∷ [] else []
signed_frame p seal = []
signed_frame p (keep k) = []

abbrev pub signed_frames : StandingData → List Part → List CarriedData
signed_frames p [] = []
signed_frames p (x ∷ xs) = signed_frame p x ++ signed_frames (behind p x) xs

-- the carried entries, and then those of the journal's own items
abbrev pub signed_entries : JournalData → List CarriedData
signed_entries j = j.header.carried ++ signed_frames (start j.header) (parts j)

-- ---- what is sent again

-- the last that passes
abbrev pub last_that : {A : Type 0} → (A → Bool) → List A → Option A
last_that p [] = None
last_that p (x ∷ xs) = later (last_that p xs) (if p x then Some x else None)
  where
    later : {A : Type 0} → Option A → Option A → Option A
    later None other = other
    later (Some y) other = Some y

abbrev pub is_send_to : ℕ → Option ContentData → Bool
is_send_to id (Some (send count peer number payload)) = peer == id
is_send_to id content = false

abbrev pub is_recv_from : ℕ → Option ContentData → Bool
is_recv_from id (Some (recv count inner)) = sender_of (data_at inner) == id
is_recv_from id content = false

abbrev pub number_in : Option ContentData → Option ℕ
number_in (Some (send count peer number payload)) = Some number
number_in content = None

abbrev pub read : CarriedData → Option ContentData
read e = content_at e.frame.kind e.frame.content

-- the last SEND to a peer and the last RECV from it, in the journal's items or else among the carried entries
abbrev pub last_send : JournalData → ℕ → Option CarriedData
last_send j peer = last_that (λ e. is_send_to peer (read e)) (signed_entries j)

abbrev pub last_recv : JournalData → ℕ → Option CarriedData
last_recv j peer = last_that (λ e. is_recv_from peer (read e)) (signed_entries j)

-- an entry that is a SEND of this number
abbrev pub with_number : ℕ → Option CarriedData → Option CarriedData
with_number number None = None
with_number number (Some e) = by (number_in (read e))
  where
    by : Option ℕ → Option CarriedData
    by None = None
    by (Some n) = if n == number then Some e else None

-- the SEND to a peer that isn't acknowledged
abbrev pub outstanding_of : JournalData → ℕ → Option Peer → Option CarriedData
outstanding_of j id None = None
outstanding_of j id (Some row) = if row.sent == row.acked then None else with_number row.sent (last_send j id)

abbrev pub outstanding : JournalData → State → ℕ → Option CarriedData
outstanding j s peer = outstanding_of j peer (row_of s.devices.peers peer)

-- why nothing is sent again to a peer
abbrev pub resend_refusal : Option Peer → Option CarriedData → Option NotTaken
resend_refusal None e = Some UnknownPeer
resend_refusal (Some row) None = Some NotOutstanding
resend_refusal (Some row) (Some e) = None

abbrev pub again : Sender → Option CarriedData → List Piece
again who None = []
again who (Some e) = entry_pieces who e

-- the peer whose packet is repeated: its last acknowledgement is released again
abbrev pub repeated_from : NotTaken → Option Offer → Option ℕ
repeated_from Repeated (Some (OfferData bytes)) = Some (sender_of (data_at bytes))
repeated_from why offer = None

abbrev pub again_to : Sender → JournalData → Option ℕ → List Piece
again_to who j None = []
again_to who j (Some peer) = again who (last_recv j peer)
