-- Several nodes and the packets between them: what each journal says of messages, and what one event of a schedule changes.
use Rattle.life_model.specs.Life.{Among}
use Rattle.std.specs.Prelude.{◌≡◌, ℕ, ◌+◌, ◌≤◌, ◌==◌, List, [], ◌∷◌, ◌++◌, length, slice_get, slice_set, Some, if◌then◌else◌}

-- ---- lists

-- a list begins with another
abbrev pub IsPrefix : {A : Type 0} → List A → List A → Type 0
IsPrefix front all = (behind : List _) × (all ≡ front ++ behind)

-- ---- the mail of a journal

-- what a SEND, a RECV and an ACKED entry say: the peer, the message's number, and its payload
pub data Mail : Type 0 where
  SentTo : ℕ → ℕ → List ℕ → Mail
  ReceivedFrom : ℕ → ℕ → List ℕ → Mail
  AckedBy : ℕ → ℕ → Mail

-- a message: its number and payload
abbrev pub Message : Type 0
Message = ℕ × List ℕ

-- the messages sent to a peer, in order
abbrev pub sent_to : ℕ → List Mail → List Message
sent_to peer [] = []
sent_to peer (SentTo id number payload ∷ ms) = if id == peer then (number, payload) ∷ sent_to peer ms else sent_to peer ms
sent_to peer (ReceivedFrom id number payload ∷ ms) = sent_to peer ms
sent_to peer (AckedBy id number ∷ ms) = sent_to peer ms

-- the messages received from a peer, in order
abbrev pub received_from : ℕ → List Mail → List Message
received_from peer [] = []
received_from peer (SentTo id number payload ∷ ms) = received_from peer ms
received_from peer (ReceivedFrom id number payload ∷ ms) = if id == peer then (number, payload) ∷ received_from peer ms else received_from peer ms
received_from peer (AckedBy id number ∷ ms) = received_from peer ms

-- the number of the last message that a peer acknowledged, behind one that is given
abbrev pub acked_behind : ℕ → ℕ → List Mail → ℕ
acked_behind n peer [] = n
acked_behind n peer (SentTo id number payload ∷ ms) = acked_behind n peer ms
acked_behind n peer (ReceivedFrom id number payload ∷ ms) = acked_behind n peer ms
acked_behind n peer (AckedBy id number ∷ ms) = acked_behind (if id == peer then number else n) peer ms

-- 0 where there is none
abbrev pub acked_by : ℕ → List Mail → ℕ
acked_by peer ms = acked_behind 0 peer ms

-- the numbers of messages run on from n
abbrev pub RunOn : ℕ → List Message → Type 0
RunOn n [] = Unit {0}
RunOn n (m ∷ ms) = (m.0 ≡ n) × RunOn (n + 1) ms

-- the messages to each peer, and those from each, are numbered from 1
pub record IsNumbered (ms : List Mail) : Type 0 where
  pub sent : (peer : ℕ) → RunOn 1 (sent_to peer ms)
  pub received : (peer : ℕ) → RunOn 1 (received_from peer ms)

-- ---- worlds

-- A node: its own id, the mail of its acknowledged journal, and that of its unsaved batch.
pub record Node : Type 0 where
  pub own : ℕ
  pub saved : List Mail
  pub unsaved : List Mail

abbrev pub mail_of : Node → List Mail
mail_of n = n.saved ++ n.unsaved

-- A packet that was released: the own id of the node that released it, and the mail that it shows. DATA shows what a SEND says,
-- ACK what a RECV says.
pub record Parcel : Type 0 where
  pub from : ℕ
  pub mail : Mail

pub record World : Type 0 where
  pub nodes : List Node
  pub pool : List Parcel

-- ---- one event

-- what becomes of the batch: it stays open, also where it can't be saved; it is saved, also by a crash behind its gate; a crash loses it
pub data Ending : Type 0 where
  StaysOpen : Ending
  IsSaved : Ending
  IsLost : Ending

-- the node with more mail in its batch, behind such an ending
abbrev pub ended : Node → List Mail → Ending → Node
ended n more StaysOpen = record n { unsaved = n.unsaved ++ more }
ended n more IsSaved = record n { saved = n.saved ++ (n.unsaved ++ more); unsaved = [] }
ended n more IsLost = record n { unsaved = [] }

-- A node receives only what a packet of the pool shows as sent to it, and counts only what one shows as received from it.
abbrev pub IsDelivered : List Parcel → ℕ → Mail → Type 0
IsDelivered pool own (SentTo peer number payload) = Unit {0}
IsDelivered pool own (ReceivedFrom peer number payload) = Among (record { from = peer; mail = SentTo own number payload }) pool
IsDelivered pool own (AckedBy peer number) = (payload : List ℕ) × Among (record { from = peer; mail = ReceivedFrom own number payload }) pool

-- a packet of a node shows mail of its acknowledged journal
abbrev pub IsReleasedBy : Node → Parcel → Type 0
IsReleasedBy n p = (p.from ≡ n.own) × Among p.mail n.saved

-- One event at a node: mail joins its batch, with numbers that run on; the batch has an ending; and packets join the pool, which show
-- what is then in the acknowledged journal.
pub record IsEvent (pool : List Parcel) (old new : Node) (released : List Parcel) : Type 0 where
  pub more : List Mail
  pub ending : Ending
  pub delivered : (m : Mail) → Among m more → IsDelivered pool old.own m
  pub numbered : IsNumbered (mail_of old ++ more)
  pub new_is : new ≡ ended old more ending
  pub released_by : (p : Parcel) → Among p released → IsReleasedBy new p

-- an event at one node of a world
pub record IsStep (w v : World) : Type 0 where
  pub place : ℕ
  pub old : Node
  pub new : Node
  pub released : List Parcel
  pub old_is : slice_get w.nodes place ≡ Some old
  pub event : IsEvent w.pool old new released
  pub next : v ≡ record { nodes = slice_set w.nodes place new; pool = w.pool ++ released }

-- a list of steps
pub data AreSteps : World → World → Type 0 where
  Rests : (w : World) → AreSteps w w
  Follows : (w v u : World) → AreSteps w v → IsStep v u → AreSteps w u

-- ---- the invariant

-- some node of this id has this mail in its acknowledged journal
pub record Holds (w : World) (id : ℕ) (m : Mail) : Type 0 where
  pub place : ℕ
  pub node : Node
  pub node_is : slice_get w.nodes place ≡ Some node
  pub own : node.own ≡ id
  pub stands : Among m node.saved

-- what is received was sent, and what is counted as acknowledged was received, each in the other's acknowledged journal
abbrev pub IsBacked : World → ℕ → Mail → Type 0
IsBacked w own (SentTo peer number payload) = Unit {0}
IsBacked w own (ReceivedFrom peer number payload) = Holds w peer (SentTo own number payload)
IsBacked w own (AckedBy peer number) = (payload : List ℕ) × Holds w peer (ReceivedFrom own number payload)

pub record IsConsistent (w : World) : Type 0 where
  pub distinct : (i j : ℕ) (a b : Node) → slice_get w.nodes i ≡ Some a → slice_get w.nodes j ≡ Some b → a.own ≡ b.own → i ≡ j
  pub numbered : (i : ℕ) (a : Node) → slice_get w.nodes i ≡ Some a → IsNumbered (mail_of a)
  pub backed : (i : ℕ) (a : Node) (m : Mail) → slice_get w.nodes i ≡ Some a → Among m (mail_of a) → IsBacked w a.own m
  pub pool : (p : Parcel) → Among p w.pool → Holds w p.from p.mail

-- ---- what it gives, for two nodes

-- What a node has from a peer is a front of what the peer has sent to it, each message once; and what it counts as acknowledged by
-- the peer, the peer has received.
pub record AreAgreed (a b : Node) : Type 0 where
  pub received : IsPrefix (received_from b.own (mail_of a)) (sent_to a.own b.saved)
  pub acked : acked_by b.own (mail_of a) ≤ length (received_from a.own b.saved)
