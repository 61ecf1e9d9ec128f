-- The head of a snapshot: its data, and the one spelling of them (docs/FORMATS.md, Head).
use Rattle.std.specs.Prelude.{◌≡◌, ℕ, ◌^◌, ◌<◌, List, [], ◌++◌, length, Option, Some, None}
use Rattle.std.specs.List.{AllByRecursion}
use Rattle.std.specs.Int.{w16, w32, w64}
use Rattle.avm_model.specs.Bell.{version_of}
use Rattle.avm_model.specs.Device.{MessageState}
use Rattle.avm_model.specs.declared.Bell.{Bell}
use Rattle.avm_model.specs.declared.Peer.{Peer}
use Rattle.avm_model.specs.declared.Status.{Status}
use Rattle.avm_model.specs.declared.Status.TheVariants.{Running, Waiting, Halted}
use Rattle.avm_num.specs.Lists.{list_bytes, be, one, sized_bytes, many_bytes}

-- who the machine is, and whom it knows
pub record FrontData : Type 0 where
  pub own : ℕ
  pub snap : ℕ
  pub pages : ℕ
  pub peers : List Peer

-- registers 1 to 31, and where the machine stands
pub record HartData : Type 0 where
  pub x : List ℕ
  pub pc : ℕ
  pub count : ℕ
  pub status : Status

-- the CLK_HI latch, the line buffer and both queues, oldest first
pub record QueuesData : Type 0 where
  pub latch : ℕ
  pub line : List ℕ
  pub console : List ℕ
  pub messages : List MessageState

-- TX_PEER, TX_LEN, TX_RES and the transmit window
pub record TransmitData : Type 0 where
  pub peer : ℕ
  pub len : ℕ
  pub result : ℕ
  pub window : List ℕ

-- and the bell, in version 2 alone
pub record HeadData : Type 0 where
  pub front : FrontData
  pub hart : HartData
  pub queues : QueuesData
  pub transmit : TransmitData
  pub bell : Option Bell

-- ---- the spelling

abbrev pub status_code : Status → ℕ
status_code Running = 0
status_code Waiting = 1
status_code Halted = 2

abbrev pub peer_bytes : Peer → List ℕ
peer_bytes p = one p.id ++ p.key ++ be w64 p.sent ++ be w64 p.acked ++ be w64 p.received

abbrev pub message_bytes : MessageState → List ℕ
message_bytes m = one m.peer ++ sized_bytes (be w16) m.payload

unfoldable pub front_bytes : FrontData → List ℕ
front_bytes f = one f.own ++ be w32 f.snap ++ be w32 f.pages ++ many_bytes one peer_bytes f.peers

unfoldable pub hart_bytes : HartData → List ℕ
hart_bytes h = list_bytes (be w32) h.x ++ be w32 h.pc ++ be w64 h.count ++ one (status_code h.status)

unfoldable pub queues_bytes : QueuesData → List ℕ
queues_bytes q = be w32 q.latch ++ sized_bytes one q.line ++ sized_bytes (be w16) q.console ++ many_bytes one message_bytes q.messages

unfoldable pub transmit_bytes : TransmitData → List ℕ
transmit_bytes t = be w32 t.peer ++ be w32 t.len ++ be w32 t.result ++ t.window

unfoldable pub words_bytes : Bell → List ℕ
words_bytes b = be w32 b.vector ++ be w32 b.saved ++ one b.state

unfoldable pub bell_bytes : Option Bell → List ℕ
bell_bytes None = []
bell_bytes (Some b) = words_bytes b

-- the version stands in front, the bell at the end
unfoldable pub head_bytes : HeadData → List ℕ
head_bytes h =
    one (version_of h.bell) ++ front_bytes h.front ++ hart_bytes h.hart ++ queues_bytes h.queues ++ transmit_bytes h.transmit
    ++ bell_bytes h.bell

-- ---- what the fields can hold

pub record FitsPeer (p : Peer) : Type 0 where
  pub key : length p.key ≡ 56
  pub sent : p.sent < 2 ^ 64
  pub acked : p.acked < 2 ^ 64
  pub received : p.received < 2 ^ 64

abbrev pub FitsMessage : MessageState → Type 0
FitsMessage m = length m.payload < 2 ^ 16

pub record FitsFront (f : FrontData) : Type 0 where
  pub snap : f.snap < 2 ^ 32
  pub pages : f.pages < 2 ^ 32
  pub peers : AllByRecursion FitsPeer f.peers

pub record FitsHart (h : HartData) : Type 0 where
  pub registers : length h.x ≡ 31
  pub words : AllByRecursion (λ n. n < 2 ^ 32) h.x
  pub pc : h.pc < 2 ^ 32
  pub count : h.count < 2 ^ 64

pub record FitsQueues (q : QueuesData) : Type 0 where
  pub latch : q.latch < 2 ^ 32
  pub console : length q.console < 2 ^ 16
  pub messages : AllByRecursion FitsMessage q.messages

pub record FitsTransmit (t : TransmitData) : Type 0 where
  pub peer : t.peer < 2 ^ 32
  pub len : t.len < 2 ^ 32
  pub result : t.result < 2 ^ 32
  pub window : length t.window ≡ 1024

pub record FitsWords (b : Bell) : Type 0 where
  pub vector : b.vector < 2 ^ 32
  pub saved : b.saved < 2 ^ 32

abbrev pub FitsBell : Option Bell → Type 0
FitsBell None = Unit {0}
FitsBell (Some b) = FitsWords b

pub record FitsHead (h : HeadData) : Type 0 where
  pub front : FitsFront h.front
  pub hart : FitsHart h.hart
  pub queues : FitsQueues h.queues
  pub transmit : FitsTransmit h.transmit
  pub bell : FitsBell h.bell
