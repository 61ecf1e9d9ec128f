-- The bounds of a head (docs/FORMATS.md, Head).
use Rattle.std.specs.Prelude.{ℕ, ◌+◌, ◌%◌, ◌^◌, ◌==◌, ◌&&◌, ◌||◌, not, nat_le, nat_lt, Bool, true, false, List, [], ◌∷◌, length}
use Rattle.std.specs.List.{list_any}
use Rattle.avm_model.specs.Memory.{is_page_count}
use Rattle.avm_model.specs.Device.{MessageState}
pub use Rattle.avm_model.specs.Memory.{is_page_count}
use Rattle.avm_model.specs.Bell.{is_bell}
use Rattle.avm_model.specs.LmsValid.{is_key}
pub use Rattle.avm_model.specs.LmsValid.{is_key}
use Rattle.avm_model.specs.declared.Peer.{Peer}
use Rattle.avm_model.specs.declared.Status.{Status}
use Rattle.avm_model.specs.declared.Status.TheVariants.{Running, Waiting, Halted}
use Rattle.avm_model.specs.Head.{FrontData, HartData, QueuesData, HeadData}

-- at most the last message sent is without its acknowledgement
abbrev pub is_row : ℕ → Peer → Bool
is_row own p =
    nat_lt p.id 16 && not (p.id == own) && is_key p.key && (p.acked == p.sent || p.acked + 1 == p.sent) && nat_lt p.received (2 ^ 62)

-- rows with ids that ascend from low on, none of them the own one
abbrev pub are_rows : ℕ → ℕ → List Peer → Bool
are_rows own low [] = true
are_rows own low (p ∷ ps) = nat_le low p.id && is_row own p && are_rows own (p.id + 1) ps

-- no row counts more messages than there were steps
abbrev pub none_past : ℕ → List Peer → Bool
none_past count [] = true
none_past count (p ∷ ps) = nat_le p.sent count && none_past count ps

-- a row has this id
abbrev pub knows : List Peer → ℕ → Bool
knows [] id = false
knows (p ∷ ps) id = p.id == id || knows ps id

-- short messages of known peers
abbrev pub are_messages : List Peer → List MessageState → Bool
are_messages peers [] = true
are_messages peers (m ∷ ms) = nat_le (length m.payload) 1024 && knows peers m.peer && are_messages peers ms

-- a line end stands in the line
abbrev pub has_ten : List ℕ → Bool
has_ten bytes = list_any (λ b. b == 10) bytes

abbrev pub is_front : FrontData → Bool
is_front f = nat_lt f.own 16 && nat_le 1024 f.snap && nat_le f.snap (2 ^ 24) && is_page_count f.pages && are_rows f.own 0 f.peers

abbrev pub is_hart : HartData → Bool
is_hart h = h.pc % 4 == 0 && nat_lt h.count (2 ^ 62)

-- a machine waits with empty queues only, and halts with an empty line only
abbrev pub suits : Status → QueuesData → Bool
suits Running q = true
suits Waiting q = length q.console == 0 && length q.messages == 0
suits Halted q = length q.line == 0

abbrev pub are_queues : List Peer → QueuesData → Bool
are_queues peers q =
    nat_le (length q.line) 127 && not (has_ten q.line) && nat_le (length q.console) 1024 && nat_le (length q.messages) 8
    && are_messages peers q.messages

unfoldable pub is_head : HeadData → Bool
is_head h =
    is_front h.front && is_hart h.hart && none_past h.hart.count h.front.peers && are_queues h.front.peers h.queues
    && suits h.hart.status h.queues && nat_le h.transmit.result 3 && is_bell h.bell
