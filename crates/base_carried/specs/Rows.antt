-- What the rows of a state's peers ask for among a journal's signed entries, one entry after another.
use Rattle.std.specs.Prelude.{ℕ, ◌==◌, ◌&&◌, ◌||◌, not, nat_lt, map, Bool, false, List, Option, Some, None, if◌then◌else◌}
use Rattle.std.specs.List.{list_any}
use Rattle.avm_model.specs.Content.{ContentData, send, recv, content_at}
use Rattle.avm_model.specs.Frame.{FrameData}
use Rattle.avm_model.specs.Packet.{data_at}
use Rattle.avm_model.specs.declared.Peer.{Peer}
use Rattle.journal_model.specs.Standing.{SignedData}
use Rattle.record_model.specs.Released.{sender_of}
use Rattle.base_carried.specs.declared.row.Row.{Row}

abbrev pub is_wanted : Option ℕ → ℕ → Bool
is_wanted None n = false
is_wanted (Some m) n = m == n

-- nothing is found yet
abbrev pub row_for : Peer → Row
row_for p = record {
  peer = p.id;
  number = if p.sent == p.acked then None else Some p.sent;
  received = not (p.received == 0);
  send = None;
  recv = None;
}

-- with an entry of this number and this content
abbrev pub noted : ℕ → ContentData → Row → Row
noted seq (send count peer number payload) r = if peer == r.peer && is_wanted r.number number then record r { send = Some seq } else r
noted seq (recv count packet) r = if r.received && sender_of (data_at packet) == r.peer then record r { recv = Some seq } else r
noted seq c r = r

abbrev pub noted_by : ℕ → Option ContentData → Row → Row
noted_by seq None r = r
noted_by seq (Some c) r = noted seq c r

-- with an entry, where it stands before entry n
abbrev pub noted_entry : ℕ → FrameData → Row → Row
noted_entry n f r = if nat_lt f.seq n then noted_by f.seq (content_at f.kind f.content) r else r

-- rows with an entry that a ticket signs
abbrev pub noted_if : Option SignedData → ℕ → FrameData → List Row → List Row
noted_if None n f rs = rs
noted_if (Some t) n f rs = map (noted_entry n f) rs

-- it has found the entry of this number
abbrev pub has_number : ℕ → Row → Bool
has_number seq r = is_wanted r.send seq || is_wanted r.recv seq

-- an entry before entry n that a row has found
abbrev pub is_chosen : ℕ → List Row → ℕ → Bool
is_chosen n rows seq = nat_lt seq n && list_any (has_number seq) rows
