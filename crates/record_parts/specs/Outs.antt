-- The outputs of a step: as entries of a batch, and what they release once it is saved.
use Rattle.std.specs.Prelude.{◌≡◌, ℕ, ◌+◌, ◌==◌, Bool, false, true, List, [], ◌∷◌, ◌++◌, length, map, take, Option, Some, None, if◌then◌else◌}
use Rattle.avm_model.specs.Content.{ContentData, content_at, content_bytes, out, recv, send}
use Rattle.avm_model.specs.Machine.{MachineState, State}
use Rattle.avm_model.specs.Memory.{RamState}
use Rattle.avm_model.specs.Packet.{PacketData, data_bytes}
use Rattle.avm_model.specs.Auth.{auth_bytes}
use Rattle.avm_model.specs.Reference.{Made, made_of}
use Rattle.avm_model.specs.declared.Sent.{Sent}
use Rattle.avm_outside.specs.Outlet.{Piece, console, packet}
use Rattle.guest_machine.specs.Outs.{outs_list}
use Rattle.guest_machine.specs.declared.outs.Line.{Line}
use Rattle.guest_machine.specs.declared.outs.Outs.{Outs}
use Rattle.journal_model.specs.Part.{Part, entry, is_signed_kind, keep, seal}
use Rattle.journal_model.specs.Standing.{SignedData}
use Rattle.avm_num.specs.Lists.{list_bytes}
use Rattle.avm_num.specs.Walk.{items_of}
use Rattle.journal_model.specs.Part.{PageData, page_at}
use Rattle.record_batch.specs.Batch.{BatchData}
use Rattle.record_batch.specs.Keeping.{marked_from, page_bytes}
use Rattle.record_model.specs.Recording.{made_parts}
use Rattle.record_model.specs.Released.{Sender, signature_at}

-- the outputs of the step that left a state, as a log has them
abbrev pub outs_made : State → Outs → List Made
outs_made s o = map (made_of s) (outs_list o s.devices.window)

-- the RAM of a machine, with its marks
abbrev pub ram_in : MachineState → RamState
ram_in m = record { bytes = m.state.ram; dirty = m.dirty }

-- the batch with outputs as its next entries
abbrev pub with_made : BatchData → State → List ℕ → List Made → BatchData
with_made b s pages os = record { parts = b.parts ++ made_parts b.next s pages os; next = b.next + length os }

-- the bytes of the pages that have a mark, and the pages that such bytes are
abbrev pub kept_pages : List Bool → List ℕ → List ℕ
kept_pages marks ram = list_bytes page_bytes (marked_from 0 marks ram)

abbrev pub pages_in : List ℕ → List PageData
pages_in bytes = items_of page_at bytes

abbrev pub first_of : {A : Type 0} → List A → Option A
first_of [] = None
first_of (x ∷ xs) = Some x

-- ---- what is released behind the saving of a step's outputs

abbrev pub line_pieces : Line → List Piece
line_pieces line = if line.len == 0 then [] else console (take line.len line.bytes) ∷ []

-- the packet of a signed item with this content
abbrev pub packet_by : Sender → SignedData → List ℕ → PacketData
packet_by who t content = record { from = who.own; seq = t.seq; before = t.before; content = content; sig = signature_at who t.leaf t.seq t.hash }

-- the authenticator of a signed item
abbrev pub auth_by : Sender → SignedData → List ℕ
auth_by who t = auth_bytes (record { seq = t.seq; hash = t.hash; sig = signature_at who t.leaf t.seq t.hash })

abbrev pub sent_pieces : Sender → State → Option Sent → Option SignedData → List Piece
sent_pieces who s None ticket = []
sent_pieces who s (Some x) None = []
sent_pieces who s (Some x) (Some t) = packet x.peer (data_bytes (packet_by who t (content_bytes (send s.count x.peer x.number (take x.len s.devices.window))))) ∷ []

-- ---- a batch without anything to release

abbrev pub is_out : Option ContentData → Bool
is_out (Some (out count bytes)) = true
is_out content = false

abbrev pub is_send : Option ContentData → Bool
is_send (Some (send count peer number payload)) = true
is_send content = false

abbrev pub is_recv : Option ContentData → Bool
is_recv (Some (recv count inner)) = true
is_recv content = false

-- entries that are neither signed nor lines
abbrev pub AreQuiet : List Part → Type 0
AreQuiet [] = Unit {0}
AreQuiet (entry f ∷ ps) = (is_signed_kind f.kind ≡ false) × (is_out (content_at f.kind f.content) ≡ false) × (is_send (content_at f.kind f.content) ≡ false) × (is_recv (content_at f.kind f.content) ≡ false) × AreQuiet ps
AreQuiet (seal ∷ ps) = ⊥
AreQuiet (keep k ∷ ps) = AreQuiet ps
