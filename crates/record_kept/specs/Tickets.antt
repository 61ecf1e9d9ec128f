-- What is kept so that packets can be sent again.
use Rattle.journal_model.specs.Header.{CarriedData}
use Rattle.journal_model.specs.Journal.{JournalData}
use Rattle.journal_model.specs.Standing.{SignedData}
use Rattle.jrnl_store.specs.Kept.{ticket_view}
use Rattle.record_model.specs.Released.{is_recv_from, is_send_to, last_that, number_in, read, sender_of, signed_entries}
use Rattle.std.specs.Prelude.{◌≡◌, ℕ, ◌<◌, IfSome, List, Option, Some, None, option_map, slice_get}
use Rattle.avm_num.specs.Bytes.{◌>>=◌}
use Rattle.jrnl_part.specs.Carriage.{carried_signed}
use Rattle.avm_model.specs.Content.{ContentData, recv, send}
use Rattle.avm_model.specs.Packet.{data_at}
use Rattle.record_kept.specs.declared.kept.KeptRow.{KeptRow}
use Rattle.record_kept.specs.declared.kept.KeptSend.{KeptSend}

-- a message that was sent: the ticket of its entry, and its number
pub record SentData : Type 0 where
  pub ticket : SignedData
  pub number : ℕ

abbrev pub sent_of : CarriedData → Option SentData
sent_of e = option_map (λ n. record { ticket = carried_signed e; number = n }) (number_in (read e))

abbrev pub sent_view : KeptSend → SentData
sent_view s = record { ticket = ticket_view s.ticket; number = s.number }

-- what the row of a peer keeps
abbrev pub recv_at : List KeptRow → ℕ → Option SignedData
recv_at rows id = slice_get rows id >>= λ row. option_map ticket_view row.recv

abbrev pub sent_at : List KeptRow → ℕ → Option SentData
sent_at rows id = slice_get rows id >>= λ row. option_map sent_view row.sent

-- Of these signed entries the rows keep for each peer the ticket of the last RECV from it, and ticket and number of the last SEND
-- to it.
pub record AreKept (rows : List KeptRow) (entries : List CarriedData) : Type 0 where
  pub recv : (id : ℕ) → id < 16 → recv_at rows id ≡ option_map carried_signed (last_that (λ e. is_recv_from id (read e)) entries)
  pub sent : (id : ℕ) → id < 16 → sent_at rows id ≡ (last_that (λ e. is_send_to id (read e)) entries >>= sent_of)

-- of a journal's
abbrev pub AreKeptOf : List KeptRow → JournalData → Type 0
AreKeptOf rows j = AreKept rows (signed_entries j)

-- each ticket that is kept has a leaf below a bound
pub record AreLow (most : ℕ) (rows : List KeptRow) : Type 0 where
  pub recv : (id : ℕ) → IfSome (recv_at rows id) (λ t. t.leaf < most)
  pub sent : (id : ℕ) → IfSome (sent_at rows id) (λ d. d.ticket.leaf < most)

-- the peer that a message came from, and the peer and the number of a message that was sent
abbrev pub came_from : ContentData → Option ℕ
came_from (recv count packet) = Some (sender_of (data_at packet))
came_from c = None

abbrev pub sent_to : ContentData → Option (ℕ × ℕ)
sent_to (send count peer number payload) = Some (peer, number)
sent_to c = None
