-- The numbers that a packet's line names.
use Rattle.std.specs.Prelude.{ℕ, List, [], ◌++◌, Option, Some, None, option_map}
use Rattle.avm_model.specs.Content.{ContentData, recv, send}
use Rattle.avm_model.specs.Offer.{data_in, ack_in}
use Rattle.list_model.specs.Lines.{number_word}

-- the peer that a packet is from, and the number of the message that it holds or acknowledges
abbrev pub data_numbers : List ℕ → Option (ℕ × ℕ)
data_numbers packet = option_map (λ d. (d.packet.from, d.message.number)) (data_in packet)

abbrev pub ack_numbers : List ℕ → Option (ℕ × ℕ)
ack_numbers packet = option_map (λ a. (a.packet.from, a.inner.message.number)) (ack_in packet)

abbrev pub pair_words : Option (ℕ × ℕ) → List ℕ
pair_words None = []
pair_words (Some p) = number_word p.0 ++ number_word p.1

-- the number of a SEND, and the packet of a RECV
abbrev pub sent_number : ContentData → Option ℕ
sent_number (send count peer number payload) = Some number
sent_number c = None

abbrev pub received_packet : ContentData → Option (List ℕ)
received_packet (recv count packet) = Some packet
received_packet c = None
