-- Contents of two kinds, and the numbers of packets.
use Rattle.std.proofs.Common.{◌≡◌, ℕ, List, Option, Some, None, refl, ap, ◌∙◌}
use Rattle.std.specs.Prelude.{option_map}
use Rattle.avm_num.specs.Bytes.{◌>>=◌}
use Rattle.avm_model.specs.Parts.{count_at}
use Rattle.avm_model.specs.Offer.{DataIn, AckIn, data_in, ack_in}
use Rattle.avm_model.specs.Packet.{SendData, RecvData, send_at, send_behind, recv_at, recv_behind}
use Rattle.avm_model.specs.Content.{ContentData, send, recv, send_form, recv_form, content_at}
use Rattle.list_model.specs.Lines.{data_words, ack_words}
use Rattle.list_command.specs.Numbers.{sent_number, received_packet, data_numbers, ack_numbers, pair_words}

abbrev number_in : Option ContentData → Option ℕ
number_in None = None
number_in (Some c) = sent_number c

abbrev packet_in : Option ContentData → Option (List ℕ)
packet_in None = None
packet_in (Some c) = received_packet c

number_behind : (r : Option SendData) → number_in (option_map (λ s. send s.count s.peer s.number s.payload) r) ≡ option_map (λ s. s.number) r
number_behind None = refl
number_behind (Some s) = refl

packet_behind : (r : Option RecvData) → packet_in (option_map (λ s. recv s.count s.packet) r) ≡ option_map (λ s. s.packet) r
packet_behind None = refl
packet_behind (Some s) = refl

number_counted : (r : Option (ℕ × List ℕ)) → number_in (r >>= λ count. send_form count.0 count.1) ≡ option_map (λ s. s.number) (r >>= λ count. send_behind count.0 count.1)
number_counted None = refl
number_counted (Some p) = number_behind (send_behind p.0 p.1)

packet_counted : (r : Option (ℕ × List ℕ)) → packet_in (r >>= λ count. recv_form count.0 count.1) ≡ option_map (λ s. s.packet) (r >>= λ count. recv_behind count.0 count.1)
packet_counted None = refl
packet_counted (Some p) = packet_behind (recv_behind p.0 p.1)

pub number_is : (bytes : List ℕ) (r : Option ContentData) → r ≡ content_at 8 bytes → number_in r ≡ option_map (λ s. s.number) (send_at bytes)
unfolding content_at send_at
number_is bytes r e = ap number_in e ∙ number_counted (count_at bytes)

pub packet_is : (bytes : List ℕ) (r : Option ContentData) → r ≡ content_at 5 bytes → packet_in r ≡ option_map (λ s. s.packet) (recv_at bytes)
unfolding content_at recv_at
packet_is bytes r e = ap packet_in e ∙ packet_counted (count_at bytes)

data_pair : (d : Option DataIn) → pair_words (option_map (λ d. (d.packet.from, d.message.number)) d) ≡ data_words d
data_pair None = refl
data_pair (Some d) = refl

ack_pair : (a : Option AckIn) → pair_words (option_map (λ a. (a.packet.from, a.inner.message.number)) a) ≡ ack_words a
ack_pair None = refl
ack_pair (Some a) = refl

pub data_is : (packet : List ℕ) → pair_words (data_numbers packet) ≡ data_words (data_in packet)
data_is packet = data_pair (data_in packet)

pub ack_is : (packet : List ℕ) → pair_words (ack_numbers packet) ≡ ack_words (ack_in packet)
ack_is packet = ack_pair (ack_in packet)
