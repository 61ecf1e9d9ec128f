-- The contents that stand in packets are those of SEND and RECV entries.
use Rattle.std.proofs.Common.{◌≡◌, ℕ, true, List, Option, Some, None, refl, ap, ◌∙◌}
use Rattle.std.specs.Option.{option_map}
use Rattle.avm_num.specs.Bytes.{◌>>=◌}
use Rattle.avm_model.specs.Bounds.{is_head}
use Rattle.avm_model.specs.HeadState.{data_of}
use Rattle.avm_model.specs.Machine.{State}
use Rattle.avm_model.specs.Parts.{count_at}
use Rattle.avm_model.specs.Packet.{SendData, RecvData, IsData, IsAck, send_behind, send_at, recv_behind, recv_at}
use Rattle.avm_model.specs.Content.{ContentData, send, recv, acked, content_at, form_of_kind, FitsContent}
use Rattle.avm_model.proofs.HeadBounds.{bounded}
use Rattle.replayer.specs.Messages.{sent_by, came_by}

send_back : (o : Option SendData) → (option_map (λ s. send s.count s.peer s.number s.payload) o >>= sent_by) ≡ o
send_back None = refl
send_back (Some s) = refl

recv_back : (o : Option RecvData) → (option_map (λ r. recv r.count r.packet) o >>= came_by) ≡ o
recv_back None = refl
recv_back (Some r) = refl

pub sent_is : (bytes : List ℕ) → (content_at 8 bytes >>= sent_by) ≡ send_at bytes
unfolding content_at send_at
sent_is bytes = go (count_at bytes)
  where
    go : (o : Option (ℕ × List ℕ)) → ((o >>= λ count. form_of_kind 8 count.0 count.1) >>= sent_by) ≡ (o >>= λ count. send_behind count.0 count.1)
    go None = refl
    go (Some count) = send_back (send_behind count.0 count.1)

pub came_is : (bytes : List ℕ) → (content_at 5 bytes >>= came_by) ≡ recv_at bytes
unfolding content_at recv_at
came_is bytes = go (count_at bytes)
  where
    go : (o : Option (ℕ × List ℕ)) → ((o >>= λ count. form_of_kind 5 count.0 count.1) >>= came_by) ≡ (o >>= λ count. recv_behind count.0 count.1)
    go None = refl
    go (Some count) = recv_back (recv_behind count.0 count.1)

pub sent_from : (bytes : List ℕ) (o : Option ContentData) (r : Option SendData) → o ≡ content_at 8 bytes → r ≡ (o >>= sent_by) → r ≡ send_at bytes
sent_from bytes o r e h = h ∙ ap (λ (x : Option ContentData). x >>= sent_by) e ∙ sent_is bytes

pub came_from : (bytes : List ℕ) (o : Option ContentData) (r : Option RecvData) → o ≡ content_at 5 bytes → r ≡ (o >>= came_by) → r ≡ recv_at bytes
came_from bytes o r e h = h ∙ ap (λ (x : Option ContentData). x >>= came_by) e ∙ came_is bytes

-- ---- the entry of a packet that is taken

pub fits_recv : (s : State) (bytes : List ℕ) → is_head (data_of s) ≡ true → IsData bytes → FitsContent (recv s.count bytes)
fits_recv s bytes head packet = record { count = (bounded (data_of s) head).count; packet = packet }

pub fits_acked : (s : State) (bytes : List ℕ) → is_head (data_of s) ≡ true → IsAck bytes → FitsContent (acked s.count bytes)
fits_acked s bytes head packet = ((bounded (data_of s) head).count, packet)
