-- How long a head is.
use Rattle.std.proofs.Common.{◌≡◌, ℕ, ◌*◌, List, [], ◌∷◌, length, Option, Some, None, refl, arith}
use Rattle.std.specs.List.{AllByRecursion}
use Rattle.std.specs.Int.{w32}
use Rattle.std.proofs.lemmas.List.{length-append}
use Rattle.avm_num.specs.Lists.{list_bytes, be}
use Rattle.avm_num.proofs.Lengths.{be16, be32, be64, one1}
use Rattle.avm_model.specs.Device.{MessageState}
use Rattle.avm_model.specs.declared.Bell.{Bell}
use Rattle.avm_model.specs.declared.Peer.{Peer}
use Rattle.avm_model.specs.Head.{HeadData, FitsHead, FitsPeer, peer_bytes, message_bytes, front_bytes, hart_bytes, queues_bytes, transmit_bytes, words_bytes, bell_bytes, head_bytes}
use Rattle.avm_model.specs.Sizes.{messages_size, bell_size, head_size}

words_length : (xs : List ℕ) → length (list_bytes (be w32) xs) ≡ 4 * length xs
words_length [] = refl
words_length (x ∷ xs) = omega (arith, words_length xs, be32 x, length-append (be w32 x) (list_bytes (be w32) xs))

peers_length : (ps : List Peer) → AllByRecursion FitsPeer ps → length (list_bytes peer_bytes ps) ≡ 81 * length ps
peers_length [] fits = refl
peers_length (p ∷ ps) fits =
    let ih = peers_length ps fits.1 in
    let key = fits.0.key in
    simp (length-append, be64, one1) (omega (arith, ih, key))

messages_length : (ms : List MessageState) → length (list_bytes message_bytes ms) ≡ messages_size ms
messages_length [] = refl
messages_length (m ∷ ms) = let ih = messages_length ms in simp (length-append, be16, one1) (omega (arith, ih))

bell_length : (o : Option Bell) → length (bell_bytes o) ≡ bell_size o
unfolding bell_bytes words_bytes
bell_length None = refl
bell_length (Some b) = simp (length-append, be32, one1) refl

pub head_length : (h : HeadData) → FitsHead h → length (head_bytes h) ≡ head_size h
unfolding head_bytes front_bytes hart_bytes queues_bytes transmit_bytes
head_length h fits =
    let peers = peers_length h.front.peers fits.front.peers in
    let words = words_length h.hart.x in
    let registers = fits.hart.registers in
    let messages = messages_length h.queues.messages in
    let window = fits.transmit.window in
    let bell = bell_length h.bell in
    simp (length-append, be16, be32, be64, one1) (omega (arith, peers, words, registers, messages, window, bell))
