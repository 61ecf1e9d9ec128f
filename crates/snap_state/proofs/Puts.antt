-- One item more of a queue, written behind the others.
use Rattle.std.proofs.Common.{◌≡◌, ℕ, ◌+◌, ◌≤◌, List, [], ◌∷◌, length, drop, Some, None, ◌&&◌, nat_le, IsTrue, sym, ap, ◌∙◌, arith, append-nil, zero, suc}
use Rattle.std.specs.Prelude.{slice_get}
use Rattle.std.proofs.lemmas.Bool.{and_parts, leb-true}
use Rattle.avm_num.specs.Room.{Buffer, with_bytes}
use Rattle.avm_num.specs.Lists.{list_bytes, one}
use Rattle.avm_num.proofs.Writes.{written}
use Rattle.avm_model.specs.Device.{MessageState}
use Rattle.avm_model.specs.declared.Peer.{Peer}
use Rattle.avm_model.specs.Bounds.{are_messages, knows}
use Rattle.avm_model.specs.Head.{message_bytes}
use Rattle.avm_model.specs.Sizes.{messages_size}

pub from_place : {X : Type 0} (xs : List X) (i : ℕ) (x : X) → slice_get xs i ≡ Some x → drop i xs ≡ x ∷ drop (i + 1) xs
from_place [] i x e = absurd cc
from_place {X = X} (y ∷ xs) zero x e = let q : y ≡ x = cc in ap (λ (z : X). z ∷ xs) q
from_place (y ∷ xs) (suc i) x e = let n : suc i + 1 ≡ suc (i + 1) = omega arith in rw n (from_place xs i x e)

pub nothing_past : {X : Type 0} (xs : List X) (i : ℕ) → slice_get xs i ≡ None → length xs ≤ i
nothing_past [] i e = omega arith
nothing_past (y ∷ xs) zero e = absurd cc
nothing_past (y ∷ xs) (suc i) e = let low = nothing_past xs i e in omega (arith, low)

pub nothing_put : (out : Buffer) → out ≡ with_bytes out []
nothing_put out = ap (λ (bytes : List ℕ). record out { bytes = bytes }) (sym (append-nil out.bytes))

pub byte_put : (out : Buffer) (xs : List ℕ) (i b : ℕ) → slice_get xs i ≡ Some b → with_bytes (with_bytes out (one b)) (drop (i + 1) xs) ≡ with_bytes out (drop i xs)
unfolding one
byte_put out xs i b e = written out (b ∷ []) (drop (i + 1) xs) ∙ ap (with_bytes out) (sym (from_place xs i b e))

pub message_put : (out : Buffer) (ms : List MessageState) (i : ℕ) (m : MessageState) → slice_get ms i ≡ Some m
    → with_bytes (with_bytes out (message_bytes m)) (list_bytes message_bytes (drop (i + 1) ms)) ≡ with_bytes out (list_bytes message_bytes (drop i ms))
message_put out ms i m e = written out (message_bytes m) (list_bytes message_bytes (drop (i + 1) ms)) ∙ ap (λ (xs : List MessageState). with_bytes out (list_bytes message_bytes xs)) (sym (from_place ms i m e))

pub size_from : (ms : List MessageState) (i : ℕ) (m : MessageState) → slice_get ms i ≡ Some m → messages_size (drop i ms) ≡ 3 + length m.payload + messages_size (drop (i + 1) ms)
size_from ms i m e = ap messages_size (from_place ms i m e)

pub short_at : (peers : List Peer) (ms : List MessageState) (i : ℕ) (m : MessageState) → IsTrue (are_messages peers ms) → slice_get ms i ≡ Some m → length m.payload ≤ 1024
short_at peers [] i m t e = absurd cc
short_at peers (n ∷ ms) zero m t e =
    let q : n ≡ m = cc in
    let a = (and_parts (nat_le (length n.payload) 1024) (knows peers n.peer) (and_parts (nat_le (length n.payload) 1024 && knows peers n.peer) (are_messages peers ms) t).0).0 in
    let low : length n.payload ≤ 1024 = leb-true _ _ a in
    let same : length n.payload ≡ length m.payload = ap (λ (k : MessageState). length k.payload) q in
    omega (arith, low, same)
short_at peers (n ∷ ms) (suc i) m t e =
    short_at peers ms i m (and_parts (nat_le (length n.payload) 1024 && knows peers n.peer) (are_messages peers ms) t).1 e
