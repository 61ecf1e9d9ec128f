-- The number of a head's count stands behind its peers.
use Rattle.std.proofs.Common.{◌≡◌, ℕ, zero, suc, ◌+◌, ◌*◌, ◌<◌, true, ltb, List, [], ◌∷◌, length, take, drop, Option, Some, refl, ap, sym, subst, ◌∙◌, arith, slice_index}
use Rattle.std.specs.Prelude.{◌==◌, ◌||◌, ◌^◌}
use Rattle.std.specs.Int.{w32, w64, from_be_bytes}
use Rattle.std.proofs.lemmas.Bool.{lt-ltb}
use Rattle.std.proofs.lemmas.List.{drop-drop}
use Rattle.avm_num.specs.Bytes.{number_at, byte_at, piece_at}
use Rattle.avm_num.specs.Lists.{list_at, many_at}
use Rattle.avm_num.proofs.Numbers.{bind_some, kept_some, short_some}
use Rattle.avm_model.specs.Head.{FrontData, HartData, HeadData}
use Rattle.avm_model.specs.HeadReading.{version_at, peer_at, front_at, hart_at, queues_at, transmit_at, bell_at, parts_at, head_of, status_at}
use Rattle.avm_model.specs.declared.Peer.{Peer}
use Rattle.journal_model.specs.Header.{has_early_count, is_early}

some_is : {A : Type 0} (x y : A) → Some x ≡ Some y → x ≡ y
some_is x y e = cc

byte_drop : (bytes : List ℕ) (p : ℕ × List ℕ) → byte_at bytes ≡ Some p → p.1 ≡ drop 1 bytes
byte_drop [] p e = absurd cc
byte_drop (b ∷ bytes) p e = let g : (b, bytes) ≡ p = cc in ap (λ (q : ℕ × List ℕ). q.1) (sym g)

byte_is : (bytes : List ℕ) (p : ℕ × List ℕ) → byte_at bytes ≡ Some p → p.0 ≡ slice_index bytes 0
byte_is [] p e = absurd cc
byte_is (b ∷ bytes) p e = let g : (b, bytes) ≡ p = cc in ap (λ (q : ℕ × List ℕ). q.0) (sym g)

drop_32 : (bytes : List ℕ) (p : ℕ × List ℕ) → number_at w32 bytes ≡ Some p → p.1 ≡ drop 4 bytes
drop_32 bytes p e = ap (λ (q : ℕ × List ℕ). q.1) (sym (short_some (ltb (length bytes) 4) (from_be_bytes w32 (take 4 bytes), drop 4 bytes) p e).1)

drop_64 : (bytes : List ℕ) (p : ℕ × List ℕ) → number_at w64 bytes ≡ Some p → p.1 ≡ drop 8 bytes
drop_64 bytes p e = ap (λ (q : ℕ × List ℕ). q.1) (sym (short_some (ltb (length bytes) 8) (from_be_bytes w64 (take 8 bytes), drop 8 bytes) p e).1)

drop_piece : (n : ℕ) (bytes : List ℕ) (p : List ℕ × List ℕ) → piece_at n bytes ≡ Some p → p.1 ≡ drop n bytes
drop_piece n bytes p e = ap (λ (q : List ℕ × List ℕ). q.1) (sym (short_some (ltb (length bytes) n) (take n bytes, drop n bytes) p e).1)

version_drop : (bytes : List ℕ) (p : ℕ × List ℕ) → version_at bytes ≡ Some p → p.1 ≡ drop 1 bytes
unfolding version_at
version_drop bytes p e =
    let a = bind_some (byte_at bytes) _ p e in
    let k = kept_some (a.0.0 == 1 || a.0.0 == 2) a.0 p a.2 in
    ap (λ (q : ℕ × List ℕ). q.1) (sym k.1) ∙ byte_drop bytes a.0 a.1

peer_drop : (bytes : List ℕ) (p : Peer × List ℕ) → peer_at bytes ≡ Some p → p.1 ≡ drop 81 bytes
unfolding peer_at
peer_drop bytes p e =
    let id = bind_some (byte_at bytes) _ p e in
    let key = bind_some (piece_at 56 id.0.1) _ p id.2 in
    let sent = bind_some (number_at w64 key.0.1) _ p key.2 in
    let acked = bind_some (number_at w64 sent.0.1) _ p sent.2 in
    let received = bind_some (number_at w64 acked.0.1) _ p acked.2 in
    ap (λ (q : Peer × List ℕ). q.1) (sym (some_is _ p received.2))
    ∙ drop_64 acked.0.1 received.0 received.1
    ∙ ap (drop 8) (drop_64 sent.0.1 acked.0 acked.1 ∙ ap (drop 8) (drop_64 key.0.1 sent.0 sent.1 ∙ ap (drop 8) (drop_piece 56 id.0.1 key.0 key.1 ∙ ap (drop 56) (byte_drop bytes id.0 id.1))))
    ∙ ap (drop 8) (ap (drop 8) (ap (drop 8) (drop-drop 56 1 bytes) ∙ drop-drop 8 57 bytes) ∙ drop-drop 8 65 bytes)
    ∙ drop-drop 8 73 bytes

list_drop : {A : Type 0} (item : List ℕ → Option (A × List ℕ)) (size : ℕ) → ((b : List ℕ) (p : A × List ℕ) → item b ≡ Some p → p.1 ≡ drop size b) → (n : ℕ) (bytes : List ℕ) (p : List A × List ℕ) → list_at item n bytes ≡ Some p → p.1 ≡ drop (n * size) bytes
unfolding list_at
list_drop item size one zero bytes p e = let z : 0 * size ≡ 0 = omega arith in rw z (ap (λ q. q.1) (sym (some_is _ p e)))
list_drop item size one (suc n) bytes p e =
    let x = bind_some (item bytes) _ p e in
    let xs = bind_some (list_at item n x.0.1) _ p x.2 in
    let more : size + n * size ≡ (suc n) * size = omega arith in
    ap (λ q. q.1) (sym (some_is _ p xs.2)) ∙ list_drop item size one n x.0.1 xs.0 xs.1 ∙ ap (drop (n * size)) (one bytes x.0 x.1) ∙ drop-drop (n * size) size bytes ∙ ap (λ (m : ℕ). drop m bytes) more

-- the bytes behind the peers
front_drop : (bytes : List ℕ) (p : FrontData × List ℕ) → front_at bytes ≡ Some p → p.1 ≡ drop (slice_index (drop 9 bytes) 0 * 81) (drop 10 bytes)
unfolding front_at
front_drop bytes p e =
    let own = bind_some (byte_at bytes) _ p e in
    let snap = bind_some (number_at w32 own.0.1) _ p own.2 in
    let pages = bind_some (number_at w32 snap.0.1) _ p snap.2 in
    let peers = bind_some (many_at byte_at peer_at pages.0.1) _ p pages.2 in
    let count = bind_some (byte_at pages.0.1) _ peers.0 peers.1 in
    let nine : pages.0.1 ≡ drop 9 bytes = drop_32 snap.0.1 pages.0 pages.1 ∙ ap (drop 4) (drop_32 own.0.1 snap.0 snap.1 ∙ ap (drop 4) (byte_drop bytes own.0 own.1) ∙ drop-drop 4 1 bytes) ∙ drop-drop 4 5 bytes in
    let n : count.0.0 ≡ slice_index (drop 9 bytes) 0 = byte_is pages.0.1 count.0 count.1 ∙ ap (λ (b : List ℕ). slice_index b 0) nine in
    let ten : count.0.1 ≡ drop 10 bytes = byte_drop pages.0.1 count.0 count.1 ∙ ap (drop 1) nine ∙ drop-drop 1 9 bytes in
    ap (λ (q : FrontData × List ℕ). q.1) (sym (some_is _ p peers.2))
    ∙ list_drop peer_at 81 peer_drop count.0.0 count.0.1 peers.0 count.2
    ∙ ap (λ (m : ℕ). drop (m * 81) count.0.1) n ∙ ap (drop (slice_index (drop 9 bytes) 0 * 81)) ten

record Counted (bytes : List ℕ) (n : ℕ) : Type 0 where
  pub rest : List ℕ
  pub there : number_at w64 (drop 128 bytes) ≡ Some (n, rest)

hart_count : (bytes : List ℕ) (p : HartData × List ℕ) → hart_at bytes ≡ Some p → Counted bytes p.0.count
unfolding hart_at
hart_count bytes p e =
    let x = bind_some (list_at (number_at w32) 31 bytes) _ p e in
    let pc = bind_some (number_at w32 x.0.1) _ p x.2 in
    let count = bind_some (number_at w64 pc.0.1) _ p pc.2 in
    let status = bind_some (status_at count.0.1) _ p count.2 in
    let far : pc.0.1 ≡ drop 128 bytes = drop_32 x.0.1 pc.0 pc.1 ∙ ap (drop 4) (list_drop (number_at w32) 4 drop_32 31 bytes x.0 x.1) ∙ drop-drop 4 124 bytes in
    let is : count.0.0 ≡ p.0.count = ap (λ (q : HartData × List ℕ). q.0.count) (some_is _ p status.2) in
    record { rest = count.0.1; there = subst (λ (b : List ℕ). number_at w64 b ≡ Some (p.0.count, count.0.1)) far (count.1 ∙ ap (λ (n : ℕ). Some (n, count.0.1)) is) }

index_drop : (n : ℕ) (bytes : List ℕ) → slice_index (drop n bytes) 0 ≡ slice_index bytes n
index_drop zero bytes = refl
index_drop (suc n) [] = refl
index_drop (suc n) (b ∷ bytes) = index_drop n bytes

parts_count : (bytes : List ℕ) (p : HeadData × List ℕ) → parts_at bytes ≡ Some p → (rest : List ℕ) × (number_at w64 (drop (139 + 81 * slice_index bytes 10) bytes) ≡ Some (p.0.hart.count, rest))
unfolding parts_at
parts_count bytes p e =
    let version = bind_some (version_at bytes) _ p e in
    let front = bind_some (front_at version.0.1) _ p version.2 in
    let hart = bind_some (hart_at front.0.1) _ p front.2 in
    let queues = bind_some (queues_at hart.0.1) _ p hart.2 in
    let transmit = bind_some (transmit_at queues.0.1) _ p queues.2 in
    let bell = bind_some (bell_at version.0.0 transmit.0.1) _ p transmit.2 in
    let is : hart.0.0.count ≡ p.0.hart.count = ap (λ (q : HeadData × List ℕ). q.0.hart.count) (some_is _ p bell.2) in
    let c = hart_count front.0.1 hart.0 hart.1 in
    let one : version.0.1 ≡ drop 1 bytes = version_drop bytes version.0 version.1 in
    let n : slice_index (drop 9 version.0.1) 0 ≡ slice_index bytes 10 = ap (λ (b : List ℕ). slice_index (drop 9 b) 0) one ∙ ap (λ (b : List ℕ). slice_index b 0) (drop-drop 9 1 bytes) ∙ index_drop 10 bytes in
    let eleven : drop 10 version.0.1 ≡ drop 11 bytes = ap (drop 10) one ∙ drop-drop 10 1 bytes in
    let behind : front.0.1 ≡ drop (11 + slice_index bytes 10 * 81) bytes =
    front_drop version.0.1 front.0 front.1 ∙ ap (λ (m : ℕ). drop (m * 81) (drop 10 version.0.1)) n ∙ ap (drop (slice_index bytes 10 * 81)) eleven ∙ drop-drop (slice_index bytes 10 * 81) 11 bytes in
    let place : (11 + slice_index bytes 10 * 81) + 128 ≡ 139 + 81 * slice_index bytes 10 = omega arith in
    let there : drop 128 front.0.1 ≡ drop (139 + 81 * slice_index bytes 10) bytes = ap (drop 128) behind ∙ drop-drop 128 (11 + slice_index bytes 10 * 81) bytes ∙ ap (λ (m : ℕ). drop m bytes) place in
    (c.rest, subst (λ (b : List ℕ). number_at w64 b ≡ Some (p.0.hart.count, c.rest)) there (c.there ∙ ap (λ (m : ℕ). Some (m, c.rest)) is))

-- a head whose count is low
pub early_head : (head : List ℕ) (h : HeadData) → head_of head ≡ Some h → h.hart.count < 2 ^ 61 → has_early_count head ≡ true
unfolding head_of has_early_count
early_head head h e low =
    let a = bind_some (parts_at head) _ h e in
    let k = kept_some _ a.0.0 h a.2 in
    let c = parts_count head a.0 a.1 in
    let same : a.0.0.hart.count ≡ h.hart.count = ap (λ (x : HeadData). x.hart.count) k.1 in
    ap is_early c.1 ∙ lt-ltb a.0.0.hart.count (2 ^ 61) (omega (arith, same, low))
