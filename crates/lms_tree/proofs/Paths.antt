-- What the loop over a path writes, and what a key keeps.
use Rattle.std.proofs.Common.{◌≡◌, ℕ, ◌+◌, ◌-◌, ◌*◌, ◌/◌, ◌^◌, ◌<◌, ◌≤◌, List, [], ◌++◌, length, take, get_or, refl, sym, ap, ◌∙◌, append_assoc, arith}
use Rattle.std.specs.Int.{w32, to_be_bytes}
use Rattle.avm_num.specs.Room.{Buffer, with_bytes}
use Rattle.avm_model.specs.declared.Digest.{Digest}
use Rattle.avm_model.specs.LmsTypes.{height_of}
use Rattle.avm_model.specs.LmsOts.{ots_public, ots_signature}
use Rattle.avm_model.specs.LmsTree.{leaf, inner, node, beside, path, signature}
use Rattle.std.proofs.lemmas.List.{take_all, get_or_read}
use Rattle.std.proofs.lemmas.Nat.{pow_pos}
use Rattle.avm_model.proofs.LmsNodes.{path_more, path_same, nodes_are}
use Rattle.avm_model.specs.Keys.{KeyData, HasTypes, public_of, sig_of}
use Rattle.lms_tree.specs.Key.{node_at, AreNodes, key_of, IsKept}

pub put_path_more : (b c d : Buffer) (x : List ℕ) (t : ℕ → List ℕ) (h i r leaf : ℕ) → i < h → d ≡ with_bytes c x → x ≡ t (beside r)
    → with_bytes c (path t (h - i) r) ≡ with_bytes b (path t h leaf) → with_bytes d (path t (h - (i + 1)) (r / 2)) ≡ with_bytes b (path t h leaf)
put_path_more b c d x t h i r leaf lt e f g = rw e (ap (λ (l : List ℕ). record c { bytes = l }) (path_more c.bytes x t h i r lt f) ∙ g)

pub written : (b b1 b2 b3 b4 : Buffer) (lms ots q : ℕ) (id seed text : List ℕ) (nodes : List Digest) → AreNodes lms ots id seed nodes
    → b1 ≡ with_bytes b (to_be_bytes w32 q) → b2 ≡ with_bytes b1 (ots_signature ots id q seed text) → b3 ≡ with_bytes b2 (to_be_bytes w32 lms)
    → b4 ≡ with_bytes b3 (path (node_at nodes) (height_of lms) (2 ^ height_of lms + q)) → q < 2 ^ height_of lms
    → b4 ≡ with_bytes b (signature lms ots id seed q text)
written b b1 b2 b3 b4 lms ots q id seed text nodes are p1 p2 p3 p4 lt =
    let same = path_same (node_at nodes) (node lms ots id seed) (2 ^ height_of lms) are.each (height_of lms) (2 ^ height_of lms + q) (omega arith) (omega arith) in
    rw (p4, p3, p2, p1, same) (ap (λ (l : List ℕ). record b { bytes = l }) (simp append_assoc))

pub are_nodes : (lms ots count : ℕ) (id seed : List ℕ) (b c : List Digest) → count ≡ 2 ^ height_of lms → length c ≡ 2 * 2 ^ height_of lms
    → ((r : ℕ) → count ≤ r → r < 2 * count → node_at b r ≡ leaf id r (ots_public ots id (r - count) seed))
    → ((r : ℕ) → count ≤ r → node_at c r ≡ node_at b r)
    → ((r : ℕ) → 1 ≤ r → r < count → node_at c r ≡ inner id r (node_at c (2 * r)) (node_at c (2 * r + 1)))
    → AreNodes lms ots id seed c
are_nodes lms ots count id seed b c e len leaves same inners =
    record { all = len; each = nodes_are lms ots id seed (node_at c) (rw e at (λ (r : ℕ) (le : count ≤ r) (lt : r < 2 * count). same r le ∙ leaves r le lt)) (rw e at inners) }

-- a node that is read
pub read_node : (nodes : List Digest) (x : Digest) (i : ℕ) → x ≡ get_or nodes i x → i < length nodes → x.0 ≡ node_at nodes i
read_node nodes x i e lt = let none : Digest = record { 0 = [] } in ap (λ (d : Digest). d.0) (get_or_read nodes i x lt e none)

pub root_is : (lms ots : ℕ) (id seed : List ℕ) (nodes : List Digest) (x : Digest) → AreNodes lms ots id seed nodes → x ≡ get_or nodes 1 x → x.0 ≡ node lms ots id seed 1
root_is lms ots id seed nodes x are f =
    read_node nodes x 1 f (omega (arith, are.all, pow_pos (height_of lms))) ∙ are.each 1 (omega arith) (omega (arith, pow_pos (height_of lms)))

pub signed : (k : KeyData) (b b1 b2 b3 b4 : Buffer) (lms ots q h r : ℕ) (id seed text : List ℕ) (nodes items : List Digest) → key_of lms ots id seed ≡ k → AreNodes lms ots id seed items → nodes ≡ items
    → b1 ≡ with_bytes b (to_be_bytes w32 q) → b2 ≡ with_bytes b1 (ots_signature ots id q seed text) → b3 ≡ with_bytes b2 (to_be_bytes w32 lms)
    → b4 ≡ with_bytes b3 (path (node_at nodes) h r) → h ≡ height_of lms → r ≡ 2 ^ height_of lms + q → q < 2 ^ height_of k.lms
    → b4 ≡ with_bytes b (sig_of k q text)
unfolding sig_of
signed k b b1 b2 b3 b4 lms ots q h r id seed text nodes items e are same p1 p2 p3 p4 eh er lt =
    let below : q < 2 ^ height_of lms = rw (← e) at lt in
    rw (← e) (written b b1 b2 b3 b4 lms ots q id seed text items are p1 p2 p3 (rw (same, eh, er) at p4) below)

pub public_parts : (k1 k2 k3 k4 a b id root : List ℕ) → take 4 k1 ≡ a → take 8 k2 ≡ take 4 k1 ++ b → take 24 k3 ≡ take 8 k2 ++ id → take 56 k4 ≡ take 24 k3 ++ root
    → length k4 ≡ 56 → k4 ≡ a ++ (b ++ (id ++ root))
public_parts k1 k2 k3 k4 a b id root p1 p2 p3 p4 e =
    let whole : take 56 k4 ≡ k4 = take_all 56 k4 (omega arith) in
    sym whole ∙ p4 ∙ rw (p3, p2, p1) (simp append_assoc)

pub kept_types : {lms ots : ℕ} {id seed : List ℕ} (k : KeyData) (nodes : List Digest) → key_of lms ots id seed ≡ k → IsKept lms ots id seed nodes → HasTypes k
kept_types k nodes e kept = rw (← e) kept.types

pub kept_id : {lms ots : ℕ} {id seed : List ℕ} (k : KeyData) (nodes : List Digest) → key_of lms ots id seed ≡ k → IsKept lms ots id seed nodes → length k.id ≡ 16
kept_id k nodes e kept = rw (← e) kept.id_long

pub public_is : (k : KeyData) (lms ots : ℕ) (id seed k1 k2 k3 k4 a b root : List ℕ) → key_of lms ots id seed ≡ k → a ≡ to_be_bytes w32 lms → b ≡ to_be_bytes w32 ots → root ≡ node lms ots id seed 1
    → take 4 k1 ≡ a → take 8 k2 ≡ take 4 k1 ++ b → take 24 k3 ≡ take 8 k2 ++ id → take 56 k4 ≡ take 24 k3 ++ root → length k4 ≡ 56
    → k4 ≡ public_of k
unfolding public_of
public_is k lms ots id seed k1 k2 k3 k4 a b root e pa pb pr p1 p2 p3 p4 len =
    rw (← e) (public_parts k1 k2 k3 k4 a b id root p1 p2 p3 p4 len ∙ rw (pa, pb, pr) refl)
