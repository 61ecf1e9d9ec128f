-- The root of a tree is the page root.
use Rattle.std.proofs.Common.{◌≡◌, ℕ, zero, suc, ◌+◌, ◌-◌, ◌*◌, ◌^◌, ◌<◌, ◌≤◌, Bool, false, ltb, List, length, refl, sym, ap₂, ◌∙◌, arith, lt-ltb}
use Rattle.std.proofs.lemmas.Bool.{le-ltb}
use Rattle.std.proofs.lemmas.Nat.{pow_pos}
use Rattle.std.proofs.Math.Nat.{mul_assoc, pow-succ', le-mul_of_pos_right, suc-mul}
use Rattle.avm_model.specs.declared.Digest.{Digest}
use Rattle.avm_model.specs.Memory.{IsRam}
use Rattle.avm_model.proofs.PageDepth.{power_is, root_of_is}
use Rattle.page_tree.specs.Nodes.{at, IsTree}
use Rattle.avm_model.specs.Pages.{root_from, root_of, depth_of, Hashes}

-- places below place i, in a tree of 2 ^ (d + 1) leaves below it
pub doubled : (i d : ℕ) → (2 * i) * 2 ^ d ≡ i * 2 ^ suc d
doubled i d =
    let e : 2 * i ≡ i * 2 = omega arith in
    rw (e, mul_assoc i 2 (2 ^ d), pow-succ' 2 d) refl

next_doubled : (i d : ℕ) → (2 * i + 1) * 2 ^ d ≡ i * 2 ^ suc d + 2 ^ d
next_doubled i d =
    let e : 2 * i + 1 ≡ suc (2 * i) = omega arith in
    rw (e, suc-mul (2 * i) (2 ^ d), doubled i d) refl

pub node_is : (h : Hashes) (bytes : List ℕ) (n : ℕ) (nodes : List Digest) → IsTree h bytes n nodes → (d i f : ℕ) → 0 < i → i * 2 ^ d ≡ n + f → f + 2 ^ d ≤ n → at nodes i ≡ root_from h bytes d f
node_is h bytes n nodes t zero i f pos e low =
    let here : i ≡ n + f = omega (arith, e) in
    let off : ltb i n ≡ false = le-ltb _ _ (omega arith) in
    let there : i - n ≡ f = omega arith in
    t.each i pos (omega arith) ∙ rw (off, there) refl
node_is h bytes n nodes t (suc d) i f pos e low =
    let p : 2 ^ suc d ≡ 2 * 2 ^ d = pow-succ' 2 d in
    let pow : 0 < 2 ^ d = pow_pos d in
    let some : i ≤ i * 2 ^ d = le-mul_of_pos_right i pow in
    let twice : (2 * i) * 2 ^ d ≡ n + f = doubled i d ∙ e in
    let half : (2 * i) * 2 ^ d ≡ 2 * (i * 2 ^ d) = mul_assoc 2 i (2 ^ d) in
    let inner : i < n = omega arith in
    let right : (2 * i + 1) * 2 ^ d ≡ n + (f + 2 ^ d) = next_doubled i d ∙ omega arith in
    let a = node_is h bytes n nodes t d (2 * i) f (omega arith) twice (omega arith) in
    let b = node_is h bytes n nodes t d (2 * i + 1) (f + 2 ^ d) (omega arith) right (omega arith) in
    t.each i pos (omega arith) ∙ rw (lt-ltb i n inner) (ap₂ h.node a b)

root_is : (h : Hashes) (bytes : List ℕ) (n : ℕ) (nodes : List Digest) (d : ℕ) → IsTree h bytes n nodes → n ≡ 2 ^ d → at nodes 1 ≡ root_from h bytes d 0
root_is h bytes n nodes d t e = node_is h bytes n nodes t d 1 0 (omega arith) (omega (arith, e)) (omega (arith, e))

pub tree_root : (h : Hashes) (bytes : List ℕ) (dirty : List Bool) (nodes : List Digest) → IsRam bytes dirty → IsTree h bytes (length dirty) nodes → at nodes 1 ≡ root_of h bytes
tree_root h bytes dirty nodes r t = root_is h bytes (length dirty) nodes (depth_of (length dirty)) t (power_is (length dirty) r.power) ∙ sym (root_of_is h bytes dirty r)
