-- Keys, their files and their signatures.
use Rattle.std.proofs.Common.{◌≡◌, ℕ, ◌+◌, ◌*◌, ◌^◌, ◌<◌, true, List, [], ◌++◌, length, arith}
use Rattle.std.specs.Bool.{Decides}
use Rattle.std.specs.Prelude.{◌==◌}
use Rattle.std.proofs.lemmas.Bool.Decides.{nat_tests, Decides-and, Decides-eqb}
use Rattle.std.proofs.lemmas.List.{length-append}
use Rattle.std.proofs.lemmas.Nat.{pow_pos}
use Rattle.std.specs.Int.{w32, to_be_bytes}
use Rattle.avm_model.specs.LmsOts.{ots_signature}
use Rattle.avm_model.specs.LmsTypes.{chains_of, height_of}
use Rattle.avm_model.specs.LmsTree.{node, path}
use Rattle.avm_model.specs.LmsValid.{Valid, valid, number, has_types}
use Rattle.avm_model.specs.Keys.{KeyData, HasTypes, public_of, sig_of, private_types, public_file}
use Rattle.avm_model.proofs.LmsLaw.{signature-valid, node-length, path-length, ots-length}
use Rattle.avm_model.proofs.LmsTest.{valid-decides, has_types-decides}

-- a signature of a private key is valid under its public key
pub sig_of-valid : (k : KeyData) (q : ℕ) (text : List ℕ) → HasTypes k → length k.id ≡ 16 → q < 2 ^ height_of k.lms → Valid (public_of k) text (sig_of k q text)
unfolding public_of sig_of
sig_of-valid k q text types id lt =
    signature-valid k.lms k.ots q k.id k.seed text (types.lms_low, omega (arith, types.lms_high)) (types.ots_low, types.ots_high) id lt

pub sig_of-true : (k : KeyData) (q : ℕ) (text : List ℕ) → HasTypes k → length k.id ≡ 16 → q < 2 ^ height_of k.lms → valid (public_of k) text (sig_of k q text) ≡ true
sig_of-true k q text types id lt = (valid-decides (public_of k) text (sig_of k q text)).1 (sig_of-valid k q text types id lt)

-- how long it is
pub sig_of-length : (k : KeyData) (q : ℕ) (text : List ℕ) → length (sig_of k q text) ≡ 44 + 32 * chains_of k.ots + 32 * height_of k.lms
unfolding sig_of
sig_of-length k q text =
    let one : List ℕ = ots_signature k.ots k.id q k.seed text in
    let t : ℕ → List ℕ = node k.lms k.ots k.id k.seed in
    let h : ℕ = height_of k.lms in
    let way : List ℕ = path t h (2 ^ h + q) in
    let one_long : length one ≡ 36 + 32 * chains_of k.ots = ots-length k.ots q k.id k.seed text in
    let way_long : length way ≡ 32 * h = path-length t h (2 ^ h + q) (node-length k.lms k.ots k.id k.seed) in
    omega (arith, length-append one (to_be_bytes w32 k.lms ++ way))

pub public_of-length : (k : KeyData) → length k.id ≡ 16 → length (public_of k) ≡ 56
unfolding public_of
public_of-length k id = omega (arith, length-append k.id (node k.lms k.ots k.id k.seed 1), node-length k.lms k.ots k.id k.seed 1, id)

-- a public key is a public key file
pub public_of-file : (k : KeyData) → HasTypes k → length k.id ≡ 16 → public_file (public_of k) ≡ true
unfolding public_file
public_of-file k types id =
    let v = sig_of-valid k 0 [] types id (omega (arith, pow_pos (height_of k.lms))) in
    let key : List ℕ = public_of k in
    (Decides-and (length key == 56) (has_types (number key 0) (number key 4)) (Decides-eqb (length key) 56) (has_types-decides (number key 0) (number key 4))).1
    (v.exact, (v.by.lms_type, v.by.ots_type))

pub private_types-decides : (k : KeyData) → Decides (private_types k) (HasTypes k)
unfolding private_types
private_types-decides k = (λ t. record { lms_low = grind (arith, nat_tests); lms_high = grind (arith, nat_tests); ots_low = grind (arith, nat_tests); ots_high = grind (arith, nat_tests) }, λ h. grind (arith, nat_tests, h.lms_low, h.lms_high, h.ots_low, h.ots_high))
