-- The bytes of a key file and its fields.
use Rattle.std.proofs.Common.{◌≡◌, ℕ, ◌+◌, ◌≤◌, List, [], ◌∷◌, ◌++◌, length, take, drop, refl, sym, ap, ap₂, ◌∙◌, arith, append_assoc}
use Rattle.std.specs.Int.{w32, to_be_bytes, from_be_bytes}
use Rattle.std.specs.Bool.{Decides}
use Rattle.std.specs.Str.{bytes_eq}
use Rattle.std.specs.Prelude.{Bool, true, false, ◌==◌, ◌&&◌, Option, Some, None}
use Rattle.std.proofs.lemmas.Bool.Decides.{Decides-and, Decides-eqb}
use Rattle.std.proofs.lemmas.Slice.Eq.{bytes_eq-Decides}
use Rattle.std.proofs.lemmas.List.{take_at, drop_at, take_all, drop-drop, take-append-drop, length-append, length-drop, length-take}
use Rattle.std.proofs.lemmas.Nat.{from_be_bytes-to_be_bytes_4}
use Rattle.avm_num.specs.Room.{Buffer, with_bytes}
use Rattle.avm_num.specs.Bytes.{IsBytes}
use Rattle.avm_num.proofs.Numbers.{wide32, IsBytes-take, IsBytes-drop}
use Rattle.avm_num.specs.Bytes.{kept}
use Rattle.avm_num.specs.Lists.{be}
use Rattle.avm_model.specs.Keys.{KeyData, key_bytes, key_mark, key_file, private_types, HasTypes, FitsKey, IsKeyOf, fields_of}
use Rattle.avm_model.proofs.KeyLaws.{private_types-decides}

-- n bytes at a place, and those behind them
split_at : (bytes : List ℕ) (at n k : ℕ) → at + n ≡ k → drop at bytes ≡ take n (drop at bytes) ++ drop k bytes
split_at bytes at n k e = sym (take-append-drop n (drop at bytes)) ∙ ap (λ (l : List ℕ). take n (drop at bytes) ++ l) (drop-drop n at bytes ∙ ap (λ (m : ℕ). drop m bytes) e)

number_back : (bytes : List ℕ) (at : ℕ) → IsBytes bytes → at + 4 ≤ length bytes → to_be_bytes w32 (from_be_bytes w32 (take 4 (drop at bytes))) ≡ take 4 (drop at bytes)
number_back bytes at fits le = wide32.back (take 4 (drop at bytes)) (omega (arith, length-take 4 (drop at bytes), length-drop at bytes)) (IsBytes-take 4 (drop at bytes) (IsBytes-drop at bytes fits))

-- bytes with the front and length of a key file are spelled by their fields
pub spelled : (bytes : List ℕ) → IsBytes bytes → length bytes ≡ 61 → take 5 bytes ≡ 65 ∷ 86 ∷ 77 ∷ 75 ∷ 1 ∷ [] → bytes ≡ key_bytes (fields_of bytes)
unfolding key_bytes be
spelled bytes fits len front =
    let a : bytes ≡ take 5 bytes ++ drop 5 bytes = sym (take-append-drop 5 bytes) in
    let l : to_be_bytes w32 (from_be_bytes w32 (take 4 (drop 5 bytes))) ≡ take 4 (drop 5 bytes) = number_back bytes 5 fits (omega arith) in
    let o : to_be_bytes w32 (from_be_bytes w32 (take 4 (drop 9 bytes))) ≡ take 4 (drop 9 bytes) = number_back bytes 9 fits (omega arith) in
    let s : drop 29 bytes ≡ take 32 (drop 29 bytes) = sym (take_all 32 (drop 29 bytes) (omega (arith, length-drop 29 bytes))) in
    let d13 : drop 13 bytes ≡ take 16 (drop 13 bytes) ++ take 32 (drop 29 bytes) = split_at bytes 13 16 29 refl ∙ ap (λ (x : List ℕ). take 16 (drop 13 bytes) ++ x) s in
    let d9 : drop 9 bytes ≡ to_be_bytes w32 (from_be_bytes w32 (take 4 (drop 9 bytes))) ++ (take 16 (drop 13 bytes) ++ take 32 (drop 29 bytes)) =
    split_at bytes 9 4 13 refl ∙ ap₂ (λ (x y : List ℕ). x ++ y) (sym o) d13 in
    let d5 : drop 5 bytes ≡ to_be_bytes w32 (from_be_bytes w32 (take 4 (drop 5 bytes))) ++ (to_be_bytes w32 (from_be_bytes w32 (take 4 (drop 9 bytes))) ++ (take 16 (drop 13 bytes) ++ take 32 (drop 29 bytes))) =
    split_at bytes 5 4 9 refl ∙ ap₂ (λ (x y : List ℕ). x ++ y) (sym l) d9 in
    a ∙ ap₂ (λ (x y : List ℕ). x ++ y) front d5

-- the fields of a key that is spelled
pub fields_again : (k : KeyData) → FitsKey k → (length (key_bytes k) ≡ 61) × (fields_of (key_bytes k) ≡ k)
unfolding key_bytes be
fields_again k fits =
    let m : List ℕ = 65 ∷ 86 ∷ 77 ∷ 75 ∷ 1 ∷ [] in
    let l : List ℕ = to_be_bytes w32 k.lms in
    let o : List ℕ = to_be_bytes w32 k.ots in
    let ln : from_be_bytes w32 (take 4 (drop 5 (key_bytes k))) ≡ k.lms = from_be_bytes-to_be_bytes_4 k.lms (omega (arith, fits.types.lms_high)) in
    let on : from_be_bytes w32 (take 4 (drop 9 (key_bytes k))) ≡ k.ots = from_be_bytes-to_be_bytes_4 k.ots (omega (arith, fits.types.ots_high)) in
    let i : take 16 (drop 13 (key_bytes k)) ≡ k.id = take_at k.id k.seed 16 fits.id in
    let s : take 32 (drop 29 (key_bytes k)) ≡ k.seed = ap (λ (x : List ℕ). take 32 x) (drop_at (((m ++ l) ++ o) ++ k.id) k.seed 29 (omega (arith, length-append ((m ++ l) ++ o) k.id, fits.id))) ∙ take_all 32 k.seed (omega (arith, fits.seed)) in
    let same : fields_of (key_bytes k) ≡ record { lms = k.lms; ots = k.ots; id = k.id; seed = k.seed } = cc (ln, on, i, s) in
    (omega (arith, length-append k.id k.seed, fits.id, fits.seed), same)

pub read_is : (bytes : List ℕ) (k : KeyData) → IsBytes bytes → length bytes ≡ 61 → take 5 bytes ≡ 65 ∷ 86 ∷ 77 ∷ 75 ∷ 1 ∷ [] → k ≡ fields_of bytes → HasTypes k → FitsKey k × (bytes ≡ key_bytes k)
read_is bytes k fits len front e types =
    let t = rw e at types in
    rw e (
      record {
        types = t;
        id = omega (arith, length-take 16 (drop 13 bytes), length-drop 13 bytes);
        seed = omega (arith, length-take 32 (drop 29 bytes), length-drop 29 bytes);
      },
      spelled bytes fits len front,
    )

pub written : (b b1 b2 b3 b4 b5 : Buffer) (k : KeyData) → b1 ≡ with_bytes b (65 ∷ 86 ∷ 77 ∷ 75 ∷ 1 ∷ []) → b2 ≡ with_bytes b1 (be w32 k.lms) → b3 ≡ with_bytes b2 (be w32 k.ots)
    → b4 ≡ with_bytes b3 k.id → b5 ≡ with_bytes b4 k.seed → b5 ≡ with_bytes b (key_bytes k)
unfolding key_bytes
written b b1 b2 b3 b4 b5 k p1 p2 p3 p4 p5 = rw (p5, p4, p3, p2, p1) (ap (λ (l : List ℕ). record b { bytes = l }) (simp append_assoc))

mark_again : (k : KeyData) → take 5 (key_bytes k) ≡ key_mark
unfolding key_bytes
mark_again k = refl

-- the test of a key file
abbrev test : List ℕ → Bool
test bytes = (length bytes == 61) && bytes_eq (take 5 bytes) key_mark && private_types (fields_of bytes)

test-decides : (bytes : List ℕ) → Decides (test bytes) (((length bytes ≡ 61) × (take 5 bytes ≡ key_mark)) × HasTypes (fields_of bytes))
test-decides bytes =
    Decides-and ((length bytes == 61) && bytes_eq (take 5 bytes) key_mark) (private_types (fields_of bytes))
    (Decides-and (length bytes == 61) (bytes_eq (take 5 bytes) key_mark) (Decides-eqb (length bytes) 61) (bytes_eq-Decides (take 5 bytes) key_mark))
    (private_types-decides (fields_of bytes))

test_again : (k : KeyData) (bytes : List ℕ) → FitsKey k → bytes ≡ key_bytes k → test bytes ≡ true
test_again k bytes fits e =
    let again = fields_again k fits in
    (test-decides bytes).1 ((rw e again.0, rw e (mark_again k)), rw (e, again.1) fits.types)

-- the key of a file is the one that its bytes spell
pub key_file-is : (bytes : List ℕ) → IsBytes bytes → IsKeyOf (key_file bytes) bytes
unfolding key_file
key_file-is bytes fits = go (test bytes) refl
  where
    go : (b : Bool) → test bytes ≡ b → IsKeyOf (kept b (fields_of bytes)) bytes
    go true e = let p = (test-decides bytes).0 e in read_is bytes (fields_of bytes) fits p.0.0 p.0.1 refl p.1
    go false e = λ k fit same. let t = test_again k bytes fit same in absurd cc

-- bytes spell one key
pub key_once : (a b : Option KeyData) (bytes : List ℕ) → IsKeyOf a bytes → IsKeyOf b bytes → a ≡ b
key_once None None bytes p q = refl
key_once (Some j) None bytes p q = absurd (q j p.0 p.1)
key_once None (Some k) bytes p q = absurd (p k q.0 q.1)
key_once (Some j) (Some k) bytes p q =
    let x : fields_of bytes ≡ j = rw p.1 (fields_again j p.0).1 in
    let y : fields_of bytes ≡ k = rw q.1 (fields_again k q.0).1 in
    ap (λ (z : KeyData). Some z) (sym x ∙ y)

-- a key that is written is read
pub key_again : (k : KeyData) → FitsKey k → key_file (key_bytes k) ≡ Some k
unfolding key_file
key_again k fits =
    let t : test (key_bytes k) ≡ true = test_again k (key_bytes k) fits refl in
    let e = (fields_again k fits).1 in
    rw t (ap (λ (z : KeyData). Some z) e)
