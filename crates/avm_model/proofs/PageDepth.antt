-- How often a RAM's page count can be halved, and its page root by that depth.
use Rattle.std.proofs.Common.{◌≡◌, ℕ, zero, suc, ◌+◌, ◌*◌, ◌/◌, ◌^◌, ◌<◌, ◌≤◌, Bool, false, ltb, List, length, refl, sym, ap, ◌∙◌, arith, IsTrue, ◌⊎◌, inl, inr}
use Rattle.std.proofs.lemmas.Bool.{le-ltb}
use Rattle.std.proofs.lemmas.Nat.{pow_pos}
use Rattle.std.proofs.Math.Nat.{pow-succ', mul_assoc, mul_comm, suc-mul}
use Rattle.avm_model.specs.Memory.{is_page_count, IsRam}
use Rattle.avm_model.specs.Pages.{Hashes, root_from, halvings, depth_of, root_of}
use Rattle.avm_model.proofs.PageCounts.{positive, divides}

-- a number is twice another one, or one more
halved : (n : ℕ) → ((m : ℕ) × (n ≡ 2 * m)) ⊎ ((m : ℕ) × (n ≡ 2 * m + 1))
halved zero = inl (0, refl)
halved (suc n) = elim (halved n) [
  | inl p ↦ inr (p.0, omega (arith, p.1))
  | inr p ↦ inl (p.0 + 1, omega (arith, p.1))
]

one_of : (n q : ℕ) → n * q ≡ 1 → n ≡ 1
one_of zero q e = absurd (omega (arith, e))
one_of (suc zero) q e = refl
one_of (suc (suc n)) zero e = absurd (omega (arith, e))
one_of (suc (suc n)) (suc q) e = absurd (grind (arith, e))

-- a divisor of a power of two is one
divisor : (k n q : ℕ) → n * q ≡ 2 ^ k → (d : ℕ) × (n ≡ 2 ^ d)
divisor zero n q e = (0, one_of n q e)
divisor (suc k) n q e =
    let two : n * q ≡ 2 * 2 ^ k = e ∙ pow-succ' 2 k in
    elim (halved n) [
      | inl p ↦
          let a : n * q ≡ 2 * (p.0 * q) = ap (λ (x : ℕ). x * q) p.1 ∙ mul_assoc 2 p.0 q in
          let rest = divisor k p.0 q (omega (arith, a, two)) in
          (suc rest.0, p.1 ∙ ap (λ (x : ℕ). 2 * x) rest.1 ∙ sym (pow-succ' 2 rest.0))
      | inr p ↦ elim (halved q) [
        | inl r ↦
            let a : n * q ≡ 2 * (n * r.0) = ap (λ (x : ℕ). n * x) r.1 ∙ sym (mul_assoc n 2 r.0) ∙ ap (λ (x : ℕ). x * r.0) (mul_comm n 2) ∙ mul_assoc 2 n r.0 in
            divisor k n r.0 (omega (arith, a, two))
        | inr r ↦
            let i : n ≡ suc (2 * p.0) = omega (arith, p.1) in
            let a : n * q ≡ (2 * p.0) * q + q = ap (λ (x : ℕ). x * q) i ∙ suc-mul (2 * p.0) q in
            let b : (2 * p.0) * q ≡ 2 * (p.0 * q) = mul_assoc 2 p.0 q in
            let c = r.1 in
            absurd (omega (arith, a, b, c, two))
      ]
    ]

power_below : (d : ℕ) → d < 2 ^ d
power_below zero = omega arith
power_below (suc d) = let p = pow-succ' 2 d in let ih = power_below d in omega (arith, p, ih)

halvings_of : (most d : ℕ) → d ≤ most → halvings most (2 ^ d) ≡ d
halvings_of zero zero le = refl
halvings_of zero (suc d) le = absurd (omega arith)
halvings_of (suc most) zero le = refl
halvings_of (suc most) (suc d) le =
    let p : 2 ^ suc d ≡ 2 * 2 ^ d = pow-succ' 2 d in
    let pow : 0 < 2 ^ d = pow_pos d in
    let many : ltb (2 ^ suc d) 2 ≡ false = le-ltb _ _ (omega arith) in
    let half : 2 ^ suc d / 2 ≡ 2 ^ d = omega arith in
    rw (many, half, halvings_of most d (omega arith)) refl

pub depth_is : (d : ℕ) → depth_of (2 ^ d) ≡ d
unfolding depth_of
depth_is d = let low = power_below d in halvings_of (2 ^ d) d (omega arith)

-- a page count is two to its depth
pub power_is : (n : ℕ) → IsTrue (is_page_count n) → n ≡ 2 ^ depth_of n
power_is n p =
    let q : n * (4096 / n) ≡ 2 ^ 12 = mul_comm n (4096 / n) ∙ divides n p in
    let d = divisor 12 n (4096 / n) q in
    d.1 ∙ ap (λ (k : ℕ). 2 ^ k) (sym (depth_is d.0) ∙ ap depth_of (sym d.1))

pub some_pages : (bytes : List ℕ) (dirty : List Bool) → IsRam bytes dirty → 0 < length dirty
some_pages bytes dirty r = positive (length dirty) r.power

pub pages_are : (bytes : List ℕ) (dirty : List Bool) → IsRam bytes dirty → length bytes / 4096 ≡ length dirty
pages_are bytes dirty r = let e = r.size in omega arith

-- the page root by the depth of the page count
pub root_of_is : (h : Hashes) (bytes : List ℕ) (dirty : List Bool) → IsRam bytes dirty → root_of h bytes ≡ root_from h bytes (depth_of (length dirty)) 0
unfolding root_of
root_of_is h bytes dirty r = rw (pages_are bytes dirty r) refl
