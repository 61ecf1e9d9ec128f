-- The page counts that RAM can have are the powers of two from 1 to 4096.
use Rattle.std.proofs.Common.{◌≡◌, ℕ, zero, suc, ◌*◌, ◌/◌, ◌%◌, ◌<◌, ◌≤◌, nat_eq, nat_lt, arith, IsTrue}
use Rattle.std.proofs.lemmas.Bool.{and_parts, eqb-true, ltb-true}
use Rattle.std.proofs.lemmas.Nat.{div-add-mod'}
use Rattle.avm_model.specs.Memory.{is_page_count}

abbrev pub positive : (n : ℕ) → IsTrue (is_page_count n) → 0 < n
positive n p = ltb-true 0 n (and_parts (nat_lt 0 n) (nat_eq (4096 % n) 0) p).0

pub divides : (n : ℕ) → IsTrue (is_page_count n) → 4096 / n * n ≡ 4096
divides n p =
    let rest = eqb-true (4096 % n) 0 (and_parts (nat_lt 0 n) (nat_eq (4096 % n) 0) p).1 in
    let whole = div-add-mod' 4096 n in
    omega (arith, rest, whole)

below_product : (q n : ℕ) → q * n ≡ 4096 → n ≤ 4096
below_product zero n e = omega (arith, e)
below_product (suc q) n e = grind arith

pub few_pages : (n : ℕ) → IsTrue (is_page_count n) → n ≤ 4096
few_pages n p = below_product (4096 / n) n (divides n p)
