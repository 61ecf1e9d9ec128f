-- The test of a signature is true exactly where its equations hold.
use Rattle.std.proofs.Common.{◌≡◌, ℕ, ◌+◌, ◌*◌, ◌^◌, Bool, List, length, take, drop, arith}
use Rattle.std.specs.Bool.{Decides}
use Rattle.std.specs.Prelude.{◌&&◌}
use Rattle.std.proofs.lemmas.Bool.Decides.{nat_tests, Decides-and, Decides-eqb, Decides-ltb, Decides-like, same_from_decides}
use Rattle.std.proofs.lemmas.Slice.Eq.{bytes_eq-Decides}
use Rattle.avm_model.specs.LmsTypes.{chains_of, height_of, IsOts, IsLms}
use Rattle.avm_model.specs.LmsValid.{number, root_by, IsValid, Valid, has_types, is_valid, valid}

pub has_types-decides : (lms ots : ℕ) → Decides (has_types lms ots) (IsLms lms × IsOts ots)
unfolding has_types
has_types-decides lms ots = (λ t. grind (arith, nat_tests), λ h. grind (arith, nat_tests))

-- tests one after another
both : {P Q : Type 0} {x y : Bool} → Decides x P → Decides y Q → Decides (x && y) (P × Q)
both {x = x} {y = y} p q = Decides-and x y p q

pub is_valid-decides : (lms ots : ℕ) (id root text sig : List ℕ) → Decides (is_valid lms ots id root text sig) (IsValid lms ots id root text sig)
unfolding is_valid
is_valid-decides lms ots id root text sig =
    Decides-like _
    (λ p. record {
      lms_type = p.0.0.0.0.0.0;
      ots_type = p.0.0.0.0.0.1;
      exact = p.0.0.0.0.1;
      same_ots = p.0.0.0.1;
      same_lms = p.0.0.1;
      within = p.0.1;
      same_root = p.1;
    })
    (λ v. ((((((v.lms_type, v.ots_type), v.exact), v.same_ots), v.same_lms), v.within), v.same_root))
    (both (both (both (both (both (has_types-decides lms ots)
    (Decides-eqb (length sig) (44 + 32 * chains_of ots + 32 * height_of lms)))
    (Decides-eqb (number sig 4) ots))
    (Decides-eqb (number sig (40 + 32 * chains_of ots)) lms))
    (Decides-ltb (number sig 0) (2 ^ height_of lms)))
    (bytes_eq-Decides (root_by lms ots id text sig) root))

-- the test is the record
pub valid-decides : (key text sig : List ℕ) → Decides (valid key text sig) (Valid key text sig)
unfolding valid
valid-decides key text sig =
    Decides-like _
    (λ p. record { exact = p.0; by = p.1 })
    (λ v. (v.exact, v.by))
    (both (Decides-eqb (length key) 56) (is_valid-decides (number key 0) (number key 4) (take 16 (drop 8 key)) (drop 24 key) text sig))

-- what decides the record is the test
pub valid_from : (b : Bool) (key text sig : List ℕ) → Decides b (Valid key text sig) → b ≡ valid key text sig
valid_from b key text sig h = same_from_decides b (valid key text sig) h (valid-decides key text sig)
