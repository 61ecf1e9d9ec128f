-- From the equations at types to the three byte strings.
use Rattle.std.proofs.Common.{◌≡◌, ℕ, Bool, List, length, take, drop, ◌↔◌, IsTrue}
use Rattle.avm_model.specs.LmsValid.{number, IsValid, Valid, valid}
use Rattle.avm_model.proofs.LmsTest.{valid_from}

pub valid_by : (b : Bool) (lms ots : ℕ) (id root key text sig : List ℕ) → length key ≡ 56 → lms ≡ number key 0 → ots ≡ number key 4 → id ≡ take 16 (drop 8 key) → root ≡ drop 24 key
    → IsTrue b ↔ IsValid lms ots id root text sig → IsTrue b ↔ Valid key text sig
valid_by b lms ots id root key text sig e p1 p2 p3 p4 h =
    let g = rw (p1, p2, p3, p4) at h in
    (λ t. record { exact = e; by = g.0 t }, λ v. g.1 v.by)

-- the same, by the test
pub valid_is : (b : Bool) (key text sig : List ℕ) → IsTrue b ↔ Valid key text sig → b ≡ valid key text sig
valid_is b key text sig h = valid_from b key text sig (h.0, h.1)
