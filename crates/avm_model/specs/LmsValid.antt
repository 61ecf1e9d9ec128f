-- When a signature is valid under a public key: RFC 8554, section 5.4.2.
use Rattle.std.specs.Prelude.{◌≡◌, ℕ, Bool, ◌+◌, ◌*◌, ◌^◌, ◌<◌, ◌==◌, ◌&&◌, nat_le, nat_lt, List, take, drop, length}
use Rattle.std.specs.Str.{bytes_eq}
use Rattle.std.specs.Int.{w32, from_be_bytes}
use Rattle.avm_model.specs.LmsTypes.{chains_of, height_of, IsOts, IsLms}
use Rattle.avm_model.specs.LmsOts.{candidate_key}
use Rattle.avm_model.specs.LmsTree.{leaf, climb}

-- strTou32 of the four bytes at a place (section 3.1.2)
abbrev pub number : List ℕ → ℕ → ℕ
number bytes i = from_be_bytes w32 (take 4 (drop i bytes))

-- Tc, the root that a signature gives (algorithm 6a)
abbrev pub root_by : ℕ → ℕ → List ℕ → List ℕ → List ℕ → List ℕ
root_by lms ots id text sig =
    let q = number sig 0 in
    climb id (height_of lms) (2 ^ height_of lms + q)
    (leaf id (2 ^ height_of lms + q) (candidate_key ots id q text (take (36 + 32 * chains_of ots) (drop 4 sig))))
    (drop (44 + 32 * chains_of ots) sig)

-- what algorithm 6a asks of a signature, at the types, I and T[1] of a public key
pub record IsValid (lms ots : ℕ) (id root text sig : List ℕ) : Type 0 where
  pub lms_type : IsLms lms
  pub ots_type : IsOts ots
  pub exact : length sig ≡ 44 + 32 * chains_of ots + 32 * height_of lms
  pub same_ots : number sig 4 ≡ ots
  pub same_lms : number sig (40 + 32 * chains_of ots) ≡ lms
  pub within : number sig 0 < 2 ^ height_of lms
  pub same_root : root_by lms ots id text sig ≡ root

-- the signature of the text is valid under the public key (algorithm 6)
pub record Valid (key text sig : List ℕ) : Type 0 where
  pub exact : length key ≡ 56
  pub by : IsValid (number key 0) (number key 4) (take 16 (drop 8 key)) (drop 24 key) text sig

-- types of the tables
unfoldable pub has_types : ℕ → ℕ → Bool
has_types lms ots = nat_le 5 lms && nat_le lms 9 && nat_le 1 ots && nat_le ots 4

-- a public key's types (section 5.3)
abbrev pub is_key : List ℕ → Bool
is_key key = has_types (number key 0) (number key 4)

-- the test of `IsValid`
unfoldable pub is_valid : ℕ → ℕ → List ℕ → List ℕ → List ℕ → List ℕ → Bool
is_valid lms ots id root text sig =
    has_types lms ots
    && (length sig == 44 + 32 * chains_of ots + 32 * height_of lms)
    && (number sig 4 == ots)
    && (number sig (40 + 32 * chains_of ots) == lms)
    && nat_lt (number sig 0) (2 ^ height_of lms)
    && bytes_eq (root_by lms ots id text sig) root

-- the test of `Valid`
unfoldable pub valid : List ℕ → List ℕ → List ℕ → Bool
valid key text sig =
    (length key == 56) && is_valid (number key 0) (number key 4) (take 16 (drop 8 key)) (drop 24 key) text sig
