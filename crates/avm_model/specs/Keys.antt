-- Keys and their files: docs/FORMATS.md, "Key files".
use Rattle.std.specs.Prelude.{◌≡◌, ℕ, Bool, ◌≤◌, ◌==◌, ◌&&◌, nat_le, List, ◌∷◌, [], ◌++◌, length, take, drop, Option, Some, None}
use Rattle.std.specs.Int.{w32}
use Rattle.std.specs.Str.{bytes_eq}
use Rattle.avm_num.specs.Bytes.{kept}
use Rattle.avm_num.specs.Lists.{be}
use Rattle.avm_model.specs.LmsTree.{public_key, signature}
use Rattle.avm_model.specs.LmsValid.{number, is_key}

-- a private key: its LMS and LM-OTS types, I and SEED (RFC 8554, section 5.2 and appendix A)
pub record KeyData : Type 0 where
  pub lms : ℕ
  pub ots : ℕ
  pub id : List ℕ
  pub seed : List ℕ

-- its public key (RFC 8554, section 5.3)
unfoldable pub public_of : KeyData → List ℕ
public_of k = public_key k.lms k.ots k.id k.seed

-- its signature of a text at leaf q (RFC 8554, section 5.4.1)
unfoldable pub sig_of : KeyData → ℕ → List ℕ → List ℕ
sig_of k q text = signature k.lms k.ots k.id k.seed q text

-- the types of a private key file: heights 5, 10 and 15
pub record HasTypes (k : KeyData) : Type 0 where
  pub lms_low : 5 ≤ k.lms
  pub lms_high : k.lms ≤ 7
  pub ots_low : 1 ≤ k.ots
  pub ots_high : k.ots ≤ 4

pub record FitsKey (k : KeyData) : Type 0 where
  pub types : HasTypes k
  pub id : length k.id ≡ 16
  pub seed : length k.seed ≡ 32

-- "AVMK" and the version
abbrev pub key_mark : List ℕ
key_mark = 65 ∷ 86 ∷ 77 ∷ 75 ∷ 1 ∷ []

-- a private key file: mark || u32 lmstype || u32 otstype || I || SEED
unfoldable pub key_bytes : KeyData → List ℕ
key_bytes k = key_mark ++ (be w32 k.lms ++ (be w32 k.ots ++ (k.id ++ k.seed)))

-- the fields by their places
abbrev pub fields_of : List ℕ → KeyData
fields_of bytes = record { lms = number bytes 5; ots = number bytes 9; id = take 16 (drop 13 bytes); seed = take 32 (drop 29 bytes) }

-- the test of `HasTypes`
unfoldable pub private_types : KeyData → Bool
private_types k = nat_le 5 k.lms && nat_le k.lms 7 && nat_le 1 k.ots && nat_le k.ots 4

-- the key of a private key file, or none
unfoldable pub key_file : List ℕ → Option KeyData
key_file bytes =
    kept ((length bytes == 61) && bytes_eq (take 5 bytes) key_mark && private_types (fields_of bytes)) (fields_of bytes)

-- what is read is the key that the bytes spell, or they spell no key
abbrev pub IsKeyOf : Option KeyData → List ℕ → Type 0
IsKeyOf (Some k) bytes = FitsKey k × (bytes ≡ key_bytes k)
IsKeyOf None bytes = (k : KeyData) → FitsKey k → bytes ≡ key_bytes k → ⊥

-- a public key file: the 56 bytes, with types of the tables
unfoldable pub public_file : List ℕ → Bool
public_file bytes = (length bytes == 56) && is_key bytes
