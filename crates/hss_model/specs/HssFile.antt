-- HSS authenticators, endorsements, and how LMS authenticators become HSS ones and these LMS ones again.
use Rattle.std.specs.Prelude.{◌≡◌, ℕ, suc, Bool, true, ◌^◌, ◌≤◌, ◌&&◌, nat_le, List, [], ◌∷◌, ◌++◌, length, map, Option, Some, None, if◌then◌else◌, option_map}
use Rattle.std.specs.Int.{w32}
use Rattle.std.specs.Str.{bytes_eq}
use Rattle.avm_num.specs.Bytes.{◌>>=◌, number_at, piece_at, kept}
use Rattle.avm_num.specs.Lists.{be, sized_at, sized_bytes, list_bytes}
use Rattle.avm_num.specs.Walk.{all_at, is_nil}
use Rattle.avm_model.specs.Parts.{IsOrdinal, ordinal_at, signature_at}
use Rattle.avm_model.specs.Auth.{AuthData, FitsAuth, auth_bytes, signed_text_of}
use Rattle.avm_model.specs.LmsValid.{valid}
use Rattle.hss_model.specs.Hss.{hss_key, hss_signature, hss_valid, signature_length, bottom_of, lower_of}

-- An HSS authenticator is spelled as an authenticator, and its signature may be longer; its layout is judged by `HssValid` alone.
abbrev pub longest_hss_signature : ℕ
longest_hss_signature = 18708

unfoldable pub hss_signature_at : List ℕ → Option (List ℕ × List ℕ)
hss_signature_at bytes = do
  sig ← sized_at (number_at w32) bytes
  kept (nat_le (length sig.0) longest_hss_signature) sig

unfoldable pub hss_auth_at : List ℕ → Option (AuthData × List ℕ)
hss_auth_at bytes = do
  seq ← ordinal_at bytes
  hash ← piece_at 32 seq.1
  sig ← hss_signature_at hash.1
  Some (record { seq = seq.0; hash = hash.0; sig = sig.0 }, sig.1)

pub record FitsHssAuth (a : AuthData) : Type 0 where
  pub seq : IsOrdinal a.seq
  pub hash : length a.hash ≡ 32
  pub sig : length a.sig ≤ longest_hss_signature

-- an endorsement: the top key's signature, and the bottom key that it signs
pub record EndorsementData : Type 0 where
  pub upper : List ℕ
  pub bottom : List ℕ

-- "AVMN"
abbrev pub endorsement_mark : List ℕ
endorsement_mark = 65 ∷ 86 ∷ 77 ∷ 78 ∷ []

unfoldable pub endorsement_bytes : EndorsementData → List ℕ
endorsement_bytes e = endorsement_mark ++ (sized_bytes (be w32) e.upper ++ e.bottom)

unfoldable pub endorsement_of : List ℕ → Option EndorsementData
endorsement_of bytes = do
  mark ← piece_at 4 bytes
  upper ← signature_at mark.1
  bottom ← piece_at 56 upper.1
  kept (bytes_eq mark.0 endorsement_mark && is_nil bottom.1) (record { upper = upper.0; bottom = bottom.0 })

-- an authenticator with an endorsement's parts before its own signature
abbrev pub widened : EndorsementData → AuthData → AuthData
widened e a = record { seq = a.seq; hash = a.hash; sig = hss_signature e.upper e.bottom a.sig }

unfoldable pub widen_of : EndorsementData → List AuthData → List ℕ
widen_of e auths = list_bytes auth_bytes (map (widened e) auths)

-- an authenticator with its lower signature alone, where the upper one has n bytes
abbrev pub narrowed : ℕ → AuthData → AuthData
narrowed n a = record { seq = a.seq; hash = a.hash; sig = lower_of n a.sig }

-- the first place of a list where a test fails
abbrev pub first_failing : {A : Type 0} → (A → Bool) → List A → Option ℕ
first_failing test [] = None
first_failing test (x ∷ xs) = if test x then option_map (λ k. suc k) (first_failing test xs) else Some 0

abbrev pub is_good : List ℕ → AuthData → Bool
is_good top a = hss_valid (hss_key top) (signed_text_of a.seq a.hash) a.sig

-- what `narrow` answers: the bottom key and the authenticators under it, or the first refusal
pub data Narrowing : Type 0 where
  Malformed : Narrowing
  BadAuth : ℕ → Narrowing
  Mixed : ℕ → Narrowing
  Narrows : List ℕ → List AuthData → Narrowing

abbrev pub mixed_or : List ℕ → ℕ → List AuthData → Option ℕ → Narrowing
mixed_or bottom n auths (Some k) = Mixed k
mixed_or bottom n auths None = Narrows bottom (map (narrowed n) auths)

abbrev pub bad_or : Option ℕ → Narrowing → Narrowing
bad_or (Some k) next = BadAuth k
bad_or None next = next

abbrev pub narrow_auths : List ℕ → Option (List AuthData) → Narrowing
narrow_auths top None = Malformed
narrow_auths top (Some []) = Malformed
narrow_auths top (Some (a ∷ auths)) =
    let n = signature_length top in
    bad_or (first_failing (is_good top) (a ∷ auths)) (mixed_or (bottom_of n a.sig) n (a ∷ auths) (first_failing (λ b. bytes_eq (bottom_of n b.sig) (bottom_of n a.sig)) (a ∷ auths)))

unfoldable pub narrow_of : List ℕ → List ℕ → Narrowing
narrow_of top bytes = if nat_le (length bytes) (2 ^ 25) then narrow_auths top (all_at hss_auth_at bytes) else Malformed

-- authenticators that are valid under the endorsed key, and no longer than authenticators are
abbrev pub AreValid : EndorsementData → List AuthData → Type 0
AreValid e [] = Unit {0}
AreValid e (a ∷ auths) = FitsAuth a × (valid e.bottom (signed_text_of a.seq a.hash) a.sig ≡ true) × AreValid e auths
