-- HSS of two levels (RFC 8554, section 6): a top key signs the public keys of bottom keys, and a bottom key signs texts.
use Rattle.std.specs.Prelude.{◌≡◌, ℕ, Bool, ◌+◌, ◌*◌, ◌&&◌, List, ◌++◌, take, drop}
use Rattle.std.specs.Int.{w32}
use Rattle.std.specs.Str.{bytes_eq}
use Rattle.avm_num.specs.Lists.{be}
use Rattle.avm_model.specs.LmsTypes.{chains_of, height_of}
use Rattle.avm_model.specs.LmsValid.{number, Valid, valid}
use Rattle.avm_model.specs.Keys.{public_file}

-- a public key: u32str(L) || pub[0], with L = 2 (section 6.1)
abbrev pub hss_key : List ℕ → List ℕ
hss_key top = be w32 2 ++ top

-- a signature: u32str(Nspk) || sig[0] || pub[1] || sig[1], with Nspk = L - 1 = 1 (section 6.2)
abbrev pub hss_signature : List ℕ → List ℕ → List ℕ → List ℕ
hss_signature upper bottom lower = be w32 1 ++ (upper ++ (bottom ++ lower))

-- the signature of the text is valid under the public key (section 6.3, algorithm 9)
pub record HssValid (key text sig : List ℕ) : Type 0 where
  pub top : List ℕ
  pub upper : List ℕ
  pub bottom : List ℕ
  pub lower : List ℕ
  pub key_layout : key ≡ hss_key top
  pub sig_layout : sig ≡ hss_signature upper bottom lower
  pub binds : Valid top bottom upper
  pub signs : Valid bottom text lower

-- the length of a signature under a public key (section 5.4)
abbrev pub signature_length : List ℕ → ℕ
signature_length key = 44 + 32 * chains_of (number key 4) + 32 * height_of (number key 0)

-- the parts of a signature, where sig[0] has n bytes
abbrev pub upper_of : ℕ → List ℕ → List ℕ
upper_of n sig = take n (drop 4 sig)

abbrev pub bottom_of : ℕ → List ℕ → List ℕ
bottom_of n sig = take 56 (drop (4 + n) sig)

abbrev pub lower_of : ℕ → List ℕ → List ℕ
lower_of n sig = drop (60 + n) sig

-- the test of `HssValid`, where sig[0] has n bytes
abbrev pub hss_valid_at : ℕ → List ℕ → List ℕ → List ℕ → Bool
hss_valid_at n top text sig = bytes_eq (take 4 sig) (be w32 1) && valid top (bottom_of n sig) (upper_of n sig) && valid (bottom_of n sig) text (lower_of n sig)

-- the test of `HssValid`
unfoldable pub hss_valid : List ℕ → List ℕ → List ℕ → Bool
hss_valid key text sig = bytes_eq (take 4 key) (be w32 2) && hss_valid_at (signature_length (drop 4 key)) (drop 4 key) text sig

-- an HSS key with types of the tables
unfoldable pub is_hss_key : List ℕ → Bool
is_hss_key key = bytes_eq (take 4 key) (be w32 2) && public_file (drop 4 key)
