-- Evidence: what shows a fault to others (docs/FORMATS.md, "Evidence").
use Rattle.std.specs.Prelude.{◌≡◌, ℕ, ◌+◌, ◌^◌, ◌<◌, ◌≤◌, ◌==◌, List, ◌++◌, length, Option, None, if◌then◌else◌, nat_le}
use Rattle.std.specs.Int.{w32, w64}
use Rattle.avm_num.specs.Bytes.{◌>>=◌, number_at, piece_at, byte_at, kept}
use Rattle.avm_num.specs.Lists.{be, one, exact_at, sized_at, sized_bytes}
use Rattle.avm_num.specs.Walk.{is_nil}
use Rattle.avm_model.specs.Auth.{AuthData, auth_bytes, auth_at, FitsAuth}

-- the three forms, each with the key: two authenticators; a number, a hash, frames' bytes and two authenticators; a segment's
-- bytes and an authenticator
pub data EvidData : Type 0 where
  double : List ℕ → AuthData → AuthData → EvidData
  fork : List ℕ → ℕ → List ℕ → List ℕ → AuthData → AuthData → EvidData
  replay : List ℕ → List ℕ → AuthData → EvidData

abbrev pub key_of : EvidData → List ℕ
key_of (double key a b) = key
key_of (fork key start before frames top other) = key
key_of (replay key segment top) = key

abbrev pub form_of : EvidData → ℕ
form_of (double key a b) = 1
form_of (fork key start before frames top other) = 2
form_of (replay key segment top) = 3

-- AVME
abbrev pub evidence_magic : ℕ
evidence_magic = 0x41564d45

-- the longest evidence
abbrev pub longest_evidence : ℕ
longest_evidence = 2 ^ 26 + 2 ^ 17

-- ---- the spelling

unfoldable pub body_bytes : EvidData → List ℕ
body_bytes (double key a b) = auth_bytes a ++ auth_bytes b
body_bytes (fork key start before frames top other) = be w64 start ++ before ++ sized_bytes (be w32) frames ++ auth_bytes top ++ auth_bytes other
body_bytes (replay key segment top) = sized_bytes (be w32) segment ++ auth_bytes top

unfoldable pub evidence_bytes : EvidData → List ℕ
evidence_bytes e = be w32 evidence_magic ++ one 1 ++ key_of e ++ one (form_of e) ++ body_bytes e

-- what has a spelling
abbrev pub FitsBody : EvidData → Type 0
FitsBody (double key a b) = FitsAuth a × FitsAuth b
FitsBody (fork key start before frames top other) = (start < 2 ^ 64) × (length before ≡ 32) × (length frames < 2 ^ 32) × FitsAuth top × FitsAuth other
FitsBody (replay key segment top) = (length segment < 2 ^ 32) × FitsAuth top

pub record FitsEvidence (e : EvidData) : Type 0 where
  pub key : length (key_of e) ≡ 56
  pub body : FitsBody e
  pub whole : length (evidence_bytes e) ≤ longest_evidence

-- ---- reading: each form to its last byte

unfoldable pub double_at : List ℕ → List ℕ → Option EvidData
double_at key bytes = do
  a ← auth_at bytes
  b ← auth_at a.1
  kept (is_nil b.1) (double key a.0 b.0)

unfoldable pub fork_at : List ℕ → List ℕ → Option EvidData
fork_at key bytes = do
  start ← number_at w64 bytes
  before ← piece_at 32 start.1
  frames ← sized_at (number_at w32) before.1
  top ← auth_at frames.1
  other ← auth_at top.1
  kept (is_nil other.1) (fork key start.0 before.0 frames.0 top.0 other.0)

unfoldable pub replay_at : List ℕ → List ℕ → Option EvidData
replay_at key bytes = do
  segment ← sized_at (number_at w32) bytes
  top ← auth_at segment.1
  kept (is_nil top.1) (replay key segment.0 top.0)

abbrev pub body_at : ℕ → List ℕ → List ℕ → Option EvidData
body_at form key bytes = if form == 1 then double_at key bytes else if form == 2 then fork_at key bytes else if form == 3 then replay_at key bytes else None

-- the evidence that the bytes are, but for the limit
unfoldable pub parts_of : List ℕ → Option EvidData
parts_of bytes = do
  word ← exact_at (number_at w32) evidence_magic bytes
  version ← exact_at byte_at 1 word.1
  key ← piece_at 56 version.1
  form ← byte_at key.1
  body_at form.0 key.0 form.1

unfoldable pub evidence_at : List ℕ → Option EvidData
evidence_at bytes = if nat_le (length bytes) longest_evidence then parts_of bytes else None
