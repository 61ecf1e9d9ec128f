-- An authenticator: a signed position of a log (docs/FORMATS.md, "Authenticators").
use Rattle.std.specs.Prelude.{◌≡◌, ℕ, ◌≤◌, List, ◌++◌, length, Option, Some, All}
use Rattle.std.specs.Int.{w32, w64}
use Rattle.avm_num.specs.Bytes.{◌>>=◌, piece_at}
use Rattle.avm_num.specs.Lists.{be, sized_bytes, list_bytes}
use Rattle.avm_num.specs.Walk.{all_at}
use Rattle.avm_model.specs.Parts.{IsOrdinal, ordinal_at, longest_signature, signature_at}

pub record AuthData : Type 0 where
  pub seq : ℕ
  pub hash : List ℕ
  pub sig : List ℕ

-- the spelling
unfoldable pub auth_bytes : AuthData → List ℕ
auth_bytes a = be w64 a.seq ++ a.hash ++ sized_bytes (be w32) a.sig

pub record FitsAuth (a : AuthData) : Type 0 where
  pub seq : IsOrdinal a.seq
  pub hash : length a.hash ≡ 32
  pub sig : length a.sig ≤ longest_signature

-- reading
unfoldable pub auth_at : List ℕ → Option (AuthData × List ℕ)
auth_at bytes = do
  seq ← ordinal_at bytes
  hash ← piece_at 32 seq.1
  sig ← signature_at hash.1
  Some (record { seq = seq.0; hash = hash.0; sig = sig.0 }, sig.1)

-- a file of them: zero or more, and nothing behind them
abbrev pub auths_at : List ℕ → Option (List AuthData)
auths_at bytes = all_at auth_at bytes

-- the bytes are the authenticators one after another
pub record IsAuths (bytes : List ℕ) (auths : List AuthData) : Type 0 where
  pub spelled : bytes ≡ list_bytes auth_bytes auths
  pub fits : All FitsAuth auths

-- the letters AVMA
abbrev pub auth_magic : ℕ
auth_magic = 0x41564d41

-- the text that is signed for the number of an entry and its hash
unfoldable pub signed_text_of : ℕ → List ℕ → List ℕ
signed_text_of seq hash = be w32 auth_magic ++ be w64 seq ++ hash
