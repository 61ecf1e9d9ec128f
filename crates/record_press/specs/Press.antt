-- What makes packets and authenticators.
use Rattle.std.specs.Prelude.{ℕ, List}
use Rattle.avm_model.specs.Keys.{KeyData}

-- the private key, and what was made last
pub record PressData : Type 0 where
  pub key : KeyData
  pub bytes : List ℕ
