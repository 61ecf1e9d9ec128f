-- Authenticators by their numbers.
use Rattle.std.specs.Prelude.{ℕ, ◌==◌, ◌&&◌, Bool, List}
use Rattle.std.specs.Str.{bytes_eq}
use Rattle.avm_model.specs.Auth.{AuthData}

-- the number and the hash
abbrev pub is_at : ℕ → List ℕ → AuthData → Bool
is_at seq hash a = seq == a.seq && bytes_eq a.hash hash
