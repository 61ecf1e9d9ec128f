-- How many bytes authenticators take.
use Rattle.std.specs.Prelude.{ℕ, ◌+◌, ◌≤◌, List, [], ◌∷◌, length}
use Rattle.std.specs.List.{AllByRecursion}
use Rattle.avm_model.specs.Auth.{AuthData, FitsAuth}
use Rattle.hss_model.specs.HssFile.{EndorsementData}

-- so many bytes more in each
abbrev pub size_with : ℕ → List AuthData → ℕ
size_with more [] = 0
size_with more (a ∷ auths) = 44 + more + length a.sig + size_with more auths

-- there is room for them with an endorsement's parts in each, and each fits
pub record CanWiden (e : EndorsementData) (auths : List AuthData) (room : ℕ) : Type 0 where
  pub upper : length e.upper ≤ 9324
  pub fits : AllByRecursion FitsAuth auths
  pub room_is : size_with (60 + length e.upper) auths ≤ room
