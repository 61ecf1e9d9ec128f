-- Authenticators that a journal's signing items have.
use Rattle.std.specs.Prelude.{◌≡◌, ◌≤◌, ℕ, true, List}
use Rattle.avm_model.specs.Auth.{AuthData}
use Rattle.avm_model.specs.Marks.{verifies}
use Rattle.journal_model.specs.Journal.{JournalData}
use Rattle.rebut_model.specs.Bound.{is_bound}

-- it verifies under the key, its number is from..to, and the journal bound its pair
pub record IsSigned (key : List ℕ) (j : JournalData) (from to : ℕ) (a : AuthData) : Type 0 where
  pub verified : verifies key a ≡ true
  pub bound : is_bound j a ≡ true
  pub no_less : from ≤ a.seq
  pub no_more : a.seq ≤ to
