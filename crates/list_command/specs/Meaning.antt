-- What the statuses of a listing say.
use Rattle.std.specs.Prelude.{◌≡◌, ◌≢◌, ◌++◌, ℕ, List, Option, Some, IfSome, option_map}
use Rattle.std.specs.List.{concat}
use Rattle.journal_model.specs.Journal.{JournalData}
use Rattle.list_command.specs.Listing.{IsListed, listing}

-- A listing ends with 0 exactly where the store's bytes stand for a journal whose header has a head, but for a fault of the
-- outside and want of memory; and then exactly the journal's lines are printed.
pub record ListMeans (told : Option (List ℕ)) (before after : Option (List ℕ)) (result : ℕ) : Type 0 where
  pub listed : result ≡ 0 → IfSome told (λ was. (j : JournalData) × IsListed was j × (after ≡ option_map (λ w. w ++ concat (listing j)) before))
  pub lists : (was : List ℕ) (j : JournalData) → told ≡ Some was → IsListed was j → result ≢ 4 → result ≢ 5 → result ≡ 0
