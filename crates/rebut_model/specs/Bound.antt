-- Whether a journal has bound what an authenticator says (docs/FORMATS.md, "Journal").
use Rattle.std.specs.Prelude.{ℕ, ◌==◌, ◌&&◌, Bool, List}
use Rattle.std.specs.List.{list_any}
use Rattle.std.specs.Str.{bytes_eq}
use Rattle.avm_model.specs.Auth.{AuthData}
use Rattle.journal_model.specs.Journal.{JournalData}
use Rattle.journal_model.specs.Standing.{bound}

-- an authenticator's number and hash
abbrev pub is_pair : AuthData → ℕ × List ℕ → Bool
is_pair a p = p.0 == a.seq && bytes_eq p.1 a.hash

abbrev pub is_bound : JournalData → AuthData → Bool
is_bound j a = list_any (is_pair a) (bound j)
