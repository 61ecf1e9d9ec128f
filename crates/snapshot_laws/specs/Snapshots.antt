-- Entries up to a snapshot's.
use Rattle.std.specs.Prelude.{ℕ, List, [], ◌∷◌, ◌++◌}
use Rattle.avm_model.specs.Reference.{Given, Made, SnapAt}
use Rattle.avm_model.specs.Timed.{Entry, made}

-- entries, and a SNAP behind them
abbrev pub with_snapshot : List (Entry Given Made) → ℕ → List ℕ → List (Entry Given Made)
with_snapshot es count root = es ++ made (SnapAt count root) ∷ []
