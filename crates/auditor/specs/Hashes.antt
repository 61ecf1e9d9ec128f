-- A hash that may be found.
use Rattle.std.specs.Prelude.{ℕ, List, Option, Some, None}
use Rattle.avm_model.specs.declared.Digest.{Digest}

abbrev pub bytes_of : Option Digest → Option (List ℕ)
bytes_of None = None
bytes_of (Some d) = Some d.0
