-- What is known of a file that is inspected without a fault.
use Rattle.std.specs.Prelude.{◌≡◌, ℕ, ◌+◌, ◌*◌, ◌≤◌, List, length, None}
use Rattle.avm_model.specs.Basics.{first_at}
use Rattle.avm_model.specs.Image.{is_bad, table_of, count_of, headers_of}

pub record IsElfFile (file : List ℕ) : Type 0 where
  pub size : 52 ≤ length file
  pub table : table_of file + 32 * count_of file ≤ length file
  pub bad : first_at (is_bad (length file)) 0 (headers_of file) ≡ None
