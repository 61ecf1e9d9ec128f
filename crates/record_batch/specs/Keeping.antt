-- The keep behind a SNAP entry (docs/FORMATS.md, "Journal"): the head there, and the pages that have a mark.
use Rattle.std.specs.Prelude.{◌≡◌, ℕ, ◌+◌, ◌*◌, ◌≤◌, Bool, true, false, List, [], ◌∷◌, ◌++◌, length}
use Rattle.std.specs.Int.{w32}
use Rattle.avm_num.specs.Lists.{be, list_bytes}
use Rattle.avm_model.specs.Pages.{page_of}
use Rattle.journal_model.specs.Part.{KeepData, PageData}

-- the pages of a RAM from page i on that have a mark
abbrev pub marked_from : ℕ → List Bool → List ℕ → List PageData
marked_from i [] ram = []
marked_from i (true ∷ marks) ram = record { number = i; bytes = page_of ram i } ∷ marked_from (i + 1) marks ram
marked_from i (false ∷ marks) ram = marked_from (i + 1) marks ram

-- a page of a keep
abbrev pub page_bytes : PageData → List ℕ
page_bytes p = be w32 p.number ++ p.bytes

abbrev pub keep_of : ℕ → List ℕ → List Bool → List ℕ → KeepData
keep_of seq head marks ram = record { seq = seq; head = head; pages = list_bytes page_bytes (marked_from 0 marks ram) }

-- a mark for each page of a RAM
pub record AreMarks (marks : List Bool) (ram : List ℕ) : Type 0 where
  pub size : length ram ≡ 4096 * length marks
  pub few : length marks ≤ 4096
