-- A head, and pages, that tell a state.
use Rattle.std.specs.Prelude.{◌≡◌, ℕ, ◌*◌, IsTrue, List, length, Some}
use Rattle.avm_model.specs.Head.{HeadData}
use Rattle.avm_model.specs.HeadReading.{head_of}
use Rattle.avm_model.specs.Memory.{is_page_count}

-- the bytes are a head, with as many pages as it says, a power of two
pub record Tells (head pages : List ℕ) (h : HeadData) : Type 0 where
  pub is : head_of head ≡ Some h
  pub size : length pages ≡ 4096 * h.front.pages
  pub count : IsTrue (is_page_count h.front.pages)

abbrev pub TellsState : List ℕ → List ℕ → Type 0
TellsState head pages = (h : HeadData) × Tells head pages h
