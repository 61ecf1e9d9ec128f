-- A head and its page count.
use Rattle.std.specs.Prelude.{◌≡◌, ℕ, IsTrue, List, Some}
use Rattle.avm_model.specs.Head.{HeadData}
use Rattle.avm_model.specs.HeadReading.{head_of}
use Rattle.avm_model.specs.Memory.{is_page_count}

-- the bytes are a head of so many pages
pub record IsHeadOf (bytes : List ℕ) (pages : ℕ) : Type 0 where
  pub head : HeadData
  pub is : head_of bytes ≡ Some head
  pub front : head.front.pages ≡ pages
  pub count : IsTrue (is_page_count pages)
