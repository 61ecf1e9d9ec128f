-- What a write does to a RAM with a mark for each page.
use Rattle.std.specs.Prelude.{◌≡◌, ℕ, ◌<◌, false, length, get_or}
use Rattle.avm_model.specs.Memory.{RamState}
use Rattle.avm_model.specs.Pages.{page_of}

-- A page without a mark had none before, and its bytes are as before: a page whose bytes changed has a mark.
pub record MarksPages (old new : RamState) : Type 0 where
  pub size : length new.bytes ≡ length old.bytes
  pub pages : length new.dirty ≡ length old.dirty
  pub clean : (f : ℕ) → f < length new.dirty → get_or new.dirty f false ≡ false → get_or old.dirty f false ≡ false
  pub same : (f : ℕ) → f < length new.dirty → get_or new.dirty f false ≡ false → page_of new.bytes f ≡ page_of old.bytes f
