-- One more page is marked.
use Rattle.std.proofs.Common.{◌≡◌, ℕ, suc, ◌+◌, ◌-◌, ◌<◌, Bool, true, List, slice_set, refl, arith}
use Rattle.avm_model.specs.Memory.{marked_from}

pub marks_step : (dirty : List Bool) (i to : ℕ) → i < to → marked_from (slice_set dirty i true) (i + 1) (to - (i + 1)) ≡ marked_from dirty i (to - i)
marks_step dirty i to lt =
    let s : to - i ≡ suc (to - (i + 1)) = omega arith in
    rw s refl
