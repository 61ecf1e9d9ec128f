-- The bell of a machine that boots, by what the devices show of it.
use Rattle.std.proofs.Common.{◌≡◌, ◌==◌, ◌&&◌, Option, None, Some, refl}
use Rattle.avm_model.specs.Bell.{idle_bell}
use Rattle.avm_model.specs.ImageState.{is_new}
use Rattle.avm_model.specs.declared.Bell.{Bell}
use Rattle.guest_dev.specs.Shown.{bell_or_zeros}

pub new_as_shown : (o : Option Bell) → ((bell_or_zeros o).vector == 0 && (bell_or_zeros o).saved == 0 && (bell_or_zeros o).state == idle_bell) ≡ is_new o
new_as_shown None = refl
new_as_shown (Some b) = refl
