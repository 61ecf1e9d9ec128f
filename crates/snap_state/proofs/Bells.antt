-- The bell of the devices, by their version.
use Rattle.std.proofs.Common.{◌≡◌, ◌≤◌, Option, Some, None, refl, arith}
use Rattle.avm_model.specs.Bell.{version_of}
use Rattle.avm_model.specs.Sizes.{bell_size}
use Rattle.avm_model.specs.declared.Bell.{Bell}
use Rattle.guest_dev.specs.Shown.{bell_or_zeros}

pub bell_of_two : (o : Option Bell) → version_of o ≡ 2 → Some (bell_or_zeros o) ≡ o
bell_of_two None e = absurd (omega (arith, e))
bell_of_two (Some b) e = refl

pub bell_of_one : (o : Option Bell) → (version_of o ≡ 2 → ⊥) → None ≡ o
bell_of_one None e = refl
bell_of_one (Some b) e = absurd (e refl)

pub nine_at_most : (o : Option Bell) → bell_size o ≤ 9
nine_at_most None = omega arith
nine_at_most (Some b) = omega arith
