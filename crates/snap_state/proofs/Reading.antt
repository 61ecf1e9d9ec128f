-- Whether a head is read.
use Rattle.std.proofs.Common.{◌≡◌, ℕ, Bool, List, Option, Some, None, is_some, ap, ◌∙◌}
use Rattle.std.specs.Option.{option_map}
use Rattle.avm_model.specs.HeadReading.{head_of}
use Rattle.snap_state.specs.Views.{head_view}
use Rattle.snap_state.specs.declared.parts.HeadParts.{HeadParts}

pub exact : (b : Bool) (r : Option HeadParts) (bytes : List ℕ) → b ≡ is_some r → option_map head_view r ≡ head_of bytes → b ≡ is_some (head_of bytes)
exact b None bytes e m = e ∙ ap is_some m
exact b (Some h) bytes e m = e ∙ ap is_some m
