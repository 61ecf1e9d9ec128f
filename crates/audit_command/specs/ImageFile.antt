-- An image's file.
use Rattle.std.specs.Prelude.{ℕ, ◌^◌, ◌&&◌, nat_le, is_none, Bool, List, length}
use Rattle.avm_model.specs.Image.{file_fault}

-- within the limit, and without a fault that shows in the file alone
unfoldable pub image_file : List ℕ → Bool
image_file bytes = nat_le (length bytes) (2 ^ 25) && is_none (file_fault bytes)
