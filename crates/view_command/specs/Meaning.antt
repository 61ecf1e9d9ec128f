-- What the statuses of a view say.
use Rattle.std.specs.Prelude.{◌≡◌, ◌≢◌, ◌++◌, ℕ, List, Option, Some, option_map}
use Rattle.std.specs.List.{concat}
use Rattle.avm_model.specs.Segment.{whole_segment_of}
use Rattle.command_parts.specs.Reading.{Finds}
use Rattle.view_command.specs.Showing.{Read}

-- A view ends with 0 exactly where the segment can be viewed and what is asked for is there, but for a fault of the outside and
-- want of memory; and then exactly the lines of it are printed.
pub record ViewMeans (Shows : Read → List (List ℕ) → Type 0) (told : Option (Option (List ℕ))) (before after : Option (List ℕ)) (result : ℕ) : Type 0 where
  pub shown : result ≡ 0 → (bytes : List ℕ) × (lines : List (List ℕ)) × Finds told (Some bytes) × Shows (whole_segment_of bytes) lines × (after ≡ option_map (λ was. was ++ concat lines) before)
  pub shows : (bytes : List ℕ) (lines : List (List ℕ)) → told ≡ Some (Some bytes) → Shows (whole_segment_of bytes) lines → result ≢ 4 → result ≢ 5 → result ≡ 0
