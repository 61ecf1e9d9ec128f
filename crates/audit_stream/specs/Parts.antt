-- The answer of a reader that a front is whole.
use Rattle.std.specs.Prelude.{Bool, true, false}
use Rattle.seg_file.specs.declared.filling.Part.{Part}
use Rattle.seg_file.specs.declared.filling.Part.TheVariants as part

abbrev pub is_head : Part → Bool
is_head part.More = false
is_head part.Head = true
is_head (part.Page i) = false
is_head part.Frame = false
is_head part.Bad = false
