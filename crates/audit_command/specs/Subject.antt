-- What an audit judges: a segment, and the image that it is compared with, where one is named.
use Rattle.std.specs.Prelude.{ℕ, List, Option, None, Some, option_map, if◌then◌else◌, ◌≡◌}
use Rattle.avm_model.specs.Basics.{or_else}
use Rattle.audit_command.specs.declared.ends.FileOption.{FileOption}
use Rattle.audit_command.specs.declared.ends.FileOption.TheVariants.{Segment, Image}
use Rattle.audit_command.specs.ImageFile.{image_file}
use Rattle.command_parts.specs.FileMap.{FileMap}
use Rattle.command_parts.specs.Reading.{Finds, bytes_of}

-- the files as they are found; of the image, None where none is named
pub record FoundSubject : Type 0 where
  pub segment : Option (List ℕ)
  pub image : Option (Option (List ℕ))

-- what is found under a name that may not be given
abbrev pub FindsNamed : Option (List ℕ) → FileMap → Option (Option (List ℕ)) → Type 0
FindsNamed None old found = found ≡ None
FindsNamed (Some name) old None = ⊥
FindsNamed (Some name) old (Some found) = Finds (old name) found

abbrev pub IsSubjectFound : List ℕ → Option (List ℕ) → FileMap → FoundSubject → Type 0
IsSubjectFound segment image old f = Finds (old segment) f.segment × FindsNamed image old f.image

-- the image's bytes, where one is named
abbrev pub image_of : FoundSubject → Option (List ℕ)
image_of f = option_map bytes_of f.image

abbrev pub refused_image : Option (Option (List ℕ)) → Option FileOption
refused_image None = None
refused_image (Some None) = Some Image
refused_image (Some (Some i)) = if image_file i then None else Some Image

abbrev pub refused_segment : Option (List ℕ) → Option FileOption
refused_segment None = Some Segment
refused_segment (Some s) = None

-- the first of both files that is refused, in the order in which they are read
abbrev pub refused_subject : FoundSubject → Option FileOption
refused_subject f = or_else (refused_image f.image) (refused_segment f.segment)
