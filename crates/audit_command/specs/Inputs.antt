-- What an audit reads before the segment.
use Rattle.std.specs.Prelude.{◌≡◌, ℕ, List, Option, None, Some, Result, MatchResult, option_map}
use Rattle.avm_script.specs.Job.{SignedData}
use Rattle.avm_model.specs.Audit.{auths_within}
use Rattle.audit_command.specs.declared.ends.FileOption.{FileOption}
use Rattle.audit_command.specs.declared.inputs.Beside.{Beside}
use Rattle.audit_command.specs.declared.inputs.Inputs.{Inputs}
use Rattle.audit_command.specs.Audit.{refused_inputs}
use Rattle.audit_command.specs.Subject.{FindsNamed, refused_image}
use Rattle.command_parts.specs.FileMap.{FileMap}
use Rattle.command_parts.specs.Reading.{Finds, bytes_of}

abbrev pub image_bytes : Beside → Option (List ℕ)
image_bytes b = option_map (λ v. v.items) b.image

-- the image isn't refused, and it is what is found
pub record IsBeside (found : Option (Option (List ℕ))) (b : Beside) : Type 0 where
  pub none : refused_image found ≡ None
  pub image : image_bytes b ≡ option_map bytes_of found

-- what is found of the image, and that it is refused or what was read of it
abbrev pub IsImageRead : Option (List ℕ) → FileMap → Result Beside FileOption → Type 0
IsImageRead image old r =
    (found : Option (Option (List ℕ))) × FindsNamed image old found × MatchResult r (IsBeside found) (λ option. refused_image found ≡ Some option)

-- the files as they are found; of the image, None where none is named
pub record FoundInputs : Type 0 where
  pub image : Option (Option (List ℕ))
  pub key : Option (List ℕ)
  pub auths : Option (List ℕ)

abbrev pub AreInputsFound : Option (List ℕ) → SignedData → FileMap → FoundInputs → Type 0
AreInputsFound image names old f = FindsNamed image old f.image × Finds (old names.key) f.key × Finds (old names.auths) f.auths

-- none is refused, and what was read is judged as the files are
pub record IsInput (f : FoundInputs) (i : Inputs) : Type 0 where
  pub none : refused_inputs f.image f.key f.auths ≡ None
  pub image : image_bytes i.beside ≡ option_map bytes_of f.image
  pub key : i.key ≡ bytes_of f.key
  pub auths : auths_within i.auths.items ≡ auths_within (bytes_of f.auths)

-- the files that are found, and the first that is refused or what was read of them
abbrev pub AreRead : Option (List ℕ) → SignedData → FileMap → Result Inputs FileOption → Type 0
AreRead image names old r =
    (f : FoundInputs) × AreInputsFound image names old f × MatchResult r (IsInput f) (λ option. refused_inputs f.image f.key f.auths ≡ Some option)
