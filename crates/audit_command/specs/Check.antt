-- The command that judges evidence.
use Rattle.std.specs.Prelude.{◌≡◌, ◌⊎◌, ℕ, List, Option, None, Some, if◌then◌else◌}
use Rattle.avm_model.specs.Keys.{public_file}
use Rattle.avm_model.specs.Holds.{Stands}
use Rattle.audit_command.specs.declared.ends.FileOption.{FileOption}
use Rattle.audit_command.specs.declared.ends.FileOption.TheVariants.{Key, Evidence}
use Rattle.audit_command.specs.declared.ends.End.{End}
use Rattle.audit_command.specs.declared.ends.End.TheVariants as end
use Rattle.command_parts.specs.FileMap.{FileMap}
use Rattle.command_parts.specs.Reading.{Finds, bytes_of}

-- the bytes are evidence of the key and hold, or they aren't or don't
abbrev pub StandsOrNot : List ℕ → List ℕ → End → Type 0
StandsOrNot key bytes e = ((e ≡ end.EvidenceStands) × Stands key bytes) ⊎ ((e ≡ end.RefusedEvidence) × (Stands key bytes → ⊥))

-- the first input file that is refused, in the order in which they are read
abbrev pub refused_check : Option (List ℕ) → Option (List ℕ) → Option FileOption
refused_check None bytes = Some Key
refused_check (Some k) None = if public_file k then Some Evidence else Some Key
refused_check (Some k) (Some bytes) = if public_file k then None else Some Key

abbrev pub CheckEnd : List ℕ → List ℕ → Option FileOption → End → Type 0
CheckEnd key bytes (Some option) e = e ≡ end.RefusedFile option
CheckEnd key bytes None e = StandsOrNot key bytes e

-- the end by the files of key and evidence
abbrev pub CheckEnds : List ℕ → List ℕ → FileMap → End → Type 0
CheckEnds key evidence old e =
    (k : Option (List ℕ)) × (bytes : Option (List ℕ)) × Finds (old key) k × Finds (old evidence) bytes × CheckEnd (bytes_of k) (bytes_of bytes) (refused_check k bytes) e
