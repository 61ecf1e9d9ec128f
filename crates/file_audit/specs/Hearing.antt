-- An audit that has heard bytes of a segment.
use Rattle.std.specs.Prelude.{◌≡◌, ℕ, true, List, length, Option, Some, None, IfSome}
use Rattle.avm_model.specs.Segment.{whole_segment_of}
use Rattle.audit_stream.specs.Heard.{Heard}
use Rattle.boot_stream.specs.Booting.{Saw}
use Rattle.boot_stream.specs.declared.stream.BootStream.{BootStream}
use Rattle.command_parts.specs.Reading.{IsFront, IsReadAs}
use Rattle.file_audit.specs.declared.hearing.Hearing.{Hearing}

-- these bytes were seen beside the image, where one is named
abbrev pub SawBeside : Option BootStream → Option (List ℕ) → List ℕ → Type 0
SawBeside None None bytes = Unit {0}
SawBeside None (Some image) bytes = ⊥
SawBeside (Some b) None bytes = ⊥
SawBeside (Some b) (Some image) bytes = Saw b image bytes

pub record Hears (h : Hearing) (key auths : List ℕ) (image : Option (List ℕ)) (bytes : List ℕ) : Type 0 where
  pub stream : Heard h.stream key auths bytes
  pub boot : SawBeside h.boot image bytes
  pub kept : h.keep ≡ true → h.kept.items ≡ bytes

-- it has heard so many bytes from the front of a file
abbrev pub HearsFront : List ℕ → List ℕ → Option (List ℕ) → Option (Option (List ℕ)) → ℕ → Hearing → Type 0
HearsFront key auths image told at h = (bytes : List ℕ) × Hears h key auths image bytes × (length bytes ≡ at) × IfSome told (λ was. IsFront was bytes)

-- it has heard bytes that are judged as the file is
abbrev pub HearsFile : List ℕ → List ℕ → Option (List ℕ) → Option (Option (List ℕ)) → Hearing → Type 0
HearsFile key auths image told h = (bytes : List ℕ) × Hears h key auths image bytes × IsReadAs whole_segment_of told (Some bytes)
