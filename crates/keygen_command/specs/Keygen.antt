-- The command that makes a key's two files.
use Rattle.std.specs.Prelude.{◌≡◌, ◌⊎◌, ◌==◌, ℕ, List, [], ◌∷◌, Option, codes, if◌then◌else◌}
use Rattle.avm_model.specs.Keys.{KeyData, key_bytes, public_of}
use Rattle.avm_outside.specs.Outside.{Rises}
use Rattle.command_parts.specs.FileMap.{FileMap, SameFiles}
use Rattle.command_parts.specs.Printing.{line, Printed}
use Rattle.evid_file.specs.Pieces.{Written, LeavesFront}

-- the LMS type of a height: 5, 10 or 15 (RFC 8554, section 5.1)
abbrev pub lms_of_height : ℕ → ℕ
lms_of_height height = if height == 5 then 5 else if height == 10 then 6 else 7

-- the LM-OTS type of a width: 1, 2, 4 or 8 (RFC 8554, section 4.1)
abbrev pub ots_of_width : ℕ → ℕ
ots_of_width w = if w == 1 then 1 else if w == 2 then 2 else if w == 4 then 3 else 4

abbrev pub key_of_words : ℕ → ℕ → List ℕ → List ℕ → KeyData
key_of_words height w id seed = record { lms = lms_of_height height; ots = ots_of_width w; id = id; seed = seed }

-- the private and the public key file are written
abbrev pub KeysMade : KeyData → List ℕ → List ℕ → FileMap → FileMap → Type 0
KeysMade k key public old new =
    Written (key_bytes k) (old key) (new key) × Written (public_of k) (old public) (new public)

-- a call failed: the private file is cut and the public one as it was, or the private one is whole and the public one cut
abbrev pub KeysCut : KeyData → List ℕ → List ℕ → FileMap → FileMap → Type 0
KeysCut k key public old new =
    (LeavesFront (key_bytes k) (old key) (new key) × (new public ≡ old public))
    ⊎ (Written (key_bytes k) (old key) (new key) × LeavesFront (public_of k) (old public) (new public))

pub data Outcome : Type 0 where
  Made : Outcome
  NoMemory : Outcome
  FaultFiles : Outcome

-- which outcome a run may come to; memory is wanted only before a file is changed
abbrev pub Reaches : KeyData → List ℕ → List ℕ → FileMap → FileMap → Outcome → ℕ → ℕ → Type 0
Reaches k key public old new Made before now = KeysMade k key public old new × (now ≡ before)
Reaches k key public old new NoMemory before now = SameFiles old new × (now ≡ before)
Reaches k key public old new FaultFiles before now = KeysCut k key public old new × Rises before now

abbrev pub status_of_outcome : Outcome → ℕ
status_of_outcome Made = 0
status_of_outcome NoMemory = 5
status_of_outcome FaultFiles = 4

abbrev pub text_of_outcome : Outcome → List ℕ
text_of_outcome Made = codes "key made"
text_of_outcome NoMemory = codes "no memory"
text_of_outcome FaultFiles = codes "fault files"

-- an outcome that it may come to, with its line and its status
abbrev pub KeygenRuns : KeyData → List ℕ → List ℕ → FileMap → FileMap → ℕ → ℕ → ℕ → ℕ → Option (List ℕ) → Option (List ℕ) → ℕ → Type 0
KeygenRuns k key public old new files_before files_now before now printed_old printed_new result =
    (o : Outcome) × Reaches k key public old new o files_before files_now × Printed (line (text_of_outcome o) ∷ []) (status_of_outcome o) before now printed_old printed_new result
