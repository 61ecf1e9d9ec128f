-- The command that verifies authenticators under two keys, and turns them into those of the bottom key.
use Rattle.std.specs.Prelude.{◌≡◌, ◌≢◌, ◌⊎◌, ◌∷◌, [], ◌≤◌, ◌^◌, ℕ, List, Option, Some, None, length}
use Rattle.avm_num.specs.Lists.{list_bytes}
use Rattle.avm_outside.specs.Outside.{Rises}
use Rattle.avm_model.specs.Auth.{AuthData, auth_bytes}
use Rattle.evid_file.specs.Pieces.{Written, LeavesFront}
use Rattle.command_parts.specs.FileMap.{FileMap, SameFiles}
use Rattle.command_parts.specs.Printing.{line, Printed}
use Rattle.command_parts.specs.Reading.{Finds}
use Rattle.hss_model.specs.HssFile.{Narrowing, Malformed, BadAuth, Mixed, Narrows, narrow_of}
use Rattle.hss_command.specs.Inputs.{IsInput, IsTold, public_key_in}
use Rattle.hss_command.specs.Outcomes.{Outcome, Ended, NoMemory, FaultFiles, FaultDisk, status_of_outcome, text_of_outcome}
use Rattle.hss_command.specs.declared.ends.FileOption.TheVariants.{Key, Auths}
use Rattle.hss_command.specs.declared.ends.End.{End}
use Rattle.hss_command.specs.declared.ends.End.TheVariants.{Narrowed, RefusedFile, RefusedMalformed, RefusedBadAuth, RefusedMixed}

-- the key that its file is, and what narrowing the bytes of the other file under it gives
pub record NarrowsTo (key auths : List ℕ) (old : FileMap) (r : Narrowing) : Type 0 where
  pub top : List ℕ
  pub bytes : List ℕ
  pub key_is : IsInput public_key_in (old key) (Some top)
  pub found : Finds (old auths) (Some bytes)
  pub gives : narrow_of top bytes ≡ r

-- the two files that are written are as they were
abbrev pub SameTwo : List ℕ → List ℕ → FileMap → FileMap → Type 0
SameTwo public into old new = (new public ≡ old public) × (new into ≡ old into)

-- the end by the files: the first refusal, or the bottom key and its authenticators are written
abbrev pub NarrowEnd : List ℕ → List ℕ → List ℕ → List ℕ → FileMap → FileMap → End → Type 0
NarrowEnd key auths public into old new (RefusedFile Key) = IsInput public_key_in (old key) None × SameTwo public into old new
NarrowEnd key auths public into old new (RefusedFile Auths) =
    (top : List ℕ) × IsInput public_key_in (old key) (Some top) × Finds (old auths) None × SameTwo public into old new
NarrowEnd key auths public into old new RefusedMalformed = NarrowsTo key auths old Malformed × SameTwo public into old new
NarrowEnd key auths public into old new (RefusedBadAuth k) = NarrowsTo key auths old (BadAuth k) × SameTwo public into old new
NarrowEnd key auths public into old new (RefusedMixed k) = NarrowsTo key auths old (Mixed k) × SameTwo public into old new
NarrowEnd key auths public into old new (Narrowed n) =
    (bottom : List ℕ) × (xs : List AuthData) × NarrowsTo key auths old (Narrows bottom xs) × (n ≡ length xs)
    × Written bottom (old public) (new public) × Written (list_bytes auth_bytes xs) (old into) (new into)
NarrowEnd key auths public into old new end = ⊥

-- the first file is cut and the second as it was, or the first is whole and the second cut
abbrev pub TwoCut : List ℕ → List ℕ → List ℕ → List ℕ → FileMap → FileMap → Type 0
TwoCut first bytes second more old new =
    (LeavesFront bytes (old first) (new first) × (new second ≡ old second))
    ⊎ (Written bytes (old first) (new first) × LeavesFront more (old second) (new second))

-- what a fault of the files leaves: both files as they were, or cut
abbrev pub NarrowLeaves : List ℕ → List ℕ → List ℕ → List ℕ → FileMap → FileMap → Type 0
NarrowLeaves key auths public into old new =
    SameTwo public into old new
    ⊎ ((bottom : List ℕ) × (xs : List AuthData) × NarrowsTo key auths old (Narrows bottom xs) × TwoCut public bottom into (list_bytes auth_bytes xs) old new)

abbrev pub NarrowReaches : List ℕ → List ℕ → List ℕ → List ℕ → FileMap → FileMap → ℕ → ℕ → Outcome → Type 0
NarrowReaches key auths public into old new before now (Ended end) = NarrowEnd key auths public into old new end × (now ≡ before)
NarrowReaches key auths public into old new before now NoMemory = SameFiles old new × (now ≡ before)
NarrowReaches key auths public into old new before now FaultFiles = NarrowLeaves key auths public into old new × Rises before now
NarrowReaches key auths public into old new before now FaultDisk = ⊥

-- the outcome with its line and its status
abbrev pub NarrowEnds : List ℕ → List ℕ → List ℕ → List ℕ → FileMap → FileMap → ℕ → ℕ → ℕ → ℕ → Option (List ℕ) → Option (List ℕ) → ℕ → Type 0
NarrowEnds key auths public into old new files_before files_now before now was is result =
    (o : Outcome) × NarrowReaches key auths public into old new files_before files_now o × Printed (line (text_of_outcome o) ∷ []) (status_of_outcome o) before now was is result

-- It ends with 0 exactly where the key's file is one and the other file is one or more authenticators, of at most 2 ^ 25 bytes, each
-- valid under the top key and one bottom key, but for a fault of the outside and want of memory; and then exactly the bottom key and
-- its authenticators are written.
pub record NarrowMeans (key auths public into : List ℕ) (old new : FileMap) (result : ℕ) : Type 0 where
  pub done : result ≡ 0 → (bottom : List ℕ) × (xs : List AuthData) × NarrowsTo key auths old (Narrows bottom xs) × Written bottom (old public) (new public) × Written (list_bytes auth_bytes xs) (old into) (new into)
  pub does : (top bytes bottom : List ℕ) (xs : List AuthData) → IsTold public_key_in (old key) top → old auths ≡ Some (Some bytes) → narrow_of top bytes ≡ Narrows bottom xs → result ≢ 4 → result ≢ 5 → result ≡ 0
