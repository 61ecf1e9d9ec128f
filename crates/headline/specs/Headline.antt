-- The headline: what 0 and 1 of an audit say, for all bytes of its files. The words name no image; faults of the outside (4) and want of
-- memory (5) are apart.
use Rattle.std.specs.Prelude.{◌≡◌, ◌≢◌, ◌++◌, ℕ, true, false, List, Option, None, Some, option_map, slice_get}
use Rattle.std.specs.List.{concat}
use Rattle.audit_command.specs.Meaning.{CheckMeans, Tells, Given, AreGiven}
use Rattle.avm_model.specs.Audit.{IsAcceptedBytes}
use Rattle.avm_model.specs.Auth.{AuthData}
use Rattle.avm_model.specs.Evidence.{EvidData, evidence_at, key_of}
use Rattle.avm_model.specs.Hash.{hash_of}
use Rattle.avm_model.specs.Holds.{Holds}
use Rattle.avm_model.specs.Machine.{State}
use Rattle.avm_script.specs.Job.{SignedData}
use Rattle.command_parts.specs.FileMap.{FileMap}
use Rattle.command_parts.specs.Reading.{Finds}
use Rattle.evid_file.specs.Pieces.{Written}
use Rattle.honest_model.specs.Honest.{IsFaultFrom}
use Rattle.journal_model.specs.Journal.{JournalData, entries}
use Rattle.rebut_model.specs.Bound.{is_bound}
use Rattle.rebut_model.specs.Rebuts.{Answer, forged, collision, auths_of, covers}
use Rattle.rebut_command.specs.Lines.{answer_lines}
use Rattle.rebut_command.specs.Meaning.{IsStore, RebutMeans}

-- an authenticator of the evidence whose pair the journal never bound, or two texts that differ and have one SHA-256 value
abbrev pub IsDefence : JournalData → EvidData → Answer → Type 0
IsDefence j e (forged k) = (a : AuthData) × (slice_get (auths_of e) k ≡ Some a) × (is_bound j a ≡ false)
IsDefence j e (collision x y) = (x ≢ y) × (hash_of x ≡ hash_of y)

-- a defence, and exactly its lines are printed
pub record IsPrinted (j : JournalData) (e : EvidData) (before after : Option (List ℕ)) : Type 0 where
  pub answer : Answer
  pub printed : after ≡ option_map (λ was. was ++ concat (answer_lines answer)) before
  pub defends : IsDefence j e answer

-- A rebuttal of these bytes by any store of the evidence's key, whose journal replays and covers the evidence, ends with 0 and prints a
-- defence.
abbrev pub Defends : EvidData → List ℕ → Type 0
Defends e bytes =
    (was : List ℕ) (j : JournalData) (s : State) (before after : Option (List ℕ)) (result : ℕ) → IsStore was (key_of e) j s → IsFaultFrom j.header.first s (entries j) None → covers j e ≡ true
    → RebutMeans (Some (Some bytes)) (Some was) before after result → result ≢ 4 → result ≢ 5 → (result ≡ 0) × IsPrinted j e before after

-- Evidence of the key that was found is written, and it holds; everybody's check of that key and these bytes ends with 0; and the
-- owner of the key gets a defence against it.
pub record IsShownToAll (names : SignedData) (old new : FileMap) : Type 0 where
  pub key : List ℕ
  pub bytes : List ℕ
  pub evidence : EvidData
  pub found : Finds (old names.key) (Some key)
  pub written : Written bytes (old names.evidence) (new names.evidence)
  pub read : evidence_at bytes ≡ Some evidence
  pub own : key_of evidence ≡ key
  pub holds : Holds evidence
  pub checks : (files : FileMap) (result : ℕ) → Tells (files names.key) (Some key) → Tells (files names.evidence) (Some bytes) → CheckMeans names.key names.evidence files result → result ≢ 4 → result ≢ 5 → result ≡ 0
  pub defends : Defends evidence bytes

-- An audit ends with 0 exactly where the segment chains from its snapshot, every authenticator verifies and matches, and the reference
-- machine, fed the logged inputs at their counts, gives exactly the logged outputs; where it ends with 1, that is shown to all.
pub record HeadlineMeans (segment : List ℕ) (signed : Option SignedData) (old new : FileMap) (result : ℕ) : Type 0 where
  pub accepted : result ≡ 0 → (g : Given) × AreGiven Finds segment None signed old g × IsAcceptedBytes g.key g.segment g.auths
  pub accepts : (g : Given) → AreGiven Tells segment None signed old g → IsAcceptedBytes g.key g.segment g.auths → result ≢ 4 → result ≢ 5 → result ≡ 0
  pub shown : result ≡ 1 → (names : SignedData) × (signed ≡ Some names) × IsShownToAll names old new
