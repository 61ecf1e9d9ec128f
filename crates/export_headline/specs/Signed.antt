-- What an audit of exported entries may be given.
use Rattle.std.specs.Prelude.{◌≡◌, true, ℕ, List, Some}
use Rattle.std.specs.List.{AllByRecursion}
use Rattle.acceptance_laws.specs.Signed.{IsSigned}
use Rattle.audit_command.specs.Meaning.{Tells}
use Rattle.avm_model.specs.Audit.{auths_within}
use Rattle.avm_model.specs.Auth.{AuthData}
use Rattle.avm_model.specs.Keys.{public_file}
use Rattle.avm_num.specs.Bytes.{IsBytes}
use Rattle.avm_script.specs.Job.{SignedData}
use Rattle.command_parts.specs.FileMap.{FileMap}
use Rattle.export_command.specs.Outcomes.{Asked}
use Rattle.honest_model.specs.Honest.{IsHonest}
use Rattle.honest_model.specs.Keeps.{HasTrueKeeps}
use Rattle.journal_model.specs.Journal.{Is, JournalData, journal_of}

-- the bytes stand for an honest journal with true keeps
pub record IsHonestStore (was : List ℕ) : Type 0 where
  pub are_bytes : IsBytes was
  pub journal : JournalData
  pub stands : journal_of was ≡ Is journal
  pub honest : IsHonest journal
  pub keeps : HasTrueKeeps journal

-- a public key, and a file of authenticators of the store's signing items in the range that verify under it
pub record AreSigned (a : Asked) (was : List ℕ) (names : SignedData) (files : FileMap) : Type 0 where
  pub key : List ℕ
  pub key_told : Tells (files names.key) (Some key)
  pub key_fits : public_file key ≡ true
  pub auths : List ℕ
  pub auths_told : Tells (files names.auths) (Some auths)
  pub list : List AuthData
  pub read : auths_within auths ≡ Some list
  pub signed : (j : JournalData) → journal_of was ≡ Is j → AllByRecursion (IsSigned key j a.from a.to) list
