-- How the judgement of a sample's run ends.
use Rattle.std.specs.Prelude.{◌≡◌, ℕ, codes, List, [], ◌∷◌, ◌++◌, map, Option, None, Some, Result, Ok, Err, String, string_bytes}
use Rattle.std.specs.declared.alloc.Global.{Global}
use Rattle.std.specs.Fmt.{decimal}
use Rattle.avm_model.specs.Keys.{KeyData}
use Rattle.command_parts.specs.Printing.{line}
use Rattle.export_model.specs.Exports.{Answer, IsExport, exported, range, unreplayed}
use Rattle.honest_model.specs.Keeps.{last_of}
use Rattle.journal_model.specs.Journal.{Is, JournalData, journal_of}
use Rattle.sample_lines.specs.Judging.{Ending as EndingOf, Subject, first_or_none, journal, middle as middle_of}
use Rattle.sample_model.specs.Start.{own_key}
use Rattle.sample_model.specs.Talk.{released_by}
use Rattle.sample_judge.specs.declared.ending.Ending.{Ending}

-- the second line
abbrev pub numbers_text : ℕ → ℕ → ℕ → ℕ → List ℕ
numbers_text last snaps leaves steps =
    codes "entries " ++ (decimal last ++ (codes " snaps " ++ (decimal snaps ++ (codes " leaves " ++ (decimal leaves ++ (codes " steps " ++ decimal steps))))))

-- texts are these lines, each with its byte 10
abbrev pub Says : List (List ℕ) → List (List ℕ) → Type 0
Says texts said = texts ≡ map line said

-- a text is added behind others
abbrev pub Adds : {E : Type 0} → Result (String Global) E → List (List ℕ) → List (List ℕ) → Type 0
Adds (Ok t) old new = new ≡ old ++ string_bytes t ∷ []
Adds (Err e) old new = ⊥

-- it ends as one of these ends
pub record Ends (P : EndingOf → Type 0) (e : Ending) : Type 0 where
  pub end : EndingOf
  pub is : P end
  pub lines : Says (map string_bytes e.lines.items) end.lines
  pub status : e.status ≡ end.status

-- the segment that was exported, or none
abbrev pub Shows : Option (List ℕ) → Answer → Type 0
Shows (Some bytes) a = a ≡ exported bytes
Shows None (exported bytes) = ⊥
Shows None range = Unit {0}
Shows None (unreplayed n) = Unit {0}

pub record ExportsAs (j : JournalData) (from to : ℕ) (o : Option (List ℕ)) : Type 0 where
  pub answer : Answer
  pub export_is : IsExport j from to answer
  pub shows : Shows o answer

-- what the judgement of a subject works with: its key, its disk, the authenticator of its seal, its first SNAP and its last entry
pub record IsCase (x : Subject) (key : KeyData) (disk : List ℕ) (seal : List ℕ) (middle last : ℕ) : Type 0 where
  pub key_is : key ≡ own_key x.seed
  pub stands : journal_of disk ≡ Is (journal x)
  pub seal_is : seal ≡ first_or_none (released_by x.last).auths
  pub middle_is : middle ≡ middle_of x
  pub last_is : last ≡ last_of (journal x)
