-- What the status 0 of the command says.
use Rattle.std.specs.Prelude.{◌≡◌, ◌≢◌, ℕ, true, List, ◌++◌, Option, Some, None, IfSome, option_map}
use Rattle.std.specs.List.{concat}
use Rattle.avm_model.specs.Evidence.{EvidData, evidence_at, key_of}
use Rattle.avm_model.specs.Holds.{Holds}
use Rattle.avm_model.specs.Machine.{State}
use Rattle.command_parts.specs.Reading.{Finds}
use Rattle.honest_model.specs.Honest.{IsFaultFrom, header_state}
use Rattle.journal_model.specs.Journal.{JournalData, Is, entries, journal_of}
use Rattle.rebut_model.specs.Rebuts.{Answer, covers}
use Rattle.rebuttal.specs.Answers.{IsAnswer}
use Rattle.rebut_command.specs.Lines.{answer_lines}

-- a store's bytes stand for a journal, of a key, whose header has this state
pub record IsStore (was : List ℕ) (key : List ℕ) (j : JournalData) (s : State) : Type 0 where
  pub stands : journal_of was ≡ Is j
  pub state : header_state j.header ≡ Some s
  pub key_is : key ≡ j.header.key

-- the answer to evidence that holds, of a journal of its key which replays and covers it; what is printed is that answer
pub record IsSaid (e : EvidData) (a : Answer) (store : Option (List ℕ)) (before after : Option (List ℕ)) : Type 0 where
  pub printed : after ≡ option_map (λ was. was ++ concat (answer_lines a)) before
  pub answer : IfSome store (λ was. (j : JournalData) × (s : State) × IsStore was (key_of e) j s × Holds e × IsAnswer s j e a)

-- The command ends with 0 exactly where the bytes are evidence that holds, and the store has a journal of its key that replays and
-- covers it, but for a fault of the outside and want of memory; and then exactly the answer's lines are printed.
pub record RebutMeans (told : Option (Option (List ℕ))) (store : Option (List ℕ)) (before after : Option (List ℕ)) (result : ℕ) : Type 0 where
  pub answered : result ≡ 0 → (bytes : List ℕ) × (e : EvidData) × (a : Answer) × Finds told (Some bytes) × (evidence_at bytes ≡ Some e) × IsSaid e a store before after
  pub answers : (bytes was : List ℕ) (e : EvidData) (j : JournalData) (s : State) → told ≡ Some (Some bytes) → store ≡ Some was → evidence_at bytes ≡ Some e → IsStore was (key_of e) j s → Holds e
      → IsFaultFrom j.header.first s (entries j) None → covers j e ≡ true → result ≢ 4 → result ≢ 5 → result ≡ 0
