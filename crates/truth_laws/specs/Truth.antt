-- What holds of a recorder between two calls, and of each image that a crash leaves at any moment of a call.
use Rattle.std.specs.Prelude.{◌≡◌, ◌++◌, ℕ, true, List}
use Rattle.avm_model.specs.Memory.{RamState}
use Rattle.honest_model.specs.Honest.{IsHonest}
use Rattle.honest_model.specs.Keeps.{HasTrueKeeps}
use Rattle.journal_model.specs.Journal.{Is, JournalData, journal_of, parts}
use Rattle.journal_model.specs.Part.{Part}
use Rattle.life_model.specs.Life.{KeepsSnaps}
use Rattle.record_model.specs.Recording.{Recording}
use Rattle.record_model.specs.Standing.{GoesOn, IsStanding, KeepsTrue}
use Rattle.record_store.specs.Saving.{StandsWith}
use Rattle.record_turn.specs.Keeping.{MarksTell}

-- Journal and batch replay whole and go on, and the machine is the one behind them; each keep is true; and each SNAP but the first
-- entry has its keep.
pub record IsTrue (r : Recording) : Type 0 where
  pub standing : IsStanding r
  pub goes_on : GoesOn r
  pub keeps : KeepsTrue r
  pub snaps : KeepsSnaps true (parts r.journal ++ r.batch)

-- a journal that has no fault, and whose keeps are all true
pub record IsWhole (j : JournalData) : Type 0 where
  pub honest : IsHonest j
  pub keeps : HasTrueKeeps j

-- Behind a call the recording is true, and the marks tell which pages the next keep needs. Each image that stands for the journal before
-- it, or for that one with the batch in flight, is whole.
pub record StaysTrue (j : JournalData) (flight : List Part) (after : Recording) (ram : RamState) : Type 0 where
  pub now : IsTrue after
  pub marks : MarksTell after.journal after.batch ram
  pub images : (c : List ℕ) (m : JournalData) → StandsWith j flight c → journal_of c ≡ Is m → IsWhole m
