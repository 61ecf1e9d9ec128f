-- What a journal's entries come to up to a number, from the base for that number on.
use Rattle.std.specs.Prelude.{◌≡◌, ℕ, None}
use Rattle.export_model.specs.Exports.{IsStateAt}
use Rattle.honest_model.specs.Keeps.{IsStretch}
use Rattle.journal_model.specs.Journal.{JournalData}
use Rattle.stretch_replay.specs.declared.stretching.Stretched.{Stretched}

-- the first that doesn't replay; where all do, the machine is behind the last of them
pub record IsStretched (j : JournalData) (n : ℕ) (r : Stretched) : Type 0 where
  pub fault : IsStretch j n r.fault
  pub state : r.fault ≡ None → IsStateAt j n r.machine.state
