-- What a turn of a recorder finds: of the machine whatever the disk is, and of a disk that tells its content. An opening leaves it so,
-- and each turn and seal does.
use Rattle.std.specs.Prelude.{◌≡◌, ◌-◌, ◌^◌, ◌<◌, ℕ, true, List, is_some}
use Rattle.avm_model.specs.Machine.{State, asks}
use Rattle.journal_model.specs.Journal.{JournalData}
use Rattle.jrnl_store.specs.Kept.{Kept}
use Rattle.jrnl_store.specs.Own.{IsOwn}
use Rattle.record_kept.specs.Tickets.{AreKeptOf}
use Rattle.record_kept.specs.declared.kept.KeptRow.{KeptRow}

-- a clock value waits only where the machine asks for it, and then a step can follow
pub record IsSteady (s : State) : Type 0 where
  pub asks : is_some s.devices.clock ≡ true → asks s ≡ true
  pub room : is_some s.devices.clock ≡ true → s.count < 2 ^ 62 - 1

-- the disk is the journal's own, and the tickets that are kept are the journal's
pub record IsDeskOf (k : Kept) (rows : List KeptRow) (images : List ℕ → Type 0) (was : List ℕ) (j : JournalData) : Type 0 where
  pub own : IsOwn k images was j
  pub kept : AreKeptOf rows j
