-- A turn of a recorder, as a turn of a script.
use Rattle.std.specs.Prelude.{◌≡◌, ℕ, List, Result, is_some}
use Rattle.avm_model.specs.Machine.{State}
use Rattle.avm_outside.specs.Feed.{Agenda}
use Rattle.avm_outside.specs.Outlet.{Piece}
use Rattle.journal_model.specs.Journal.{JournalData}
use Rattle.journal_model.specs.Part.{Part}
use Rattle.jrnl_store.specs.declared.fault.Stop.{Stop}
use Rattle.record_model.specs.Recording.{Act, Effect, Recording, finished}
use Rattle.record_model.specs.Released.{Sender}
use Rattle.record_model.specs.Turn.{OfScript, Plan, behind_turn, gift_of}
use Rattle.record_parts.specs.Ends.{EndsAs, Faults}
use Rattle.record_parts.specs.declared.answers.Turn.{Turn}

-- the plan is the script's, its act ends by its effect, and of the script there remains what such a turn leaves of it
pub record ByScript {H : Type 0} (adding : Piece → H → H) (tearing : Piece → H → H → Type 0) (who : Sender) (j : JournalData) (b : List Part) (p q : Agenda) (s : State) (act : Act) (after : Recording) (f : Faults) (old new : H) (result : Result Turn Stop) : Type 0 where
  pub pages : List ℕ
  pub plan : Plan
  pub at : State
  pub effect : Effect
  pub of_script : OfScript who pages j b p s plan act (finished who effect) at
  pub ends : EndsAs adding tearing who effect after f old new result
  pub left : q ≡ behind_turn (is_some s.devices.clock) (gift_of s p) act p
