-- Turns of a recorder, one after another, over the events of a script.
use Rattle.std.specs.Prelude.{◌≡◌, ℕ, List, [], ◌∷◌, None, is_some}
use Rattle.avm_model.specs.Machine.{State}
use Rattle.record_model.specs.Recorded.{Run, ran}
use Rattle.record_model.specs.Recording.{Act, Done}
use Rattle.record_model.specs.Released.{Sender}
use Rattle.record_model.specs.Turn.{OfScript, Plan, behind_turn, gift_of}

-- a run whose machine has made so many steps more
abbrev pub at_machine : Run → State → Run
at_machine r s = record r { recording = record r.recording { machine = s } }

-- One turn of a run that wasn't stopped, whose feed gives what the script says: its steps without outputs, and then its act.
pub record IsTurn (who : Sender) (before after : Run) : Type 0 where
  pub pages : List ℕ
  pub plan : Plan
  pub act : Act
  pub done : Done
  pub at : State
  pub goes_on : before.stop ≡ None
  pub of_script : OfScript who pages before.recording.journal before.recording.batch before.script before.recording.machine plan act done at
  pub behind : after ≡ ran (at_machine before at) (behind_turn (is_some before.recording.machine.devices.clock) (gift_of before.recording.machine before.script) act before.script) done

-- turns from a run to the last, by the runs that they leave
abbrev pub AreTurns : Sender → Run → List Run → Run → Type 0
AreTurns who r [] last = r ≡ last
AreTurns who r (t ∷ ts) last = IsTurn who r t × AreTurns who t ts last
