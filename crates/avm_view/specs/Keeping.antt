-- A machine that a replay leaves aside behind an entry.
use Rattle.std.specs.Prelude.{◌≡◌, List, ◌++◌}
use Rattle.avm_model.specs.Frame.{FrameData}
use Rattle.avm_model.specs.Machine.{State}
use Rattle.avm_model.specs.Reference.{Made, timed, entries_of}
use Rattle.avm_model.specs.Rerun.{Stand, Stands}

-- t is the state behind the first of these entries, which replay from s; these are the rest
pub record IsAside (s : State) (fs : List FrameData) (t : State) (rest : List FrameData) : Type 0 where
  pub before : List FrameData
  pub here : Stand State Made
  pub split : fs ≡ before ++ rest
  pub stands : Stands timed s (entries_of before) here
  pub is : t ≡ here.state
