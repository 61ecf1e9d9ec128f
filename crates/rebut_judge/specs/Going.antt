-- A replay up to an entry's number.
use Rattle.std.specs.Prelude.{◌≡◌, ℕ, Bool, true, false, List, [], ◌∷◌, ◌++◌}
use Rattle.avm_model.specs.Frame.{FrameData}
use Rattle.avm_model.specs.Machine.{State}
use Rattle.honest_model.specs.Keeps.{up_to}
use Rattle.jrnl_store.specs.Items.{ItemData}
use Rattle.rebut_pass.specs.Items.{frame_in}
use Rattle.rebut_judge.specs.Judging.{judge_view, JudgedTo}
use Rattle.rebut_judge.specs.declared.going.Going.{Going}

-- the first entry, and those behind it up to a number
abbrev pub front_to : ℕ → List FrameData → List FrameData
front_to n [] = []
front_to n (f ∷ fs) = f ∷ up_to n fs

abbrev pub has_some : List FrameData → Bool
has_some [] = false
has_some (f ∷ fs) = true

-- those up to the number are judged, of the entries so far; behind it no more are
pub record GoneTo (s : State) (first : ℕ) (fs : List FrameData) (g : Going) : Type 0 where
  pub judged : JudgedTo s first (front_to g.number fs) (judge_view g.judge)
  pub begun : g.begun ≡ has_some fs
  pub whole : g.past ≡ false → front_to g.number fs ≡ fs
  pub behind : g.past ≡ true → (rest : List FrameData) → front_to g.number (fs ++ rest) ≡ front_to g.number fs

-- one item more
pub record Steps (old : Going) (x : ItemData) (new : Going) : Type 0 where
  pub number : new.number ≡ old.number
  pub gone : (s : State) (first : ℕ) (fs : List FrameData) → GoneTo s first fs old → GoneTo s first (fs ++ frame_in x) new
