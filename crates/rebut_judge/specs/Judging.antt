-- A journal's entries, judged one after another.
use Rattle.std.specs.Prelude.{◌≡◌, ℕ, ◌==◌, ◌&&◌, Bool, true, false, List, [], ◌∷◌, ◌++◌, Option, Some, None, MatchOption}
use Rattle.std.specs.Str.{bytes_eq}
use Rattle.avm_model.specs.Audit.{is_committed}
use Rattle.avm_model.specs.Content.{ContentData, boot, snap}
use Rattle.avm_model.specs.Frame.{FrameData}
use Rattle.avm_model.specs.Machine.{State}
use Rattle.avm_model.specs.Reference.{Made, timed, entries_of}
use Rattle.avm_model.specs.Rerun.{Stand, Stands, start}
use Rattle.avm_model.specs.Root.{root}
use Rattle.honest_model.specs.Honest.{IsFaultFrom}
use Rattle.rebut_judge.specs.declared.judge.Judge.{Judge}

-- where the replay stands and whether it has failed, the root and the count of the header's state, the number of the first entry,
-- whether that has come, and the number of the first that failed
pub record Judging : Type 0 where
  pub stand : Stand State Made
  pub failed : Option ℕ
  pub root_of : List ℕ
  pub count : ℕ
  pub first : ℕ
  pub begun : Bool
  pub fault : Option ℕ

abbrev pub judge_view : Judge → Judging
judge_view j = record { stand = j.replay.stand; failed = j.replay.fault; root_of = j.root.0; count = j.count; first = j.first; begun = j.begun; fault = j.fault }

-- a content has a root and a count
abbrev pub commits_as : List ℕ → ℕ → Option ContentData → Bool
commits_as r n (Some (boot count told)) = count == n && bytes_eq told r
commits_as r n (Some (snap count told)) = count == n && bytes_eq told r
commits_as r n content = false

-- the entries so far replay: the first has the state's root and count, and the others replay from there
abbrev pub Goes : State → List FrameData → Judging → Type 0
Goes s [] j = (j.begun ≡ false) × (j.stand ≡ start s)
Goes s (f ∷ fs) j = (j.begun ≡ true) × (is_committed s (f ∷ fs) ≡ true) × Stands timed s (entries_of fs) j.stand

-- the entries so far replay, or the first that doesn't has this number, whatever follows
pub record JudgedTo (s : State) (first : ℕ) (fs : List FrameData) (j : Judging) : Type 0 where
  pub root_is : j.root_of ≡ root s
  pub count_is : j.count ≡ s.count
  pub first_is : j.first ≡ first
  pub told : MatchOption j.fault ((j.failed ≡ None) × Goes s fs j) (λ n. (rest : List FrameData) → IsFaultFrom first s (fs ++ rest) (Some n))

-- these entries more are judged
abbrev pub Judges : List FrameData → Judging → Judging → Type 0
Judges more old new = (s : State) (first : ℕ) (fs : List FrameData) → JudgedTo s first fs old → JudgedTo s first (fs ++ more) new
