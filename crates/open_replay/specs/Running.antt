-- A journal's entries behind its base, one item after another.
use Rattle.std.specs.Prelude.{◌≡◌, ℕ, ◌-◌, ◌==◌, ◌&&◌, ◌||◌, Bool, true, false, List, [], ◌∷◌, ◌++◌, if◌then◌else◌}
use Rattle.avm_model.specs.Frame.{FrameData}
use Rattle.journal_model.specs.Part.{Part, entry, keep, seal}
use Rattle.jrnl_store.specs.Items.{ItemData, carried_item, entry_item, keep_item, seal_item}
use Rattle.rebut_judge.specs.Judging.{Judges, judge_view}
use Rattle.open_replay.specs.declared.run.Run.{Run}

-- the entries behind so many keeps
abbrev pub frames_past : ℕ → List Part → List FrameData
frames_past n [] = []
frames_past n (entry f ∷ ps) = (if n == 0 then f ∷ [] else []) ++ frames_past n ps
frames_past n (seal ∷ ps) = frames_past n ps
frames_past n (keep k ∷ ps) = frames_past (n - 1) ps

-- an item's entry, where no keep is to come before it
abbrev pub passed : ℕ → ItemData → List FrameData
passed n (carried_item f s) = []
passed n (entry_item f t) = if n == 0 then f ∷ [] else []
passed n (seal_item s) = []
passed n (keep_item k) = []

-- how many keeps are to come behind an item
abbrev pub still : ℕ → ItemData → ℕ
still n (keep_item k) = n - 1
still n x = n

-- one of these entries is a SNAP; where none has begun, the first of them doesn't count
abbrev pub snaps_in : Bool → List FrameData → Bool
snaps_in begun [] = false
snaps_in begun (f ∷ fs) = (begun && f.kind == 2) || snaps_in true fs

-- one item more
pub record Runs (old : Run) (x : ItemData) (new : Run) : Type 0 where
  pub skip : new.skip ≡ still old.skip x
  pub judges : Judges (passed old.skip x) (judge_view old.judge) (judge_view new.judge)
  pub snaps : (fs : List FrameData) → (new.snaps || snaps_in new.begun fs) ≡ (old.snaps || snaps_in old.begun (passed old.skip x ++ fs))
