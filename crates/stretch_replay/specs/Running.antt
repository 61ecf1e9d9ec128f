-- A journal's entries behind its base up to a number, one item after another.
use Rattle.std.specs.Prelude.{◌≡◌, ℕ, true, false, List, ◌++◌}
use Rattle.avm_model.specs.Frame.{FrameData}
use Rattle.honest_model.specs.Keeps.{up_to}
use Rattle.journal_model.specs.Journal.{JournalData, parts}
use Rattle.jrnl_store.specs.Items.{ItemData}
use Rattle.open_replay.specs.Running.{frames_past, passed, still}
use Rattle.rebut_judge.specs.Judging.{Judges, Judging, judge_view}
use Rattle.rebut_judge.specs.declared.judge.Judge.{Judge}
use Rattle.stretch_replay.specs.declared.run.Run.{Run}

-- of the entries so far those up to the number are judged, from a judge on; behind one that is past it no more are
pub record IsRun (from : Judging) (fs : List FrameData) (r : Run) : Type 0 where
  pub judges : Judges (up_to r.number fs) from (judge_view r.judge)
  pub whole : r.past ≡ false → up_to r.number fs ≡ fs
  pub behind : r.past ≡ true → (rest : List FrameData) → up_to r.number (fs ++ rest) ≡ up_to r.number fs

-- one item more
pub record Runs (old : Run) (x : ItemData) (new : Run) : Type 0 where
  pub number : new.number ≡ old.number
  pub skip : new.skip ≡ still old.skip x
  pub runs : (from : Judging) (fs : List FrameData) → IsRun from fs old → IsRun from (fs ++ passed old.skip x) new

-- all entries behind so many keeps were judged, up to the number
abbrev pub AreRun : JournalData → ℕ → ℕ → Judge → Run → Type 0
AreRun j n keeps old r = Judges (up_to n (frames_past keeps (parts j))) (judge_view old) (judge_view r.judge)
