-- What is read of a journal at once: whether it replays, two pairs, and its entries beside the evidence's.
use Rattle.std.specs.Prelude.{◌≡◌, ◌++◌, List}
use Rattle.avm_model.specs.Frame.{FrameData}
use Rattle.jrnl_store.specs.Items.{ItemData}
use Rattle.rebut_texts.specs.Walk.{walk_view, finds}
use Rattle.rebut_pass.specs.Items.{frame_in}
use Rattle.rebut_judge.specs.Judging.{judge_view, Judges}
use Rattle.rebut_pass.specs.Looking.{sought_view, looked}
use Rattle.rebut_judge.specs.declared.reading.Reading.{Reading}

-- one item more
pub record Reads (old : Reading) (x : ItemData) (new : Reading) : Type 0 where
  pub judge : Judges (frame_in x) (judge_view old.judge) (judge_view new.judge)
  pub one : sought_view new.one ≡ looked (sought_view old.one) x
  pub two : sought_view new.two ≡ looked (sought_view old.two) x
  pub walk : (fs : List FrameData) → finds (walk_view new.walk) fs ≡ finds (walk_view old.walk) (frame_in x ++ fs)
