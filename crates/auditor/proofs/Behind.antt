-- The entries behind one that a reader gave.
use Rattle.std.proofs.Common.{◌≡◌, ℕ, List, Option, Some, None, sym, ap, ◌∙◌}
use Rattle.std.specs.Iterator.{YieldsFirstBy}
use Rattle.avm_model.specs.Audit.{behind_first}
use Rattle.avm_model.specs.Frame.{frames_of}
use Rattle.log_entry.specs.declared.frame.Frame.{Frame}
use Rattle.log_entry.specs.Views.{frame_view}

pub behind_is : (r : Option Frame) (old new : List ℕ) → YieldsFirstBy frame_view frames_of old r new → frames_of new ≡ behind_first (frames_of old)
behind_is None old new y = y.1 ∙ sym (ap behind_first y.0)
behind_is (Some f) old new y = sym (ap behind_first y)
