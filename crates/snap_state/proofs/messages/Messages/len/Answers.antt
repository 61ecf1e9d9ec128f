use Rattle.std.proofs.Common.{sym}
use Rattle.avm_model.specs.HeadReading.{message_at}
use Rattle.avm_num.proofs.Loops.{length_read}
use Rattle.snap_state.proofs.messages.Messages.len.Goals as goal

pub returns : goal.returns
returns c = rw (← c.self.view_is) (sym (length_read message_at c.self.inside.left _ c.self.invariant))
