use Rattle.base_write.proofs.Bytes.{pieces_are}
use Rattle.base_write.proofs.writing.put_header.Goals as goal

pub returns-in-Ok : goal.returns-in-Ok
returns-in-Ok c = λ h i. pieces_are c.args.header.now h c.args.out.now.items c.put_front.new.out.items c.put_state.new.out.items i c.in_ok-put_front.ensures c.in-Ok.ensures
