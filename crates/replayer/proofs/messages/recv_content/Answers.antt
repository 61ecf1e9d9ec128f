use Rattle.std.proofs.Common.{refl}
use Rattle.replayer.proofs.Contents.{came_from}
use Rattle.replayer.proofs.messages.recv_content.Goals as goal

pub returns-in-Some : goal.returns-in-Some
returns-in-Some c = came_from c.args.bytes.now _ _ c.in-Some.ensures.exact c.as_received.ensures

pub returns-in-None : goal.returns-in-None
returns-in-None c = came_from c.args.bytes.now _ _ c.in-None.ensures.exact refl
