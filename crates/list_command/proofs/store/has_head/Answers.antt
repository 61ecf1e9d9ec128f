use Rattle.jrnl_store.specs.Kept.{kept}
use Rattle.list_command.proofs.Telling.{room_is, head_is}
use Rattle.list_command.proofs.store.has_head.Goals as goal

pub head-requires : goal.head-requires
head-requires g c = record { room = room_is c.in_ok-head.head c.in_ok-head.ensures }

pub returns-in-Ok-clause-head : goal.returns-in-Ok-clause-head
returns-in-Ok-clause-head g c = head_is _ (kept c.args.journal.now) c.in_ok-head.head c.head.new.out c.bytes.result.now c.read_head.result c.in_ok-head.ensures c.in-Ok.ensures.head c.bytes.ensures c.read_head.ensures.exact
