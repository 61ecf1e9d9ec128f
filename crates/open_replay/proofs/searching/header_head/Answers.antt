use Rattle.std.proofs.Common.{ap}
use Rattle.avm_num.specs.Room.{Buffer}
use Rattle.jrnl_store.specs.Kept.{kept}
use Rattle.open_replay.proofs.Sought.{head_told}
use Rattle.open_replay.proofs.searching.header_head.Goals as goal

pub returns-in-Ok-clause-head : goal.returns-in-Ok-clause-head
returns-in-Ok-clause-head g c = head_told _ (kept c.args.journal.now) c.in_ok-head.head c.head.new.out (ap (λ (r : Buffer). r.bytes) c.in_ok-head.ensures) c.in-Ok.ensures.head
