use Rattle.std.proofs.Common.{ap, take}
use Rattle.jrnl_store.specs.Kept.{kept}
use Rattle.jrnl_store.proofs.HeaderFields.{head_told}
use Rattle.jrnl_store.proofs.journal.Journal.head.Goals as goal

pub returns-clause-head : goal.returns-clause-head
returns-clause-head g c =
    head_told _ (kept c.args.self.now) c.fill.new.self.buffer.items _ c.args.out.now c.put.new.self (ap (take c.args.self.now.head_len) c.deref.ensures.value) c.put.ensures.value c.in-Ok.ensures.bytes
