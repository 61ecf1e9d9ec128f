use Rattle.jrnl_store.specs.Kept.{kept}
use Rattle.rebuttal.proofs.Headers.{head_missing, head_made}
use Rattle.rebuttal.proofs.starting.header_machine.Goals as goal

pub returns-then-not-has_pages-clause-state : goal.returns-then-not-has_pages-clause-state
returns-then-not-has_pages-clause-state g c =
    head_missing (g.D.Disk.seen c.args.disk.now) (kept c.args.journal.now) (kept c.read_header.new.journal) c.in_ok-head.head.bytes c.bytes.result.now c.page_count.result c.in_ok-head.ensures.kept c.bytes.ensures c.page_count.ensures c.in_ok-head.ensures.head
    (c.has_pages.ensures.none c.if-not-has_pages.true)

pub returns-in-Ok-clause-state : goal.returns-in-Ok-clause-state
returns-in-Ok-clause-state g c =
    head_made (g.D.Disk.seen c.args.disk.now) (g.D.Disk.seen c.read_header.new.disk) (kept c.args.journal.now) (kept c.read_header.new.journal) c.in_ok-head.head.bytes c.bytes.result.now c.bytes-2.result.now c.page_count.result c.in-Ok.parts.0.state c.in_ok-head.ensures.reads.same c.in_ok-head.ensures.kept c.bytes.ensures c.bytes-2.ensures
    (c.has_pages.ensures.found c.if-not-has_pages.false) c.in_ok-head.ensures.head c.in-Ok.ensures.state
