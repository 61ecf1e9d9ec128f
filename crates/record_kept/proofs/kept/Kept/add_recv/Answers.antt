use Rattle.jrnl_store.specs.Kept.{ticket_view}
use Rattle.std.proofs.Common.{rules, ◌<◌, length}
use Rattle.record_kept.proofs.Keeping.{is_recv, low_recv, recv_kept, recv_passed, get_or_row}
use Rattle.record_kept.proofs.kept.Kept.add_recv.Goals as goal

pub returns-then-peer-lt16-clause-kept : goal.returns-then-peer-lt16-clause-kept
returns-then-peer-lt16-clause-kept c = λ es e count packet r s t h.
    let lt : c.args.peer < length c.args.self.now.rows = search rules in
    recv_kept c.args.self.now.rows es e c.args.peer _ c.args.ticket lt (get_or_row c.args.self.now.rows c.args.peer _ lt) (is_recv e c.args.peer count packet (ticket_view c.args.ticket) r s t) h

pub returns-else-peer-lt16-clause-kept : goal.returns-else-peer-lt16-clause-kept
returns-else-peer-lt16-clause-kept c = λ es e count packet r s t h.
    recv_passed c.args.self.now.rows es e c.args.peer (ticket_view c.args.ticket) c.if-peer-lt16.false (is_recv e c.args.peer count packet (ticket_view c.args.ticket) r s t) h

pub returns-then-peer-lt16-clause-low : goal.returns-then-peer-lt16-clause-low
returns-then-peer-lt16-clause-low c = λ most low h.
    let lt : c.args.peer < length c.args.self.now.rows = search rules in
    low_recv most c.args.self.now.rows c.args.peer _ c.args.ticket lt (get_or_row c.args.self.now.rows c.args.peer _ lt) low h
