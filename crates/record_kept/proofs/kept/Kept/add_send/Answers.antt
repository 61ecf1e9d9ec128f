use Rattle.jrnl_store.specs.Kept.{ticket_view}
use Rattle.std.proofs.Common.{rules, ◌<◌, length}
use Rattle.record_kept.proofs.Keeping.{is_send, low_sent, sent_kept, sent_passed, get_or_row}
use Rattle.record_kept.specs.declared.kept.KeptSend.{KeptSend}
use Rattle.record_kept.proofs.kept.Kept.add_send.Goals as goal

pub returns-then-peer-lt16-clause-kept : goal.returns-then-peer-lt16-clause-kept
returns-then-peer-lt16-clause-kept c = λ es e count payload r t h.
    let lt : c.args.peer < length c.args.self.now.rows = search rules in
    let s : KeptSend = record { ticket = c.args.ticket; number = c.args.number } in
    sent_kept c.args.self.now.rows es e c.args.peer _ s lt (get_or_row c.args.self.now.rows c.args.peer _ lt) (is_send e c.args.peer c.args.number count payload (ticket_view c.args.ticket) r t) h

pub returns-else-peer-lt16-clause-kept : goal.returns-else-peer-lt16-clause-kept
returns-else-peer-lt16-clause-kept c = λ es e count payload r t h.
    sent_passed c.args.self.now.rows es e c.args.peer c.args.number (ticket_view c.args.ticket) c.if-peer-lt16.false (is_send e c.args.peer c.args.number count payload (ticket_view c.args.ticket) r t) h

pub returns-then-peer-lt16-clause-low : goal.returns-then-peer-lt16-clause-low
returns-then-peer-lt16-clause-low c = λ most low h.
    let lt : c.args.peer < length c.args.self.now.rows = search rules in
    let s : KeptSend = record { ticket = c.args.ticket; number = c.args.number } in
    low_sent most c.args.self.now.rows c.args.peer _ s lt (get_or_row c.args.self.now.rows c.args.peer _ lt) low h
