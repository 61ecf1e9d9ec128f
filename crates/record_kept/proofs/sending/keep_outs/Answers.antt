use Rattle.std.proofs.Common.{Option, sym, ap, ◌∙◌}
use Rattle.std.specs.Prelude.{option_map}
use Rattle.journal_model.specs.Standing.{standing}
use Rattle.jrnl_store.specs.Kept.{ticket_view}
use Rattle.jrnl_store.specs.declared.ticket.Ticket.{Ticket}
use Rattle.record_model.specs.Released.{signed_entries}
use Rattle.record_parts.specs.Outs.{outs_made, with_made}
use Rattle.record_kept.proofs.Keeping.{kept_more}
use Rattle.record_kept.proofs.Sends.{some_ticket, unsent, was_sent}
use Rattle.record_kept.proofs.sending.keep_outs.Goals as goal

pub returns-in_default-clause-kept : goal.returns-in_default-clause-kept
returns-in_default-clause-kept c = λ j b s pages next quiet fits t kept. unsent c.args.kept.now.rows j b s pages c.args.outs.now next c.in_default.is quiet kept

pub returns-in_default-ticket-clause-kept : goal.returns-in_default-ticket-clause-kept
returns-in_default-ticket-clause-kept c = λ j b s pages next quiet fits t kept.
    let y = was_sent (standing j) b s pages c.args.outs.now c.in-Some.sent next c.in-Some.is quiet fits in
    let w = ap (λ (x : Option Ticket). option_map ticket_view x) (sym c.in_default-ticket.is) ∙ t ∙ y.ticket in
    absurd cc

pub returns-clause-kept : goal.returns-clause-kept
returns-clause-kept c = λ j b s pages next quiet fits t kept.
    let y = was_sent (standing j) b s pages c.args.outs.now c.in-Some.sent next c.in-Some.is quiet fits in
    let w = ap (λ (x : Option Ticket). option_map ticket_view x) (sym c.in-Some-ticket.is) ∙ t ∙ y.ticket in
    kept_more c.add_send.new.self.rows j (with_made b s pages (outs_made s c.args.outs.now)).parts y.entry y.one (c.add_send.ensures.kept (signed_entries j) y.entry _ _ y.is (some_ticket (ticket_view c.in-Some-ticket.ticket) _ w) kept)
