use Rattle.journal_model.specs.Header.{CarriedData}
use Rattle.jrnl_part.specs.Carriage.{carried_signed}
use Rattle.jrnl_store.specs.Kept.{ticket_view}
use Rattle.record_model.specs.Released.{last_send}
use Rattle.std.proofs.Common.{◌<◌, Option, ap, sym, ◌∙◌}
use Rattle.std.specs.Prelude.{option_map}
use Rattle.avm_model.specs.Device.{row_of}
use Rattle.guest_dev.specs.declared.devices.Devices.{Devices}
use Rattle.record_kept.specs.Tickets.{sent_view}
use Rattle.record_kept.specs.declared.kept.KeptSend.{KeptSend}
use Rattle.record_kept.proofs.Keeping.{row_low, out_is, with_none, with_same, with_other}
use Rattle.record_kept.proofs.kept.Kept.outstanding.Goals as goal

pub returns-in_default-sent_to-clause-value : goal.returns-in_default-sent_to-clause-value
returns-in_default-sent_to-clause-value c = λ j h.
    let row = ap (λ (d : Devices). row_of d.state.peers c.args.peer) (sym c.devices.ensures) ∙ sym c.row.ensures ∙ c.in-Some.is in
    let low : c.args.peer < 16 = row_low _ c.args.machine.now.state.devices.peers c.args.peer c.in-Some.row c.bounds.ensures.devices.peered.rows row in
    let out = out_is j c.args.machine.now.state c.args.peer c.in-Some.row row c.if-row.false in
    let none = ap (λ (x : Option KeptSend). option_map sent_view x) (sym c.in_default-sent_to.is) ∙ c.sent_to.ensures.value low ∙ h.sent c.args.peer low in
    sym (ap (λ (x : Option CarriedData). option_map carried_signed x) (out ∙ with_none (last_send j c.args.peer) c.in-Some.row.sent (sym none)))

pub returns-then-sent-row-clause-value : goal.returns-then-sent-row-clause-value
returns-then-sent-row-clause-value c = λ j h.
    let row = ap (λ (d : Devices). row_of d.state.peers c.args.peer) (sym c.devices.ensures) ∙ sym c.row.ensures ∙ c.in-Some.is in
    let low : c.args.peer < 16 = row_low _ c.args.machine.now.state.devices.peers c.args.peer c.in-Some.row c.bounds.ensures.devices.peered.rows row in
    let out = out_is j c.args.machine.now.state c.args.peer c.in-Some.row row c.if-row.false in
    let some = ap (λ (x : Option KeptSend). option_map sent_view x) (sym c.in-Some-sent_to.is) ∙ c.sent_to.ensures.value low ∙ h.sent c.args.peer low in
    sym (ap (λ (x : Option CarriedData). option_map carried_signed x) out ∙ with_same (last_send j c.args.peer) c.in-Some.row.sent c.in-Some-sent_to.sent.number (ticket_view c.in-Some-sent_to.sent.ticket) (sym some) c.if-sent-row.true)

pub returns-else-sent-row-clause-value : goal.returns-else-sent-row-clause-value
returns-else-sent-row-clause-value c = λ j h.
    let row = ap (λ (d : Devices). row_of d.state.peers c.args.peer) (sym c.devices.ensures) ∙ sym c.row.ensures ∙ c.in-Some.is in
    let low : c.args.peer < 16 = row_low _ c.args.machine.now.state.devices.peers c.args.peer c.in-Some.row c.bounds.ensures.devices.peered.rows row in
    let out = out_is j c.args.machine.now.state c.args.peer c.in-Some.row row c.if-row.false in
    let some = ap (λ (x : Option KeptSend). option_map sent_view x) (sym c.in-Some-sent_to.is) ∙ c.sent_to.ensures.value low ∙ h.sent c.args.peer low in
    sym (ap (λ (x : Option CarriedData). option_map carried_signed x) (out ∙ with_other (last_send j c.args.peer) c.in-Some.row.sent c.in-Some-sent_to.sent.number (ticket_view c.in-Some-sent_to.sent.ticket) (sym some) c.if-sent-row.false))
