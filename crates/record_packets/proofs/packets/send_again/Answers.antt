use Rattle.std.proofs.Common.{Option, option_map, sym, ap, refl, arith, ◌∙◌}
use Rattle.avm_model.specs.Device.{row_of}
use Rattle.avm_model.specs.Packet.{data_bytes}
use Rattle.jrnl_store.specs.Kept.{kept as kept_of, ticket_view}
use Rattle.jrnl_store.specs.declared.ticket.Ticket.{Ticket}
use Rattle.record_kept.specs.Tickets.{AreKeptOf}
use Rattle.record_kept.proofs.Resends.{is_out, not_found}
use Rattle.record_model.specs.Released.{Sender, again, outstanding as outstanding_lem, packet_of, read, resend_refusal}
use Rattle.record_packets.proofs.Parcels.{acted_left, again_own, few_packet, resent, some_at, told_read, unresent, unsent}
use Rattle.record_store.proofs.Unsaved.{unsaved_alike}
use Rattle.record_packets.proofs.packets.send_again.Goals as goal
use Rattle.record_packets.specs.declared.again.Kind.TheVariants.{Data}
use Rattle.record_turn.specs.Desk.{rows_of}
use Rattle.record_turn.specs.Keeping.{aside_of}
use Rattle.record_parts.specs.declared.answers.Turn.{Turn}
use Rattle.jrnl_store.specs.Kept.{Kept}
use Rattle.record_turn.proofs.Runs.{runs_anyway}

pub returns-in_default-clause-acts : goal.returns-in_default-clause-acts
returns-in_default-clause-acts g c =
    let d = c.args.desk.now in
    let who : Sender = record { key = d.press.key; own = d.machine.state.devices.own } in
    told_read g.D.Disk.moment g.D.Disk.left_since g.D.Disk.seen g.D.Disk.may_leave g.met.D.Disk.only_now c.args.disk.now c.args.disk.now (kept_of d.store.journal) (kept_of d.store.journal) refl (AreKeptOf (rows_of d.kept)) _ c.requires.ready.opens.run refl (λ x h. h) (omega arith) (λ t x le h. h)
    (λ j was seen own kept.
    let none = ap (λ (x : Option Ticket). option_map ticket_view x) (sym c.in_default.is) ∙ c.outstanding.ensures.value j kept in
    (d.store.batch.parts, unsent g.O.Outlet.adding g.O.Outlet.tearing who (aside_of d.kept d.machine) j d.store.batch.parts d.machine.state _ (g.O.Outlet.held c.args.outlet.now) (g.O.Outlet.held c.args.outlet.now) c.args.peer c.why_unsent.result refl (not_found (outstanding_lem j d.machine.state c.args.peer) none) c.why_unsent.ensures))

pub returns-in-Ok-clause-acts : goal.returns-in-Ok-clause-acts
returns-in-Ok-clause-acts g c =
    let d = c.args.desk.now in
    let r = c.release_again in
    let s = d.machine.state in
    let who : Sender = record { key = d.press.key; own = s.devices.own } in
    told_read g.D.Disk.moment g.D.Disk.left_since g.D.Disk.seen g.D.Disk.may_leave g.met.D.Disk.only_now c.args.disk.now r.new.disk (kept_of d.store.journal) (kept_of r.new.store.journal) r.ensures.journal (AreKeptOf (rows_of d.kept)) _ c.requires.ready.opens.run r.ensures.same r.ensures.crash r.ensures.later r.ensures.moments
    (λ j was seen own kept.
    let some = ap (λ (x : Option Ticket). option_map ticket_view x) (sym c.in-Some.is) ∙ c.outstanding.ensures.value j kept in
    let out = is_out who j s c.args.peer (ticket_view c.in-Some.ticket) some in
    let made = sym (ap (again who) out.is) ∙ out.pieces in
    let few = few_packet who out.entry (read out.entry) c.args.peer (data_bytes (packet_of who out.entry)) refl made in
    let released = some_at (g.D.Disk.seen c.args.disk.now) was _ seen (rw (c.in-Ok.is, c.own_id.ensures) at r.ensures.released) j out.entry own c.requires.ready.opens.run out.ticket few in
    let known = ap (resend_refusal (row_of s.devices.peers c.args.peer)) out.is ∙ out.known in (
      d.store.batch.parts,
      acted_left g.O.Outlet.adding g.O.Outlet.tearing who _ _ (aside_of d.kept d.machine) d.store.batch r.new.store.batch s _ _ _ _ j d.store.batch.parts r.ensures.batch
          (resent g.O.Outlet.adding g.O.Outlet.tearing who (aside_of d.kept d.machine) j d.store.batch.parts s _ (g.O.Outlet.held c.args.outlet.now) (g.O.Outlet.held r.new.outlet) c.args.peer _ c.in-Ok.field-0 out.pieces known released),
    ))

pub returns-in-Err-clause-acts : goal.returns-in-Err-clause-acts
returns-in-Err-clause-acts g c =
    let d = c.args.desk.now in
    let r = c.release_again in
    let s = d.machine.state in
    let who : Sender = record { key = d.press.key; own = s.devices.own } in
    told_read g.D.Disk.moment g.D.Disk.left_since g.D.Disk.seen g.D.Disk.may_leave g.met.D.Disk.only_now c.args.disk.now r.new.disk (kept_of d.store.journal) (kept_of r.new.store.journal) r.ensures.journal (AreKeptOf (rows_of d.kept)) _ c.requires.ready.opens.run r.ensures.same r.ensures.crash r.ensures.later r.ensures.moments
    (λ j was seen own kept.
    let some = ap (λ (x : Option Ticket). option_map ticket_view x) (sym c.in-Some.is) ∙ c.outstanding.ensures.value j kept in
    let out = is_out who j s c.args.peer (ticket_view c.in-Some.ticket) some in
    let made = sym (ap (again who) out.is) ∙ out.pieces in
    let few = few_packet who out.entry (read out.entry) c.args.peer (data_bytes (packet_of who out.entry)) refl made in
    let released = some_at (g.D.Disk.seen c.args.disk.now) was _ seen (rw c.in-Err.is at r.ensures.released) j out.entry own c.requires.ready.opens.run out.ticket few in (
      d.store.batch.parts,
      acted_left g.O.Outlet.adding g.O.Outlet.tearing who _ _ (aside_of d.kept d.machine) d.store.batch r.new.store.batch s _ _ _ _ j d.store.batch.parts r.ensures.batch
          (unresent g.O.Outlet.adding g.O.Outlet.tearing who (aside_of d.kept d.machine) j d.store.batch.parts s _ (g.O.Outlet.held c.args.outlet.now) (g.O.Outlet.held r.new.outlet) (Unit {0}) c.args.peer _ c.in-Err.stop out.pieces (again_own (Unit {0}) g.O.Outlet.adding g.O.Outlet.tearing d.press.key s.devices.own c.own_id.result c.args.peer Data out.entry _ _ _ c.in-Err.stop c.own_id.ensures released)),
    ))

pub returns-in-Err-clause-run : goal.returns-in-Err-clause-run
returns-in-Err-clause-run g c = runs_anyway Turn c.in-Err.stop _ (ap (λ (k : Kept). k.stop) c.release_again.ensures.journal ∙ c.requires.ready.opens.run)

pub returns-in-Err-clause-unsaved : goal.returns-in-Err-clause-unsaved
returns-in-Err-clause-unsaved g c = unsaved_alike (Unit {0}) Turn c.in-Err.stop _ (rw c.in-Err.is at c.release_again.ensures.unsaved)
