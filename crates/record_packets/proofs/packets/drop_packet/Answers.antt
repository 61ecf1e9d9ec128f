use Rattle.std.proofs.Common.{ℕ, ◌<◌, [], Option, option_map, sym, ap, refl, arith, ◌∙◌}
use Rattle.avm_model.specs.Offer.{packet_offer}
use Rattle.jrnl_store.specs.Kept.{kept as kept_of, ticket_view}
use Rattle.jrnl_store.specs.declared.ticket.Ticket.{Ticket}
use Rattle.record_kept.specs.Tickets.{AreKeptOf}
use Rattle.record_kept.proofs.Drops.{low_repeated, none_again}
use Rattle.record_model.specs.Released.{Sender, again_to}
use Rattle.record_packets.proofs.Parcels.{acted_left, again_own, dropped_again, is_last, some_at, told_read, undropped}
use Rattle.record_store.proofs.Unsaved.{unsaved_alike}
use Rattle.record_packets.proofs.packets.drop_packet.Goals as goal
use Rattle.record_packets.specs.declared.again.Kind.TheVariants.{Ack}
use Rattle.record_turn.specs.Desk.{rows_of}
use Rattle.record_turn.specs.Keeping.{aside_of}
use Rattle.record_parts.specs.declared.answers.Turn.{Turn}
use Rattle.jrnl_store.specs.Kept.{Kept}
use Rattle.record_turn.proofs.Runs.{runs_anyway}

pub returns-in_default-clause-acts : goal.returns-in_default-clause-acts
returns-in_default-clause-acts g c =
    let d = c.args.desk.now in
    let who : Sender = record { key = d.press.key; own = d.machine.state.devices.own } in
    let none = sym c.repeater.ensures ∙ c.in_default.is in
    told_read g.D.Disk.moment g.D.Disk.left_since g.D.Disk.seen g.D.Disk.may_leave g.met.D.Disk.only_now c.args.disk.now c.args.disk.now (kept_of d.store.journal) (kept_of d.store.journal) refl (AreKeptOf (rows_of d.kept)) _ c.requires.ready.opens.run refl (λ x h. h) (omega arith) (λ t x le h. h)
    (λ j was seen own kept. (d.store.batch.parts, dropped_again g.O.Outlet.adding g.O.Outlet.tearing who (aside_of d.kept d.machine) j d.store.batch.parts d.machine.state _ (g.O.Outlet.held c.args.outlet.now) (g.O.Outlet.held c.args.outlet.now) (packet_offer c.args.bytes.now) c.args.why [] (tt {0}) c.requires.refused (ap (λ (w : Option ℕ). again_to who j w) none) refl))

pub returns-in_default-recv_from-clause-acts : goal.returns-in_default-recv_from-clause-acts
returns-in_default-recv_from-clause-acts g c =
    let d = c.args.desk.now in
    let who : Sender = record { key = d.press.key; own = d.machine.state.devices.own } in
    let some = sym c.repeater.ensures ∙ c.in-Some.is in
    let low : c.in-Some.peer < 16 = low_repeated d.machine.state _ (packet_offer c.args.bytes.now) c.in-Some.peer c.args.why c.bounds.ensures.devices.peered.rows some c.requires.refused in
    told_read g.D.Disk.moment g.D.Disk.left_since g.D.Disk.seen g.D.Disk.may_leave g.met.D.Disk.only_now c.args.disk.now c.args.disk.now (kept_of d.store.journal) (kept_of d.store.journal) refl (AreKeptOf (rows_of d.kept)) _ c.requires.ready.opens.run refl (λ x h. h) (omega arith) (λ t x le h. h)
    (λ j was seen own kept.
    let none = ap (λ (x : Option Ticket). option_map ticket_view x) (sym c.in_default-recv_from.is) ∙ c.recv_from.ensures.value low ∙ kept.recv c.in-Some.peer low in
    (d.store.batch.parts, dropped_again g.O.Outlet.adding g.O.Outlet.tearing who (aside_of d.kept d.machine) j d.store.batch.parts d.machine.state _ (g.O.Outlet.held c.args.outlet.now) (g.O.Outlet.held c.args.outlet.now) (packet_offer c.args.bytes.now) c.args.why [] (tt {0}) c.requires.refused (ap (λ (w : Option ℕ). again_to who j w) some ∙ none_again who j c.in-Some.peer none) refl))

pub returns-in-Ok-clause-acts : goal.returns-in-Ok-clause-acts
returns-in-Ok-clause-acts g c =
    let d = c.args.desk.now in
    let r = c.release_again in
    let s = d.machine.state in
    let who : Sender = record { key = d.press.key; own = s.devices.own } in
    let some = sym c.repeater.ensures ∙ c.in-Some.is in
    let low : c.in-Some.peer < 16 = low_repeated s _ (packet_offer c.args.bytes.now) c.in-Some.peer c.args.why c.bounds.ensures.devices.peered.rows some c.requires.refused in
    told_read g.D.Disk.moment g.D.Disk.left_since g.D.Disk.seen g.D.Disk.may_leave g.met.D.Disk.only_now c.args.disk.now r.new.disk (kept_of d.store.journal) (kept_of r.new.store.journal) r.ensures.journal (AreKeptOf (rows_of d.kept)) _ c.requires.ready.opens.run r.ensures.same r.ensures.crash r.ensures.later r.ensures.moments
    (λ j was seen own kept.
    let t = ap (λ (x : Option Ticket). option_map ticket_view x) (sym c.in-Some-recv_from.is) ∙ c.recv_from.ensures.value low ∙ kept.recv c.in-Some.peer low in
    let last = is_last who j c.in-Some.peer (ticket_view c.in-Some-recv_from.ticket) t in
    let released = some_at (g.D.Disk.seen c.args.disk.now) was _ seen (rw (c.in-Ok.is, c.own_id.ensures) at r.ensures.released) j last.entry own c.requires.ready.opens.run last.ticket last.few in
    let pieces = ap (λ (w : Option ℕ). again_to who j w) some ∙ last.pieces in (
      d.store.batch.parts,
      acted_left g.O.Outlet.adding g.O.Outlet.tearing who _ _ (aside_of d.kept d.machine) d.store.batch r.new.store.batch s _ _ _ _ j d.store.batch.parts r.ensures.batch
          (dropped_again g.O.Outlet.adding g.O.Outlet.tearing who (aside_of d.kept d.machine) j d.store.batch.parts s _ (g.O.Outlet.held c.args.outlet.now) (g.O.Outlet.held r.new.outlet) (packet_offer c.args.bytes.now) c.args.why _ c.in-Ok.field-0 c.requires.refused pieces released),
    ))

pub returns-in-Err-clause-acts : goal.returns-in-Err-clause-acts
returns-in-Err-clause-acts g c =
    let d = c.args.desk.now in
    let r = c.release_again in
    let s = d.machine.state in
    let who : Sender = record { key = d.press.key; own = s.devices.own } in
    let some = sym c.repeater.ensures ∙ c.in-Some.is in
    let low : c.in-Some.peer < 16 = low_repeated s _ (packet_offer c.args.bytes.now) c.in-Some.peer c.args.why c.bounds.ensures.devices.peered.rows some c.requires.refused in
    told_read g.D.Disk.moment g.D.Disk.left_since g.D.Disk.seen g.D.Disk.may_leave g.met.D.Disk.only_now c.args.disk.now r.new.disk (kept_of d.store.journal) (kept_of r.new.store.journal) r.ensures.journal (AreKeptOf (rows_of d.kept)) _ c.requires.ready.opens.run r.ensures.same r.ensures.crash r.ensures.later r.ensures.moments
    (λ j was seen own kept.
    let t = ap (λ (x : Option Ticket). option_map ticket_view x) (sym c.in-Some-recv_from.is) ∙ c.recv_from.ensures.value low ∙ kept.recv c.in-Some.peer low in
    let last = is_last who j c.in-Some.peer (ticket_view c.in-Some-recv_from.ticket) t in
    let released = some_at (g.D.Disk.seen c.args.disk.now) was _ seen (rw c.in-Err.is at r.ensures.released) j last.entry own c.requires.ready.opens.run last.ticket last.few in
    let pieces = ap (λ (w : Option ℕ). again_to who j w) some ∙ last.pieces in (
      d.store.batch.parts,
      acted_left g.O.Outlet.adding g.O.Outlet.tearing who _ _ (aside_of d.kept d.machine) d.store.batch r.new.store.batch s _ _ _ _ j d.store.batch.parts r.ensures.batch
          (undropped g.O.Outlet.adding g.O.Outlet.tearing who (aside_of d.kept d.machine) j d.store.batch.parts s _ (g.O.Outlet.held c.args.outlet.now) (g.O.Outlet.held r.new.outlet) (Unit {0}) (packet_offer c.args.bytes.now) c.args.why _ c.in-Err.stop c.requires.refused pieces (again_own (Unit {0}) g.O.Outlet.adding g.O.Outlet.tearing d.press.key s.devices.own c.own_id.result c.in-Some.peer Ack last.entry _ _ _ c.in-Err.stop c.own_id.ensures released)),
    ))

pub returns-in-Err-clause-run : goal.returns-in-Err-clause-run
returns-in-Err-clause-run g c = runs_anyway Turn c.in-Err.stop _ (ap (λ (k : Kept). k.stop) c.release_again.ensures.journal ∙ c.requires.ready.opens.run)

pub returns-in-Err-clause-unsaved : goal.returns-in-Err-clause-unsaved
returns-in-Err-clause-unsaved g c = unsaved_alike (Unit {0}) Turn c.in-Err.stop _ (rw c.in-Err.is at c.release_again.ensures.unsaved)
