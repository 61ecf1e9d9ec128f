use Rattle.std.proofs.Common.{ℕ, List, Option, option_map, ap, sym, subst, ◌∙◌}
use Rattle.avm_model.specs.Content.{content_bytes, recv}
use Rattle.avm_model.specs.Packet.{ack_bytes}
use Rattle.avm_outside.specs.Outlet.{packet}
use Rattle.jrnl_store.specs.Kept.{kept as kept_of, ticket_view}
use Rattle.jrnl_store.specs.declared.ticket.Ticket.{Ticket}
use Rattle.record_model.specs.Released.{Sender}
use Rattle.record_packets.proofs.Comings.{came_few, came_once, came_open, came_short, came_signs, came_some, recv_cut, recv_done, recv_keeps, recv_refused}
use Rattle.record_store.proofs.Unsaved.{unsaved_alike}
use Rattle.record_packets.proofs.answering.acknowledge.Goals as goal
use Rattle.record_parts.specs.Outs.{packet_by, ram_in}
use Rattle.record_press.specs.Press.{PressData}
use Rattle.record_turn.proofs.Finishes.{next_for}
use Rattle.record_turn.proofs.Told.{told_map}
use Rattle.record_turn.specs.Desk.{rows_of}
use Rattle.record_parts.specs.declared.answers.Turn.{Turn}
use Rattle.record_turn.proofs.Runs.{saves_run}

pub save-requires-clause-open : goal.save-requires-clause-open
save-requires-clause-open g c =
    let d = c.args.desk.now in
    let w = c.requires.came in
    came_open (kept_of d.store.journal) w.0 d.machine.state w.1 d.store.batch c.args.bytes.now w.3

pub save-requires-clause-some : goal.save-requires-clause-some
save-requires-clause-some g c =
    let d = c.args.desk.now in
    let w = c.requires.came in
    came_some (kept_of d.store.journal) w.0 d.machine.state w.1 d.store.batch c.args.bytes.now w.3

pub save-requires-clause-one : goal.save-requires-clause-one
save-requires-clause-one g c =
    let d = c.args.desk.now in
    let w = c.requires.came in
    came_once (kept_of d.store.journal) w.0 d.machine.state w.1 d.store.batch c.args.bytes.now w.3

pub save-requires-clause-few : goal.save-requires-clause-few
save-requires-clause-few g c =
    let d = c.args.desk.now in
    let w = c.requires.came in
    came_few (kept_of d.store.journal) w.0 d.machine.state w.1 d.store.batch c.args.bytes.now w.3

pub answer-requires-clause-few : goal.answer-requires-clause-few
answer-requires-clause-few g c =
    let d = c.args.desk.now in
    let w = c.requires.came in
    came_short (kept_of d.store.journal) w.0 d.machine.state w.1 d.store.batch c.args.bytes.now w.3

pub unreachable-requires : goal.unreachable-requires
unreachable-requires g c =
    let d = c.args.desk.now in
    let w = c.requires.came in
    came_signs (kept_of d.store.journal) w.0 d.machine.state w.1 d.store.batch c.args.bytes.now w.3 (kept_of d.store.journal).standing
    (ap (λ (x : Option Ticket). option_map ticket_view x) (sym c.in-Ok-None.field-0-is) ∙ c.in-Ok-None.ensures.ticket)

pub returns-in-Err-clause-acts : goal.returns-in-Err-clause-acts
returns-in-Err-clause-acts g c = λ s b same came.
    let d = c.args.desk.now in
    let k = kept_of d.store.journal in
    told_map g.D.Disk.moment g.D.Disk.left_since g.D.Disk.seen g.D.Disk.may_leave c.args.disk.now c.save.new.disk k (kept_of c.save.new.self.journal) _ _ (rw c.in-Err.is at c.save.ensures.saved)
    (λ j was now own r. record {
      next = j;
      flight = d.store.batch.parts;
      holds = r.0;
      is = recv_refused k b d.store.batch s d.machine.state c.args.bytes.now came.ready.quiet came.takes came.fits (g.D.Disk.may_leave c.args.disk.now) was j own (next_for k (g.D.Disk.may_leave c.args.disk.now) was j b own came.ready.opens) g.O.Outlet.adding g.O.Outlet.tearing d.press.key (ram_in d.machine) (Option Ticket) (rows_of d.kept) c.save.new.self.batch.parts _ (g.O.Outlet.held c.args.outlet.now) c.in-Err.stop (r.1 (g.O.Outlet.faults c.args.outlet.now) (g.O.Outlet.faults c.args.outlet.now));
    })

pub returns-in-Ok-clause-acts : goal.returns-in-Ok-clause-acts
returns-in-Ok-clause-acts g c = λ s b same came.
    let d = c.args.desk.now in
    let k = kept_of d.store.journal in
    let who : Sender = record { key = d.press.key; own = d.machine.state.devices.own } in
    let t = ticket_view c.in-Ok-Some.ticket in
    let is = ap (λ (x : Option Ticket). option_map ticket_view x) (sym c.in-Ok-Some.field-0-is) ∙ c.in-Ok-Some.ensures.ticket in
    let from = sym c.sender-peer.ensures in
    let made = c.bytes.ensures ∙ ap (λ (p : PressData). p.bytes) c.answer.ensures.value ∙ ap (λ (n : ℕ). ack_bytes (packet_by who t (content_bytes (recv n c.args.bytes.now)))) (sym same) in
    told_map g.D.Disk.moment g.D.Disk.left_since g.D.Disk.seen g.D.Disk.may_leave c.args.disk.now c.save.new.disk k (kept_of c.save.new.self.journal) _ _ (rw c.in-Ok-Some.is at c.save.ensures.saved)
    (λ j was now own r.
    let next = next_for k (g.D.Disk.may_leave c.args.disk.now) was j b own came.ready.opens in
    record {
      next = _;
      flight = d.store.batch.parts;
      holds = r.0;
      is = recv_done k b d.store.batch s d.machine.state c.args.bytes.now came.ready.quiet came.takes came.fits (g.D.Disk.may_leave c.args.disk.now) was j own next g.O.Outlet.adding g.O.Outlet.tearing d.press.key (ram_in d.machine) c.in-Ok-Some.field-0 (rows_of d.kept) (rows_of c.add_recv.new.self) c.save.new.self.batch.parts _ (g.O.Outlet.held c.args.outlet.now) (g.O.Outlet.held c.packet.new.self) c.sender-peer.result t (r.1 (g.O.Outlet.faults c.args.outlet.now) (g.O.Outlet.faults c.packet.new.self)) is from
          (c.in-Ok.ensures.added ∙ ap (λ (x : List ℕ). g.O.Outlet.adding (packet c.sender-peer.result x) (g.O.Outlet.held c.args.outlet.now)) made)
          (recv_keeps k b d.store.batch s d.machine.state c.args.bytes.now came.ready.quiet came.takes came.fits (g.D.Disk.may_leave c.args.disk.now) was j own next (rows_of d.kept) (rows_of c.add_recv.new.self) c.sender-peer.result t is from c.add_recv.ensures.kept);
    })

pub returns-in-Err-packet-clause-acts : goal.returns-in-Err-packet-clause-acts
returns-in-Err-packet-clause-acts g c = λ s b same came.
    let d = c.args.desk.now in
    let k = kept_of d.store.journal in
    let who : Sender = record { key = d.press.key; own = d.machine.state.devices.own } in
    let t = ticket_view c.in-Ok-Some.ticket in
    let is = ap (λ (x : Option Ticket). option_map ticket_view x) (sym c.in-Ok-Some.field-0-is) ∙ c.in-Ok-Some.ensures.ticket in
    let from = sym c.sender-peer.ensures in
    let made = c.bytes.ensures ∙ ap (λ (p : PressData). p.bytes) c.answer.ensures.value ∙ ap (λ (n : ℕ). ack_bytes (packet_by who t (content_bytes (recv n c.args.bytes.now)))) (sym same) in
    told_map g.D.Disk.moment g.D.Disk.left_since g.D.Disk.seen g.D.Disk.may_leave c.args.disk.now c.save.new.disk k (kept_of c.save.new.self.journal) _ _ (rw c.in-Ok-Some.is at c.save.ensures.saved)
    (λ j was now own r.
    let next = next_for k (g.D.Disk.may_leave c.args.disk.now) was j b own came.ready.opens in
    record {
      next = _;
      flight = d.store.batch.parts;
      holds = r.0;
      is = recv_cut k b d.store.batch s d.machine.state c.args.bytes.now came.ready.quiet came.takes came.fits (g.D.Disk.may_leave c.args.disk.now) was j own next g.O.Outlet.adding g.O.Outlet.tearing d.press.key (ram_in d.machine) c.in-Ok-Some.field-0 (rows_of d.kept) (rows_of c.add_recv.new.self) c.save.new.self.batch.parts _ (g.O.Outlet.held c.args.outlet.now) (g.O.Outlet.held c.packet.new.self) c.sender-peer.result t (r.1 (g.O.Outlet.faults c.args.outlet.now) (g.O.Outlet.faults c.packet.new.self)) is from
          (subst (λ (x : List ℕ). g.O.Outlet.tearing (packet c.sender-peer.result x) (g.O.Outlet.held c.args.outlet.now) (g.O.Outlet.held c.packet.new.self)) made c.in-Err-packet.ensures.failed)
          c.in-Err-packet.ensures.faults
          (recv_keeps k b d.store.batch s d.machine.state c.args.bytes.now came.ready.quiet came.takes came.fits (g.D.Disk.may_leave c.args.disk.now) was j own next (rows_of d.kept) (rows_of c.add_recv.new.self) c.sender-peer.result t is from c.add_recv.ensures.kept);
    })

pub returns-in-Err-clause-run : goal.returns-in-Err-clause-run
returns-in-Err-clause-run g c = saves_run (Option Ticket) Turn _ _ c.in-Err.stop _ (rw c.in-Err.is at c.save.ensures.faults)

pub returns-in-Err-packet-clause-run : goal.returns-in-Err-packet-clause-run
returns-in-Err-packet-clause-run g c = c.in-Ok-Some.ensures.open.run

pub returns-in-Err-clause-unsaved : goal.returns-in-Err-clause-unsaved
returns-in-Err-clause-unsaved g c = unsaved_alike (Option Ticket) Turn c.in-Err.stop _ (rw c.in-Err.is at c.save.ensures.unsaved)
