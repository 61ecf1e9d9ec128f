use Rattle.std.proofs.Common.{take, sym, ◌∙◌}
use Rattle.std.specs.Prelude.{is_some}
use Rattle.avm_model.specs.HeadState.{data_of}
use Rattle.avm_model.specs.Machine.{is_running}
use Rattle.avm_model.proofs.HeadBounds.{bounded}
use Rattle.avm_outside.specs.Feed.{Event, console, packet, resend}
use Rattle.avm_outside.specs.declared.due.Due.TheVariants.{Console, Packet, Resend, Later as DueLater, End as DueEnd}
use Rattle.jrnl_store.specs.Kept.{kept as kept_of}
use Rattle.record_model.specs.Released.{Sender}
use Rattle.record_model.specs.Turn.{Comes, Later, Over}
use Rattle.record_parts.specs.Outs.{ram_in}
use Rattle.record_turn.specs.Desk.{rows_of}
use Rattle.recorder.proofs.Feeding.{asked_at, both_same, console_is, end_told, event_told, free_fed, later_told, packet_is, pending_fed, resend_is}
use Rattle.recorder.proofs.Planning.{comes_planned, desk_kept, desk_told, over_told, used_planned}
use Rattle.recorder.proofs.Stopping.{not_pending, unless_feed, unless_map}
use Rattle.recorder.specs.Turns.{Feeds}
use Rattle.recorder.proofs.asking.turn_on.Goals as goal

pub take_console-requires-clause-count : goal.take_console-requires-clause-count
take_console-requires-clause-count g c = (bounded (data_of c.args.desk.now.machine.state) c.bounds.ensures.head).count

pub returns-then-pends-clause-turns : goal.returns-then-pends-clause-turns
returns-then-pends-clause-turns g c =
    let d = c.args.desk.now in
    let s = d.machine.state in
    let some = sym c.pends.ensures ∙ c.if-pends.true in
    unless_feed c.use_clock.result _ (
      Over,
      0,
      both_same (g.F.Feed.agenda c.args.feed.now) (Feeds (is_some s.devices.clock) g.F.Feed.answer s Over 0) (λ x. pending_fed g.F.Feed.answer s (is_some s.devices.clock) x some),
      desk_told g.D.Disk.moment g.D.Disk.left_since g.D.Disk.seen g.D.Disk.may_leave c.args.disk.now c.use_clock.new.disk (kept_of d.store.journal) (kept_of c.use_clock.new.self.store.journal) (rows_of d.kept) _ _ c.use_clock.ensures.acts
          (λ j next flight h. used_planned g.O.Outlet.adding g.O.Outlet.tearing _ _ _ _ _ _ _ _ _ j next _ flight s some h),
    )

pub returns-in-Ok-Console-clause-turns : goal.returns-in-Ok-Console-clause-turns
returns-in-Ok-Console-clause-turns g c =
    let d = c.args.desk.now in
    let s = d.machine.state in
    let none = sym c.pends.ensures ∙ c.if-pends.false in
    let free = not_pending s.devices.clock none in
    let old = g.F.Feed.agenda c.args.feed.now in
    let new = g.F.Feed.agenda c.next.new.self in
    let what : Event = console (take c.in-Ok-Console.len c.next.new.buf) in
    let is = asked_at old g.F.Feed.answer (Console c.in-Ok-Console.len) c.count-count.result s.count c.runs-running.result (is_running s.status) c.count-count.ensures c.runs-running.ensures (rw c.in-Ok-Console.field-0-is at c.in-Ok-Console.ensures.answer) in
    unless_feed c.take_console.result _ (
      Comes what,
      0,
      free_fed old new g.F.Feed.answer s (Comes what) 0 (is_some s.devices.clock) none (event_told old new g.F.Feed.answer s (Console c.in-Ok-Console.len) what _ c.next.new.buf is (rw c.in-Ok-Console.field-0-is at c.in-Ok-Console.ensures.given) (λ e due bytes. console_is c.in-Ok-Console.len e _ c.next.new.buf due bytes)),
      desk_told g.D.Disk.moment g.D.Disk.left_since g.D.Disk.seen g.D.Disk.may_leave c.args.disk.now c.take_console.new.disk (kept_of d.store.journal) (kept_of c.take_console.new.self.store.journal) (rows_of d.kept) _ _ c.take_console.ensures.acts
          (λ j next flight h. comes_planned g.O.Outlet.adding g.O.Outlet.tearing _ _ _ _ _ _ _ _ _ j next _ flight s what free h),
    )

pub returns-in-Ok-Packet-clause-turns : goal.returns-in-Ok-Packet-clause-turns
returns-in-Ok-Packet-clause-turns g c =
    let d = c.args.desk.now in
    let s = d.machine.state in
    let none = sym c.pends.ensures ∙ c.if-pends.false in
    let free = not_pending s.devices.clock none in
    let old = g.F.Feed.agenda c.args.feed.now in
    let new = g.F.Feed.agenda c.next.new.self in
    let what : Event = packet (take c.in-Ok-Packet.len c.next.new.buf) in
    let is = asked_at old g.F.Feed.answer (Packet c.in-Ok-Packet.len) c.count-count.result s.count c.runs-running.result (is_running s.status) c.count-count.ensures c.runs-running.ensures (rw c.in-Ok-Packet.field-0-is at c.in-Ok-Packet.ensures.answer) in
    unless_feed c.take_packet.result _ (
      Comes what,
      0,
      free_fed old new g.F.Feed.answer s (Comes what) 0 (is_some s.devices.clock) none (event_told old new g.F.Feed.answer s (Packet c.in-Ok-Packet.len) what _ c.next.new.buf is (rw c.in-Ok-Packet.field-0-is at c.in-Ok-Packet.ensures.given) (λ e due bytes. packet_is c.in-Ok-Packet.len e _ c.next.new.buf due bytes)),
      desk_kept g.D.Disk.moment g.D.Disk.left_since g.D.Disk.seen g.D.Disk.may_leave c.args.disk.now c.take_packet.new.disk (kept_of d.store.journal) (kept_of c.take_packet.new.desk.store.journal) (rows_of d.kept) _ _ c.take_packet.ensures.acts
          (λ j next flight h. comes_planned g.O.Outlet.adding g.O.Outlet.tearing _ _ _ _ _ _ _ _ _ j next _ flight s what free h),
    )

pub returns-in-Ok-Resend-clause-turns : goal.returns-in-Ok-Resend-clause-turns
returns-in-Ok-Resend-clause-turns g c =
    let d = c.args.desk.now in
    let s = d.machine.state in
    let none = sym c.pends.ensures ∙ c.if-pends.false in
    let free = not_pending s.devices.clock none in
    let old = g.F.Feed.agenda c.args.feed.now in
    let new = g.F.Feed.agenda c.next.new.self in
    let what : Event = resend c.in-Ok-Resend.peer in
    let is = asked_at old g.F.Feed.answer (Resend c.in-Ok-Resend.peer) c.count-count.result s.count c.runs-running.result (is_running s.status) c.count-count.ensures c.runs-running.ensures (rw c.in-Ok-Resend.field-0-is at c.in-Ok-Resend.ensures.answer) in
    unless_feed c.send_again.result _ (
      Comes what,
      0,
      free_fed old new g.F.Feed.answer s (Comes what) 0 (is_some s.devices.clock) none (event_told old new g.F.Feed.answer s (Resend c.in-Ok-Resend.peer) what _ c.next.new.buf is (rw c.in-Ok-Resend.field-0-is at c.in-Ok-Resend.ensures.given) (λ e due bytes. resend_is c.in-Ok-Resend.peer e due)),
      desk_kept g.D.Disk.moment g.D.Disk.left_since g.D.Disk.seen g.D.Disk.may_leave c.args.disk.now c.send_again.new.disk (kept_of d.store.journal) (kept_of c.send_again.new.desk.store.journal) (rows_of d.kept) _ _ c.send_again.ensures.acts
          (λ j next flight h. comes_planned g.O.Outlet.adding g.O.Outlet.tearing _ _ _ _ _ _ _ _ _ j next _ flight s what free h),
    )

pub returns-in-Ok-Later-clause-turns : goal.returns-in-Ok-Later-clause-turns
returns-in-Ok-Later-clause-turns g c =
    let s = c.args.desk.now.machine.state in
    let none = sym c.pends.ensures ∙ c.if-pends.false in
    let old = g.F.Feed.agenda c.args.feed.now in
    let until = c.in-Ok-Later.until in
    let is = asked_at old g.F.Feed.answer (DueLater until) c.count-count.result s.count c.runs-running.result (is_running s.status) c.count-count.ensures c.runs-running.ensures (rw c.in-Ok-Later.field-0-is at c.in-Ok-Later.ensures.answer) in
    unless_map c.go_on.result _ _
    (λ h. (
      Later until,
      h.0,
      free_fed old (g.F.Feed.agenda c.go_on.new.feed) g.F.Feed.answer s (Later until) h.0 (is_some s.devices.clock) none (later_told old (g.F.Feed.agenda c.next.new.self) (g.F.Feed.agenda c.go_on.new.feed) g.F.Feed.answer s until h.0 _ c.next.new.buf (rw c.in-Ok-Later.field-0-is at c.in-Ok-Later.ensures.given) is h.1),
      h.2,
    ))
    c.go_on.ensures.turns

pub returns-in-Ok-End-clause-turns : goal.returns-in-Ok-End-clause-turns
returns-in-Ok-End-clause-turns g c =
    let d = c.args.desk.now in
    let s = d.machine.state in
    let none = sym c.pends.ensures ∙ c.if-pends.false in
    let free = not_pending s.devices.clock none in
    let old = g.F.Feed.agenda c.args.feed.now in
    let new = g.F.Feed.agenda c.next.new.self in
    let who : Sender = record { key = d.press.key; own = s.devices.own } in
    let is = asked_at old g.F.Feed.answer DueEnd c.count-count.result s.count c.runs-running.result (is_running s.status) c.count-count.ensures c.runs-running.ensures (rw c.in-Ok-End.field-0-is at c.in-Ok-End.ensures.answer) in (
      Over,
      0,
      free_fed old new g.F.Feed.answer s Over 0 (is_some s.devices.clock) none (end_told old new g.F.Feed.answer s _ c.next.new.buf is (rw c.in-Ok-End.field-0-is at c.in-Ok-End.ensures.given)),
      over_told g.D.Disk.moment g.D.Disk.left_since g.D.Disk.seen g.D.Disk.may_leave g.met.D.Disk.only_now c.args.disk.now (kept_of d.store.journal) c.requires.ready.opens.run g.O.Outlet.adding g.O.Outlet.tearing who (rows_of d.kept) (ram_in d.machine) _ (g.O.Outlet.held c.args.outlet.now) d.store.batch.parts s free,
    )
