use Rattle.std.proofs.Common.{sym, ◌∙◌}
use Rattle.jrnl_store.specs.Kept.{kept as kept_of}
use Rattle.record_model.specs.Released.{Sender}
use Rattle.record_parts.specs.Outs.{ram_in}
use Rattle.record_turn.specs.Desk.{rows_of}
use Rattle.recorder.proofs.Feeding.{both_same, clock_told, halted_fed, steps_fed, waits_fed}
use Rattle.recorder.proofs.Planning.{asked_planned, desk_told, halted_told, steps_planned, waits_told}
use Rattle.recorder.proofs.Stopping.{unless_feed}
use Rattle.recorder.specs.Turns.{FeedsLater}
use Rattle.recorder.proofs.going.go_on.Goals as goal

pub returns-in-Waiting-clause-turns : goal.returns-in-Waiting-clause-turns
returns-in-Waiting-clause-turns g c =
    let d = c.args.desk.now in
    let s = d.machine.state in
    let is = sym c.status.ensures ∙ c.in-Waiting.is in
    let who : Sender = record { key = d.press.key; own = s.devices.own } in (
      0,
      both_same (g.F.Feed.agenda c.args.feed.now) (FeedsLater s c.args.until 0) (λ x. waits_fed s c.args.until 0 x is),
      waits_told g.D.Disk.moment g.D.Disk.left_since g.D.Disk.seen g.D.Disk.may_leave g.met.D.Disk.only_now c.args.disk.now (kept_of d.store.journal) c.requires.ready.opens.run g.O.Outlet.adding g.O.Outlet.tearing who (rows_of d.kept) (ram_in d.machine) _ (g.O.Outlet.held c.args.outlet.now) d.store.batch.parts s c.requires.clock c.args.until 0 is,
    )

pub returns-in-Halted-clause-turns : goal.returns-in-Halted-clause-turns
returns-in-Halted-clause-turns g c =
    let d = c.args.desk.now in
    let s = d.machine.state in
    let is = sym c.status.ensures ∙ c.in-Halted.is in
    let who : Sender = record { key = d.press.key; own = s.devices.own } in (
      0,
      both_same (g.F.Feed.agenda c.args.feed.now) (FeedsLater s c.args.until 0) (λ x. halted_fed s c.args.until 0 x is),
      halted_told g.D.Disk.moment g.D.Disk.left_since g.D.Disk.seen g.D.Disk.may_leave g.met.D.Disk.only_now c.args.disk.now (kept_of d.store.journal) c.requires.ready.opens.run g.O.Outlet.adding g.O.Outlet.tearing who (rows_of d.kept) (ram_in d.machine) _ (g.O.Outlet.held c.args.outlet.now) d.store.batch.parts s c.requires.clock c.args.until 0 is,
    )

pub returns-then-not-asks-clause-turns : goal.returns-then-not-asks-clause-turns
returns-then-not-asks-clause-turns g c =
    let d = c.args.desk.now in
    let s = d.machine.state in
    let is = sym c.status.ensures ∙ c.in-Running.is in
    let unasked = sym c.asks.ensures ∙ c.if-not-asks.true in
    unless_feed c.run_on.result _ (
      0,
      both_same (g.F.Feed.agenda c.args.feed.now) (FeedsLater s c.args.until 0) (λ x. steps_fed s c.args.until 0 x is unasked),
      desk_told g.D.Disk.moment g.D.Disk.left_since g.D.Disk.seen g.D.Disk.may_leave c.args.disk.now c.run_on.new.disk (kept_of d.store.journal) (kept_of c.run_on.new.self.store.journal) (rows_of d.kept) _ _ c.run_on.ensures.acts
          (λ j next flight h. steps_planned g.O.Outlet.adding g.O.Outlet.tearing _ _ _ _ _ _ _ _ _ j next _ flight s c.args.until 0 c.requires.clock is unasked h),
    )

pub returns-in-Ok-clause-turns : goal.returns-in-Ok-clause-turns
returns-in-Ok-clause-turns g c =
    let d = c.args.desk.now in
    let s = d.machine.state in
    let is = sym c.status.ensures ∙ c.in-Running.is in
    let asked = sym c.asks.ensures ∙ c.if-not-asks.false in
    unless_feed c.answer_clock.result _ (
      c.in-Ok.value,
      clock_told (g.F.Feed.agenda c.args.feed.now) (g.F.Feed.agenda c.clock.new.self) s c.args.until c.in-Ok.value is asked c.in-Ok.ensures.value c.in-Ok.ensures.asked,
      desk_told g.D.Disk.moment g.D.Disk.left_since g.D.Disk.seen g.D.Disk.may_leave c.args.disk.now c.answer_clock.new.disk (kept_of d.store.journal) (kept_of c.answer_clock.new.self.store.journal) (rows_of d.kept) _ _ c.answer_clock.ensures.acts
          (λ j next flight h. asked_planned g.O.Outlet.adding g.O.Outlet.tearing _ _ _ _ _ _ _ _ _ j next _ flight s c.args.until c.in-Ok.value c.requires.clock is asked h),
    )
