use Rattle.std.proofs.Common.{ℕ, [], ◌∷◌, ◌≡◌, refl, ap, subst, ◌∙◌}
use Rattle.avm_model.specs.Machine.{MachineState}
use Rattle.command_parts.specs.Printing.{Prints, PrintsCut}
use Rattle.record_run.proofs.Saying.{prints_nothing, says_none}
use Rattle.std.specs.Prelude.{Err}
use Rattle.record_run.specs.declared.stops.RunStop.{RunStop}
use Rattle.record_run.specs.declared.stops.RunStop.TheVariants.{SinkFault}
use Rattle.jrnl_store.specs.Kept.{kept as kept_of}
use Rattle.record_run.proofs.Telling.{told_cut, told_dropped, told_over, told_went}
use Rattle.record_run.specs.Feeds.{sure_agenda}
use Rattle.record_turn.specs.Desk.{rows_of}
use Rattle.record_run.specs.Lines.{drop_lines}
use Rattle.record_run.proofs.turning.turn_on.Goals as goal

pub returns-in-Ok-Went-clause-turn : goal.returns-in-Ok-Went-clause-turn
returns-in-Ok-Went-clause-turn g c =
    let a = c.args.recorder.now.desk in
    let n = c.take_turn.new.recorder.desk in
    ([], (refl, prints_nothing (g.S.Sink.faults c.args.out.now) (g.S.Sink.written c.args.out.now)), told_went g.D.Disk.seen g.D.Disk.may_leave g.D.Disk.moment g.D.Disk.left_since g.O.Outlet.adding g.O.Outlet.tearing c.args.disk.now c.take_turn.new.disk (kept_of a.store.journal) (kept_of n.store.journal) (rows_of a.kept) (rows_of n.kept) a.press.key a.store.batch.parts n.store.batch.parts a.machine.state n.machine.state (g.O.Outlet.held c.args.outlet.now) (g.O.Outlet.held c.take_turn.new.outlet) (sure_agenda c.args.feed.now) (sure_agenda c.take_turn.new.feed) _ c.in-Ok-Went.field-0-is c.in-Ok-Went.ensures.turn)

pub returns-in-Ok-Over-clause-turn : goal.returns-in-Ok-Over-clause-turn
returns-in-Ok-Over-clause-turn g c =
    let a = c.args.recorder.now.desk in
    let n = c.take_turn.new.recorder.desk in
    ([], (refl, prints_nothing (g.S.Sink.faults c.args.out.now) (g.S.Sink.written c.args.out.now)), told_over g.D.Disk.seen g.D.Disk.may_leave g.D.Disk.moment g.D.Disk.left_since g.O.Outlet.adding g.O.Outlet.tearing c.args.disk.now c.take_turn.new.disk (kept_of a.store.journal) (kept_of n.store.journal) (rows_of a.kept) (rows_of n.kept) a.press.key a.store.batch.parts n.store.batch.parts a.machine.state n.machine.state (g.O.Outlet.held c.args.outlet.now) (g.O.Outlet.held c.take_turn.new.outlet) (sure_agenda c.args.feed.now) (sure_agenda c.take_turn.new.feed) _ c.in-Ok-Over.field-0-is c.in-Ok-Over.ensures.turn)

pub returns-in-Ok-clause-turn : goal.returns-in-Ok-clause-turn
returns-in-Ok-clause-turn g c =
    let a = c.args.recorder.now.desk in
    let n = c.take_turn.new.recorder.desk in
    let s = a.machine.state in
    let why = c.in-Ok-Dropped.why in
    let count : c.count-count.result ≡ s.count = c.count-count.ensures ∙ ap (λ (m : MachineState). m.state.count) c.machine.ensures in
    let printed = subst (λ (n : ℕ). Prints (drop_lines (record { why = why; count = n } ∷ [])) (g.S.Sink.faults c.args.out.now) (g.S.Sink.faults c.print_drop.new.out) (g.S.Sink.written c.args.out.now) (g.S.Sink.written c.print_drop.new.out)) count c.in-Ok.ensures.printed in
    (record { why = why; count = s.count } ∷ [], (refl, printed), told_dropped g.D.Disk.seen g.D.Disk.may_leave g.D.Disk.moment g.D.Disk.left_since g.O.Outlet.adding g.O.Outlet.tearing c.args.disk.now c.take_turn.new.disk (kept_of a.store.journal) (kept_of n.store.journal) (rows_of a.kept) (rows_of n.kept) a.press.key a.store.batch.parts n.store.batch.parts a.machine.state n.machine.state (g.O.Outlet.held c.args.outlet.now) (g.O.Outlet.held c.take_turn.new.outlet) (sure_agenda c.args.feed.now) (sure_agenda c.take_turn.new.feed) _ why c.in-Ok-Dropped.field-0-is c.in-Ok-Dropped.ensures.turn)

pub returns-in-Err-print_drop-clause-turn : goal.returns-in-Err-print_drop-clause-turn
returns-in-Err-print_drop-clause-turn g c =
    let a = c.args.recorder.now.desk in
    let n = c.take_turn.new.recorder.desk in
    let s = a.machine.state in
    let why = c.in-Ok-Dropped.why in
    let count : c.count-count.result ≡ s.count = c.count-count.ensures ∙ ap (λ (m : MachineState). m.state.count) c.machine.ensures in
    let cut = subst (λ (n : ℕ). PrintsCut (drop_lines (record { why = why; count = n } ∷ [])) (g.S.Sink.faults c.args.out.now) (g.S.Sink.faults c.print_drop.new.out) (g.S.Sink.written c.args.out.now) (g.S.Sink.written c.print_drop.new.out)) count c.in-Err-print_drop.ensures.cut in
    (record { why = why; count = s.count } ∷ [], cut, told_cut g.D.Disk.seen g.D.Disk.may_leave g.D.Disk.moment g.D.Disk.left_since g.O.Outlet.adding g.O.Outlet.tearing c.args.disk.now c.take_turn.new.disk (kept_of a.store.journal) (kept_of n.store.journal) (rows_of a.kept) (rows_of n.kept) a.press.key a.store.batch.parts n.store.batch.parts a.machine.state n.machine.state (g.O.Outlet.held c.args.outlet.now) (g.O.Outlet.held c.take_turn.new.outlet) (sure_agenda c.args.feed.now) (sure_agenda c.take_turn.new.feed) _ why c.in-Ok-Dropped.field-0-is c.in-Ok-Dropped.ensures.turn)

pub returns-in-Err-clause-turn : goal.returns-in-Err-clause-turn
returns-in-Err-clause-turn g c = ([], says_none c.in-Err.stop (g.S.Sink.faults c.args.out.now) (g.S.Sink.written c.args.out.now) (λ e. c.in-Err.ensures.no_print (let same : c.in-Err.stop ≡ SinkFault = cc in ap (λ (x : RunStop). Err x) same)), c.in-Err.ensures.turn)
