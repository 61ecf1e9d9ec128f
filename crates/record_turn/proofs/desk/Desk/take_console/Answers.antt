use Rattle.std.proofs.Common.{◌≡◌, length, Some, arith, ap, sym, subst, refl, ◌∙◌}
use Rattle.avm_model.specs.Machine.{MachineState}
use Rattle.avm_model.specs.Memory.{RamState}
use Rattle.avm_model.specs.Pages.{sha_hashes}
use Rattle.page_tree.specs.Nodes.{IsStale}
use Rattle.record_turn.proofs.Inputs.{console_clock, console_ram, ram_after}
use Rattle.avm_model.specs.Offer.{OfferConsole}
use Rattle.jrnl_store.specs.Kept.{kept as kept_of}
use Rattle.record_batch.specs.Batch.{BatchData}
use Rattle.record_parts.proofs.Effects.{input_quiet}
use Rattle.record_parts.specs.Outs.{AreQuiet, ram_in}
use Rattle.record_turn.proofs.Batches.{input_open, input_size, small_size}
use Rattle.record_turn.proofs.Finishes.{next_for}
use Rattle.record_turn.proofs.Settles.{acted_at, console_again, counts_err, dropped_at, taken_settled, taken_unsettled}
use Rattle.record_turn.proofs.Told.{told_as, told_still}
use Rattle.record_parts.specs.declared.answers.Turn.{Turn}
use Rattle.record_turn.proofs.Keeps.{beside_same}
use Rattle.record_turn.specs.Keeping.{aside_of}
use Rattle.record_turn.specs.Desk.{rows_of}
use Rattle.record_store.proofs.Unsaved.{unsaved_alike}
use Rattle.record_turn.proofs.desk.Desk.take_console.Goals as goal
use Rattle.record_turn.proofs.Runs.{runs_alike}

pub invariant_of-self : goal.invariant_of-self
invariant_of-self g c =
    let d = c.args.self.now in
    let same = c.take_console.ensures.marks in
    let ram = ram_after c.take_console.result d.machine c.take_console.new.machine (OfferConsole c.args.bytes.now) d.store.batch c.take_console.new.batch (console_ram d.machine.state c.args.bytes.now) c.take_console.ensures.taken c.take_console.ensures.same same in
    let len : length c.take_console.new.machine.dirty ≡ length d.machine.dirty = ap length same in
    record { fits = d.fits; pages = d.pages ∙ sym len; count = len ∙ d.count; stale = subst (λ (r : RamState). IsStale sha_hashes r d.tree) (sym ram) d.stale; low = d.low; leaves = d.leaves }

pub settle-requires-clause-open : goal.settle-requires-clause-open
settle-requires-clause-open g c = input_open (kept_of c.args.self.now.store.journal) c.args.self.now.store.batch c.take_console.new.batch c.args.self.now.machine.state.count (OfferConsole c.args.bytes.now) c.requires.ready.opens c.in-Ok.ensures.taken.batch

pub settle-requires-clause-quiet : goal.settle-requires-clause-quiet
settle-requires-clause-quiet g c = subst (λ (x : BatchData). AreQuiet x.parts) (sym c.in-Ok.ensures.taken.batch) (input_quiet c.args.self.now.store.batch c.args.self.now.machine.state.count (OfferConsole c.args.bytes.now) c.requires.ready.quiet refl c.take_console.ensures.fits)

pub settle-requires-clause-place : goal.settle-requires-clause-place
settle-requires-clause-place g c =
    let z = small_size c.args.self.now.store.batch c.requires.ready.small in
    let y = input_size c.args.self.now.store.batch c.take_console.new.batch c.args.self.now.machine.state.count (OfferConsole c.args.bytes.now) c.in-Ok.ensures.taken.batch in
    let few = c.requires.few in
    omega (arith, y, z, few)

pub has_numbers-requires-clause-place : goal.has_numbers-requires-clause-place
has_numbers-requires-clause-place g c = let z = small_size c.args.self.now.store.batch c.requires.ready.small in omega (arith, z)

pub take_console-requires-clause-place : goal.take_console-requires-clause-place
take_console-requires-clause-place g c = let z = small_size c.args.self.now.store.batch c.requires.ready.small in omega (arith, z)

pub returns-in-Err-clause-acts : goal.returns-in-Err-clause-acts
returns-in-Err-clause-acts g c =
    let why = rw c.in-Err.is at c.take_console.ensures.dropped in
    let b = c.args.self.now.store.batch in
    let s = c.args.self.now.machine.state in
    let o = Some (OfferConsole c.args.bytes.now) in
    let same : c.take_console.new.machine.state ≡ s = ap (λ (m : MachineState). m.state) c.in-Err.ensures.same in
    let stays : aside_of c.args.self.now.kept c.take_console.new.machine ≡ aside_of c.args.self.now.kept c.args.self.now.machine = ap (λ (m : MachineState). aside_of c.args.self.now.kept m) c.in-Err.ensures.same in
    told_still g.D.Disk.moment g.D.Disk.left_since g.D.Disk.seen g.D.Disk.may_leave g.met.D.Disk.only_now c.args.disk.now (kept_of c.args.self.now.store.journal) _ c.requires.ready.opens.run
    (λ j was own. (
      b.parts,
      dropped_at g.O.Outlet.adding g.O.Outlet.tearing c.args.self.now.press.key (aside_of c.args.self.now.kept c.args.self.now.machine) (aside_of c.args.self.now.kept c.take_console.new.machine) (g.O.Outlet.held c.args.outlet.now) j b c.take_console.new.batch s c.take_console.new.machine.state o c.in-Err.why _ stays same c.in-Err.ensures.left why
          (console_again (record { key = c.args.self.now.press.key; own = c.take_console.new.machine.state.devices.own }) j c.in-Err.why c.args.bytes.now),
    ))

pub returns-in-Ok-settle-clause-acts : goal.returns-in-Ok-settle-clause-acts
returns-in-Ok-settle-clause-acts g c =
    let k = kept_of c.args.self.now.store.journal in
    let b = c.args.self.now.store.batch in
    let s = c.args.self.now.machine.state in
    let o = OfferConsole c.args.bytes.now in
    let quiet = subst (λ (x : BatchData). AreQuiet x.parts) (sym c.in-Ok.ensures.taken.batch) (input_quiet b s.count o c.requires.ready.quiet refl c.take_console.ensures.fits) in
    let d = c.args.self.now in
    let ram = ram_after c.take_console.result d.machine c.take_console.new.machine o b c.take_console.new.batch (console_ram s c.args.bytes.now) c.take_console.ensures.taken c.take_console.ensures.same c.take_console.ensures.marks in
    let stays : aside_of c.settle.new.self.kept c.settle.new.self.machine ≡ aside_of d.kept d.machine = beside_same (rows_of c.settle.new.self.kept) (rows_of d.kept) (ram_in c.settle.new.self.machine) (ram_in d.machine) c.settle.ensures.kept (ap ram_in c.settle.ensures.machine ∙ ram) in
    told_as g.D.Disk.moment g.D.Disk.left_since g.D.Disk.seen g.D.Disk.may_leave c.args.disk.now c.settle.new.disk k (kept_of c.settle.new.self.store.journal) _ _ (rw c.in-Ok-settle.is at c.settle.ensures.settled)
    (λ j was own next flight h. acted_at g.O.Outlet.adding g.O.Outlet.tearing c.args.self.now.press.key _ _ _ (aside_of c.args.self.now.kept c.args.self.now.machine) (aside_of c.settle.new.self.kept c.settle.new.self.machine) _ c.take_console.new.machine.state c.settle.new.self.machine.state _ _ _ _ next flight (ap (λ (m : MachineState). m.state) c.settle.ensures.machine) stays (taken_settled g.O.Outlet.adding g.O.Outlet.tearing _ (aside_of c.args.self.now.kept c.args.self.now.machine) (g.O.Outlet.held c.args.outlet.now) j b c.take_console.new.batch s c.take_console.new.machine.state o (next_for k (g.D.Disk.may_leave c.args.disk.now) was j b own c.requires.ready.opens) c.in-Ok.ensures.taken refl quiet c.take_console.ensures.fits c.in-Ok-settle.field-0 c.settle.new.self.store.batch.parts (g.D.Disk.faults c.args.disk.now) (g.D.Disk.faults c.settle.new.disk) (g.O.Outlet.faults c.args.outlet.now) next flight h))

pub returns-in-Err-settle-clause-acts : goal.returns-in-Err-settle-clause-acts
returns-in-Err-settle-clause-acts g c =
    let k = kept_of c.args.self.now.store.journal in
    let b = c.args.self.now.store.batch in
    let s = c.args.self.now.machine.state in
    let o = OfferConsole c.args.bytes.now in
    let quiet = subst (λ (x : BatchData). AreQuiet x.parts) (sym c.in-Ok.ensures.taken.batch) (input_quiet b s.count o c.requires.ready.quiet refl c.take_console.ensures.fits) in
    let d = c.args.self.now in
    let ram = ram_after c.take_console.result d.machine c.take_console.new.machine o b c.take_console.new.batch (console_ram s c.args.bytes.now) c.take_console.ensures.taken c.take_console.ensures.same c.take_console.ensures.marks in
    let stays : aside_of c.settle.new.self.kept c.settle.new.self.machine ≡ aside_of d.kept d.machine = beside_same (rows_of c.settle.new.self.kept) (rows_of d.kept) (ram_in c.settle.new.self.machine) (ram_in d.machine) c.settle.ensures.kept (ap ram_in c.settle.ensures.machine ∙ ram) in
    told_as g.D.Disk.moment g.D.Disk.left_since g.D.Disk.seen g.D.Disk.may_leave c.args.disk.now c.settle.new.disk k (kept_of c.settle.new.self.store.journal) _ _ (rw c.in-Err-settle.is at c.settle.ensures.settled)
    (λ j was own next flight h. acted_at g.O.Outlet.adding g.O.Outlet.tearing c.args.self.now.press.key _ _ _ (aside_of c.args.self.now.kept c.args.self.now.machine) (aside_of c.settle.new.self.kept c.settle.new.self.machine) _ c.take_console.new.machine.state c.settle.new.self.machine.state _ _ _ _ next flight (ap (λ (m : MachineState). m.state) c.settle.ensures.machine) stays (taken_unsettled g.O.Outlet.adding g.O.Outlet.tearing _ (aside_of c.args.self.now.kept c.args.self.now.machine) (g.O.Outlet.held c.args.outlet.now) j b c.take_console.new.batch s c.take_console.new.machine.state o (next_for k (g.D.Disk.may_leave c.args.disk.now) was j b own c.requires.ready.opens) c.in-Ok.ensures.taken refl quiet c.take_console.ensures.fits (Unit {0}) c.settle.new.self.store.batch.parts (g.D.Disk.faults c.args.disk.now) (g.D.Disk.faults c.settle.new.disk) (g.O.Outlet.faults c.args.outlet.now) c.in-Err-settle.stop next flight h))

pub returns-in-Ok-settle-clause-clock : goal.returns-in-Ok-settle-clause-clock
returns-in-Ok-settle-clause-clock g c =
    ap (λ (m : MachineState). m.state.devices.clock) c.settle.ensures.machine ∙ console_clock c.args.self.now.machine.state c.take_console.new.machine.state c.args.bytes.now c.in-Ok.ensures.taken.machine

pub returns-in-Err-settle-clause-clock : goal.returns-in-Err-settle-clause-clock
returns-in-Err-settle-clause-clock g c =
    ap (λ (m : MachineState). m.state.devices.clock) c.settle.ensures.machine ∙ console_clock c.args.self.now.machine.state c.take_console.new.machine.state c.args.bytes.now c.in-Ok.ensures.taken.machine

pub returns-in-Err-settle-clause-outlet_faults : goal.returns-in-Err-settle-clause-outlet_faults
returns-in-Err-settle-clause-outlet_faults g c =
    let n = g.O.Outlet.faults c.args.outlet.now in
    let h = c.settle.ensures.outlet_faults n in
    counts_err (Unit {0}) Turn n n c.in-Err-settle.stop (rw c.in-Err-settle.is at h)

pub returns-in-Err-settle-clause-run : goal.returns-in-Err-settle-clause-run
returns-in-Err-settle-clause-run g c = runs_alike (Unit {0}) Turn c.in-Err-settle.stop _ (rw c.in-Err-settle.is at c.settle.ensures.run)

pub returns-in-Err-settle-clause-unsaved : goal.returns-in-Err-settle-clause-unsaved
returns-in-Err-settle-clause-unsaved g c = unsaved_alike (Unit {0}) Turn c.in-Err-settle.stop _ (rw c.in-Err-settle.is at c.settle.ensures.unsaved)
