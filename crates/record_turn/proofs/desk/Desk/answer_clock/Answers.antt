use Rattle.std.proofs.Common.{◌≡◌, length, None, Some, arith, ap, sym, subst, refl, ◌∙◌}
use Rattle.avm_model.specs.Machine.{State}
use Rattle.avm_model.specs.Memory.{RamState}
use Rattle.avm_model.specs.PageMarks.{MarksPages}
use Rattle.avm_model.specs.Pages.{sha_hashes}
use Rattle.avm_model.proofs.ReferenceLaws.{step_counts}
use Rattle.page_tree.proofs.Kept.{stale_kept}
use Rattle.page_tree.specs.Nodes.{IsStale}
use Rattle.record_turn.proofs.Inputs.{clock_count, clock_ram, same_ram}
use Rattle.avm_model.specs.Offer.{OfferClock, taken}
use Rattle.avm_model.specs.Reference.{step_of}
use Rattle.jrnl_store.specs.Kept.{kept as kept_of}
use Rattle.record_parts.proofs.Acting.{clock_taken, clock_used, steps_then}
use Rattle.record_parts.proofs.Effects.{input_quiet}
use Rattle.record_parts.specs.Outs.{AreQuiet, outs_made, ram_in}
use Rattle.record_batch.specs.Batch.{BatchData}
use Rattle.record_turn.proofs.Batches.{input_open, input_size, small_size}
use Rattle.record_turn.proofs.Finishes.{next_for}
use Rattle.record_turn.proofs.Steps.{answered_on, answered_stopped}
use Rattle.record_turn.proofs.Told.{told_as}
use Rattle.record_store.proofs.Unsaved.{unsaved_alike}
use Rattle.record_turn.proofs.desk.Desk.answer_clock.Goals as goal
use Rattle.record_parts.specs.declared.answers.Turn.{Turn}
use Rattle.record_turn.proofs.Runs.{runs_alike}

pub unreachable-requires : goal.unreachable-requires
unreachable-requires g c =
    let s = c.args.self.now.machine.state in
    steps_then s c.args.value c.requires.asks (subst (λ (x : State). step_of x ≡ None) (c.take_clock.ensures.taken.machine ∙ clock_taken s c.args.value) c.if-not-step_on.ensures.no)

pub finish-requires-clause-open : goal.finish-requires-clause-open
finish-requires-clause-open g c = input_open (kept_of c.args.self.now.store.journal) c.args.self.now.store.batch c.take_clock.new.batch c.args.self.now.machine.state.count (OfferClock c.args.value) c.requires.ready.opens c.take_clock.ensures.taken.batch

pub finish-requires-clause-quiet : goal.finish-requires-clause-quiet
finish-requires-clause-quiet g c = subst (λ (x : BatchData). AreQuiet x.parts) (sym c.take_clock.ensures.taken.batch) (input_quiet c.args.self.now.store.batch c.args.self.now.machine.state.count (OfferClock c.args.value) c.requires.ready.quiet refl c.take_clock.ensures.fits)

pub finish-requires-clause-place : goal.finish-requires-clause-place
finish-requires-clause-place g c =
    let z = small_size c.args.self.now.store.batch c.requires.ready.small in
    let y = input_size c.args.self.now.store.batch c.take_clock.new.batch c.args.self.now.machine.state.count (OfferClock c.args.value) c.take_clock.ensures.taken.batch in
    omega (arith, y, z)

pub finish-requires-clause-clock : goal.finish-requires-clause-clock
finish-requires-clause-clock g c =
    let s = c.args.self.now.machine.state in
    clock_used s c.step_on.new.machine.state _ c.args.value c.requires.asks (subst (λ (x : State). step_of x ≡ Some (c.step_on.new.machine.state, outs_made c.step_on.new.machine.state c.step_on.new.outs)) (c.take_clock.ensures.taken.machine ∙ clock_taken s c.args.value) c.if-not-step_on.ensures.yes)

pub returns-in-Ok-clause-acts : goal.returns-in-Ok-clause-acts
returns-in-Ok-clause-acts g c =
    let s = c.args.self.now.machine.state in
    let k = kept_of c.args.self.now.store.journal in
    let st : step_of (taken s (OfferClock c.args.value)) ≡ Some (c.step_on.new.machine.state, outs_made c.step_on.new.machine.state c.step_on.new.outs) = subst (λ (x : State). step_of x ≡ Some (c.step_on.new.machine.state, outs_made c.step_on.new.machine.state c.step_on.new.outs)) c.take_clock.ensures.taken.machine c.if-not-step_on.ensures.yes in
    let d = c.args.self.now in
    let ram = same_ram d.machine c.take_clock.new.machine (OfferClock c.args.value) c.take_clock.ensures.taken.machine (clock_ram s c.args.value) c.take_clock.ensures.marks in
    let marked : MarksPages (ram_in d.machine) (ram_in c.step_on.new.machine) = subst (λ (r : RamState). MarksPages r (ram_in c.step_on.new.machine)) ram c.step_on.ensures.marks in
    told_as g.D.Disk.moment g.D.Disk.left_since g.D.Disk.seen g.D.Disk.may_leave c.args.disk.now c.finish.new.disk k (kept_of c.finish.new.self.store.journal) _ _ (rw c.in-Ok.is at c.finish.ensures.ends)
    (λ j was own next flight h. answered_on g.O.Outlet.adding g.O.Outlet.tearing _ _ _ (ram_in d.machine) (ram_in c.step_on.new.machine) (ram_in c.finish.new.self.machine) marked _ _ _ _ _ next flight c.in-Ok.field-0 j c.args.self.now.store.batch c.take_clock.new.batch s c.step_on.new.machine.state _ c.args.value (next_for k (g.D.Disk.may_leave c.args.disk.now) was j c.args.self.now.store.batch own c.requires.ready.opens) c.requires.asks c.requires.clock c.take_clock.ensures.taken.batch st c.take_clock.ensures.fits h)

pub returns-in-Err-clause-acts : goal.returns-in-Err-clause-acts
returns-in-Err-clause-acts g c =
    let s = c.args.self.now.machine.state in
    let k = kept_of c.args.self.now.store.journal in
    let st : step_of (taken s (OfferClock c.args.value)) ≡ Some (c.step_on.new.machine.state, outs_made c.step_on.new.machine.state c.step_on.new.outs) = subst (λ (x : State). step_of x ≡ Some (c.step_on.new.machine.state, outs_made c.step_on.new.machine.state c.step_on.new.outs)) c.take_clock.ensures.taken.machine c.if-not-step_on.ensures.yes in
    let d = c.args.self.now in
    let ram = same_ram d.machine c.take_clock.new.machine (OfferClock c.args.value) c.take_clock.ensures.taken.machine (clock_ram s c.args.value) c.take_clock.ensures.marks in
    let marked : MarksPages (ram_in d.machine) (ram_in c.step_on.new.machine) = subst (λ (r : RamState). MarksPages r (ram_in c.step_on.new.machine)) ram c.step_on.ensures.marks in
    told_as g.D.Disk.moment g.D.Disk.left_since g.D.Disk.seen g.D.Disk.may_leave c.args.disk.now c.finish.new.disk k (kept_of c.finish.new.self.store.journal) _ _ (rw c.in-Err.is at c.finish.ensures.ends)
    (λ j was own next flight h. answered_stopped g.O.Outlet.adding g.O.Outlet.tearing _ _ _ (ram_in d.machine) (ram_in c.step_on.new.machine) (ram_in c.finish.new.self.machine) marked _ _ _ _ _ next flight j c.args.self.now.store.batch c.take_clock.new.batch s c.step_on.new.machine.state _ c.args.value c.in-Err.stop (next_for k (g.D.Disk.may_leave c.args.disk.now) was j c.args.self.now.store.batch own c.requires.ready.opens) c.requires.asks c.requires.clock c.take_clock.ensures.taken.batch st c.take_clock.ensures.fits h)

pub has_numbers-requires-clause-place : goal.has_numbers-requires-clause-place
has_numbers-requires-clause-place g c = let z = small_size c.args.self.now.store.batch c.requires.ready.small in omega (arith, z)

pub take_clock-requires-clause-place : goal.take_clock-requires-clause-place
take_clock-requires-clause-place g c = let z = small_size c.args.self.now.store.batch c.requires.ready.small in omega (arith, z)

pub step_on-requires : goal.step_on-requires
step_on-requires g c =
    let n = clock_count c.args.self.now.machine.state c.take_clock.new.machine.state c.args.value c.take_clock.ensures.taken.machine in
    let m = c.requires.count in
    record { room = omega (arith, n, m) }

pub finish-requires-clause-count : goal.finish-requires-clause-count
finish-requires-clause-count g c =
    let n = clock_count c.args.self.now.machine.state c.take_clock.new.machine.state c.args.value c.take_clock.ensures.taken.machine in
    let k = step_counts c.take_clock.new.machine.state c.step_on.new.machine.state _ c.if-not-step_on.ensures.yes in
    let m = c.requires.count in
    omega (arith, n, k, m)

pub invariant_of-self : goal.invariant_of-self
invariant_of-self g c =
    let d = c.args.self.now in
    let same = c.take_clock.ensures.marks in
    let marks = c.step_on.ensures.marks in
    let ram = same_ram d.machine c.take_clock.new.machine (OfferClock c.args.value) c.take_clock.ensures.taken.machine (clock_ram d.machine.state c.args.value) same in
    let len : length c.step_on.new.machine.dirty ≡ length d.machine.dirty = marks.pages ∙ ap length same in
    let before : IsStale sha_hashes (ram_in c.take_clock.new.machine) d.tree = subst (λ (r : RamState). IsStale sha_hashes r d.tree) (sym ram) d.stale in
    record {
      fits = c.if-not-step_on.ensures.fits;
      pages = d.pages ∙ sym len;
      count = len ∙ d.count;
      stale = stale_kept sha_hashes (ram_in c.take_clock.new.machine) (ram_in c.step_on.new.machine) d.tree marks.pages marks.clean marks.same before;
      low = d.low;
      leaves = d.leaves;
    }

pub returns-in-Ok-clause-clock : goal.returns-in-Ok-clause-clock
returns-in-Ok-clause-clock g c =
    let s = c.args.self.now.machine.state in
    ap (λ (x : State). x.devices.clock) c.finish.ensures.state ∙ clock_used s c.step_on.new.machine.state _ c.args.value c.requires.asks (subst (λ (x : State). step_of x ≡ Some (c.step_on.new.machine.state, outs_made c.step_on.new.machine.state c.step_on.new.outs)) (c.take_clock.ensures.taken.machine ∙ clock_taken s c.args.value) c.if-not-step_on.ensures.yes)

pub returns-in-Err-clause-clock : goal.returns-in-Err-clause-clock
returns-in-Err-clause-clock g c =
    let s = c.args.self.now.machine.state in
    ap (λ (x : State). x.devices.clock) c.finish.ensures.state ∙ clock_used s c.step_on.new.machine.state _ c.args.value c.requires.asks (subst (λ (x : State). step_of x ≡ Some (c.step_on.new.machine.state, outs_made c.step_on.new.machine.state c.step_on.new.outs)) (c.take_clock.ensures.taken.machine ∙ clock_taken s c.args.value) c.if-not-step_on.ensures.yes)

pub returns-in-Err-clause-run : goal.returns-in-Err-clause-run
returns-in-Err-clause-run g c = runs_alike (Unit {0}) Turn c.in-Err.stop _ (rw c.in-Err.is at c.finish.ensures.run)

pub returns-in-Err-clause-unsaved : goal.returns-in-Err-clause-unsaved
returns-in-Err-clause-unsaved g c = unsaved_alike (Unit {0}) Turn c.in-Err.stop _ (rw c.in-Err.is at c.finish.ensures.unsaved)
