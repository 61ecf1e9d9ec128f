use Rattle.std.proofs.Common.{◌≡◌, length, Some, arith, ap, sym, subst, refl, ◌∙◌}
use Rattle.avm_model.specs.Content.{FitsContent}
use Rattle.avm_model.specs.Machine.{MachineState}
use Rattle.avm_model.specs.Memory.{RamState}
use Rattle.avm_model.specs.Offer.{OfferAck, OfferData, packet_offer}
use Rattle.avm_model.specs.Pages.{sha_hashes}
use Rattle.jrnl_store.specs.Kept.{kept as kept_of}
use Rattle.page_tree.specs.Nodes.{IsStale}
use Rattle.record_batch.specs.Batch.{BatchData}
use Rattle.record_kept.specs.Tickets.{AreKeptOf}
use Rattle.record_machine.specs.Taking.{Takes}
use Rattle.record_model.specs.Recording.{offer_content}
use Rattle.record_packets.proofs.Takings.{acted_from, as_offered, packet_clock, packet_ram, told_kept}
use Rattle.record_packets.specs.Coming.{Came}
use Rattle.record_store.proofs.Unsaved.{unsaved_alike}
use Rattle.record_packets.proofs.coming.take_packet.Goals as goal
use Rattle.record_parts.proofs.Effects.{input_quiet}
use Rattle.record_parts.specs.Outs.{AreQuiet, ram_in}
use Rattle.record_parts.specs.declared.answers.Turn.{Turn}
use Rattle.record_turn.proofs.Batches.{input_open, input_size, small_size}
use Rattle.record_turn.proofs.Finishes.{next_for}
use Rattle.record_turn.proofs.Settles.{acted_at, counts_err, taken_settled, taken_unsettled}
use Rattle.record_turn.proofs.Told.{told_as}
use Rattle.record_turn.proofs.Keeps.{beside_same}
use Rattle.record_turn.specs.Desk.{rows_of}
use Rattle.record_turn.specs.Keeping.{aside_of}
use Rattle.record_turn.proofs.Runs.{runs_alike}

pub has_numbers-requires-clause-place : goal.has_numbers-requires-clause-place
has_numbers-requires-clause-place g c = let z = small_size c.args.desk.now.store.batch c.requires.ready.small in omega (arith, z)

pub take_packet-requires-clause-place : goal.take_packet-requires-clause-place
take_packet-requires-clause-place g c = let z = small_size c.args.desk.now.store.batch c.requires.ready.small in omega (arith, z)

pub invariant_of-desk : goal.invariant_of-desk
invariant_of-desk g c =
    let d = c.args.desk.now in
    let same = c.take_packet.ensures.marks in
    let ram = packet_ram c.take_packet.result d.machine c.take_packet.new.machine c.args.bytes.now d.store.batch c.take_packet.new.batch c.take_packet.ensures.taken c.take_packet.ensures.same same in
    let len : length c.take_packet.new.machine.dirty ≡ length d.machine.dirty = ap length same in
    record { fits = d.fits; pages = d.pages ∙ sym len; count = len ∙ d.count; stale = subst (λ (r : RamState). IsStale sha_hashes r d.tree) (sym ram) d.stale; low = d.low; leaves = d.leaves }

pub settle-requires-clause-open : goal.settle-requires-clause-open
settle-requires-clause-open g c =
    let d = c.args.desk.now in
    let takes : Takes (OfferAck c.args.bytes.now) d.machine.state c.take_packet.new.machine.state d.store.batch c.take_packet.new.batch = rw c.in-Ok-Acked.field-0-is at c.in-Ok-Acked.ensures.taken in
    input_open (kept_of d.store.journal) d.store.batch c.take_packet.new.batch d.machine.state.count (OfferAck c.args.bytes.now) c.requires.ready.opens takes.batch

pub settle-requires-clause-quiet : goal.settle-requires-clause-quiet
settle-requires-clause-quiet g c =
    let d = c.args.desk.now in
    let takes : Takes (OfferAck c.args.bytes.now) d.machine.state c.take_packet.new.machine.state d.store.batch c.take_packet.new.batch = rw c.in-Ok-Acked.field-0-is at c.in-Ok-Acked.ensures.taken in
    let fits : FitsContent (offer_content d.machine.state.count (OfferAck c.args.bytes.now)) = rw c.in-Ok-Acked.field-0-is at c.in-Ok-Acked.ensures.fits in
    subst (λ (x : BatchData). AreQuiet x.parts) (sym takes.batch) (input_quiet d.store.batch d.machine.state.count (OfferAck c.args.bytes.now) c.requires.ready.quiet refl fits)

pub settle-requires-clause-place : goal.settle-requires-clause-place
settle-requires-clause-place g c =
    let d = c.args.desk.now in
    let takes : Takes (OfferAck c.args.bytes.now) d.machine.state c.take_packet.new.machine.state d.store.batch c.take_packet.new.batch = rw c.in-Ok-Acked.field-0-is at c.in-Ok-Acked.ensures.taken in
    let z = small_size d.store.batch c.requires.ready.small in
    let y = input_size d.store.batch c.take_packet.new.batch d.machine.state.count (OfferAck c.args.bytes.now) takes.batch in
    let few = c.requires.few in
    omega (arith, y, z, few)

pub returns-in-Ok-Recv-clause-clock : goal.returns-in-Ok-Recv-clause-clock
returns-in-Ok-Recv-clause-clock g c =
    let d = c.args.desk.now in
    ap (λ (m : MachineState). m.state.devices.clock) c.acknowledge.ensures.machine ∙ packet_clock c.take_packet.result d.machine c.take_packet.new.machine c.args.bytes.now d.store.batch c.take_packet.new.batch c.take_packet.ensures.taken c.take_packet.ensures.same

pub returns-in-Ok-clause-clock : goal.returns-in-Ok-clause-clock
returns-in-Ok-clause-clock g c =
    let d = c.args.desk.now in
    ap (λ (m : MachineState). m.state.devices.clock) c.settle.ensures.machine ∙ packet_clock c.take_packet.result d.machine c.take_packet.new.machine c.args.bytes.now d.store.batch c.take_packet.new.batch c.take_packet.ensures.taken c.take_packet.ensures.same

pub returns-in-Err-settle-clause-clock : goal.returns-in-Err-settle-clause-clock
returns-in-Err-settle-clause-clock g c =
    let d = c.args.desk.now in
    ap (λ (m : MachineState). m.state.devices.clock) c.settle.ensures.machine ∙ packet_clock c.take_packet.result d.machine c.take_packet.new.machine c.args.bytes.now d.store.batch c.take_packet.new.batch c.take_packet.ensures.taken c.take_packet.ensures.same

pub returns-in-Err-settle-clause-outlet_faults : goal.returns-in-Err-settle-clause-outlet_faults
returns-in-Err-settle-clause-outlet_faults g c =
    let n = g.O.Outlet.faults c.args.outlet.now in
    let h = c.settle.ensures.outlet_faults n in
    counts_err (Unit {0}) Turn n n c.in-Err-settle.stop (rw c.in-Err-settle.is at h)

pub returns-in-Ok-clause-acts : goal.returns-in-Ok-clause-acts
returns-in-Ok-clause-acts g c =
    let d = c.args.desk.now in
    let k = kept_of d.store.journal in
    let b = d.store.batch in
    let s = d.machine.state in
    let u = c.take_packet.new.machine.state in
    let o = OfferAck c.args.bytes.now in
    let takes : Takes (OfferAck c.args.bytes.now) s u b c.take_packet.new.batch = rw c.in-Ok-Acked.field-0-is at c.in-Ok-Acked.ensures.taken in
    let fits : FitsContent (offer_content s.count (OfferAck c.args.bytes.now)) = rw c.in-Ok-Acked.field-0-is at c.in-Ok-Acked.ensures.fits in
    let offer : packet_offer c.args.bytes.now ≡ Some (OfferAck c.args.bytes.now) = rw c.in-Ok-Acked.field-0-is at c.in-Ok-Acked.ensures.offer in
    let quiet : AreQuiet c.take_packet.new.batch.parts = subst (λ (x : BatchData). AreQuiet x.parts) (sym takes.batch) (input_quiet b s.count o c.requires.ready.quiet refl fits) in
    let ram = packet_ram c.take_packet.result d.machine c.take_packet.new.machine c.args.bytes.now b c.take_packet.new.batch c.take_packet.ensures.taken c.take_packet.ensures.same c.take_packet.ensures.marks in
    let stays : aside_of c.settle.new.self.kept c.settle.new.self.machine ≡ aside_of d.kept d.machine = beside_same (rows_of c.settle.new.self.kept) (rows_of d.kept) (ram_in c.settle.new.self.machine) (ram_in d.machine) c.settle.ensures.kept (ap ram_in c.settle.ensures.machine ∙ ram) in
    told_kept g.D.Disk.moment g.D.Disk.left_since g.D.Disk.seen g.D.Disk.may_leave c.args.disk.now c.settle.new.disk k (kept_of c.settle.new.self.store.journal) (AreKeptOf (rows_of d.kept)) _
    (told_as g.D.Disk.moment g.D.Disk.left_since g.D.Disk.seen g.D.Disk.may_leave c.args.disk.now c.settle.new.disk k (kept_of c.settle.new.self.store.journal) _ _ (rw c.in-Ok.is at c.settle.ensures.settled)
    (λ j was own next flight h. as_offered g.O.Outlet.adding g.O.Outlet.tearing _ (packet_offer c.args.bytes.now) (Some o) _ _ _ _ _ _ _ _ _ next flight offer
    (acted_at g.O.Outlet.adding g.O.Outlet.tearing d.press.key _ _ _ (aside_of d.kept d.machine) (aside_of c.settle.new.self.kept c.settle.new.self.machine) _ u c.settle.new.self.machine.state _ _ _ _ next flight (ap (λ (m : MachineState). m.state) c.settle.ensures.machine) stays
    (taken_settled g.O.Outlet.adding g.O.Outlet.tearing _ (aside_of d.kept d.machine) (g.O.Outlet.held c.args.outlet.now) j b c.take_packet.new.batch s u o (next_for k (g.D.Disk.may_leave c.args.disk.now) was j b own c.requires.ready.opens) takes refl quiet fits c.in-Ok.field-0 c.settle.new.self.store.batch.parts (g.D.Disk.faults c.args.disk.now) (g.D.Disk.faults c.settle.new.disk) (g.O.Outlet.faults c.args.outlet.now) next flight h))))

pub returns-in-Err-settle-clause-acts : goal.returns-in-Err-settle-clause-acts
returns-in-Err-settle-clause-acts g c =
    let d = c.args.desk.now in
    let k = kept_of d.store.journal in
    let b = d.store.batch in
    let s = d.machine.state in
    let u = c.take_packet.new.machine.state in
    let o = OfferAck c.args.bytes.now in
    let takes : Takes (OfferAck c.args.bytes.now) s u b c.take_packet.new.batch = rw c.in-Ok-Acked.field-0-is at c.in-Ok-Acked.ensures.taken in
    let fits : FitsContent (offer_content s.count (OfferAck c.args.bytes.now)) = rw c.in-Ok-Acked.field-0-is at c.in-Ok-Acked.ensures.fits in
    let offer : packet_offer c.args.bytes.now ≡ Some (OfferAck c.args.bytes.now) = rw c.in-Ok-Acked.field-0-is at c.in-Ok-Acked.ensures.offer in
    let quiet : AreQuiet c.take_packet.new.batch.parts = subst (λ (x : BatchData). AreQuiet x.parts) (sym takes.batch) (input_quiet b s.count o c.requires.ready.quiet refl fits) in
    let ram = packet_ram c.take_packet.result d.machine c.take_packet.new.machine c.args.bytes.now b c.take_packet.new.batch c.take_packet.ensures.taken c.take_packet.ensures.same c.take_packet.ensures.marks in
    let stays : aside_of c.settle.new.self.kept c.settle.new.self.machine ≡ aside_of d.kept d.machine = beside_same (rows_of c.settle.new.self.kept) (rows_of d.kept) (ram_in c.settle.new.self.machine) (ram_in d.machine) c.settle.ensures.kept (ap ram_in c.settle.ensures.machine ∙ ram) in
    told_kept g.D.Disk.moment g.D.Disk.left_since g.D.Disk.seen g.D.Disk.may_leave c.args.disk.now c.settle.new.disk k (kept_of c.settle.new.self.store.journal) (AreKeptOf (rows_of d.kept)) _
    (told_as g.D.Disk.moment g.D.Disk.left_since g.D.Disk.seen g.D.Disk.may_leave c.args.disk.now c.settle.new.disk k (kept_of c.settle.new.self.store.journal) _ _ (rw c.in-Err-settle.is at c.settle.ensures.settled)
    (λ j was own next flight h. as_offered g.O.Outlet.adding g.O.Outlet.tearing _ (packet_offer c.args.bytes.now) (Some o) _ _ _ _ _ _ _ _ _ next flight offer
    (acted_at g.O.Outlet.adding g.O.Outlet.tearing d.press.key _ _ _ (aside_of d.kept d.machine) (aside_of c.settle.new.self.kept c.settle.new.self.machine) _ u c.settle.new.self.machine.state _ _ _ _ next flight (ap (λ (m : MachineState). m.state) c.settle.ensures.machine) stays
    (taken_unsettled g.O.Outlet.adding g.O.Outlet.tearing _ (aside_of d.kept d.machine) (g.O.Outlet.held c.args.outlet.now) j b c.take_packet.new.batch s u o (next_for k (g.D.Disk.may_leave c.args.disk.now) was j b own c.requires.ready.opens) takes refl quiet fits (Unit {0}) c.settle.new.self.store.batch.parts (g.D.Disk.faults c.args.disk.now) (g.D.Disk.faults c.settle.new.disk) (g.O.Outlet.faults c.args.outlet.now) c.in-Err-settle.stop next flight h))))

pub returns-in-Ok-Recv-clause-acts : goal.returns-in-Ok-Recv-clause-acts
returns-in-Ok-Recv-clause-acts g c =
    let d = c.args.desk.now in
    let k = kept_of d.store.journal in
    let b = d.store.batch in
    let s = d.machine.state in
    let u = c.take_packet.new.machine.state in
    let o = OfferData c.args.bytes.now in
    let takes : Takes (OfferData c.args.bytes.now) s u b c.take_packet.new.batch = rw c.in-Ok-Recv.field-0-is at c.in-Ok-Recv.ensures.taken in
    let fits : FitsContent (offer_content s.count (OfferData c.args.bytes.now)) = rw c.in-Ok-Recv.field-0-is at c.in-Ok-Recv.ensures.fits in
    let offer : packet_offer c.args.bytes.now ≡ Some (OfferData c.args.bytes.now) = rw c.in-Ok-Recv.field-0-is at c.in-Ok-Recv.ensures.offer in
    let came : Came k s u b c.take_packet.new.batch c.args.bytes.now = record { ready = c.requires.ready; takes = takes; fits = fits } in
    let ram = packet_ram c.take_packet.result d.machine c.take_packet.new.machine c.args.bytes.now b c.take_packet.new.batch c.take_packet.ensures.taken c.take_packet.ensures.same c.take_packet.ensures.marks in
    let stays : aside_of d.kept c.take_packet.new.machine ≡ aside_of d.kept d.machine = beside_same (rows_of d.kept) (rows_of d.kept) (ram_in c.take_packet.new.machine) (ram_in d.machine) refl ram in
    told_kept g.D.Disk.moment g.D.Disk.left_since g.D.Disk.seen g.D.Disk.may_leave c.args.disk.now c.acknowledge.new.disk k (kept_of c.acknowledge.new.desk.store.journal) (AreKeptOf (rows_of d.kept)) _
    (told_as g.D.Disk.moment g.D.Disk.left_since g.D.Disk.seen g.D.Disk.may_leave c.args.disk.now c.acknowledge.new.disk k (kept_of c.acknowledge.new.desk.store.journal) _ _ (c.acknowledge.ensures.acts s b (sym c.count-count.ensures) came)
    (λ j was own next flight h. as_offered g.O.Outlet.adding g.O.Outlet.tearing _ (packet_offer c.args.bytes.now) (Some o) _ _ _ _ _ _ _ _ _ next flight offer
    (acted_from g.O.Outlet.adding g.O.Outlet.tearing _ _ _ (aside_of d.kept d.machine) (aside_of d.kept c.take_packet.new.machine) _ _ _ _ _ _ _ next flight stays h)))

pub returns-in-Err-settle-clause-run : goal.returns-in-Err-settle-clause-run
returns-in-Err-settle-clause-run g c = runs_alike (Unit {0}) Turn c.in-Err-settle.stop _ (rw c.in-Err-settle.is at c.settle.ensures.run)

pub returns-in-Err-settle-clause-unsaved : goal.returns-in-Err-settle-clause-unsaved
returns-in-Err-settle-clause-unsaved g c = unsaved_alike (Unit {0}) Turn c.in-Err-settle.stop _ (rw c.in-Err-settle.is at c.settle.ensures.unsaved)
