use Rattle.std.proofs.Common.{[], ◌∷◌, ◌++◌, Option, option_map, arith, ap, sym, ◌∙◌}
use Rattle.journal_model.specs.Part.{seal}
use Rattle.jrnl_store.specs.Kept.{kept as kept_of, ticket_view}
use Rattle.jrnl_store.specs.declared.ticket.Ticket.{Ticket}
use Rattle.record_model.specs.Released.{Sender}
use Rattle.record_turn.proofs.Batches.{seal_open, small_size}
use Rattle.record_turn.proofs.Seals.{seal_again_cut, seal_again_done, seal_cut_off, seal_done, seal_gone, seal_never, seal_signs_once}
use Rattle.record_turn.proofs.Told.{told_map, told_still}
use Rattle.record_turn.specs.Desk.{rows_of}
use Rattle.record_store.proofs.Unsaved.{unsaved_alike}
use Rattle.record_turn.proofs.desk.Desk.seal.Goals as goal
use Rattle.record_parts.specs.declared.answers.Sealed.{Sealed}
use Rattle.record_turn.proofs.Runs.{saves_run}

pub add_seal-requires : goal.add_seal-requires
add_seal-requires g c = let z = small_size c.args.self.now.store.batch c.requires.ready.small in omega (arith, z)

pub save-requires-clause-open : goal.save-requires-clause-open
save-requires-clause-open g c = seal_open (kept_of c.args.self.now.store.journal) c.args.self.now.store.batch c.add_seal.new.self c.requires.ready.opens c.add_seal.ensures.value

pub save-requires-clause-one : goal.save-requires-clause-one
save-requires-clause-one g c = seal_signs_once c.args.self.now.store.batch c.add_seal.new.self c.requires.ready.quiet c.add_seal.ensures.value

pub save-requires-clause-few : goal.save-requires-clause-few
save-requires-clause-few g c =
    let z = small_size c.args.self.now.store.batch c.requires.ready.small in
    let y = c.add_seal.ensures.size in
    omega (arith, y, z)

pub unreachable-requires : goal.unreachable-requires
unreachable-requires g c =
    seal_never (kept_of c.args.self.now.store.journal).standing c.args.self.now.store.batch c.add_seal.new.self c.requires.ready.quiet c.add_seal.ensures.value
    (ap (λ (x : Option Ticket). option_map ticket_view x) (sym c.in-Ok-None.field-0-is) ∙ c.in-Ok-None.ensures.ticket)

pub returns-in-Ok-clause-seals : goal.returns-in-Ok-clause-seals
returns-in-Ok-clause-seals g c =
    let k = kept_of c.args.self.now.store.journal in
    let b = c.args.self.now.store.batch in
    let s = c.args.self.now.machine.state in
    let who : Sender = record { key = c.args.self.now.press.key; own = s.devices.own } in
    let v = rw c.in-Some.is at c.last_seal.ensures.value in
    told_still g.D.Disk.moment g.D.Disk.left_since g.D.Disk.seen g.D.Disk.may_leave g.met.D.Disk.only_now c.args.disk.now k _ c.requires.ready.opens.run
    (λ j was own. (b.parts ++ seal ∷ [], seal_again_done g.O.Outlet.adding g.O.Outlet.tearing who k j (g.D.Disk.may_leave c.args.disk.now) was own b s (rows_of c.args.self.now.kept) _ (ticket_view c.in-Some.ticket) (g.O.Outlet.held c.args.outlet.now) _ v.0 v.1 c.in-Ok.ensures.released))

pub returns-in-Err-clause-seals : goal.returns-in-Err-clause-seals
returns-in-Err-clause-seals g c =
    let k = kept_of c.args.self.now.store.journal in
    let b = c.args.self.now.store.batch in
    let s = c.args.self.now.machine.state in
    let who : Sender = record { key = c.args.self.now.press.key; own = s.devices.own } in
    let v = rw c.in-Some.is at c.last_seal.ensures.value in
    told_still g.D.Disk.moment g.D.Disk.left_since g.D.Disk.seen g.D.Disk.may_leave g.met.D.Disk.only_now c.args.disk.now k _ c.requires.ready.opens.run
    (λ j was own. (b.parts ++ seal ∷ [], seal_again_cut g.O.Outlet.adding g.O.Outlet.tearing who k j (g.D.Disk.may_leave c.args.disk.now) was own b s (rows_of c.args.self.now.kept) _ (ticket_view c.in-Some.ticket) (g.O.Outlet.held c.args.outlet.now) _ v.0 v.1 c.in-Err.ensures.failed c.in-Err.ensures.faults))

pub returns-in-Err-save-clause-seals : goal.returns-in-Err-save-clause-seals
returns-in-Err-save-clause-seals g c =
    let k = kept_of c.args.self.now.store.journal in
    let b = c.args.self.now.store.batch in
    let s = c.args.self.now.machine.state in
    let who : Sender = record { key = c.args.self.now.press.key; own = s.devices.own } in
    let due = rw c.in-None.is at c.last_seal.ensures.value in
    told_map g.D.Disk.moment g.D.Disk.left_since g.D.Disk.seen g.D.Disk.may_leave c.args.disk.now c.save.new.disk k (kept_of c.save.new.self.journal) _ _ (rw c.in-Err-save.is at c.save.ensures.saved)
    (λ j was now own r. record {
      next = j;
      flight = c.add_seal.new.self.parts;
      holds = r.0;
      is = seal_gone g.O.Outlet.adding g.O.Outlet.tearing who k j (g.D.Disk.may_leave c.args.disk.now) was own b s (rows_of c.args.self.now.kept) _ (Option Ticket) c.add_seal.new.self c.save.new.self.batch.parts (g.O.Outlet.held c.args.outlet.now) c.in-Err-save.stop due c.add_seal.ensures.value (r.1 (g.O.Outlet.faults c.args.outlet.now) (g.O.Outlet.faults c.args.outlet.now));
    })

pub returns-in-Ok-release_auth-clause-seals : goal.returns-in-Ok-release_auth-clause-seals
returns-in-Ok-release_auth-clause-seals g c =
    let k = kept_of c.args.self.now.store.journal in
    let b = c.args.self.now.store.batch in
    let s = c.args.self.now.machine.state in
    let who : Sender = record { key = c.args.self.now.press.key; own = s.devices.own } in
    let due = rw c.in-None.is at c.last_seal.ensures.value in
    let t = ap (λ (x : Option Ticket). option_map ticket_view x) (sym c.in-Ok-Some.field-0-is) ∙ c.in-Ok-Some.ensures.ticket in
    told_map g.D.Disk.moment g.D.Disk.left_since g.D.Disk.seen g.D.Disk.may_leave c.args.disk.now c.save.new.disk k (kept_of c.save.new.self.journal) _ _ (rw c.in-Ok-Some.is at c.save.ensures.saved)
    (λ j was now own r. record {
      next = _;
      flight = c.add_seal.new.self.parts;
      holds = r.0;
      is = seal_done g.O.Outlet.adding g.O.Outlet.tearing who k j (g.D.Disk.may_leave c.args.disk.now) was own b s (rows_of c.args.self.now.kept) _ c.in-Ok-Some.field-0 c.add_seal.new.self (ticket_view c.in-Ok-Some.ticket) c.save.new.self.batch.parts (g.O.Outlet.held c.args.outlet.now) _ due c.requires.ready.quiet c.add_seal.ensures.value r.1 t c.in-Ok-release_auth.ensures.released;
    })

pub returns-in-Err-release_auth-clause-seals : goal.returns-in-Err-release_auth-clause-seals
returns-in-Err-release_auth-clause-seals g c =
    let k = kept_of c.args.self.now.store.journal in
    let b = c.args.self.now.store.batch in
    let s = c.args.self.now.machine.state in
    let who : Sender = record { key = c.args.self.now.press.key; own = s.devices.own } in
    let due = rw c.in-None.is at c.last_seal.ensures.value in
    let t = ap (λ (x : Option Ticket). option_map ticket_view x) (sym c.in-Ok-Some.field-0-is) ∙ c.in-Ok-Some.ensures.ticket in
    told_map g.D.Disk.moment g.D.Disk.left_since g.D.Disk.seen g.D.Disk.may_leave c.args.disk.now c.save.new.disk k (kept_of c.save.new.self.journal) _ _ (rw c.in-Ok-Some.is at c.save.ensures.saved)
    (λ j was now own r. record {
      next = _;
      flight = c.add_seal.new.self.parts;
      holds = r.0;
      is = seal_cut_off g.O.Outlet.adding g.O.Outlet.tearing who k j (g.D.Disk.may_leave c.args.disk.now) was own b s (rows_of c.args.self.now.kept) _ c.in-Ok-Some.field-0 c.add_seal.new.self (ticket_view c.in-Ok-Some.ticket) c.save.new.self.batch.parts (g.O.Outlet.held c.args.outlet.now) _ due c.requires.ready.quiet c.add_seal.ensures.value r.1 t c.in-Err-release_auth.ensures.failed c.in-Err-release_auth.ensures.faults;
    })

pub returns-in-Err-save-clause-run : goal.returns-in-Err-save-clause-run
returns-in-Err-save-clause-run g c = saves_run (Option Ticket) Sealed _ _ c.in-Err-save.stop _ (rw c.in-Err-save.is at c.save.ensures.faults)

pub returns-in-Err-release_auth-clause-run : goal.returns-in-Err-release_auth-clause-run
returns-in-Err-release_auth-clause-run g c = c.in-Ok-Some.ensures.open.run

pub returns-in-Err-save-clause-unsaved : goal.returns-in-Err-save-clause-unsaved
returns-in-Err-save-clause-unsaved g c = unsaved_alike (Option Ticket) Sealed c.in-Err-save.stop _ (rw c.in-Err-save.is at c.save.ensures.unsaved)
