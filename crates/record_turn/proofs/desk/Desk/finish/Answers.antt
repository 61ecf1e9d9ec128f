use Rattle.std.proofs.Common.{◌≡◌, ℕ, true, Option, ap, sym, subst, option_map, ◌∙◌}
use Rattle.avm_num.specs.Walk.{items_of}
use Rattle.journal_model.specs.Journal.{pages_ascend}
use Rattle.journal_model.specs.Standing.{Bounds}
use Rattle.journal_model.specs.Part.{page_at}
use Rattle.jrnl_store.specs.Kept.{kept as kept_of, ticket_view}
use Rattle.jrnl_store.specs.declared.ticket.Ticket.{Ticket}
use Rattle.record_batch.specs.Batch.{BatchData}
use Rattle.record_parts.specs.Outs.{AreQuiet, ram_in}
use Rattle.record_turn.proofs.Batches.{closing_some, made_open, made_sign, none_made}
use Rattle.record_turn.proofs.Finishes.{Wrote, finish_cut, finish_open, finish_refused, finish_saved, keeps}
use Rattle.record_turn.proofs.Keeps.{step_keeps}
use Rattle.record_turn.proofs.Told.{told_map, told_still}
use Rattle.record_turn.specs.Desk.{rows_of}
use Rattle.record_store.proofs.Unsaved.{unsaved_alike}
use Rattle.record_turn.proofs.desk.Desk.finish.Goals as goal
use Rattle.record_turn.proofs.Runs.{saves_run}

pub save-requires-clause-open : goal.save-requires-clause-open
save-requires-clause-open g c =
    let v = c.put_outs.ensures.value in
    made_open (kept_of c.args.self.now.store.journal) c.args.self.now.store.batch c.put_outs.new.batch c.args.self.now.machine.state v.0 _ c.requires.open v.3 (subst (λ (n : ℕ). pages_ascend 0 n (items_of page_at v.0) ≡ true) c.args.self.now.count v.2) c.put_outs.ensures.fits

pub save-requires-clause-some : goal.save-requires-clause-some
save-requires-clause-some g c =
    let v = c.put_outs.ensures.value in
    closing_some (kept_of c.args.self.now.store.journal).standing c.args.self.now.store.batch c.put_outs.new.batch c.args.self.now.machine.state v.0 _ v.3 (c.if-not-closes.ensures.loud c.args.self.now.machine.state)

pub save-requires-clause-one : goal.save-requires-clause-one
save-requires-clause-one g c =
    let v = c.put_outs.ensures.value in
    made_sign c.args.self.now.store.batch c.put_outs.new.batch c.args.self.now.machine.state v.0 c.args.self.now.outs c.requires.quiet v.3

pub returns-then-not-closes-clause-ends : goal.returns-then-not-closes-clause-ends
returns-then-not-closes-clause-ends g c =
    let k = kept_of c.args.self.now.store.journal in
    let b = c.args.self.now.store.batch in
    let s = c.args.self.now.machine.state in
    let v = c.put_outs.ensures.value in
    let w : Wrote k b c.put_outs.new.batch s c.put_outs.new.machine.state c.args.self.now.outs v.0 = record { opens = c.requires.open; batch = v.3; state = c.put_outs.ensures.state; quiet = c.requires.quiet; fits = c.put_outs.ensures.fits } in
    told_still g.D.Disk.moment g.D.Disk.left_since g.D.Disk.seen g.D.Disk.may_leave g.met.D.Disk.only_now c.args.disk.now k _ c.requires.open.run
    (λ j was own. (c.put_outs.new.batch.parts, finish_open g.O.Outlet.adding g.O.Outlet.tearing c.args.self.now.press.key k b c.put_outs.new.batch s c.put_outs.new.machine.state c.args.self.now.outs v.0 w (g.D.Disk.may_leave c.args.disk.now) was j own _ (g.O.Outlet.held c.args.outlet.now) (rows_of c.args.self.now.kept) (ram_in c.args.self.now.machine) (ram_in c.put_outs.new.machine) (step_keeps j b.parts s c.put_outs.new.machine.state c.args.self.now.all c.args.self.now.machine.dirty c.put_outs.new.machine.dirty c.args.self.now.outs v.0 c.put_outs.ensures.state c.put_outs.ensures.fits (subst (λ (n : ℕ). pages_ascend 0 n (items_of page_at v.0) ≡ true) (c.args.self.now.count ∙ ap (λ (x : Bounds). x.pages) own.keeps.bounds) v.2) c.put_outs.ensures.head v.1 c.put_outs.ensures.marks c.put_outs.ensures.quiet) (c.if-not-closes.ensures.quiet s) c.if-not-closes.ensures.small))

pub returns-then-not-closes-clause-open : goal.returns-then-not-closes-clause-open
returns-then-not-closes-clause-open g c =
    let v = c.put_outs.ensures.value in
    made_open (kept_of c.args.self.now.store.journal) c.args.self.now.store.batch c.put_outs.new.batch c.args.self.now.machine.state v.0 _ c.requires.open v.3 (subst (λ (n : ℕ). pages_ascend 0 n (items_of page_at v.0) ≡ true) c.args.self.now.count v.2) c.put_outs.ensures.fits

pub returns-then-not-closes-clause-quiet : goal.returns-then-not-closes-clause-quiet
returns-then-not-closes-clause-quiet g c =
    let v = c.put_outs.ensures.value in
    let s = c.args.self.now.machine.state in
    subst (λ (x : BatchData). AreQuiet x.parts) (sym (none_made c.args.self.now.store.batch c.put_outs.new.batch s v.0 _ v.3 (c.if-not-closes.ensures.quiet s))) c.requires.quiet

pub returns-in-Err-clause-ends : goal.returns-in-Err-clause-ends
returns-in-Err-clause-ends g c =
    let k = kept_of c.args.self.now.store.journal in
    let b = c.args.self.now.store.batch in
    let s = c.args.self.now.machine.state in
    let v = c.put_outs.ensures.value in
    let w : Wrote k b c.put_outs.new.batch s c.put_outs.new.machine.state c.args.self.now.outs v.0 = record { opens = c.requires.open; batch = v.3; state = c.put_outs.ensures.state; quiet = c.requires.quiet; fits = c.put_outs.ensures.fits } in
    told_map g.D.Disk.moment g.D.Disk.left_since g.D.Disk.seen g.D.Disk.may_leave c.args.disk.now c.save.new.disk k (kept_of c.save.new.self.journal) _ _ (rw c.in-Err.is at c.save.ensures.saved)
    (λ j was now own r. record {
      next = j;
      flight = c.put_outs.new.batch.parts;
      holds = r.0;
      is = finish_refused g.O.Outlet.adding g.O.Outlet.tearing c.args.self.now.press.key k b c.put_outs.new.batch s c.put_outs.new.machine.state c.args.self.now.outs v.0 w (g.D.Disk.may_leave c.args.disk.now) was j own (Option Ticket) _ (g.O.Outlet.held c.args.outlet.now) (rows_of c.args.self.now.kept) (ram_in c.args.self.now.machine) (ram_in c.put_outs.new.machine) c.save.new.self.batch.parts c.in-Err.stop (step_keeps j b.parts s c.put_outs.new.machine.state c.args.self.now.all c.args.self.now.machine.dirty c.put_outs.new.machine.dirty c.args.self.now.outs v.0 c.put_outs.ensures.state c.put_outs.ensures.fits (subst (λ (n : ℕ). pages_ascend 0 n (items_of page_at v.0) ≡ true) (c.args.self.now.count ∙ ap (λ (x : Bounds). x.pages) own.keeps.bounds) v.2) c.put_outs.ensures.head v.1 c.put_outs.ensures.marks c.put_outs.ensures.quiet) (c.if-not-closes.ensures.loud s) (r.1 (g.O.Outlet.faults c.args.outlet.now) (g.O.Outlet.faults c.args.outlet.now));
    })

pub returns-in-Ok-release_outs-clause-ends : goal.returns-in-Ok-release_outs-clause-ends
returns-in-Ok-release_outs-clause-ends g c =
    let k = kept_of c.args.self.now.store.journal in
    let b = c.args.self.now.store.batch in
    let s = c.args.self.now.machine.state in
    let v = c.put_outs.ensures.value in
    let w : Wrote k b c.put_outs.new.batch s c.put_outs.new.machine.state c.args.self.now.outs v.0 = record { opens = c.requires.open; batch = v.3; state = c.put_outs.ensures.state; quiet = c.requires.quiet; fits = c.put_outs.ensures.fits } in
    told_map g.D.Disk.moment g.D.Disk.left_since g.D.Disk.seen g.D.Disk.may_leave c.args.disk.now c.save.new.disk k (kept_of c.save.new.self.journal) _ _ (rw c.in-Ok.is at c.save.ensures.saved)
    (λ j was now own r. record {
      next = _;
      flight = c.put_outs.new.batch.parts;
      holds = r.0;
      is = finish_saved g.O.Outlet.adding g.O.Outlet.tearing c.args.self.now.press.key k b c.put_outs.new.batch s c.put_outs.new.machine.state c.args.self.now.outs v.0 w (g.D.Disk.may_leave c.args.disk.now) was j own c.in-Ok.ticket _ (g.O.Outlet.held c.args.outlet.now) (g.O.Outlet.held c.release_outs.new.outlet) (rows_of c.args.self.now.kept) (rows_of c.keep_outs.new.kept) (ram_in c.args.self.now.machine) (ram_in c.put_outs.new.machine) c.save.new.self.batch.parts (option_map ticket_view c.in-Ok.ticket) (step_keeps j b.parts s c.put_outs.new.machine.state c.args.self.now.all c.args.self.now.machine.dirty c.put_outs.new.machine.dirty c.args.self.now.outs v.0 c.put_outs.ensures.state c.put_outs.ensures.fits (subst (λ (n : ℕ). pages_ascend 0 n (items_of page_at v.0) ≡ true) (c.args.self.now.count ∙ ap (λ (x : Bounds). x.pages) own.keeps.bounds) v.2) c.put_outs.ensures.head v.1 c.put_outs.ensures.marks c.put_outs.ensures.quiet) (c.if-not-closes.ensures.loud s) (r.1 (g.O.Outlet.faults c.args.outlet.now) (g.O.Outlet.faults c.release_outs.new.outlet)) (rw c.in-Ok.is at c.save.ensures.ticket) c.in-Ok-release_outs.ensures.released
          (keeps g.O.Outlet.adding g.O.Outlet.tearing c.args.self.now.press.key k b c.put_outs.new.batch s c.put_outs.new.machine.state c.args.self.now.outs v.0 w (g.D.Disk.may_leave c.args.disk.now) was j own (rows_of c.args.self.now.kept) (rows_of c.keep_outs.new.kept) (option_map ticket_view c.in-Ok.ticket) (rw c.in-Ok.is at c.save.ensures.ticket) (c.keep_outs.ensures.kept j b s v.0));
    })

pub returns-in-Err-release_outs-clause-ends : goal.returns-in-Err-release_outs-clause-ends
returns-in-Err-release_outs-clause-ends g c =
    let k = kept_of c.args.self.now.store.journal in
    let b = c.args.self.now.store.batch in
    let s = c.args.self.now.machine.state in
    let v = c.put_outs.ensures.value in
    let w : Wrote k b c.put_outs.new.batch s c.put_outs.new.machine.state c.args.self.now.outs v.0 = record { opens = c.requires.open; batch = v.3; state = c.put_outs.ensures.state; quiet = c.requires.quiet; fits = c.put_outs.ensures.fits } in
    told_map g.D.Disk.moment g.D.Disk.left_since g.D.Disk.seen g.D.Disk.may_leave c.args.disk.now c.save.new.disk k (kept_of c.save.new.self.journal) _ _ (rw c.in-Ok.is at c.save.ensures.saved)
    (λ j was now own r. record {
      next = _;
      flight = c.put_outs.new.batch.parts;
      holds = r.0;
      is = finish_cut g.O.Outlet.adding g.O.Outlet.tearing c.args.self.now.press.key k b c.put_outs.new.batch s c.put_outs.new.machine.state c.args.self.now.outs v.0 w (g.D.Disk.may_leave c.args.disk.now) was j own c.in-Ok.ticket _ (g.O.Outlet.held c.args.outlet.now) (g.O.Outlet.held c.release_outs.new.outlet) (rows_of c.args.self.now.kept) (rows_of c.keep_outs.new.kept) (ram_in c.args.self.now.machine) (ram_in c.put_outs.new.machine) c.save.new.self.batch.parts (option_map ticket_view c.in-Ok.ticket) (step_keeps j b.parts s c.put_outs.new.machine.state c.args.self.now.all c.args.self.now.machine.dirty c.put_outs.new.machine.dirty c.args.self.now.outs v.0 c.put_outs.ensures.state c.put_outs.ensures.fits (subst (λ (n : ℕ). pages_ascend 0 n (items_of page_at v.0) ≡ true) (c.args.self.now.count ∙ ap (λ (x : Bounds). x.pages) own.keeps.bounds) v.2) c.put_outs.ensures.head v.1 c.put_outs.ensures.marks c.put_outs.ensures.quiet) (c.if-not-closes.ensures.loud s) (r.1 (g.O.Outlet.faults c.args.outlet.now) (g.O.Outlet.faults c.release_outs.new.outlet)) (rw c.in-Ok.is at c.save.ensures.ticket) c.in-Err-release_outs.ensures.failed c.in-Err-release_outs.ensures.faults
          (keeps g.O.Outlet.adding g.O.Outlet.tearing c.args.self.now.press.key k b c.put_outs.new.batch s c.put_outs.new.machine.state c.args.self.now.outs v.0 w (g.D.Disk.may_leave c.args.disk.now) was j own (rows_of c.args.self.now.kept) (rows_of c.keep_outs.new.kept) (option_map ticket_view c.in-Ok.ticket) (rw c.in-Ok.is at c.save.ensures.ticket) (c.keep_outs.ensures.kept j b s v.0));
    })

pub returns-in-Err-clause-run : goal.returns-in-Err-clause-run
returns-in-Err-clause-run g c = saves_run (Option Ticket) (Unit {0}) _ _ c.in-Err.stop _ (rw c.in-Err.is at c.save.ensures.faults)

pub returns-in-Err-release_outs-clause-run : goal.returns-in-Err-release_outs-clause-run
returns-in-Err-release_outs-clause-run g c = c.in-Ok.ensures.open.run

pub returns-in-Err-clause-unsaved : goal.returns-in-Err-clause-unsaved
returns-in-Err-clause-unsaved g c = unsaved_alike (Option Ticket) (Unit {0}) c.in-Err.stop _ (rw c.in-Err.is at c.save.ensures.unsaved)
