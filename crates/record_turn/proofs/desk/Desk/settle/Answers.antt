use Rattle.std.proofs.Common.{sym, refl, rules, ◌∙◌, inl, inr}
use Rattle.jrnl_store.specs.Kept.{kept as kept_of}
use Rattle.record_turn.proofs.Batches.{none_signs, some_large}
use Rattle.record_turn.proofs.Told.{told_map, told_still}
use Rattle.record_store.proofs.Unsaved.{unsaved_alike}
use Rattle.record_turn.proofs.desk.Desk.settle.Goals as goal
use Rattle.std.proofs.Common.{Option}
use Rattle.jrnl_store.specs.declared.ticket.Ticket.{Ticket}
use Rattle.record_turn.proofs.Runs.{saves_run}

pub save-requires-clause-some : goal.save-requires-clause-some
save-requires-clause-some g c = some_large c.args.self.now.store.batch.parts (sym c.is_large.ensures ∙ c.if-not-is_large.false)

pub save-requires-clause-one : goal.save-requires-clause-one
save-requires-clause-one g c = none_signs c.args.self.now.store.batch.parts c.requires.quiet

pub returns-then-not-is_large-clause-settled : goal.returns-then-not-is_large-clause-settled
returns-then-not-is_large-clause-settled g c =
    told_still g.D.Disk.moment g.D.Disk.left_since g.D.Disk.seen g.D.Disk.may_leave g.met.D.Disk.only_now c.args.disk.now (kept_of c.args.self.now.store.journal) _ c.requires.open.run
    (λ j was own. (c.args.self.now.store.batch.parts, (refl, inl (search rules, refl, refl))))

pub returns-in-Ok-clause-settled : goal.returns-in-Ok-clause-settled
returns-in-Ok-clause-settled g c =
    told_map g.D.Disk.moment g.D.Disk.left_since g.D.Disk.seen g.D.Disk.may_leave c.args.disk.now c.save.new.disk (kept_of c.args.self.now.store.journal) (kept_of c.save.new.self.journal) _ _ (rw c.in-Ok.is at c.save.ensures.saved)
    (λ j was now own r. record { next = _; flight = c.args.self.now.store.batch.parts; holds = r.0; is = (refl, inr (search rules, λ n. r.1 n n)) })

pub returns-in-Err-clause-settled : goal.returns-in-Err-clause-settled
returns-in-Err-clause-settled g c =
    told_map g.D.Disk.moment g.D.Disk.left_since g.D.Disk.seen g.D.Disk.may_leave c.args.disk.now c.save.new.disk (kept_of c.args.self.now.store.journal) (kept_of c.save.new.self.journal) _ _ (rw c.in-Err.is at c.save.ensures.saved)
    (λ j was now own r. record { next = j; flight = c.args.self.now.store.batch.parts; holds = r.0; is = (refl, refl, search rules, λ n. r.1 n n) })

pub returns-in-Err-clause-run : goal.returns-in-Err-clause-run
returns-in-Err-clause-run g c = saves_run (Option Ticket) (Unit {0}) _ _ c.in-Err.stop _ (rw c.in-Err.is at c.save.ensures.faults)

pub returns-in-Err-clause-unsaved : goal.returns-in-Err-clause-unsaved
returns-in-Err-clause-unsaved g c = unsaved_alike (Option Ticket) (Unit {0}) c.in-Err.stop _ (rw c.in-Err.is at c.save.ensures.unsaved)
