use Rattle.std.proofs.Common.{◌≡◌, ap, subst, sym, Err, Option, ◌∙◌}
use Rattle.jrnl_store.specs.Kept.{kept, ticket_between}
use Rattle.jrnl_store.specs.declared.fault.Stop.{Stop}
use Rattle.jrnl_store.specs.declared.ticket.Ticket.{Ticket}
use Rattle.record_batch.specs.Batch.{BatchData}
use Rattle.record_store.proofs.Batches.{is_batch, spelled, ticket_first}
use Rattle.record_store.proofs.Saved.{open_saved, saved_told, stands_behind}
use Rattle.record_store.proofs.Unsaved.{still, unsaved}
use Rattle.record_store.specs.Saving.{StandsStill, WhereUnsaved}
use Rattle.record_store.proofs.store.Store.save.Goals as goal

pub commit-requires-clause-batch : goal.commit-requires-clause-batch
commit-requires-clause-batch g c =
    is_batch (kept c.args.self.now.journal) c.args.self.now.batch c.room.result.now.bytes c.room.ensures.whole c.room.ensures.size c.requires.open c.requires.some c.requires.one c.requires.few

pub returns-in-Ok-clause-saved : goal.returns-in-Ok-clause-saved
returns-in-Ok-clause-saved g c =
    let k = kept c.args.self.now.journal in
    let b = c.args.self.now.batch in
    let items = c.room.result.now.bytes in
    let fits = spelled items b c.room.ensures.whole c.room.ensures.size in
    saved_told g.D.Disk.moment g.D.Disk.left_since g.D.Disk.seen g.D.Disk.may_leave c.args.disk.now c.commit.new.disk k (kept c.commit.new.self) b c.clear.new.self items fits c.requires.open.run c.in-Ok.ticket (g.D.Disk.faults c.args.disk.now) (g.D.Disk.faults c.commit.new.disk) (ap (λ (x : BatchData). x.parts) c.clear.ensures) (g.D.Disk.seen c.args.disk.now) (g.D.Disk.seen c.commit.new.disk)
    (rw c.in-Ok.is at c.commit.ensures.answers) (rw c.in-Ok.is at c.commit.ensures.own) c.commit.ensures.any_moment

pub returns-in-Ok-clause-open : goal.returns-in-Ok-clause-open
returns-in-Ok-clause-open g c =
    let k = kept c.args.self.now.journal in
    let n = kept c.commit.new.self in
    let b = c.args.self.now.batch in
    let items = c.room.result.now.bytes in
    let is = is_batch k b items c.room.ensures.whole c.room.ensures.size c.requires.open c.requires.some c.requires.one c.requires.few in
    let leaves = rw c.in-Ok.is at c.commit.ensures.kept in
    open_saved k n b c.clear.new.self items c.requires.open leaves.1 (stands_behind k n b items is (spelled items b c.room.ensures.whole c.room.ensures.size).parts leaves.0) c.clear.ensures

pub returns-in-Ok-clause-ticket : goal.returns-in-Ok-clause-ticket
returns-in-Ok-clause-ticket g c =
    let k = kept c.args.self.now.journal in
    let n = kept c.commit.new.self in
    let b = c.args.self.now.batch in
    let items = c.room.result.now.bytes in
    let is = is_batch k b items c.room.ensures.whole c.room.ensures.size c.requires.open c.requires.some c.requires.one c.requires.few in
    let leaves = rw c.in-Ok.is at c.commit.ensures.kept in
    let stands = stands_behind k n b items is (spelled items b c.room.ensures.whole c.room.ensures.size).parts leaves.0 in
    rw c.in-Ok.is at c.commit.ensures.ticket ∙ ap (ticket_between k.standing) stands ∙ ticket_first k.standing b.parts c.requires.one

pub returns-in-Err-clause-unsaved : goal.returns-in-Err-clause-unsaved
returns-in-Err-clause-unsaved g c =
    let k = kept c.args.self.now.journal in
    let n = kept c.commit.new.self in
    let old = c.args.disk.now in
    let new = c.commit.new.disk in
    subst (λ (s : Stop). WhereUnsaved {T = Option Ticket} (Err s) (StandsStill n (g.D.Disk.may_leave new) (g.D.Disk.seen new))) (sym c.why.ensures)
    (unsaved (Option Ticket) (Option Ticket) k n c.room.result.now.bytes c.in-Err.fault (new ≡ old) (StandsStill n (g.D.Disk.may_leave new) (g.D.Disk.seen new)) c.requires.open.run (rw c.in-Err.is at c.commit.ensures.cause) (rw c.in-Err.is at c.commit.ensures.kept) (rw c.in-Err.is at c.commit.ensures.quiet)
    (λ stop is quiet. subst (λ d. StandsStill n (g.D.Disk.may_leave d) (g.D.Disk.seen d)) (sym quiet) (still k n stop (g.D.Disk.may_leave old) (g.D.Disk.seen old) c.requires.open.run c.requires.own is)))
