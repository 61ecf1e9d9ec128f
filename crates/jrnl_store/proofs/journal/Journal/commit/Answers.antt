use Rattle.std.proofs.Common.{◌≡◌, ◌∙◌, ◌+◌, sym, ap, subst, length, Option, None, Result, Ok, Err, rules}
use Rattle.jrnl_part.specs.Views.{standing_view}
use Rattle.jrnl_store.specs.Own.{IsBatch, CommitCause}
use Rattle.jrnl_store.specs.declared.ticket.Ticket.{Ticket}
use Rattle.jrnl_store.specs.declared.fault.StoreFault.{StoreFault}
use Rattle.jrnl_store.specs.declared.fault.StoreFault.TheVariants as fault
use Rattle.jrnl_store.specs.Kept.{Kept, kept}
use Rattle.jrnl_store.proofs.Commits.{moments_told, still_told, own_told, answers_told}
use Rattle.jrnl_store.proofs.journal.Journal.commit.Goals as goal

pub returns-in_default-behind-clause-any_moment : goal.returns-in_default-behind-clause-any_moment
returns-in_default-behind-clause-any_moment g c =
    still_told g.D.Disk.moment g.D.Disk.left_since _ (kept c.args.self.now) c.args.batch.now.bytes g.D.Disk.may_leave _ g.met.D.Disk.only_now

pub returns-then-is_full-clause-any_moment : goal.returns-then-is_full-clause-any_moment
returns-then-is_full-clause-any_moment g c =
    still_told g.D.Disk.moment g.D.Disk.left_since _ (kept c.args.self.now) c.args.batch.now.bytes g.D.Disk.may_leave _ g.met.D.Disk.only_now

pub returns-in-Ok-clause-own : goal.returns-in-Ok-clause-own
returns-in-Ok-clause-own g c =
    let r = c.bytes-items.ensures in
    let items = c.bytes-items.result.now in
    let b : IsBatch (kept c.args.self.now) items = subst (IsBatch (kept c.args.self.now)) (sym r) c.requires.batch in
    let run : c.args.self.now.stop ≡ None = search rules in
    let is = c.goes_behind.ensures.kept ∙ ap (λ (k : Kept). record k { gate = k.gate + 5 + length items; standing = standing_view c.in-Some-behind.stand }) c.append.ensures.kept in
    rw (← r) (own_told _ _ (kept c.args.self.now) (kept c.goes_behind.new.self) items _ _ (standing_view c.in-Some-behind.stand) b c.requires.unmarked c.if-is_full.ensures run c.in-Some-behind.ensures.value.value is c.in-Ok.ensures.written)

pub returns-in-Ok-clause-any_moment : goal.returns-in-Ok-clause-any_moment
returns-in-Ok-clause-any_moment g c =
    let r = c.bytes-items.ensures in
    let items = c.bytes-items.result.now in
    let b : IsBatch (kept c.args.self.now) items = subst (IsBatch (kept c.args.self.now)) (sym r) c.requires.batch in
    rw (← r) (moments_told g.D.Disk.moment g.D.Disk.left_since _ (kept c.args.self.now) items _ _ _ (standing_view c.in-Some-behind.stand) b c.requires.unmarked c.if-is_full.ensures c.in-Some-behind.ensures.value.value c.append.ensures.any_moment)

pub returns-in-Err-clause-any_moment : goal.returns-in-Err-clause-any_moment
returns-in-Err-clause-any_moment g c =
    let r = c.bytes-items.ensures in
    let items = c.bytes-items.result.now in
    let b : IsBatch (kept c.args.self.now) items = subst (IsBatch (kept c.args.self.now)) (sym r) c.requires.batch in
    rw (← r) (moments_told g.D.Disk.moment g.D.Disk.left_since _ (kept c.args.self.now) items _ _ _ (standing_view c.in-Some-behind.stand) b c.requires.unmarked c.if-is_full.ensures c.in-Some-behind.ensures.value.value c.append.ensures.any_moment)

pub returns-in_default-behind-clause-answers : goal.returns-in_default-behind-clause-answers
returns-in_default-behind-clause-answers g c =
    let answer : Result (Option Ticket) StoreFault = Err fault.LeavesSpent in
    let cause : CommitCause (kept c.args.self.now) c.args.batch.now.bytes answer = search rules in
    answers_told _ (kept c.args.self.now) c.args.batch.now.bytes (g.D.Disk.may_leave c.args.disk.now) answer c.requires.batch cause

pub returns-then-is_full-clause-answers : goal.returns-then-is_full-clause-answers
returns-then-is_full-clause-answers g c =
    let answer : Result (Option Ticket) StoreFault = Err fault.Full in
    let cause : CommitCause (kept c.args.self.now) c.args.batch.now.bytes answer = search rules in
    answers_told _ (kept c.args.self.now) c.args.batch.now.bytes (g.D.Disk.may_leave c.args.disk.now) answer c.requires.batch cause

pub returns-in-Ok-clause-answers : goal.returns-in-Ok-clause-answers
returns-in-Ok-clause-answers g c =
    let answer : Result (Option Ticket) StoreFault = Ok c.goes_behind.result in
    let cause : CommitCause (kept c.args.self.now) c.args.batch.now.bytes answer = search rules in
    answers_told _ (kept c.args.self.now) c.args.batch.now.bytes (g.D.Disk.may_leave c.args.disk.now) answer c.requires.batch cause

pub returns-in-Err-clause-answers : goal.returns-in-Err-clause-answers
returns-in-Err-clause-answers g c =
    let answer : Result (Option Ticket) StoreFault = Err fault.DiskFault in
    let cause : CommitCause (kept c.args.self.now) c.args.batch.now.bytes answer = search rules in
    answers_told _ (kept c.args.self.now) c.args.batch.now.bytes (g.D.Disk.may_leave c.args.disk.now) answer c.requires.batch cause
