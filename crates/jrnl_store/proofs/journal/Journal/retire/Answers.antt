use Rattle.std.proofs.Common.{◌≡◌, ◌∙◌, ◌+◌, ◌<◌, ◌^◌, None, Some, ap, rules}
use Rattle.jrnl_store.specs.Kept.{Kept, kept}
use Rattle.jrnl_store.proofs.Retires.{marks_told, still_told, marked_told}
use Rattle.jrnl_store.proofs.journal.Journal.retire.Goals as goal

pub returns-then-is_full-clause-any_moment : goal.returns-then-is_full-clause-any_moment
returns-then-is_full-clause-any_moment g c = still_told g.D.Disk.moment g.D.Disk.left_since _ (kept c.args.self.now) c.args.at g.D.Disk.may_leave _ g.met.D.Disk.only_now

pub returns-in-Ok-clause-own : goal.returns-in-Ok-clause-own
returns-in-Ok-clause-own g c =
    let low : c.args.at < 2 ^ 64 = search rules in
    let goes : c.args.self.now.stop ≡ None = search rules in
    let is = c.is_marked.ensures ∙ ap (λ (k : Kept). record k { gate = k.gate + 5 + 9; mark = Some c.args.at }) c.append.ensures.kept in
    marked_told _ _ (kept c.args.self.now) (kept c.is_marked.new.self) c.args.at c.mark-items.result _ _ c.mark-items.ensures low c.requires.unmarked c.if-is_full.ensures goes is c.in-Ok.ensures.written

pub returns-in-Ok-clause-any_moment : goal.returns-in-Ok-clause-any_moment
returns-in-Ok-clause-any_moment g c =
    let low : c.args.at < 2 ^ 64 = search rules in
    marks_told g.D.Disk.moment g.D.Disk.left_since _ (kept c.args.self.now) c.args.at c.mark-items.result _ _ _ c.mark-items.ensures low c.requires.unmarked c.if-is_full.ensures c.append.ensures.any_moment

pub returns-in-Err-clause-any_moment : goal.returns-in-Err-clause-any_moment
returns-in-Err-clause-any_moment g c =
    let low : c.args.at < 2 ^ 64 = search rules in
    marks_told g.D.Disk.moment g.D.Disk.left_since _ (kept c.args.self.now) c.args.at c.mark-items.result _ _ _ c.mark-items.ensures low c.requires.unmarked c.if-is_full.ensures c.append.ensures.any_moment
