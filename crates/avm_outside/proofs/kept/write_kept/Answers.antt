use Rattle.std.proofs.Common.{length, Result, Ok, Err, OnErr}
use Rattle.avm_outside.proofs.Runs.{write_leaves, sync_leaves, read_torn}
use Rattle.avm_outside.proofs.kept.write_kept.Goals as goal

pub returns-in_err-write_at-clause-any_moment : goal.returns-in_err-write_at-clause-any_moment
returns-in_err-write_at-clause-any_moment g c =
    write_leaves g.D.Disk.moment g.D.Disk.left_since g.D.Disk.may_leave g.met.D.Disk.only_now c.args.at (length c.args.bytes.now) _ _ c.write_at.ensures.crash c.write_at.ensures.time

pub returns-clause-any_moment : goal.returns-clause-any_moment
returns-clause-any_moment g c =
    sync_leaves g.D.Disk.moment g.D.Disk.left_since g.D.Disk.may_leave g.met.D.Disk.only_now c.args.at (length c.args.bytes.now) _ _ c.write_at.ensures.crash c.write_at.ensures.time _ c.sync.ensures.crash c.sync.ensures.time

on_err : {T E : Type 0} → (r : Result T E) (P : Type 0) → P → OnErr r P
on_err (Ok x) P p = tt
on_err (Err e) P p = p

pub returns-clause-failed : goal.returns-clause-failed
returns-clause-failed g c = on_err c.sync.result _ (read_torn c.args.at c.args.bytes.now _ _ _ c.requires.within c.in_ok-write_at.ensures.written c.sync.ensures.same)
