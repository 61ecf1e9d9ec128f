use Rattle.std.proofs.Common.{Result, Ok, Err, OnOk}
use Rattle.spare_disk.proofs.Blanks.{and_sync, finished}
use Rattle.spare_disk.proofs.preparing.finish.Goals as goal

on_ok_map : {T E : Type 0} → (r : Result T E) (P Q : Type 0) → (P → Q) → OnOk r P → OnOk r Q
on_ok_map (Ok x) P Q f p = f p
on_ok_map (Err e) P Q f p = tt

pub returns-clause-prepared : goal.returns-clause-prepared
returns-clause-prepared g c = on_ok_map c.sync.result _ _ (λ only. finished _ _ _ _ _ _ c.in_ok-wipe.ensures.wiped c.sync.ensures.same only) c.sync.ensures.durable

pub returns-clause-blank : goal.returns-clause-blank
returns-clause-blank g c = λ each d left. c.wipe.ensures.blank each d (c.sync.ensures.crash d left)

pub returns-clause-any_moment : goal.returns-clause-any_moment
returns-clause-any_moment g c = and_sync g.E.Disk.moment g.E.Disk.left_since g.E.Disk.may_leave g.met.E.Disk.only_now _ _ _ c.wipe.ensures.blank c.wipe.ensures.any_moment c.sync.ensures.crash c.sync.ensures.time
