use Rattle.std.proofs.Common.{Result, Ok, Err, OnErr}
use Rattle.spare_disk.proofs.Images.{cut, activates}
use Rattle.spare_disk.proofs.activating.activate.Goals as goal

on_err_map : {T E : Type 0} → (r : Result T E) (P Q : Type 0) → (P → Q) → OnErr r P → OnErr r Q
on_err_map (Ok x) P Q f p = tt
on_err_map (Err e) P Q f p = f p

pub returns-clause-failed : goal.returns-clause-failed
returns-clause-failed g c = on_err_map c.write_kept.result _ _ (λ torn. cut _ _ _ _ torn c.write_kept.ensures.crash) c.write_kept.ensures.failed

pub returns-clause-any_moment : goal.returns-clause-any_moment
returns-clause-any_moment g c = activates g.E.Disk.moment g.E.Disk.left_since _ _ _ _ c.write_kept.ensures.any_moment
