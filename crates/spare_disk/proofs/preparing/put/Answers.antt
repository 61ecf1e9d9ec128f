use Rattle.std.proofs.Common.{length, Result, Ok, Err, OnOk}
use Rattle.spare_disk.proofs.Blanks.{all_blank, piece_told, put_leaves}
use Rattle.spare_disk.proofs.preparing.put.Goals as goal

pub returns-clause-blank : goal.returns-clause-blank
returns-clause-blank g c = all_blank c.args.at (length c.args.bytes.now) _ _ c.requires.behind c.write_at.ensures.crash

pub returns-clause-any_moment : goal.returns-clause-any_moment
returns-clause-any_moment g c =
    put_leaves g.E.Disk.moment g.E.Disk.left_since g.E.Disk.may_leave g.met.E.Disk.only_now c.args.at (length c.args.bytes.now) _ _ c.requires.behind c.write_at.ensures.crash c.write_at.ensures.time

on_ok_map : {T E : Type 0} → (r : Result T E) (P Q : Type 0) → (P → Q) → OnOk r P → OnOk r Q
on_ok_map (Ok x) P Q f p = f p
on_ok_map (Err e) P Q f p = tt

pub returns-clause-longer : goal.returns-clause-longer
returns-clause-longer g c = on_ok_map c.write_at.result _ _ (λ is. piece_told _ _ _ _ is) c.write_at.ensures.written
