use Rattle.std.proofs.Common.{arith, length, drop, Result, Ok, Err, OnOk}
use Rattle.std.proofs.lemmas.List.{take_all}
use Rattle.spare_disk.proofs.Blanks.{then_blank, both_parts}
use Rattle.spare_base.proofs.BasePut.{long, prepared_by}
use Rattle.spare_base.proofs.preparing.prepare.Goals as goal

pub returns-in_err-put-clause-any_moment : goal.returns-in_err-put-clause-any_moment
returns-in_err-put-clause-any_moment g c =
    then_blank g.E.Disk.moment g.E.Disk.left_since g.E.Disk.may_leave g.met.E.Disk.only_now c.in_ok-len.len _ _ _ _ _ c.begin.ensures.any_moment c.in_ok-len.ensures.begun c.put.ensures.blank c.put.ensures.any_moment

pub returns-clause-any_moment : goal.returns-clause-any_moment
returns-clause-any_moment g c =
    then_blank g.E.Disk.moment g.E.Disk.left_since g.E.Disk.may_leave g.met.E.Disk.only_now c.in_ok-len.len _ _ _ _ _ c.begin.ensures.any_moment c.in_ok-len.ensures.begun (λ each. c.finish.ensures.blank (c.put.ensures.blank each))
    (both_parts g.E.Disk.moment g.E.Disk.left_since g.E.Disk.may_leave g.met.E.Disk.only_now _ _ _ c.put.ensures.blank c.put.ensures.any_moment c.finish.ensures.any_moment)

on_ok_map : {T E : Type 0} → (r : Result T E) (P Q : Type 0) → (P → Q) → OnOk r P → OnOk r Q
on_ok_map (Ok x) P Q f p = f p
on_ok_map (Err e) P Q f p = tt

pub returns-clause-prepared : goal.returns-clause-prepared
returns-clause-prepared g c =
    on_ok_map c.finish.result _ _ (λ done. prepared_by c.in_ok-len.len (length c.args.base.now) (drop 1 c.args.base.now) _ _ _ _ _ _ _ (take_all _ _ (omega (arith, long c.args.base.now c.requires.some))) c.in_ok-len.ensures.begun c.in_ok-put.ensures.written (long c.args.base.now c.requires.some) c.in_ok-put.ensures.longer done) c.finish.ensures.prepared
