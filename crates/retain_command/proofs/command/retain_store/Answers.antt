use Rattle.std.proofs.Common.{refl, arith}
use Rattle.std.specs.Prelude.{Err}
use Rattle.store_move.specs.declared.fault.RetainFault.TheVariants as fault
use Rattle.store_retain.proofs.Leaving.{read_told, spare_still, store_read}
use Rattle.retain_command.proofs.Ending.{said_end, wanting}
use Rattle.retain_command.proofs.command.retain_store.Goals as goal

pub returns-in-Err-clause-ends : goal.returns-in-Err-clause-ends
returns-in-Err-clause-ends g c =
    let s = c.refuse.ensures c.args.at in
    said_end c.args.at _ _ _ _ _ _ c.refuse.result (Err fault.NoMemory) (wanting c.args.at _ _ _ _ (record { same = refl; crash = λ x left. left; later = omega arith; moments = λ t x le left. left }) refl refl refl) s.0 s.1 s.2

pub returns-in-Err-clause-together : goal.returns-in-Err-clause-together
returns-in-Err-clause-together g c = read_told g.D.Disk.seen g.D.Disk.may_leave g.D.Disk.moment g.D.Disk.left_since g.met.D.Disk.only_now g.E.Disk.moment g.E.Disk.left_since g.E.Disk.may_leave g.met.E.Disk.only_now (g.D.Disk.seen c.args.disk.now) (g.E.Disk.seen c.args.spare.now) c.args.disk.now c.args.disk.now c.args.spare.now (record { same = refl; crash = λ x left. left; later = omega arith; moments = λ t x le left. left })

pub returns-in-Err-clause-store : goal.returns-in-Err-clause-store
returns-in-Err-clause-store g c = store_read g.D.Disk.seen g.D.Disk.may_leave g.D.Disk.moment g.D.Disk.left_since g.met.D.Disk.only_now (g.D.Disk.seen c.args.disk.now) c.args.at c.args.disk.now c.args.disk.now (record { same = refl; crash = λ x left. left; later = omega arith; moments = λ t x le left. left })

pub returns-in-Err-clause-spare : goal.returns-in-Err-clause-spare
returns-in-Err-clause-spare g c = spare_still g.D.Disk.seen g.D.Disk.may_leave g.D.Disk.moment g.D.Disk.left_since g.met.D.Disk.only_now g.E.Disk.moment g.E.Disk.left_since g.E.Disk.may_leave g.met.E.Disk.only_now (g.D.Disk.seen c.args.disk.now) (g.E.Disk.seen c.args.spare.now) c.args.at c.args.spare.now

pub returns-clause-ends : goal.returns-clause-ends
returns-clause-ends g c =
    let e = c.in-Err-retain.ensures in
    let s = c.refuse-in-Err-retain.ensures c.args.at in
    said_end c.args.at _ _ _ _ _ _ c.refuse-in-Err-retain.result (Err c.in-Err-retain.fault) (record { gives = e.answers; opens = e.opens; retires = e.retires; left = e.left; counts = e.faults }) s.0 s.1 s.2
