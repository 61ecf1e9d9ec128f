use Rattle.std.proofs.Common.{◌∙◌, ap, subst}
use Rattle.jrnl_store.specs.Kept.{Kept, kept}
use Rattle.store_retain.proofs.Leaving.{read_told, reads_twice, spare_moved, store_moved, together_told}
use Rattle.store_retain.proofs.Retained.{moved_told, opens_told, ready_told, retires_told}
use Rattle.store_retain.proofs.retaining.retain.Goals as goal

pub returns-in-Err-clause-together : goal.returns-in-Err-clause-together
returns-in-Err-clause-together g c =
    read_told g.D.Disk.seen g.D.Disk.may_leave g.D.Disk.moment g.D.Disk.left_since g.met.D.Disk.only_now g.E.Disk.moment g.E.Disk.left_since g.E.Disk.may_leave g.met.E.Disk.only_now (g.D.Disk.seen c.args.disk.now) (g.E.Disk.seen c.args.spare.now) c.args.disk.now c.open.new.disk c.args.spare.now c.in-Err.ensures.reads

pub returns-in-Err-build-clause-together : goal.returns-in-Err-build-clause-together
returns-in-Err-build-clause-together g c =
    read_told g.D.Disk.seen g.D.Disk.may_leave g.D.Disk.moment g.D.Disk.left_since g.met.D.Disk.only_now g.E.Disk.moment g.E.Disk.left_since g.E.Disk.may_leave g.met.E.Disk.only_now (g.D.Disk.seen c.args.disk.now) (g.E.Disk.seen c.args.spare.now) c.args.disk.now c.build.new.disk c.args.spare.now (reads_twice g.D.Disk.seen g.D.Disk.may_leave g.D.Disk.moment g.D.Disk.left_since g.met.D.Disk.only_now c.args.disk.now c.open.new.disk c.build.new.disk c.in-Ok.ensures.reads c.in-Err-build.ensures.reads)

pub returns-clause-together : goal.returns-clause-together
returns-clause-together g c =
    let ready = ready_told (g.D.Disk.seen c.args.disk.now) (g.D.Disk.seen c.open.new.disk) (kept c.in-Ok.journal) (kept c.build.new.journal) c.args.at (g.D.Disk.may_leave c.open.new.disk) (g.D.Disk.may_leave c.build.new.disk) c.in-Ok-build.base (g.met.D.Disk.tells_bytes c.args.disk.now)
    c.in-Ok.ensures.reads.same c.in-Ok-build.ensures.kept c.in-Ok-build.ensures.reads.crash c.in-Ok.ensures.answers c.in-Ok-build.ensures.built in
    together_told g.D.Disk.seen g.D.Disk.may_leave g.D.Disk.moment g.D.Disk.left_since g.met.D.Disk.only_now g.E.Disk.moment g.E.Disk.left_since g.E.Disk.may_leave g.met.E.Disk.only_now (g.D.Disk.seen c.args.disk.now) (g.D.Disk.seen c.build.new.disk) (g.E.Disk.seen c.args.spare.now) c.args.at (kept c.build.new.journal) c.in-Ok-build.base c.args.disk.now c.build.new.disk _ c.args.spare.now _ (c.in-Ok-build.ensures.reads.same ∙ c.in-Ok.ensures.reads.same) (reads_twice g.D.Disk.seen g.D.Disk.may_leave g.D.Disk.moment g.D.Disk.left_since g.met.D.Disk.only_now c.args.disk.now c.open.new.disk c.build.new.disk c.in-Ok.ensures.reads c.in-Ok-build.ensures.reads) ready c.retain_base.ensures.together

pub returns-clause-store : goal.returns-clause-store
returns-clause-store g c =
    let ready = ready_told (g.D.Disk.seen c.args.disk.now) (g.D.Disk.seen c.open.new.disk) (kept c.in-Ok.journal) (kept c.build.new.journal) c.args.at (g.D.Disk.may_leave c.open.new.disk) (g.D.Disk.may_leave c.build.new.disk) c.in-Ok-build.base (g.met.D.Disk.tells_bytes c.args.disk.now)
    c.in-Ok.ensures.reads.same c.in-Ok-build.ensures.kept c.in-Ok-build.ensures.reads.crash c.in-Ok.ensures.answers c.in-Ok-build.ensures.built in
    store_moved g.D.Disk.seen g.D.Disk.may_leave g.D.Disk.moment g.D.Disk.left_since g.met.D.Disk.only_now (g.D.Disk.seen c.args.disk.now) (g.D.Disk.seen c.build.new.disk) c.args.at (kept c.build.new.journal) c.in-Ok-build.base c.args.disk.now c.build.new.disk _ (c.in-Ok-build.ensures.reads.same ∙ c.in-Ok.ensures.reads.same) (reads_twice g.D.Disk.seen g.D.Disk.may_leave g.D.Disk.moment g.D.Disk.left_since g.met.D.Disk.only_now c.args.disk.now c.open.new.disk c.build.new.disk c.in-Ok.ensures.reads c.in-Ok-build.ensures.reads) ready c.retain_base.ensures.store c.retain_base.ensures.still

pub returns-clause-spare : goal.returns-clause-spare
returns-clause-spare g c =
    let ready = ready_told (g.D.Disk.seen c.args.disk.now) (g.D.Disk.seen c.open.new.disk) (kept c.in-Ok.journal) (kept c.build.new.journal) c.args.at (g.D.Disk.may_leave c.open.new.disk) (g.D.Disk.may_leave c.build.new.disk) c.in-Ok-build.base (g.met.D.Disk.tells_bytes c.args.disk.now)
    c.in-Ok.ensures.reads.same c.in-Ok-build.ensures.kept c.in-Ok-build.ensures.reads.crash c.in-Ok.ensures.answers c.in-Ok-build.ensures.built in
    spare_moved g.D.Disk.seen g.D.Disk.may_leave g.D.Disk.moment g.D.Disk.left_since g.met.D.Disk.only_now g.E.Disk.moment g.E.Disk.left_since g.E.Disk.may_leave g.met.E.Disk.only_now (g.D.Disk.seen c.args.disk.now) (g.E.Disk.seen c.args.spare.now) c.args.at (kept c.build.new.journal) (g.D.Disk.may_leave c.build.new.disk) c.in-Ok-build.base c.args.spare.now _ ready (rw c.deref.ensures.value at c.retain_base.ensures.spare)

pub returns-clause-answers : goal.returns-clause-answers
returns-clause-answers g c =
    let ready = ready_told (g.D.Disk.seen c.args.disk.now) (g.D.Disk.seen c.open.new.disk) (kept c.in-Ok.journal) (kept c.build.new.journal) c.args.at (g.D.Disk.may_leave c.open.new.disk) (g.D.Disk.may_leave c.build.new.disk) c.in-Ok-build.base (g.met.D.Disk.tells_bytes c.args.disk.now)
    c.in-Ok.ensures.reads.same c.in-Ok-build.ensures.kept c.in-Ok-build.ensures.reads.crash c.in-Ok.ensures.answers c.in-Ok-build.ensures.built in
    moved_told (g.D.Disk.seen c.args.disk.now) (g.E.Disk.seen c.args.spare.now) c.args.at (kept c.build.new.journal) (g.D.Disk.may_leave c.build.new.disk) c.in-Ok-build.base c.retain_base.result c.retain_base.ensures.cause ready (rw c.deref.ensures.value at c.retain_base.ensures.answers)

pub returns-clause-opens : goal.returns-clause-opens
returns-clause-opens g c =
    let ready = ready_told (g.D.Disk.seen c.args.disk.now) (g.D.Disk.seen c.open.new.disk) (kept c.in-Ok.journal) (kept c.build.new.journal) c.args.at (g.D.Disk.may_leave c.open.new.disk) (g.D.Disk.may_leave c.build.new.disk) c.in-Ok-build.base (g.met.D.Disk.tells_bytes c.args.disk.now)
    c.in-Ok.ensures.reads.same c.in-Ok-build.ensures.kept c.in-Ok-build.ensures.reads.crash c.in-Ok.ensures.answers c.in-Ok-build.ensures.built in
    opens_told (g.D.Disk.seen c.args.disk.now) (g.E.Disk.seen c.args.spare.now) _ c.args.at (kept c.build.new.journal) (g.D.Disk.may_leave c.build.new.disk) _ c.in-Ok-build.base c.retain_base.result ready (rw c.deref.ensures.value at c.retain_base.ensures.base)

pub returns-clause-retires : goal.returns-clause-retires
returns-clause-retires g c =
    let ready = ready_told (g.D.Disk.seen c.args.disk.now) (g.D.Disk.seen c.open.new.disk) (kept c.in-Ok.journal) (kept c.build.new.journal) c.args.at (g.D.Disk.may_leave c.open.new.disk) (g.D.Disk.may_leave c.build.new.disk) c.in-Ok-build.base (g.met.D.Disk.tells_bytes c.args.disk.now)
    c.in-Ok.ensures.reads.same c.in-Ok-build.ensures.kept c.in-Ok-build.ensures.reads.crash c.in-Ok.ensures.answers c.in-Ok-build.ensures.built in
    retires_told (g.D.Disk.seen c.args.disk.now) (g.D.Disk.seen c.build.new.disk) (g.D.Disk.seen c.retain_base.new.disk) c.args.at (kept c.build.new.journal) (kept c.retain_base.new.journal) (g.D.Disk.may_leave c.build.new.disk) (g.D.Disk.may_leave c.retain_base.new.disk) c.in-Ok-build.base c.retain_base.result (c.in-Ok-build.ensures.reads.same ∙ c.in-Ok.ensures.reads.same) (ap (λ (x : Kept). x.stop) c.in-Ok-build.ensures.kept ∙ c.in-Ok.ensures.run) ready
    c.retain_base.ensures.marked c.retain_base.ensures.run (λ m mark. let e = c.retain_base.ensures.still m mark in (ap g.D.Disk.seen e, λ x left. subst (λ d. g.D.Disk.may_leave d x) e left))
