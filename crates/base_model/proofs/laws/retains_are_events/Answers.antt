use Rattle.base_model.specs.History.{disks}
use Rattle.base_model.proofs.Links.{whole_retain, cut_first, cut_second, cut_third}
use Rattle.base_model.proofs.laws.retains_are_events.Goals as goal

pub returns-clause-whole : goal.returns-clause-whole
returns-clause-whole g c store store_new spare spare_new unmarked t = whole_retain g.D.Disk.moment g.D.Disk.left_since g.D.Disk.may_leave g.E.Disk.moment g.E.Disk.left_since g.E.Disk.may_leave g.met.E.Disk.counts_now store store_new spare spare_new (disks g.D.Disk.may_leave g.E.Disk.may_leave (store, spare)) unmarked t

pub returns-clause-cut_first : goal.returns-clause-cut_first
returns-clause-cut_first g c store store_new spare spare_new unmarked t x y here = cut_first g.D.Disk.moment g.D.Disk.left_since g.D.Disk.may_leave g.E.Disk.moment g.E.Disk.left_since g.E.Disk.may_leave g.met.E.Disk.counts_now store store_new spare spare_new (disks g.D.Disk.may_leave g.E.Disk.may_leave (store, spare)) unmarked t x y here

pub returns-clause-cut_second : goal.returns-clause-cut_second
returns-clause-cut_second g c store store_new spare spare_new unmarked t x y here = cut_second g.D.Disk.moment g.D.Disk.left_since g.D.Disk.may_leave g.E.Disk.moment g.E.Disk.left_since g.E.Disk.may_leave g.met.E.Disk.counts_now store store_new spare spare_new (disks g.D.Disk.may_leave g.E.Disk.may_leave (store, spare)) unmarked t x y here

pub returns-clause-cut_third : goal.returns-clause-cut_third
returns-clause-cut_third g c store store_new spare spare_new unmarked t x y here = cut_third g.D.Disk.moment g.D.Disk.left_since g.D.Disk.may_leave g.E.Disk.moment g.E.Disk.left_since g.E.Disk.may_leave g.met.E.Disk.counts_now store store_new spare spare_new (disks g.D.Disk.may_leave g.E.Disk.may_leave (store, spare)) unmarked t x y here
