use Rattle.std.proofs.Common.{sym, subst, ◌∙◌, ℕ, Bool, Option, IfSome, arith, refl}
use Rattle.base_records.proofs.Steps.{Going, IsGiven, IsEnd, going_first, going_on, going_ends, going_past}
use Rattle.rebut_pass.proofs.OnDisk.{reads_none, reads_both}
use Rattle.base_records.proofs.reading.walk.Goals as goal

pub loop-at-init : goal.loop-at-init
loop-at-init g c = record {
  going = subst (λ (b : Bool). IfSome (g.D.Disk.seen c.args.disk.now) (Going c.args.number c.args.at c.args.at b c.args.records.now.bytes.items)) (sym c.requires.none) (going_first (g.D.Disk.seen c.args.disk.now) c.args.number c.args.at c.args.records.now.bytes.items c.requires.new);
  room = c.requires.room;
  reads = reads_none g.D.Disk.seen g.D.Disk.may_leave g.D.Disk.moment g.D.Disk.left_since c.args.disk.now;
  faults = refl;
}

pub returns-in-Ok-None-clause-records : goal.returns-in-Ok-None-clause-records
returns-in-Ok-None-clause-records g c =
    going_ends (g.D.Disk.seen c.args.disk.now) (g.D.Disk.seen c.loop-at.disk) c.args.number c.args.at c.loop-at.at _ c.loop-at.records.found c.loop-at.records.bytes.items c.loop-at.invariant.reads.same
    (subst (λ (o : Option ℕ). IfSome (g.D.Disk.seen c.loop-at.disk) (IsGiven c.read_items.new.room c.loop-at.at o)) c.in-Ok-None.field-0-is c.in-Ok-None.ensures.stands) c.loop-at.invariant.going

pub loop-at-preserved : goal.loop-at-preserved
loop-at-preserved g c = record {
  going = going_on (g.D.Disk.seen c.args.disk.now) (g.D.Disk.seen c.loop-at.disk) c.args.number c.args.at c.loop-at.at c.in-Ok-Some.size c.read_items.new.room c.loop-at.records.found c.take.new.self.found c.loop-at.records.bytes.items c.take.new.self.bytes.items c.loop-at.invariant.reads.same
      (subst (λ (o : Option ℕ). IfSome (g.D.Disk.seen c.loop-at.disk) (IsGiven c.read_items.new.room c.loop-at.at o)) c.in-Ok-Some.field-0-is c.in-Ok-Some.ensures.stands)
      (subst (λ (o : Option ℕ). IfSome (g.D.Disk.seen c.loop-at.disk) (IsEnd c.loop-at.at o)) c.in-Ok-Some.field-0-is c.in-Ok-Some.ensures.end)
      c.in_default.ensures.found c.in_default.ensures.bytes c.loop-at.invariant.going;
  room = c.in-Ok-Some.ensures.room ∙ c.loop-at.invariant.room;
  reads = reads_both g.D.Disk.seen g.D.Disk.may_leave g.D.Disk.moment g.D.Disk.left_since c.args.disk.now c.loop-at.disk c.read_items.new.disk c.loop-at.invariant.reads c.in-Ok-Some.ensures.reads;
  faults = c.in-Ok-Some.ensures.faults ∙ c.loop-at.invariant.faults;
}

pub returns-clause-records : goal.returns-clause-records
returns-clause-records g c =
    let h = c.loop-at-test.false in
    going_past (g.D.Disk.seen c.args.disk.now) c.args.number c.args.at c.loop-at.at c.loop-at.records.found c.loop-at.records.bytes.items (omega (arith, h)) c.loop-at.invariant.going
