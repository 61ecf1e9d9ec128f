use Rattle.std.proofs.Common.{◌∙◌, refl, arith}
use Rattle.jrnl_store.specs.Kept.{kept}
use Rattle.jrnl_store.proofs.Seeking.{none_sought, seeks_first, seeks_on, sought, sought_none, passed_on}
use Rattle.jrnl_store.proofs.journal.Journal.has_snap.Goals as goal

pub returns-then-self-clause-found : goal.returns-then-self-clause-found
returns-then-self-clause-found g c = none_sought _ (kept c.args.self.now) c.args.number c.if-self.true

pub loop-is_snap-init : goal.loop-is_snap-init
loop-is_snap-init g c = record {
  told = seeks_first _ (kept c.args.self.now) c.start-cursor.result c.args.number c.start-cursor.ensures.parts;
  low = c.start-cursor.ensures.cursor;
  stays = refl;
  same = refl;
  crash = λ image left. left;
  later = omega arith;
  moments = λ t image le left. left;
  faults = refl;
}

pub seek-requires : goal.seek-requires
seek-requires g c = record { cursor = c.loop-is_snap.invariant.low }

pub loop-is_snap-smaller : goal.loop-is_snap-smaller
loop-is_snap-smaller g c =
    let goes = passed_on c.in-Ok-Passed.field-0 _ _ c.in-Ok-Passed.field-0-is c.in-Ok-Passed.ensures.goes in
    omega (arith, goes.0, goes.1)

pub loop-is_snap-preserved : goal.loop-is_snap-preserved
loop-is_snap-preserved g c = record {
  told = seeks_on _ _ (kept c.args.self.now) (kept c.loop-is_snap.self) c.loop-is_snap.cursor c.seek.new.cursor c.args.number c.in-Ok-Passed.field-0 c.in-Ok-Passed.field-0-is c.loop-is_snap.invariant.same c.loop-is_snap.invariant.stays c.loop-is_snap.invariant.told c.in-Ok-Passed.ensures.answers;
  low = c.in-Ok-Passed.ensures.cursor;
  stays = c.in-Ok-Passed.ensures.kept ∙ c.loop-is_snap.invariant.stays;
  same = c.in-Ok-Passed.ensures.same ∙ c.loop-is_snap.invariant.same;
  crash = λ image left. c.loop-is_snap.invariant.crash image (c.in-Ok-Passed.ensures.crash image left);
  later = omega (arith, c.loop-is_snap.invariant.later, c.in-Ok-Passed.ensures.later);
  moments = λ t image le left. c.loop-is_snap.invariant.moments t image le (c.in-Ok-Passed.ensures.moments t image (omega (arith, le, c.loop-is_snap.invariant.later)) left);
  faults = c.in-Ok-Passed.ensures.faults ∙ c.loop-is_snap.invariant.faults;
}

pub returns-in-Ok-Found-clause-found : goal.returns-in-Ok-Found-clause-found
returns-in-Ok-Found-clause-found g c =
    sought _ _ (kept c.args.self.now) (kept c.loop-is_snap.self) c.loop-is_snap.cursor c.seek.new.cursor c.args.number c.in-Ok-Found.is_snap c.in-Ok-Found.field-0 c.in-Ok-Found.field-0-is c.loop-is_snap.invariant.same c.loop-is_snap.invariant.stays c.if-self.false c.loop-is_snap.invariant.told c.in-Ok-Found.ensures.answers

pub returns-in-Ok-Ended-clause-found : goal.returns-in-Ok-Ended-clause-found
returns-in-Ok-Ended-clause-found g c =
    sought_none _ _ (kept c.args.self.now) (kept c.loop-is_snap.self) c.loop-is_snap.cursor c.seek.new.cursor c.args.number c.in-Ok-Ended.field-0 c.in-Ok-Ended.field-0-is c.loop-is_snap.invariant.same c.loop-is_snap.invariant.stays c.if-self.false c.loop-is_snap.invariant.told c.in-Ok-Ended.ensures.answers
