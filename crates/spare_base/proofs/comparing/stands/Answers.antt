use Rattle.std.proofs.Common.{◌∙◌, refl, rules, arith}
use Rattle.spare_base.proofs.Pieces.{stands_all, stands_more, stands_not}
use Rattle.spare_base.proofs.Reading.{read_then}
use Rattle.spare_base.proofs.comparing.stands.Goals as goal

pub returns-then-not-branch-clause-there : goal.returns-then-not-branch-clause-there
returns-then-not-branch-clause-there g c =
    stands_not (g.E.Disk.seen c.args.spare.now) _ c.args.at _ c.loop-done.done c.min-size.result c.args.bytes.now _ c.in_ok-stands_there.field-0 c.loop-done.invariant.same (search rules) refl (search rules) (search rules) (omega (arith, c.min-size.ensures, c.loop-done-test.true)) c.in_ok-stands_there.ensures.there

pub loop-done-preserved : goal.loop-done-preserved
loop-done-preserved g c = record {
  low = omega (arith, c.min-size.ensures, c.loop-done-test.true);
  told = stands_more (g.E.Disk.seen c.args.spare.now) _ c.args.at _ c.loop-done.done c.min-size.result c.args.bytes.now _ c.in_ok-stands_there.field-0 c.loop-done.invariant.same (search rules) refl (search rules) (search rules) c.loop-done.invariant.told c.in_ok-stands_there.ensures.there;
  same = c.stands_there.ensures.same ∙ c.loop-done.invariant.same;
  crash = λ d left. c.loop-done.invariant.crash d (c.stands_there.ensures.crash d left);
  any_moment = read_then g.E.Disk.moment g.E.Disk.left_since g.E.Disk.may_leave g.met.E.Disk.only_now _ _ _ c.loop-done.invariant.crash c.loop-done.invariant.any_moment c.stands_there.ensures.any_moment;
  faults = c.in_ok-stands_there.ensures.faults ∙ c.loop-done.invariant.faults;
}

pub returns-clause-there : goal.returns-clause-there
returns-clause-there g c = stands_all (g.E.Disk.seen c.args.spare.now) c.args.at c.loop-done.done c.args.bytes.now (omega (arith, c.loop-done.invariant.low, c.loop-done-test.false)) c.loop-done.invariant.told
