use Rattle.std.proofs.Common.{◌∙◌, rules, arith}
use Rattle.spare_base.proofs.Pieces.{clear_all, clear_more, clear_not}
use Rattle.spare_base.proofs.Reading.{read_then}
use Rattle.spare_base.proofs.comparing.is_clear.Goals as goal

pub returns-then-not-branch-clause-clear : goal.returns-then-not-branch-clause-clear
returns-then-not-branch-clause-clear g c =
    clear_not (g.E.Disk.seen c.args.spare.now) _ c.args.from c.loop-at.at c.min-size.result c.args.end c.in_ok-is_clear_there.field-0 c.loop-at.invariant.same (search rules) c.loop-at.invariant.low (omega (arith, c.min-size.ensures, c.loop-at-test.true)) c.in_ok-is_clear_there.ensures.clear

pub loop-at-preserved : goal.loop-at-preserved
loop-at-preserved g c = record {
  low = omega (arith, c.loop-at.invariant.low);
  told = clear_more (g.E.Disk.seen c.args.spare.now) _ c.args.from c.loop-at.at c.min-size.result c.in_ok-is_clear_there.field-0 c.loop-at.invariant.same (search rules) c.loop-at.invariant.told c.in_ok-is_clear_there.ensures.clear;
  same = c.is_clear_there.ensures.same ∙ c.loop-at.invariant.same;
  crash = λ d left. c.loop-at.invariant.crash d (c.is_clear_there.ensures.crash d left);
  any_moment = read_then g.E.Disk.moment g.E.Disk.left_since g.E.Disk.may_leave g.met.E.Disk.only_now _ _ _ c.loop-at.invariant.crash c.loop-at.invariant.any_moment c.is_clear_there.ensures.any_moment;
  faults = c.in_ok-is_clear_there.ensures.faults ∙ c.loop-at.invariant.faults;
}

pub returns-clause-clear : goal.returns-clause-clear
returns-clause-clear g c = clear_all (g.E.Disk.seen c.args.spare.now) c.args.from c.loop-at.at c.args.end (omega (arith, c.loop-at-test.false)) c.loop-at.invariant.told
