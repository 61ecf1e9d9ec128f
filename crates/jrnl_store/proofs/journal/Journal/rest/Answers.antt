use Rattle.std.proofs.Common.{arith, ◌∙◌}
use Rattle.jrnl_store.specs.Kept.{kept}
use Rattle.jrnl_store.proofs.Walking.{so_far, rest_refused}
use Rattle.jrnl_store.proofs.journal.Journal.rest.Goals as goal

pub returns-in-Err-clause-answers : goal.returns-in-Err-clause-answers
returns-in-Err-clause-answers g c =
    rest_refused _ _ (kept c.args.self.now) (kept c.loop-more.self) (kept c.step.new.self) c.loop-more.more c.in-Err.fault c.loop-more.invariant.same c.loop-more.invariant.told c.in-Err.ensures.answers

pub loop-more-preserved : goal.loop-more-preserved
loop-more-preserved g c = record {
  told = so_far _ _ (kept c.args.self.now) (kept c.loop-more.self) (kept c.step.new.self) c.loop-more.more c.in-Ok.next c.loop-more.invariant.same c.loop-more.invariant.told c.in-Ok.ensures.answers;
  same = c.in-Ok.ensures.same ∙ c.loop-more.invariant.same;
  crash = λ image left. c.loop-more.invariant.crash image (c.in-Ok.ensures.crash image left);
  later = omega (arith, c.loop-more.invariant.later, c.in-Ok.ensures.later);
  moments = λ t image le left. c.loop-more.invariant.moments t image le (c.in-Ok.ensures.moments t image (omega (arith, le, c.loop-more.invariant.later)) left);
  faults = c.in-Ok.ensures.faults ∙ c.loop-more.invariant.faults;
  stop = c.in-Ok.ensures.stop ∙ c.loop-more.invariant.stop;
}
