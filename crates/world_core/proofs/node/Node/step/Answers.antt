use Rattle.std.proofs.Common.{◌≡◌, refl}
use Rattle.std.specs.Prelude.{nat_le}
use Rattle.world_core.proofs.Steps.{ends_crash, ends_plain, keeps_crash, keeps_plain, same_twice}
use Rattle.world_core.specs.Nodes.{calls_between}
use Rattle.world_core.proofs.node.Node.step.Goals as goal

pub returns-in_default-clause-steps : goal.returns-in_default-clause-steps
returns-in_default-clause-steps c = record {
  acted = c.act-answer.new.self;
  answer = c.act-answer.result;
  did = c.act-answer.ensures.did;
  ends = ends_plain c.args.event.now.crash c.args.self.now c.act-answer.new.self c.act-answer.result c.in_default.not-Some;
  kept_is = keeps_plain c.args.event.now.crash (calls_between c.args.self.now c.act-answer.new.self c.act-answer.result) c.in_default.not-Some;
  same = c.act-answer.ensures.same;
}

pub returns-clause-steps : goal.returns-clause-steps
returns-clause-steps c =
    let n = c.args.self.now in
    let m = c.act-answer.new.self in
    let made : c.counted.result ≡ calls_between n m c.act-answer.result = rw (c.counted.ensures, c.saturating_sub.ensures, c.calls-before.ensures, c.calls-now.ensures) refl in
    record {
      acted = m;
      answer = c.act-answer.result;
      did = c.act-answer.ensures.did;
      ends = ends_crash c.args.event.now.crash c.in-Some.crash n m c.crash.new.self (nat_le c.counted.result c.in-Some.crash.calls) c.act-answer.result c.crash.result c.crash_call-at.result c.in-Some.is (rw (← c.calls-before.ensures, ← c.calls-now.ensures) c.crash_call-at.ensures.value) c.crash.ensures.crashed;
      kept_is = keeps_crash c.args.event.now.crash c.in-Some.crash c.counted.result (calls_between n m c.act-answer.result) c.in-Some.is made;
      same = same_twice n m c.crash.new.self c.act-answer.ensures.same c.crash.ensures.same;
    }
