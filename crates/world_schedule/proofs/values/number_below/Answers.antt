use Rattle.std.proofs.Common.{sym, arith}
use Rattle.avm_script.proofs.Spelled.{below_some, below_none, below_over}
use Rattle.world_schedule.proofs.values.number_below.Goals as goal

pub returns-in-Some-clause-value : goal.returns-in-Some-clause-value
returns-in-Some-clause-value c = sym (below_some c.args.limit c.in-Some.n c.args.text.now (sym c.in-Some.ensures) c.if-n-limit.true)

pub returns-in_default-clause-value : goal.returns-in_default-clause-value
returns-in_default-clause-value c = sym (below_over c.args.limit c.in-Some.n c.args.text.now (sym c.in-Some.ensures) c.if-n-limit.false (omega (arith, c.ranges.limit.fits)))

pub returns-in_default-2-clause-value : goal.returns-in_default-2-clause-value
returns-in_default-2-clause-value c = sym (below_none c.args.limit c.args.text.now (sym c.in_default.ensures) (omega (arith, c.ranges.limit.fits)))
