use Rattle.lms_ots.specs.Chains.{HasGone}
use Rattle.lms_ots.proofs.buffer.walk.Given as goal

abbrev pub invariant-loop-j : goal.invariant-loop-j
invariant-loop-j l = HasGone l.fn.text l.fn.from l.j l.text
