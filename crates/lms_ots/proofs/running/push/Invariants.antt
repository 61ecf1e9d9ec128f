use Rattle.std.proofs.Common.{◌≡◌, length}
use Rattle.lms_ots.specs.Chains.{HaveGone}
use Rattle.lms_ots.proofs.running.push.Given as goal

abbrev pub invariant-loop-k : goal.invariant-loop-k
invariant-loop-k l = record {
  rows : length l.texts ≡ 265;
  places : length l.at ≡ 265;
  gone : HaveGone l.fn.texts l.fn.at l.to l.texts l.at;
}
