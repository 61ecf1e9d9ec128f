use Rattle.std.proofs.Common.{◌≡◌, ℕ, ◌<◌, length, slice_index}
use Rattle.lms_ots.specs.Chains.{text_at}
use Rattle.lms_ots.proofs.running.texts_of.Given as goal

abbrev pub invariant-loop-k : goal.invariant-loop-k
invariant-loop-k l = record {
  rows : length l.group ≡ 8;
  done : (k : ℕ) → k < l.k → text_at l.group k ≡ text_at l.texts (slice_index l.lanes k);
}
