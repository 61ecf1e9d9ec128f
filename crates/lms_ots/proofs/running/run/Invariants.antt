use Rattle.std.proofs.Common.{◌≡◌, ℕ, ◌<◌, ◌≤◌, length, slice_index}
use Rattle.lms_ots.specs.Chains.{text_at, HasGone}
use Rattle.lms_ots.proofs.running.run.Given as goal

abbrev pub invariant-loop-i : goal.invariant-loop-i
invariant-loop-i l = record {
  rows : length l.texts ≡ 265;
  done : (i : ℕ) → i < l.i → HasGone (text_at l.fn.texts i) (slice_index l.fn.from i) (slice_index l.to i) (text_at l.texts i);
  rest : (i : ℕ) → l.i ≤ i → text_at l.texts i ≡ text_at l.initial.texts i;
}
