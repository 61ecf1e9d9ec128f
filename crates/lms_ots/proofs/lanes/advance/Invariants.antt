use Rattle.std.proofs.Common.{◌≡◌, ℕ, ◌<◌, ◌≤◌, ◌+◌, ◌∷◌, ◌++◌, take, drop, length, slice_index}
use Rattle.lms_ots.specs.Chains.{text_at}
use Rattle.lms_ots.proofs.lanes.advance.Given as goal

abbrev pub invariant-loop-k : goal.invariant-loop-k
invariant-loop-k l = record {
  rows : length l.texts ≡ 8;
  done : (k : ℕ) → k < l.k → (length (text_at l.fn.texts k) ≡ 55) × (text_at l.texts k ≡ take 22 (text_at l.fn.texts k) ++ ((slice_index l.at k + l.done) ∷ drop 23 (text_at l.fn.texts k)));
  rest : (k : ℕ) → l.k ≤ k → text_at l.texts k ≡ text_at l.fn.texts k;
}

abbrev pub invariant-values : goal.invariant-values
invariant-values l = record {
  done : (k : ℕ) → k < l.k → text_at l.texts k ≡ take 23 (text_at l.initial.texts k) ++ text_at l.next k;
  rest : (k : ℕ) → l.k ≤ k → text_at l.texts k ≡ text_at l.initial.texts k;
}
