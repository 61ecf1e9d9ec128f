-- A run of calls that only read, at any moment.
use Rattle.std.proofs.Common.{◌≤◌, ℕ, List, inl, arith}
use Rattle.avm_outside.specs.Moments.{LeavesOnly}

-- a crash at any moment of it leaves what it might have left before
pub reads_leave : {D : Type 0} (moment : D → ℕ) (left_since : D → ℕ → List ℕ → Type 0) (may_leave : D → List ℕ → Type 0) → ((d : D) (c : List ℕ) → left_since d (moment d) c → may_leave d c) → (old new : D) → moment old ≤ moment new
    → ((t : ℕ) (c : List ℕ) → t ≤ moment old → left_since new t c → left_since old t c) → LeavesOnly moment left_since old new (may_leave old)
reads_leave moment left_since may_leave only_now old new later moments = record {
  later = later;
  each = λ c left. only_now old c (moments (moment old) c (omega arith) left);
  before = λ t c le left. inl (moments t c le left);
}
