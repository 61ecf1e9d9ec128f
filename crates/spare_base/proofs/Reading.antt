-- Calls that only read.
use Rattle.std.proofs.Common.{ℕ, List}
use Rattle.avm_outside.specs.Disk.{Elapses}
use Rattle.avm_outside.specs.Moments.{LeavesOnly}
use Rattle.avm_outside.proofs.Runs.{started, goes_on, weaker, joined}

module _ {D : Type 0} (moment : D → ℕ) (left_since : D → ℕ → List ℕ → Type 0) (may_leave : D → List ℕ → Type 0) (only_now : (d : D) (c : List ℕ) → left_since d (moment d) c → may_leave d c) where
  pub read_none : (d : D) → LeavesOnly moment left_since d d (may_leave d)
  read_none d = started moment left_since d (may_leave d) (λ c left. only_now d c left)

  pub read_once : (old new : D) → ((c : List ℕ) → may_leave new c → may_leave old c) → Elapses (moment old) (moment new) (left_since old) (left_since new) (may_leave new) → LeavesOnly moment left_since old new (may_leave old)
  read_once old new crash time = goes_on moment left_since old old new (may_leave old) (may_leave new) (read_none old) time crash

  pub read_then : (old mid new : D) → ((c : List ℕ) → may_leave mid c → may_leave old c) → LeavesOnly moment left_since old mid (may_leave old) → LeavesOnly moment left_since mid new (may_leave mid) → LeavesOnly moment left_since old new (may_leave old)
  read_then old mid new crash first next = joined moment left_since old mid new (may_leave old) first (weaker moment left_since mid new (may_leave mid) (may_leave old) crash next)
