-- The laws of the disk in memory.
use Rattle.std.specs.Prelude.{◌≡◌, ◌≤◌, ℕ, List}
use Rattle.std.proofs.Common.{subst, arith}
use Rattle.avm_outside.specs.DiskLog.{KeptCall, IsImage, LeftSince, state_upto}

pub now_counts : (base : List ℕ) (calls : ℕ) (log : List KeptCall) (t : ℕ) (c : List ℕ) → t ≤ calls → IsImage (state_upto base calls log) c → LeftSince base calls log t c
now_counts base calls log t c le image = (calls, le, omega arith, image)

pub now_only : (base : List ℕ) (calls : ℕ) (log : List KeptCall) (c : List ℕ) → LeftSince base calls log calls c → IsImage (state_upto base calls log) c
now_only base calls log c left = (let is : left.0 ≡ calls = omega (arith, left.1, left.2) in subst (λ (k : ℕ). IsImage (state_upto base k log) c) is left.3)
