-- Two writes are one.
use Rattle.std.proofs.Common.{◌≡◌, ℕ, List, ◌++◌, ap, append_assoc}
use Rattle.avm_num.specs.Room.{Buffer, with_bytes}

pub written : (b : Buffer) (x y : List ℕ) → with_bytes (with_bytes b x) y ≡ with_bytes b (x ++ y)
written b x y = ap (λ (l : List ℕ). record b { bytes = l }) (append_assoc b.bytes x y)
