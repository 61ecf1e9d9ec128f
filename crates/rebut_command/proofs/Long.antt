-- Bytes past the limit of evidence are none.
use Rattle.std.proofs.Common.{◌≡◌, ◌<◌, Bool, true, false, ℕ, List, length, None, refl}
use Rattle.std.specs.Prelude.{if◌then◌else◌, nat_le}
use Rattle.std.proofs.lemmas.Bool.{lt-leb}
use Rattle.avm_model.specs.Evidence.{evidence_at, parts_of, longest_evidence}

not_then : {A : Type 0} (b : Bool) (x y : A) → b ≡ false → (if b then x else y) ≡ y
not_then true x y e = absurd cc
not_then false x y e = refl

pub evidence_long : (bytes : List ℕ) → longest_evidence < length bytes → evidence_at bytes ≡ None
unfolding evidence_at
evidence_long bytes more = not_then (nat_le (length bytes) longest_evidence) (parts_of bytes) None (lt-leb (length bytes) longest_evidence more)
