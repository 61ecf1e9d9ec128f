-- No bytes past a file's limit are read as what the file is to be.
use Rattle.std.proofs.Common.{◌≡◌, ◌^◌, ◌<◌, ℕ, Bool, true, false, List, length, Option, None, refl, arith, if◌then◌else◌}
use Rattle.std.proofs.lemmas.Bool.{lt-leb}
use Rattle.avm_model.specs.Keys.{public_file}
use Rattle.avm_model.specs.Audit.{auths_within}
use Rattle.avm_model.specs.Evidence.{evidence_at, longest_evidence}
use Rattle.audit_command.specs.ImageFile.{image_file}

not_then : {A : Type 0} (fits : Bool) (o : Option A) → fits ≡ false → (if fits then o else None) ≡ None
not_then false o e = refl
not_then true o e = cc

pub auths_long : (bytes : List ℕ) → 2 ^ 24 < length bytes → auths_within bytes ≡ None
unfolding auths_within
auths_long bytes more = not_then _ _ (lt-leb (length bytes) (2 ^ 24) more)

pub evidence_long : (bytes : List ℕ) → longest_evidence < length bytes → evidence_at bytes ≡ None
unfolding evidence_at
evidence_long bytes more = not_then _ _ (lt-leb (length bytes) longest_evidence more)

pub key_long : (bytes : List ℕ) → 56 < length bytes → public_file bytes ≡ false
unfolding public_file
key_long bytes more = grind arith

pub image_long : (bytes : List ℕ) → 2 ^ 25 < length bytes → image_file bytes ≡ false
unfolding image_file
image_long bytes more = rw (lt-leb (length bytes) (2 ^ 25) more) refl
