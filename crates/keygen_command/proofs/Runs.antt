-- From the files that are made, or not, to the line and the status.
use Rattle.std.proofs.Common.{◌≡◌, ◌≢◌, ◌⊎◌, ℕ, List, [], ◌∷◌, Option, inl, inr, refl, arith}
use Rattle.std.specs.Prelude.{Result, Ok, Err, OnOk, IsErrOf, codes}
use Rattle.avm_model.specs.Keys.{KeyData}
use Rattle.avm_outside.specs.Outside.{Rises}
use Rattle.command_parts.specs.FileMap.{FileMap, SameFiles}
use Rattle.command_parts.specs.Printing.{line, Printed}
use Rattle.keygen_command.specs.declared.fault.Fault.{Fault}
use Rattle.keygen_command.specs.declared.fault.Fault.TheVariants as fault
use Rattle.keygen_command.specs.Keygen.{KeysMade, KeysCut, Made, NoMemory, FaultFiles, KeygenRuns}

-- what is known before the line is printed
pub record IsDone (k : KeyData) (key public : List ℕ) (old new : FileMap) (r : Result (Unit {0}) Fault) (f g : ℕ) : Type 0 where
  pub made : OnOk r (KeysMade k key public old new)
  pub left : IsErrOf r fault.Files → KeysCut k key public old new
  pub same : IsErrOf r fault.NoMemory → SameFiles old new
  pub faulted : IsErrOf r fault.Files → Rises f g
  pub no_fault : r ≢ Err fault.Files → g ≡ f

-- what printing says
pub record IsSpoken (r : Result (Unit {0}) Fault) (b n : ℕ) (before after : Option (List ℕ)) (result : ℕ) : Type 0 where
  pub made : OnOk r (Printed (line (codes "key made") ∷ []) 0 b n before after result)
  pub memory : IsErrOf r fault.NoMemory → Printed (line (codes "no memory") ∷ []) 5 b n before after result
  pub files : IsErrOf r fault.Files → Printed (line (codes "fault files") ∷ []) 4 b n before after result

pub run_ends : (k : KeyData) (key public : List ℕ) (old new : FileMap) (r : Result (Unit {0}) Fault) (f g b n : ℕ) (before after : Option (List ℕ)) (result : ℕ) → IsDone k key public old new r f g → IsSpoken r b n before after result → KeygenRuns k key public old new f g b n before after result
run_ends k key public old new (Ok u) f g b n before after result done spoken = (Made, (done.made, done.no_fault (λ x. cc)), spoken.made)
run_ends k key public old new (Err fault.NoMemory) f g b n before after result done spoken = (NoMemory, (done.same refl, done.no_fault (λ x. cc)), spoken.memory refl)
run_ends k key public old new (Err fault.Files) f g b n before after result done spoken = (FaultFiles, (done.left refl, done.faulted refl), spoken.files refl)

-- 4 comes only where a count rose
pub only_four : (k : KeyData) (key public : List ℕ) (old new : FileMap) (f g b n : ℕ) (before after : Option (List ℕ)) (result : ℕ) → KeygenRuns k key public old new f g b n before after result → result ≡ 4 → Rises f g ⊎ Rises b n
only_four k key public old new f g b n before after result (o, reaches, inr cut) is = inr cut.1.0
only_four k key public old new f g b n before after result (Made, reaches, inl whole) is = absurd (omega (arith, whole.0, is))
only_four k key public old new f g b n before after result (NoMemory, reaches, inl whole) is = absurd (omega (arith, whole.0, is))
only_four k key public old new f g b n before after result (FaultFiles, reaches, inl whole) is = inl reaches.1

-- and otherwise none rises
pub not_four : (k : KeyData) (key public : List ℕ) (old new : FileMap) (f g b n : ℕ) (before after : Option (List ℕ)) (result : ℕ) → KeygenRuns k key public old new f g b n before after result → result ≢ 4 → (g ≡ f) × (n ≡ b)
not_four k key public old new f g b n before after result (o, reaches, inr cut) not = absurd (not cut.0)
not_four k key public old new f g b n before after result (Made, reaches, inl whole) not = (reaches.1, whole.1.0)
not_four k key public old new f g b n before after result (NoMemory, reaches, inl whole) not = (reaches.1, whole.1.0)
not_four k key public old new f g b n before after result (FaultFiles, reaches, inl whole) not = absurd (not whole.0)
