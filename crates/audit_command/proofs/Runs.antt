-- From a command's end or fault to its line and its status.
use Rattle.std.proofs.Common.{◌≡◌, ◌≢◌, ◌⊎◌, ℕ, List, [], ◌∷◌, Option, inl, inr, refl, sym, ◌∙◌, arith}
use Rattle.std.specs.Prelude.{Result, Ok, Err, IfOk, IsErrOf, codes}
use Rattle.avm_model.specs.declared.judged.Verdict.TheVariants as verdicts
use Rattle.avm_outside.specs.Outside.{Rises}
use Rattle.command_parts.specs.Printing.{line, Printed}
use Rattle.file_audit.specs.declared.fault.Fault.{Fault}
use Rattle.file_audit.specs.declared.fault.Fault.TheVariants as fault
use Rattle.audit_command.specs.declared.ends.End.{End}
use Rattle.audit_command.specs.declared.ends.End.TheVariants as end
use Rattle.audit_command.specs.declared.said.Said.{Said}
use Rattle.audit_command.specs.Ends.{status_of, text_of}
use Rattle.audit_command.specs.Outcomes.{Ended, NoMemory, FaultFiles, EndsBy}
use Rattle.audit_command.specs.Said.{IsSaid}

-- what is known of a command before its line is printed
pub record IsDone (Ends : End → Type 0) (Leaves Same : Type 0) (r : Result Said Fault) (f g : ℕ) : Type 0 where
  pub ends : IfOk r (λ s. Ends s.end)
  pub line : IfOk r IsSaid
  pub left : IsErrOf r fault.Files → Leaves
  pub same : IsErrOf r fault.NoMemory → Same
  pub faulted : IsErrOf r fault.Files → Rises f g
  pub no_fault : r ≢ Err fault.Files → g ≡ f

-- what printing says
pub record IsSpoken (r : Result Said Fault) (b n : ℕ) (before after : Option (List ℕ)) (result : ℕ) : Type 0 where
  pub said : IfOk r (λ s. IsSaid s → Printed (line (text_of s.end) ∷ []) (status_of s.end) b n before after result)
  pub memory : IsErrOf r fault.NoMemory → Printed (line (codes "no memory") ∷ []) 5 b n before after result
  pub files : IsErrOf r fault.Files → Printed (line (codes "fault files") ∷ []) 4 b n before after result

pub run_ends : (Ends : End → Type 0) (Leaves Same : Type 0) (r : Result Said Fault) (f g b n : ℕ) (before after : Option (List ℕ)) (result : ℕ) → IsDone Ends Leaves Same r f g → IsSpoken r b n before after result → EndsBy Ends Leaves Same f g b n before after result
run_ends Ends Leaves Same (Ok s) f g b n before after result done spoken = (Ended s.end, (done.ends, done.no_fault (λ x. cc)), spoken.said done.line)
run_ends Ends Leaves Same (Err fault.NoMemory) f g b n before after result done spoken = (NoMemory, (done.same refl, done.no_fault (λ x. cc)), spoken.memory refl)
run_ends Ends Leaves Same (Err fault.Files) f g b n before after result done spoken = (FaultFiles, (done.left refl, done.faulted refl), spoken.files refl)

never_four : (e : End) → status_of e ≡ 4 → ⊥
never_four (end.RefusedFile option) is = omega (arith, is)
never_four (end.Judged verdicts.Malformed) is = omega (arith, is)
never_four (end.Judged (verdicts.BadAuth k)) is = omega (arith, is)
never_four (end.Judged (verdicts.Double i j)) is = omega (arith, is)
never_four (end.Judged verdicts.Uncommitted) is = omega (arith, is)
never_four (end.Judged (verdicts.Fork i j)) is = omega (arith, is)
never_four (end.Judged (verdicts.Replay n)) is = omega (arith, is)
never_four (end.Judged (verdicts.Uncovered n)) is = omega (arith, is)
never_four (end.Judged (verdicts.Unmatched k)) is = omega (arith, is)
never_four (end.Judged (verdicts.Accepted first last cover)) is = omega (arith, is)
never_four end.RefusedImage is = omega (arith, is)
never_four end.EvidenceStands is = omega (arith, is)
never_four end.RefusedEvidence is = omega (arith, is)

-- 4 comes only where a count rose
pub only_four : (Ends : End → Type 0) (Leaves Same : Type 0) (f g b n : ℕ) (before after : Option (List ℕ)) (result : ℕ) → EndsBy Ends Leaves Same f g b n before after result → result ≡ 4 → Rises f g ⊎ Rises b n
only_four Ends Leaves Same f g b n before after result (o, reaches, inr cut) is = inr cut.1.0
only_four Ends Leaves Same f g b n before after result (Ended e, reaches, inl whole) is = absurd (never_four e (sym whole.0 ∙ is))
only_four Ends Leaves Same f g b n before after result (NoMemory, reaches, inl whole) is = absurd (omega (arith, whole.0, is))
only_four Ends Leaves Same f g b n before after result (FaultFiles, reaches, inl whole) is = inl reaches.1

-- and otherwise none rises
pub not_four : (Ends : End → Type 0) (Leaves Same : Type 0) (f g b n : ℕ) (before after : Option (List ℕ)) (result : ℕ) → EndsBy Ends Leaves Same f g b n before after result → result ≢ 4 → (g ≡ f) × (n ≡ b)
not_four Ends Leaves Same f g b n before after result (o, reaches, inr cut) not = absurd (not cut.0)
not_four Ends Leaves Same f g b n before after result (Ended e, reaches, inl whole) not = (reaches.1, whole.1.0)
not_four Ends Leaves Same f g b n before after result (NoMemory, reaches, inl whole) not = (reaches.1, whole.1.0)
not_four Ends Leaves Same f g b n before after result (FaultFiles, reaches, inl whole) not = absurd (not whole.0)
