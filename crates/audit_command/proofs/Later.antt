-- What an audit writes, a check accepts.
use Rattle.std.proofs.Common.{◌≡◌, ◌≢◌, ℕ, List, Option, Some, None, option_map, refl, ap, subst, ◌∙◌}
use Rattle.std.specs.Prelude.{IfSome}
use Rattle.avm_model.specs.Evidence.{EvidData, evidence_bytes}
use Rattle.avm_script.specs.Job.{SignedData}
use Rattle.command_parts.specs.FileMap.{FileMap}
use Rattle.audit_command.specs.Audit.{IsNoneOf, audit_writes}
use Rattle.audit_command.specs.Meaning.{AuditMeans, Given, AreGiven, IsShown, EvidenceShown, IsAcceptedLater}
use Rattle.command_parts.specs.Reading.{Finds}

told : (o : Option (Option (List ℕ))) (k : Option (List ℕ)) (key : List ℕ) → o ≡ Some k → Finds o (Some key) → o ≡ Some (Some key)
told o k key e f =
    let is : IfSome (Some k) (λ (w : Option (List ℕ)). w ≡ Some key) = subst (λ (x : Option (Option (List ℕ))). IfSome x (λ (w : Option (List ℕ)). w ≡ Some key)) e f in
    e ∙ ap (λ (x : Option (List ℕ)). Some x) is

-- where the key's file stays
pub accepted_later : (segment : List ℕ) (image : Option (List ℕ)) (names : SignedData) (old new : FileMap) (before after : Option (List ℕ)) → AuditMeans segment image (Some names) old new before after 1 → new names.key ≡ old names.key → IsAcceptedLater names old new
accepted_later segment image names old new before after means same key evidence later tk te check n4 n5 =
    let shown : EvidenceShown segment image (Some names) old new = means.fault refl in
    let g : Given = shown.0 in
    let e : EvidData = shown.2 in
    let given : AreGiven Finds segment image (Some names) old g = shown.3 in
    let is : IsShown g.key g.segment g.auths shown.1 e (old names.evidence) (new names.evidence) = shown.4 in
    let read : new names.key ≡ Some (Some g.key) = same ∙ told (old names.key) key g.key tk given.2 in
    let left : new names.evidence ≡ Some (Some (evidence_bytes e)) = is.written ∙ ap (λ (o : Option (Option (List ℕ))). option_map (λ (w : Option (List ℕ)). Some (evidence_bytes e)) o) te in
    check.accepts g.key (evidence_bytes e) read left given.3 is.stands n4 n5

-- the command's clause of it
pub written_later : (segment : List ℕ) (image : Option (List ℕ)) (signed : Option SignedData) (old new : FileMap) (before after : Option (List ℕ)) (result : ℕ) → AuditMeans segment image signed old new before after result → ((n : List ℕ) → IsNoneOf (audit_writes signed) n → new n ≡ old n)
    → (names : SignedData) → signed ≡ Some names → names.key ≢ names.evidence → result ≡ 1 → IsAcceptedLater names old new
written_later segment image None old new before after result means others names is apart one = let none : ◌≡◌ {A = Option SignedData} None (Some names) = is in cc
written_later segment image (Some own) old new before after result means others names is apart one =
    let same : Some own ≡ Some names = is in
    let same : own ≡ names = cc in
    let means : AuditMeans segment image (Some names) old new before after 1 = rw (same, one) at means in
    let others : (n : List ℕ) → IsNoneOf (audit_writes (Some names)) n → new n ≡ old n = subst (λ (s : SignedData). (n : List ℕ) → IsNoneOf (audit_writes (Some s)) n → new n ≡ old n) same others in
    accepted_later segment image names old new before after means (others names.key (apart, tt))
