-- What the status of a named job says.
use Rattle.std.proofs.Common.{◌≡◌, ◌⊎◌, ◌≤◌, ℕ, List, Option, Some, IfSome, refl, sym, subst}
use Rattle.avm_script.specs.Job.{JobData, SignedData, audit, check, enroll, export, format, list, narrow, rebut, record_job, retain, roll, view_at, view_changes, widen, job_of}
use Rattle.audit_command.specs.Meaning.{AuditMeans, CheckMeans, IsAcceptedLater}
use Rattle.command_parts.specs.FileMap.{FileMap}
use Rattle.export_command.specs.Meaning.{ExportMeans}
use Rattle.export_command.specs.Outcomes.{asked}
use Rattle.format_command.specs.Meaning.{FormatMeans}
use Rattle.hss_command.specs.Narrow.{NarrowMeans}
use Rattle.hss_command.specs.Widen.{WidenMeans}
use Rattle.list_command.specs.Meaning.{ListMeans}
use Rattle.rebut_command.specs.Meaning.{RebutMeans}
use Rattle.record_command.specs.Meaning.{RecordMeans, StandsFrom}
use Rattle.roll_command.specs.Enroll.{EnrollMeans}
use Rattle.roll_command.specs.Roll.{RollMeans}
use Rattle.view_command.specs.Meaning.{ViewMeans}
use Rattle.view_command.specs.Showing.{ShowsState, ShowsChanges}
use Rattle.avm_top.specs.Jobs.{MeansAs, MomentsAs, WhereRetained, enroll_names, format_names, record_files, state_asked}
use Rattle.avm_top.proofs.Names.{audit_names}

means_of : (job own : Option JobData) (old new : FileMap) (was is : Option (List ℕ)) (images : List ℕ → Type 0) (before after : Option (List ℕ)) (result : ℕ) → own ≡ job → MeansAs job old new was is images before after result → MeansAs own old new was is images before after result
means_of job own old new was is images before after result is_it means = subst (λ (j : Option JobData). MeansAs j old new was is images before after result) (sym is_it) means

pub audit_means : (job : Option JobData) (old new : FileMap) (was is : Option (List ℕ)) (images : List ℕ → Type 0) (before after : Option (List ℕ)) (result : ℕ) → MeansAs job old new was is images before after result → (segment : List ℕ) (image : Option (List ℕ)) (signed : Option SignedData) → Some (audit segment image signed) ≡ job → AuditMeans segment image signed old new before after result
audit_means job old new was is images before after result means segment image signed is_it = (means_of job (Some (audit segment image signed)) old new was is images before after result is_it means).0

pub check_means : (job : Option JobData) (old new : FileMap) (was is : Option (List ℕ)) (images : List ℕ → Type 0) (before after : Option (List ℕ)) (result : ℕ) → MeansAs job old new was is images before after result → (key evidence : List ℕ) → Some (check key evidence) ≡ job → CheckMeans key evidence old result
check_means job old new was is images before after result means key evidence is_it = means_of job (Some (check key evidence)) old new was is images before after result is_it means

pub format_means : (job : Option JobData) (old new : FileMap) (was is : Option (List ℕ)) (images : List ℕ → Type 0) (before after : Option (List ℕ)) (result : ℕ) → MeansAs job old new was is images before after result → (store key config image : List ℕ) → Some (format store key config image) ≡ job → FormatMeans (format_names key config image) old was is images result
format_means job old new was is images before after result means store key config image is_it = means_of job (Some (format store key config image)) old new was is images before after result is_it means

pub list_means : (job : Option JobData) (old new : FileMap) (was is : Option (List ℕ)) (images : List ℕ → Type 0) (before after : Option (List ℕ)) (result : ℕ) → MeansAs job old new was is images before after result → (store : List ℕ) → Some (list store) ≡ job → ListMeans was before after result
list_means job old new was is images before after result means store is_it = means_of job (Some (list store)) old new was is images before after result is_it means

pub record_means : (job : Option JobData) (old new : FileMap) (was is : Option (List ℕ)) (images : List ℕ → Type 0) (before after : Option (List ℕ)) (result : ℕ) → MeansAs job old new was is images before after result → (store key script packets console auths : List ℕ) → Some (record_job store key script packets console auths) ≡ job → RecordMeans (record_files key script packets console auths) old new was is images before after result
record_means job old new was is images before after result means store key script packets console auths is_it = means_of job (Some (record_job store key script packets console auths)) old new was is images before after result is_it means

-- what a crash at any moment of a recording leaves
pub recorded : (job : Option JobData) (files : FileMap) (was : Option (List ℕ)) (moment : ℕ) (before after : ℕ → List ℕ → Type 0) → MomentsAs job files was moment before after → (store key script packets console auths : List ℕ) → Some (record_job store key script packets console auths) ≡ job
    → IfSome was (λ w. (t : ℕ) (c : List ℕ) → t ≤ moment → after t c → before t c ⊎ StandsFrom (record_files key script packets console auths) files w c)
recorded job files was moment before after left store key script packets console auths is_it = subst (λ (j : Option JobData). MomentsAs j files was moment before after) (sym is_it) left

pub export_means : (job : Option JobData) (old new : FileMap) (was is : Option (List ℕ)) (images : List ℕ → Type 0) (before after : Option (List ℕ)) (result : ℕ) → MeansAs job old new was is images before after result → (store : List ℕ) (from to : ℕ) (segment : List ℕ) → Some (export store from to segment) ≡ job → ExportMeans (asked from to segment) was old new result
export_means job old new was is images before after result means store from to segment is_it = means_of job (Some (export store from to segment)) old new was is images before after result is_it means

pub rebut_means : (job : Option JobData) (old new : FileMap) (was is : Option (List ℕ)) (images : List ℕ → Type 0) (before after : Option (List ℕ)) (result : ℕ) → MeansAs job old new was is images before after result → (store evidence : List ℕ) → Some (rebut store evidence) ≡ job → RebutMeans (old evidence) was before after result
rebut_means job old new was is images before after result means store evidence is_it = means_of job (Some (rebut store evidence)) old new was is images before after result is_it means

pub view_means : (job : Option JobData) (old new : FileMap) (was is : Option (List ℕ)) (images : List ℕ → Type 0) (before after : Option (List ℕ)) (result : ℕ) → MeansAs job old new was is images before after result → (segment : List ℕ) (count from words : ℕ) → Some (view_at segment count from words) ≡ job → ViewMeans (ShowsState (state_asked count from words)) (old segment) before after result
view_means job old new was is images before after result means segment count from words is_it = means_of job (Some (view_at segment count from words)) old new was is images before after result is_it means

pub changes_means : (job : Option JobData) (old new : FileMap) (was is : Option (List ℕ)) (images : List ℕ → Type 0) (before after : Option (List ℕ)) (result : ℕ) → MeansAs job old new was is images before after result → (segment : List ℕ) (at : ℕ) → Some (view_changes segment at) ≡ job → ViewMeans (ShowsChanges at) (old segment) before after result
changes_means job old new was is images before after result means segment at is_it = means_of job (Some (view_changes segment at)) old new was is images before after result is_it means

pub widen_means : (job : Option JobData) (old new : FileMap) (was is : Option (List ℕ)) (images : List ℕ → Type 0) (before after : Option (List ℕ)) (result : ℕ) → MeansAs job old new was is images before after result → (endorse auths into : List ℕ) → Some (widen endorse auths into) ≡ job → WidenMeans endorse auths into old new result
widen_means job old new was is images before after result means endorse auths into is_it = means_of job (Some (widen endorse auths into)) old new was is images before after result is_it means

pub narrow_means : (job : Option JobData) (old new : FileMap) (was is : Option (List ℕ)) (images : List ℕ → Type 0) (before after : Option (List ℕ)) (result : ℕ) → MeansAs job old new was is images before after result → (key auths public into : List ℕ) → Some (narrow key auths public into) ≡ job → NarrowMeans key auths public into old new result
narrow_means job old new was is images before after result means key auths public into is_it = means_of job (Some (narrow key auths public into)) old new was is images before after result is_it means

pub roll_means : (job : Option JobData) (old new : FileMap) (was is : Option (List ℕ)) (images : List ℕ → Type 0) (before after : Option (List ℕ)) (result : ℕ) → MeansAs job old new was is images before after result → (store key : List ℕ) → Some (roll store key) ≡ job → RollMeans (old key) was is images result
roll_means job old new was is images before after result means store key is_it = means_of job (Some (roll store key)) old new was is images before after result is_it means

pub enroll_means : (job : Option JobData) (old new : FileMap) (was is : Option (List ℕ)) (images : List ℕ → Type 0) (before after : Option (List ℕ)) (result : ℕ) → MeansAs job old new was is images before after result → (store key public endorse : List ℕ) → Some (enroll store key public endorse) ≡ job → EnrollMeans (enroll_names key public endorse) old new was is images result
enroll_means job old new was is images before after result means store key public endorse is_it = means_of job (Some (enroll store key public endorse)) old new was is images before after result is_it means

-- what is said of a job that moves a store
pub retained : (job : Option JobData) (P : ℕ → Type 0) → WhereRetained job P → (store into : List ℕ) (at : ℕ) → Some (retain store into at) ≡ job → P at
retained job P said store into at is_it = subst (λ (j : Option JobData). WhereRetained j P) (sym is_it) said

-- the evidence has another name than the key
pub evidence_later : (words : List (List ℕ)) (old new : FileMap) (was is : Option (List ℕ)) (images : List ℕ → Type 0) (before after : Option (List ℕ)) (result : ℕ) → MeansAs (job_of words) old new was is images before after result → (segment : List ℕ) (image : Option (List ℕ)) (names : SignedData) → Some (audit segment image (Some names)) ≡ job_of words → result ≡ 1 → IsAcceptedLater names old new
evidence_later words old new was is images before after result means segment image names is_it one =
    (means_of (job_of words) (Some (audit segment image (Some names))) old new was is images before after result is_it means).1 names refl (audit_names words segment image names is_it) one
