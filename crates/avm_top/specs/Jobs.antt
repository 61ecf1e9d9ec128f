-- How a job runs and what its status says, by the definitions of its command.
use Rattle.std.specs.Prelude.{◌≡◌, ◌≢◌, ◌⊎◌, ◌≤◌, ℕ, Bool, true, false, List, [], ◌∷◌, Option, None, Some, IfSome, codes}
use Rattle.avm_script.specs.Job.{JobData, SignedData, keygen, format, record_job, export, audit, check, rebut, list, retain, roll, enroll, widen, narrow, view_at, view_changes}
use Rattle.audit_command.specs.Audit.{audit_writes}
use Rattle.audit_command.specs.Meaning.{AuditMeans, CheckMeans, IsAcceptedLater}
use Rattle.audit_command.specs.Outcomes.{AuditRuns, CheckRuns}
use Rattle.command_parts.specs.FileMap.{FileMap, SameFiles}
use Rattle.command_parts.specs.Printing.{line, Printed}
use Rattle.export_command.specs.Meaning.{ExportMeans}
use Rattle.export_command.specs.Outcomes.{ExportEnds, asked}
use Rattle.format_command.specs.Inputs.{Names}
use Rattle.format_command.specs.Meaning.{FormatMeans}
use Rattle.format_command.specs.Outcomes.{Counted, FormatEnds}
use Rattle.hss_command.specs.Narrow.{NarrowEnds, NarrowMeans}
use Rattle.hss_command.specs.Widen.{WidenEnds, WidenMeans}
use Rattle.keygen_command.specs.Keygen.{KeygenRuns, key_of_words}
use Rattle.list_command.specs.Meaning.{ListMeans}
use Rattle.list_command.specs.Outcomes.{ListEnds}
use Rattle.rebut_command.specs.Meaning.{RebutMeans}
use Rattle.rebut_command.specs.Outcomes.{RebutEnds, counted}
use Rattle.record_command.specs.Meaning.{RecordMeans, StandsFrom}
use Rattle.record_command.specs.Outcomes.{RecordEnds}
use Rattle.record_command.specs.Outcomes as recording
use Rattle.roll_command.specs.Enroll.{EnrollEnds, EnrollMeans}
use Rattle.roll_command.specs.Enroll as enrolling
use Rattle.roll_command.specs.Roll.{RollEnds, RollMeans}
use Rattle.view_command.specs.Meaning.{ViewMeans}
use Rattle.view_command.specs.Outcomes.{ViewEnds}
use Rattle.view_command.specs.Showing.{ShowsState, ShowsChanges, StateOutOfRange, ChangesOutOfRange}
use Rattle.view_command.specs.declared.shown.StateAsked.{StateAsked}

-- the names of the files that a job may change; a store is no file
abbrev pub written_by : Option JobData → List (List ℕ)
written_by (Some (keygen height w id seed key public)) = key ∷ public ∷ []
written_by (Some (audit segment image signed)) = audit_writes signed
written_by (Some (record_job store key script packets console auths)) = packets ∷ console ∷ auths ∷ []
written_by (Some (export store from to segment)) = segment ∷ []
written_by (Some (enroll store key public endorse)) = endorse ∷ []
written_by (Some (widen endorse auths into)) = into ∷ []
written_by (Some (narrow key auths public into)) = public ∷ into ∷ []
written_by job = []

-- the job makes calls on its store's disk
abbrev pub uses_disk : Option JobData → Bool
uses_disk (Some (format store key config image)) = true
uses_disk (Some (record_job store key script packets console auths)) = true
uses_disk (Some (list store)) = true
uses_disk (Some (export store from to segment)) = true
uses_disk (Some (rebut store evidence)) = true
uses_disk (Some (retain store into at)) = true
uses_disk (Some (roll store key)) = true
uses_disk (Some (enroll store key public endorse)) = true
uses_disk job = false

-- and it may change bytes of it
abbrev pub writes_disk : Option JobData → Bool
writes_disk (Some (format store key config image)) = true
writes_disk (Some (record_job store key script packets console auths)) = true
writes_disk (Some (retain store into at)) = true
writes_disk (Some (roll store key)) = true
writes_disk (Some (enroll store key public endorse)) = true
writes_disk job = false

-- the job makes calls on the spare
abbrev pub uses_spare : Option JobData → Bool
uses_spare (Some (retain store into at)) = true
uses_spare job = false

abbrev pub state_asked : ℕ → ℕ → ℕ → StateAsked
state_asked count from words = record { count = count; from = from; words = words }

abbrev pub format_names : List ℕ → List ℕ → List ℕ → Names
format_names key config image = record { key = key; config = config; image = image }

abbrev pub record_files : List ℕ → List ℕ → List ℕ → List ℕ → List ℕ → recording.Names
record_files key script packets console auths = record { key = key; script = script; packets = packets; console = console; auths = auths }

abbrev pub enroll_names : List ℕ → List ℕ → List ℕ → enrolling.Names
enroll_names key public endorse = record { key = key; public = public; endorse = endorse }

-- one line says why nothing is done, and no file is touched
abbrev pub Refused : List ℕ → ℕ → FileMap → FileMap → Counted → Option (List ℕ) → Option (List ℕ) → ℕ → Type 0
Refused text status old new n before after result =
    SameFiles old new × (n.files_now ≡ n.files_before) × Printed (line text ∷ []) status n.out_before n.out_now before after result

-- A run of a job: the files before and after it; what the disk tells before and after it, the images that a crash may leave
-- then, and `quiet`, that no call was made on it; the counts of faults; what is printed before and after it, and the status.
abbrev pub RunsAs : Option JobData → FileMap → FileMap → Option (List ℕ) → Option (List ℕ) → (List ℕ → Type 0) → Type 0 → Counted → Option (List ℕ) → Option (List ℕ) → ℕ → Type 0
RunsAs None old new was is images quiet n before after result = Refused (codes "refused words") 3 old new n before after result
RunsAs (Some (keygen height w id seed key public)) old new was is images quiet n before after result =
    KeygenRuns (key_of_words height w id seed) key public old new n.files_before n.files_now n.out_before n.out_now before after result
RunsAs (Some (format store key config image)) old new was is images quiet n before after result =
    FormatEnds (format_names key config image) old was is images quiet n before after result
RunsAs (Some (record_job store key script packets console auths)) old new was is images quiet n before after result =
    RecordEnds (record_files key script packets console auths) old new was is images quiet n before after result
RunsAs (Some (list store)) old new was is images quiet n before after result =
    (n.files_now ≡ n.files_before) × ListEnds was n.disk_before n.disk_now n.out_before n.out_now before after result
RunsAs (Some (export store from to segment)) old new was is images quiet n before after result =
    ExportEnds (asked from to segment) old new was n before after result
RunsAs (Some (rebut store evidence)) old new was is images quiet n before after result =
    RebutEnds (old evidence) was (counted n.files_before n.files_now) (counted n.disk_before n.disk_now) (counted n.out_before n.out_now) before after result
RunsAs (Some (audit segment image signed)) old new was is images quiet n before after result =
    AuditRuns segment image signed old new n.files_before n.files_now n.out_before n.out_now before after result
RunsAs (Some (check key evidence)) old new was is images quiet n before after result =
    CheckRuns key evidence old new n.files_before n.files_now n.out_before n.out_now before after result
RunsAs (Some (view_at segment count from words)) old new was is images quiet n before after result =
    ViewEnds (ShowsState (state_asked count from words)) (StateOutOfRange (state_asked count from words)) (old segment) n.files_before n.files_now n.out_before n.out_now before after result
RunsAs (Some (view_changes segment at)) old new was is images quiet n before after result =
    ViewEnds (ShowsChanges at) (ChangesOutOfRange at) (old segment) n.files_before n.files_now n.out_before n.out_now before after result
RunsAs (Some (retain store into at)) old new was is images quiet n before after result = SameFiles old new × (n.files_now ≡ n.files_before)
RunsAs (Some (roll store key)) old new was is images quiet n before after result =
    RollEnds (old key) was is images quiet n before after result
RunsAs (Some (enroll store key public endorse)) old new was is images quiet n before after result =
    EnrollEnds (enroll_names key public endorse) old new was is images quiet n before after result
RunsAs (Some (widen endorse auths into)) old new was is images quiet n before after result =
    WidenEnds endorse auths into old new n.files_before n.files_now n.out_before n.out_now before after result
RunsAs (Some (narrow key auths public into)) old new was is images quiet n before after result =
    NarrowEnds key auths public into old new n.files_before n.files_now n.out_before n.out_now before after result
RunsAs (Some job) old new was is images quiet n before after result = Refused (codes "refused notbuilt") 2 old new n before after result

-- what the status says
abbrev pub MeansAs : Option JobData → FileMap → FileMap → Option (List ℕ) → Option (List ℕ) → (List ℕ → Type 0) → Option (List ℕ) → Option (List ℕ) → ℕ → Type 0
MeansAs (Some (audit segment image signed)) old new was is images before after result =
    AuditMeans segment image signed old new before after result × ((names : SignedData) → signed ≡ Some names → names.key ≢ names.evidence → result ≡ 1 → IsAcceptedLater names old new)
MeansAs (Some (check key evidence)) old new was is images before after result = CheckMeans key evidence old result
MeansAs (Some (view_at segment count from words)) old new was is images before after result = ViewMeans (ShowsState (state_asked count from words)) (old segment) before after result
MeansAs (Some (view_changes segment at)) old new was is images before after result = ViewMeans (ShowsChanges at) (old segment) before after result
MeansAs (Some (format store key config image)) old new was is images before after result = FormatMeans (format_names key config image) old was is images result
MeansAs (Some (record_job store key script packets console auths)) old new was is images before after result = RecordMeans (record_files key script packets console auths) old new was is images before after result
MeansAs (Some (list store)) old new was is images before after result = ListMeans was before after result
MeansAs (Some (export store from to segment)) old new was is images before after result = ExportMeans (asked from to segment) was old new result
MeansAs (Some (rebut store evidence)) old new was is images before after result = RebutMeans (old evidence) was before after result
MeansAs (Some (roll store key)) old new was is images before after result = RollMeans (old key) was is images result
MeansAs (Some (enroll store key public endorse)) old new was is images before after result = EnrollMeans (enroll_names key public endorse) old new was is images result
MeansAs (Some (widen endorse auths into)) old new was is images before after result = WidenMeans endorse auths into old new result
MeansAs (Some (narrow key auths public into)) old new was is images before after result = NarrowMeans key auths public into old new result
MeansAs job old new was is images before after result = Unit {0}

-- what is said of a job that moves a store, by the entry from which on it is kept: its lines and its status are here, since they speak of both disks
abbrev pub WhereRetained : Option JobData → (ℕ → Type 0) → Type 0
WhereRetained (Some (retain store into at)) P = P at
WhereRetained job P = Unit {0}

-- What a crash at any moment of a recording leaves, of the files and the disk as they were: an image that stands for a journal of a run of
-- the script. Images of earlier moments stay.
abbrev pub MomentsAs : Option JobData → FileMap → Option (List ℕ) → ℕ → (ℕ → List ℕ → Type 0) → (ℕ → List ℕ → Type 0) → Type 0
MomentsAs (Some (record_job store key script packets console auths)) files was moment before after =
    IfSome was (λ w. (t : ℕ) (c : List ℕ) → t ≤ moment → after t c → before t c ⊎ StandsFrom (record_files key script packets console auths) files w c)
MomentsAs job files was moment before after = Unit {0}
