-- What opening a recorder on a disk in memory leaves.
use Rattle.std.proofs.Common.{◌≡◌, ℕ, List, [], Some, None, Result, Ok, Err, sym, subst, ◌∙◌}
use Rattle.std.specs.Prelude.{IfOk}
use Rattle.avm_model.specs.Keys.{HasTypes, KeyData}
use Rattle.avm_outside.specs.MemDisks.{disk_bytes}
use Rattle.avm_outside.specs.declared.mem_disk.MemDisk.{MemDisk}
use Rattle.journal_model.specs.Journal.{Is, JournalData, journal_of}
use Rattle.jrnl_store.specs.Kept.{kept as kept_of}
use Rattle.jrnl_store.specs.Own.{IsOwn}
use Rattle.record_open.specs.Opening.{AttachAnswers, IsAllowed, IsDesk}
use Rattle.record_open.specs.declared.fault.RecordFault.{RecordFault}
use Rattle.recorder.specs.Opened.{desk_result}
use Rattle.recorder.specs.Recorder.{desk_of, stop_of}
use Rattle.recorder.specs.declared.recorder.Recorder.{Recorder}
use Rattle.world_core.specs.Crashes.{OpensOn}
use Rattle.world_core.specs.Runs.{Runs}
use Rattle.world_core.specs.Turns.{IsDiskOf, may_leave}

same_bytes : (a b : List ℕ) → Some a ≡ Some b → a ≡ b
same_bytes a b e = cc

-- the journal that is opened, and its disk
pub record Opened (new : MemDisk) (r : Recorder) (key : KeyData) (was : List ℕ) : Type 0 where
  pub bytes : disk_bytes new ≡ was
  pub journal : JournalData
  pub stands : journal_of was ≡ Is journal
  pub allowed : IsAllowed key journal
  pub disk : IsDiskOf new (desk_of r) journal
  pub desk : IsDesk journal (desk_of r)

pub opened_is : (mid new : MemDisk) (r : Recorder) (key : KeyData) → Some (disk_bytes new) ≡ Some (disk_bytes mid) → AttachAnswers key (Ok (desk_of r)) (may_leave new) (disk_bytes mid) → Opened new r key (disk_bytes mid)
opened_is mid new r key same t =
    let bytes = same_bytes (disk_bytes new) (disk_bytes mid) same in
    record {
      bytes = bytes;
      journal = t.0;
      stands = t.1;
      allowed = t.3.0;
      disk = record { own = subst (λ (b : List ℕ). IsOwn (kept_of (desk_of r).store.journal) (may_leave new) b t.0) (sym bytes) t.2; kept = t.3.1.tickets };
      desk = t.3.1;
    }

pub opens_on : (mid new : MemDisk) (r : Recorder) (key : KeyData) (image : List ℕ) → disk_bytes mid ≡ image → ((c : List ℕ) → may_leave new c → c ≡ image) → Opened new r key (disk_bytes mid) → stop_of r ≡ None → (desk_of r).store.batch.parts ≡ [] → (desk_of r).press.key ≡ key → OpensOn new r key image
opens_on mid new r key image is only o runs empty signs = record {
  bytes = o.bytes ∙ is;
  only = only;
  runs = runs;
  empty = empty;
  key_is = signs;
  journal = o.journal;
  stands = subst (λ (b : List ℕ). journal_of b ≡ Is o.journal) is o.stands;
  allowed = o.allowed;
  disk = o.disk;
  desk = o.desk;
}

pub opened_runs : (mid new : MemDisk) (r : Recorder) (key : KeyData) → HasTypes key → Opened new r key (disk_bytes mid) → (desk_of r).press.key ≡ key → Runs new r
opened_runs mid new r key types o signs = record { types = subst HasTypes (sym signs) types; disk = λ none. (o.journal, o.disk) }

-- ---- whatever opening answers

abbrev Says : MemDisk → MemDisk → KeyData → Result Recorder RecordFault → Type 0
Says mid new key res = AttachAnswers key (desk_result res) (may_leave new) (disk_bytes mid)

pub if_opened : (res : Result Recorder RecordFault) (mid new : MemDisk) (key : KeyData) (image : List ℕ) → disk_bytes mid ≡ image → ((c : List ℕ) → may_leave new c → c ≡ image) → Some (disk_bytes new) ≡ Some (disk_bytes mid) → Says mid new key res
    → IfOk res (λ r. stop_of r ≡ None) → IfOk res (λ r. (desk_of r).store.batch.parts ≡ []) → IfOk res (λ r. (desk_of r).press.key ≡ key) → IfOk res (λ r. OpensOn new r key image)
if_opened (Ok r) mid new key image is only same t runs empty signs = opens_on mid new r key image is only (opened_is mid new r key same t) runs empty signs
if_opened (Err e) mid new key image is only same t runs empty signs = tt

pub if_runs : (res : Result Recorder RecordFault) (mid new : MemDisk) (key : KeyData) → HasTypes key → Some (disk_bytes new) ≡ Some (disk_bytes mid) → Says mid new key res → IfOk res (λ r. (desk_of r).press.key ≡ key) → IfOk res (λ r. Runs new r)
if_runs (Ok r) mid new key types same t signs = opened_runs mid new r key types (opened_is mid new r key same t) signs
if_runs (Err e) mid new key types same t signs = tt
