-- What a recorder's parts are, and what each turn finds of them.
use Rattle.std.specs.Prelude.{◌≡◌, ℕ, false, List, Bool, Option, IfSome}
use Rattle.journal_model.specs.Journal.{JournalData}
use Rattle.jrnl_store.specs.Kept.{Kept as JournalKept}
use Rattle.jrnl_store.specs.Own.{IsOwn}
use Rattle.record_batch.specs.Batch.{BatchData}
use Rattle.record_kept.specs.declared.kept.Kept.{Kept}
use Rattle.record_kept.specs.declared.kept.KeptRow.{KeptRow}
use Rattle.record_machine.specs.declared.drafts.Drafts.{Drafts}
use Rattle.record_model.specs.Recording.{is_large}
use Rattle.record_parts.specs.Outs.{AreQuiet}
use Rattle.record_store.specs.Open.{IsOpen}

abbrev pub rows_of : Kept → List KeptRow
rows_of k = k.rows

abbrev pub marks_of : Drafts → List Bool
marks_of d = d.marks.items

-- The journal hasn't stopped, and its open batch goes on from it; the batch has nothing to release, and isn't large.
pub record IsReady (k : JournalKept) (b : BatchData) : Type 0 where
  pub opens : IsOpen k b
  pub quiet : AreQuiet b.parts
  pub small : is_large b.parts ≡ false

-- a disk that tells its content is a journal's own
abbrev pub HasDisk : JournalKept → (List ℕ → Type 0) → Option (List ℕ) → Type 0
HasDisk k images told = IfSome told (λ was. (j : JournalData) × IsOwn k images was j)
