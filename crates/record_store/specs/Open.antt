-- A batch that isn't saved yet, behind where its journal stands.
use Rattle.std.specs.Prelude.{◌≡◌, ◌<◌, true, None, fold}
use Rattle.journal_model.specs.Journal.{follows}
use Rattle.journal_model.specs.Standing.{behind}
use Rattle.jrnl_store.specs.Kept.{Kept}
use Rattle.record_batch.specs.Batch.{BatchData}

-- The journal has an entry, has no mark and hasn't stopped; the batch goes on from there, and its next number is the one behind it.
pub record IsOpen (k : Kept) (b : BatchData) : Type 0 where
  pub run : k.stop ≡ None
  pub mark : k.mark ≡ None
  pub begun : k.bounds.first < k.standing.next
  pub goes : follows k.bounds.first k.bounds.pages k.standing.next None b.parts ≡ true
  pub next : b.next ≡ (fold behind k.standing b.parts).next

-- what a journal keeps for good
pub record IsSame (k n : Kept) : Type 0 where
  pub key : n.key ≡ k.key
  pub bounds : n.bounds ≡ k.bounds
  pub mark : n.mark ≡ k.mark
