-- Bytes that are compared, and the journal that stands on a disk.
use Rattle.std.proofs.Common.{ℕ, List, inr}
use Rattle.journal_model.specs.Journal.{JournalData}
use Rattle.jrnl_store.specs.Kept.{Kept}
use Rattle.jrnl_store.specs.Own.{IsOwn, IsAt}

pub at_own : (k : Kept) (images : List ℕ → Type 0) (was : List ℕ) (j : JournalData) → IsOwn k images was j → IsAt k was j
at_own k images was j o = record { front = o.front; place = o.place; last = o.last; stands = o.stands; keeps = o.keeps; base = o.base; read = o.read; begun = inr o.begun }
