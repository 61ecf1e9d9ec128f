-- The numbers that are read of a journal, one item after another.
use Rattle.std.specs.Prelude.{◌≡◌, ℕ, ◌+◌, ◌==◌, List, if◌then◌else◌}
use Rattle.avm_model.specs.Entries.{snaps}
use Rattle.avm_model.specs.Frame.{FrameData}
use Rattle.journal_model.specs.Journal.{Is, JournalData, ended, entries}
use Rattle.jrnl_store.specs.Items.{ItemData, carried_item, entry_item, keep_item, seal_item}
use Rattle.jrnl_store.specs.Kept.{Kept}
use Rattle.jrnl_store.specs.Own.{IsAt}
use Rattle.sample_lines.specs.Judging.{first_snap}
use Rattle.sample_judge.specs.declared.numbers.Numbers.{Numbers}

-- how many SNAP entries there are, and the number of the first
pub record Counting : Type 0 where
  pub snaps : ℕ
  pub first : ℕ

abbrev pub numbers_view : Numbers → Counting
numbers_view n = record { snaps = n.snaps; first = n.first }

abbrev pub with_snap : Counting → ℕ → Counting
with_snap n seq = record { snaps = n.snaps + 1; first = if n.snaps == 0 then seq else n.first }

-- one entry more
abbrev pub counted : Counting → FrameData → Counting
counted n f = if f.kind == 2 then with_snap n f.seq else n

abbrev pub item_counted : Counting → ItemData → Counting
item_counted n (carried_item f s) = n
item_counted n (entry_item f t) = counted n f
item_counted n (seal_item s) = n
item_counted n (keep_item k) = n

abbrev pub Counts : Numbers → ItemData → Numbers → Type 0
Counts old x new = numbers_view new ≡ item_counted (numbers_view old) x

-- ---- of a journal

-- the journal stands on the bytes, and is kept so
pub record IsOn (j : JournalData) (k : Kept) (was : List ℕ) : Type 0 where
  pub at : IsAt k was j
  pub ended_is : ended j ≡ Is j

pub record NumbersOf (j : JournalData) (n : Numbers) : Type 0 where
  pub snaps_are : n.snaps ≡ snaps (entries j)
  pub first_is : n.first ≡ first_snap (entries j)
