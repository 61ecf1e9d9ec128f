use Rattle.std.proofs.Common.{◌≤◌, ◌≡◌, ◌+◌, ◌-◌, ◌^◌, ℕ, List, IfSome, drop, cond, false}
use Rattle.journal_model.specs.Journal.{JournalData, Is, ended, journal_of, is_open}
use Rattle.jrnl_store.specs.Kept.{kept}
use Rattle.jrnl_store.specs.Own.{IsAt}
use Rattle.jrnl_store.proofs.journal.Journal.rest.Given as goal

abbrev pub invariant-loop-more : goal.invariant-loop-more
invariant-loop-more g l = record {
  told : IfSome (g.D.Disk.seen l.fn.disk) (λ was. (j : JournalData) → IsAt (kept l.fn.self) was j → ended j ≡ Is j
      → (next : JournalData) × IsAt (kept l.self) was next × (ended next ≡ Is next) × (l.more ≡ false → (journal_of was ≡ ended next) × (is_open (drop l.self.gate was) ≡ false)));
  same : g.D.Disk.seen l.disk ≡ g.D.Disk.seen l.fn.disk;
  crash : (c : List ℕ) → g.D.Disk.may_leave l.disk c → g.D.Disk.may_leave l.fn.disk c;
  later : g.D.Disk.moment l.fn.disk ≤ g.D.Disk.moment l.disk;
  moments : (t : ℕ) (c : List ℕ) → t ≤ g.D.Disk.moment l.fn.disk → g.D.Disk.left_since l.disk t c → g.D.Disk.left_since l.fn.disk t c;
  faults : g.D.Disk.faults l.disk ≡ g.D.Disk.faults l.fn.disk;
  stop : l.self.stop ≡ l.fn.self.stop;
}

abbrev pub decreases-loop-more : goal.decreases-loop-more
decreases-loop-more g l = 2 ^ 30 - l.self.gate + cond l.more 1 0
