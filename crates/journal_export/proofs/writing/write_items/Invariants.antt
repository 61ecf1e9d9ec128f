use Rattle.std.proofs.Common.{◌≡◌, ◌≢◌, ℕ, List}
use Rattle.std.specs.List.{AllByRecursion}
use Rattle.rebut_pass.specs.Items.{HasForm}
use Rattle.rebut_pass.proofs.Passes.{Taken}
use Rattle.journal_export.specs.Writing.{Writes, writing}
use Rattle.journal_export.proofs.writing.write_items.Given as goal

abbrev pub invariant-loop-item : goal.invariant-loop-item
invariant-loop-item g l = record {
  can : (goal.iterator-loop-item g).can_next l.left × (goal.iterator-loop-item g).is_finite l.left;
  taken : Taken Writes l.fn.items l.left (writing l.fn.cut l.fn.draft.room.bytes (g.F.Files.file l.fn.files l.fn.name)) (writing l.cut l.draft.room.bytes (g.F.Files.file l.files l.fn.name));
  forms : AllByRecursion HasForm l.left;
  others : (n : List ℕ) → n ≢ l.fn.name → g.F.Files.file l.files n ≡ g.F.Files.file l.fn.files n;
  faults : g.F.Files.faults l.files ≡ g.F.Files.faults l.fn.files;
}
