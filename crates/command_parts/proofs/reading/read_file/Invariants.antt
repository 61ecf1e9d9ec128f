use Rattle.std.proofs.Common.{◌≡◌, ◌+◌, ◌-◌, ◌≤◌, ℕ, List, IfSome, length}
use Rattle.command_parts.specs.Reading.{IsFront}
use Rattle.command_parts.proofs.reading.read_file.Given as goal

abbrev pub invariant-loop-buf : goal.invariant-loop-buf
invariant-loop-buf g l = record {
  same : (n : List ℕ) → g.F.Files.file l.files n ≡ g.F.Files.file l.fn.files n;
  counts : g.F.Files.faults l.files ≡ g.F.Files.faults l.fn.files;
  front : IfSome (g.F.Files.file l.fn.files l.name) (λ was. IsFront was l.bytes.items);
  within : length l.bytes.items ≤ l.limit + 1;
}

abbrev pub decreases-loop-buf : goal.decreases-loop-buf
decreases-loop-buf g l = l.limit + 1 - length l.bytes.items
