use Rattle.std.proofs.Common.{◌≡◌, ◌≢◌, ℕ, List, ◌++◌, Some, option_map, length}
use Rattle.evid_file.specs.Pieces.{joined}
use Rattle.evid_file.proofs.pieces.write_all.Given as goal

-- what is written so far, and what is left, are all the pieces
abbrev pub invariant-loop-left : goal.invariant-loop-left
invariant-loop-left g l = record {
  counts : g.F.Files.faults l.files ≡ g.F.Files.faults l.fn.files;
  others : (n : List ℕ) → n ≢ l.name → g.F.Files.file l.files n ≡ g.F.Files.file l.fn.files n;
  written : (done : List ℕ) × (g.F.Files.file l.files l.name ≡ option_map (λ _. Some done) (g.F.Files.file l.fn.files l.name)) × (done ++ joined l.left ≡ joined l.fn.pieces);
}

abbrev pub decreases-loop-left : goal.decreases-loop-left
decreases-loop-left g l = length l.left
