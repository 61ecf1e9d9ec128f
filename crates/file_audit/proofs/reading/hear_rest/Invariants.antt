use Rattle.std.proofs.Common.{◌≡◌, ◌+◌, ◌-◌, ◌<◌, ◌^◌, ℕ, true, List, Option}
use Rattle.file_audit.specs.Hearing.{HearsFront}
use Rattle.file_audit.proofs.reading.hear_rest.Given as goal

abbrev pub invariant-loop-at : goal.invariant-loop-at
invariant-loop-at g l = record {
  same : (n : List ℕ) → g.F.Files.file l.files n ≡ g.F.Files.file l.fn.files n;
  counts : g.F.Files.faults l.files ≡ g.F.Files.faults l.fn.files;
  begun : l.hearing.stream.begun ≡ true;
  keep : l.hearing.keep ≡ l.fn.hearing.keep;
  some : 0 < l.at;
  heard : (key auths : List ℕ) (image : Option (List ℕ)) → HearsFront key auths image (g.F.Files.file l.fn.files l.name) l.front l.fn.hearing → HearsFront key auths image (g.F.Files.file l.fn.files l.name) l.at l.hearing;
}

abbrev pub decreases-loop-at : goal.decreases-loop-at
decreases-loop-at g l = 2 ^ 26 + 1 - l.at
