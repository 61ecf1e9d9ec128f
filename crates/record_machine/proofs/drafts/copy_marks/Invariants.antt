use Rattle.std.proofs.Common.{◌≡◌, ℕ, ◌<◌, get_or, true, false}
use Rattle.record_machine.specs.Marks.{used_marks}
use Rattle.record_machine.proofs.drafts.copy_marks.Given as goal

abbrev pub invariant-loop-i : goal.invariant-loop-i
invariant-loop-i l = (k : ℕ) → k < l.i → get_or (used_marks l.all l.ram.dirty) k false ≡ true → get_or l.marks k false ≡ true
