use Rattle.std.proofs.Common.{◌≡◌, ◌+◌, ◌-◌, ◌*◌, length}
use Rattle.avm_model.specs.Basics.{first_at}
use Rattle.avm_model.specs.Image.{is_bad, headers_at}
use Rattle.rv32_loader.proofs.inspection.bad_header.Given as goal

abbrev pub invariant-loop-i : goal.invariant-loop-i
invariant-loop-i l = first_at (is_bad (length l.file)) l.i (headers_at l.file (l.at + 32 * l.i) (l.count - l.i)) ≡ first_at (is_bad (length l.file)) 0 (headers_at l.file l.at l.count)
