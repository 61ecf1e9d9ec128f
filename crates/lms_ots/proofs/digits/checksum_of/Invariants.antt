use Rattle.std.proofs.Common.{◌≡◌, ◌≤◌, ◌*◌}
use Rattle.avm_model.specs.LmsDigits.{lacking}
use Rattle.lms_ots.proofs.digits.checksum_of.Given as goal

abbrev pub invariant-loop-i : goal.invariant-loop-i
invariant-loop-i l = (l.sum ≡ lacking l.fn.bytes l.w l.i) × (l.sum ≤ 255 * l.i)
