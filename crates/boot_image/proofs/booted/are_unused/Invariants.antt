use Rattle.std.proofs.Common.{◌≡◌, drop}
use Rattle.avm_model.specs.ImageState.{are_unused}
use Rattle.boot_image.proofs.booted.are_unused.Given as goal

abbrev pub invariant-loop-i : goal.invariant-loop-i
invariant-loop-i l = are_unused (drop l.i l.peers) ≡ are_unused l.peers
