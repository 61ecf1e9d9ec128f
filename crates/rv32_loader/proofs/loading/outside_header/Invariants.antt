use Rattle.std.proofs.Common.{◌≡◌, ◌+◌, ◌-◌, ◌*◌}
use Rattle.avm_model.specs.Basics.{first_at}
use Rattle.avm_model.specs.Image.{is_outside, headers_at}
use Rattle.rv32_loader.proofs.loading.outside_header.Given as goal

abbrev pub invariant-loop-i : goal.invariant-loop-i
invariant-loop-i l = first_at (is_outside l.len) l.i (headers_at l.file (l.at + 32 * l.i) (l.count - l.i)) ≡ first_at (is_outside l.len) 0 (headers_at l.file l.at l.count)
