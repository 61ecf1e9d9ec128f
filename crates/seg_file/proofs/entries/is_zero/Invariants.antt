use Rattle.std.proofs.Common.{◌≡◌, drop}
use Rattle.avm_model.specs.Entries.{all_zero}
use Rattle.seg_file.proofs.entries.is_zero.Given as goal

abbrev pub invariant-loop-byte : goal.invariant-loop-byte
invariant-loop-byte l = all_zero (drop l.byte-index l.bytes) ≡ all_zero l.fn.bytes
