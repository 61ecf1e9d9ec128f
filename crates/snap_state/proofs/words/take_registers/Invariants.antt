use Rattle.std.proofs.Common.{◌≡◌, ◌-◌, take, length}
use Rattle.std.specs.Int.{w32}
use Rattle.avm_num.specs.Bytes.{number_at}
use Rattle.avm_num.specs.Lists.{list_at, with_front}
use Rattle.snap_state.proofs.words.take_registers.Given as goal

abbrev pub invariant-loop-i : goal.invariant-loop-i
invariant-loop-i l = record {
  read : with_front (take l.i l.registers) (list_at (number_at w32) (31 - l.i) l.rest) ≡ list_at (number_at w32) 31 l.fn.view;
  len : length l.registers ≡ 31;
}
