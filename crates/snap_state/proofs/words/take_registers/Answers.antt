use Rattle.std.proofs.Common.{arith, ◌-◌, ◌+◌, ◌∙◌}
use Rattle.std.proofs.lemmas.List.{length-set}
use Rattle.std.specs.Int.{w32}
use Rattle.avm_num.specs.Bytes.{number_at}
use Rattle.avm_num.proofs.Loops.{array_goes, array_ends}
use Rattle.snap_state.proofs.words.take_registers.Goals as goal

pub loop-i-preserved : goal.loop-i-preserved
loop-i-preserved c = record {
  read = array_goes (number_at w32) _ (31 - c.loop-i.i) (31 - (c.loop-i.i + 1)) c.loop-i.i c.loop-i.registers _ _ _ c.loop-i.invariant.read c.in_ok-registers.ensures (omega arith) (omega arith);
  len = length-set _ _ _ ∙ c.loop-i.invariant.len;
}

pub returns : goal.returns
returns c = array_ends (number_at w32) _ (31 - c.loop-i.i) c.loop-i.i c.loop-i.registers _ c.loop-i.invariant.read (omega arith) (omega arith)
