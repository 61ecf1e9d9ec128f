use Rattle.std.proofs.Common.{◌≡◌, ◌-◌, ◌+◌, suc, arith}
use Rattle.sample_parts.proofs.Words.{bytes_on, behind_on}
use Rattle.sample_parts.proofs.drawing.draw_bytes.Goals as goal

pub loop-i-preserved : goal.loop-i-preserved
loop-i-preserved c =
    let is : c.args.words - c.loop-i._i ≡ suc (c.args.words - (c.loop-i._i + 1)) = omega (arith, c.loop-i-test.true) in (
      bytes_on _ _ c.loop-i.rng c.next_word.new.self c.next_word.result c.loop-i.bytes.items _ _ is c.next_word.ensures (rw c.to_le_bytes.ensures at c.in_ok-extend_from_slice.ensures.items) c.loop-i.invariant.0,
      behind_on _ _ c.loop-i.rng c.next_word.new.self _ c.next_word.result is c.next_word.ensures c.loop-i.invariant.1,
    )
