use Rattle.std.proofs.Common.{ℕ, List, Bool, cond, get_or, drop, ap, ◌+◌, ◌-◌, ◌++◌, map, arith, ◌∙◌}
use Rattle.avm_outside.specs.DiskLog.{image_from}
use Rattle.avm_outside.specs.DiskEvents.{range_view}
use Rattle.avm_outside.proofs.Choices.{image_step, image_end}
use Rattle.avm_outside.proofs.states.fill.Goals as goal

pub returns : goal.returns
returns c = image_end c.args.bytes.now (map range_view c.args.ranges.now) c.args.least c.loop-place.place c.args.len c.loop-place.image.items _ _ (omega (arith, c.loop-place-test.false)) c.loop-place.invariant.so_far

pub loop-place-preserved : goal.loop-place-preserved
loop-place-preserved c = record {
  within = omega (arith, c.loop-place-test.true);
  so_far = ap (λ (l : List ℕ). l ++ image_from c.args.bytes.now (map range_view c.args.ranges.now) c.args.least (c.loop-place.place + 1) (c.args.len - (c.loop-place.place + 1)) c.choose-byte.result.1.now) c.in_ok-push.ensures.items
      ∙ image_step c.args.bytes.now (map range_view c.args.ranges.now) c.args.least c.loop-place.place c.args.len c.loop-place.image.items _ _ _ c.loop-place-test.true (c.choose-byte.ensures.byte ∙ ap (λ (f : Bool). cond f (get_or c.loop-place.left.now 0 0) (get_or c.args.bytes.now c.loop-place.place 0)) c.may_change-free.ensures) (c.choose-byte.ensures.left ∙ ap (λ (f : Bool). cond f (drop 1 c.loop-place.left.now) c.loop-place.left.now) c.may_change-free.ensures) ∙ c.loop-place.invariant.so_far;
}
