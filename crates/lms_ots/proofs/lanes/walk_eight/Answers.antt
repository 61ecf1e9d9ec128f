use Rattle.std.proofs.Common.{◌≡◌, ◌+◌, ℕ, slice_index, subst, arith}
use Rattle.lms_ots.specs.Chains.{text_at, HasGone}
use Rattle.lms_ots.proofs.Steps.{stays, goes_on}
use Rattle.lms_ots.proofs.lanes.walk_eight.Goals as goal

pub loop-done-init : goal.loop-done-init
loop-done-init c k lt =
    let a = slice_index c.args.at.now k in
    let same : a ≡ a + 0 = omega arith in
    subst (λ (b : ℕ). HasGone (text_at c.args.texts.now k) a b (text_at c.args.texts.now k)) same (stays (text_at c.args.texts.now k) a)

pub loop-done-preserved : goal.loop-done-preserved
loop-done-preserved c k lt = goes_on _ _ _ _ _ _ (c.loop-done.invariant k lt) (c.advance.ensures k lt)
