use Rattle.std.proofs.Common.{◌≡◌, ◌<◌, [], inl, inr, ◌∙◌, arith, length-set}
use Rattle.std.proofs.lemmas.List.{get_or-set_same, get_or-set_other}
use Rattle.std.proofs.lemmas.Bool.{cases_lt}
use Rattle.lms_ots.proofs.Steps.{goes_on}
use Rattle.lms_ots.proofs.running.run.Goals as goal

pub loop-i-preserved : goal.loop-i-preserved
loop-i-preserved c =
    let i = c.loop-i.i in
    let held = c.loop-i.invariant in
    let low = c.loop-i-test.true in
    let inside : i < 265 = omega arith in
    let texts = c.loop-i.texts in
    let old = c.args.texts.now in
    let from = c.args.from.now in
    let to = c.args.to.now in
    let before = c.run_lanes.ensures.each i inside in
    let after = rw (held.rest i (omega arith)) at c.walk.ensures in
    let both = goes_on _ _ _ _ _ _ before after in
    record {
      rows = length-set texts i _ ∙ held.rows;
      done = λ k below. elim (cases_lt k i) [
        | inl less ↦ rw (get_or-set_other texts i k _ [] (λ (e : k ≡ i). omega (arith, e))) (held.done k less)
        | inr here ↦
            let e : i ≡ k = omega arith in
            rw (← e, get_or-set_same texts i _ [] (omega (arith, held.rows))) both
      ];
      rest = λ k past. get_or-set_other texts i k _ [] (λ (e : k ≡ i). omega (arith, e)) ∙ held.rest k (omega arith);
    }
