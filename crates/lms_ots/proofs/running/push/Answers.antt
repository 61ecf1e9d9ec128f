use Rattle.std.proofs.Common.{rules, ◌+◌, ℕ, arith, slice_index, subst, length-set, ◌∙◌}
use Rattle.lms_ots.specs.Chains.{text_at, HasGone}
use Rattle.lms_ots.proofs.Steps.{all_stay, put_gone}
use Rattle.lms_ots.proofs.running.push.Goals as goal

pub loop-k-init : goal.loop-k-init
loop-k-init c = record { rows = search rules; places = search rules; gone = all_stay c.args.texts.now c.args.at.now c.args.to.now c.requires.within }

pub loop-k-preserved : goal.loop-k-preserved
loop-k-preserved c =
    let i = c.loop-k.invariant in
    let k = c.loop-k.k in
    let low = c.loop-k-test.true in
    let lane = slice_index c.args.lanes.now k in
    let inside = c.requires.lanes k low in
    let place = c.places_of-from.ensures k low in
    let text = text_at c.args.texts.now lane in
    let gone = rw (c.texts_of-group.ensures k low) at (c.walk_eight.ensures k low) in
    let moved = subst (λ (a : ℕ). HasGone text a (slice_index c.places_of-from.result k + c.args.steps) (text_at c.walk_eight.new.texts k)) place gone in
    let last = rw (← place) at (c.requires.steps k low) in
    record {
      rows = length-set c.loop-k.texts lane _ ∙ i.rows;
      places = length-set c.loop-k.at lane _ ∙ i.places;
      gone = put_gone c.args.texts.now c.args.at.now c.args.to.now c.loop-k.texts c.loop-k.at lane _ _ (omega (arith, i.rows, inside)) (omega (arith, i.places, inside)) last moved i.gone;
    }
