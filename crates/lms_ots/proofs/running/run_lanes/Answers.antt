use Rattle.std.proofs.Common.{rules}
use Rattle.lms_ots.proofs.Steps.{all_stay, all_go_on}
use Rattle.lms_ots.proofs.running.run_lanes.Goals as goal

pub loop-turn-init : goal.loop-turn-init
loop-turn-init c = record { rows = search rules; places = search rules; inside = c.first_eight-lanes.ensures; gone = all_stay c.args.texts.now c.args.at.now c.args.to.now c.requires.within }

pub loop-turn-preserved : goal.loop-turn-preserved
loop-turn-preserved c = record {
  rows = search rules;
  places = search rules;
  inside = c.refill-next.ensures;
  gone = all_go_on _ _ _ _ _ _ _ c.loop-turn.invariant.gone c.push.ensures;
}
