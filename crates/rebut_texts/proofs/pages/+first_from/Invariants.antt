use Rattle.std.proofs.Common.{length, ◌-◌}
use Rattle.rebut_texts.proofs.pages.+first_from.Given as goal

abbrev pub decreases-first_from : goal.decreases-first_from
decreases-first_from l = length l.trees.now.ours.now - l.place
