use Rattle.record_model.proofs.Standing.{standing_moved, effect_standing, standing_saved}
use Rattle.record_model.proofs.laws.acts_keep_standing.Goals as goal

pub returns-clause-moved : goal.returns-clause-moved
returns-clause-moved c r n u h m = standing_moved r n u h m

pub returns-clause-act : goal.returns-clause-act
returns-clause-act c who pages r act e h fits q = effect_standing who pages r act e h fits q

pub returns-clause-saved : goal.returns-clause-saved
returns-clause-saved c r h = standing_saved r h
