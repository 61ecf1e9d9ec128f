use Rattle.record_model.proofs.Continuing.{effect_continues, seal_continues}
use Rattle.record_model.proofs.laws.acts_go_on.Goals as goal

pub returns-clause-act : goal.returns-clause-act
returns-clause-act c who pages r act e w up h fits q = effect_continues who pages r act e w up h fits q

pub returns-clause-seal : goal.returns-clause-seal
returns-clause-seal c r w h = seal_continues r w h
