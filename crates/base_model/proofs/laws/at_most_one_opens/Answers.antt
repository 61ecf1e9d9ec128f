use Rattle.base_model.proofs.Histories.{always_one}
use Rattle.base_model.proofs.laws.at_most_one_opens.Goals as goal

pub returns : goal.returns
returns g c both later safe events = always_one g.D.Disk.may_leave g.E.Disk.may_leave both later safe events
