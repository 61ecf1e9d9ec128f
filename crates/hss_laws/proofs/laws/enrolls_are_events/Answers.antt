use Rattle.hss_laws.proofs.Events.{granted_event, cut_event}
use Rattle.hss_laws.proofs.laws.enrolls_are_events.Goals as goal

pub returns-clause-granted : goal.returns-clause-granted
returns-clause-granted g c = λ disk now bottom r old new grant answers. granted_event (g.D.Disk.may_leave disk) now bottom r old new grant answers

pub returns-clause-cut : goal.returns-clause-cut
returns-clause-cut g c = λ before behind image bottom r s leaves left is. cut_event image bottom r s (leaves.each image left) is

pub returns-clause-opened : goal.returns-clause-opened
returns-clause-opened g c = λ disk image v answers. (answers.0, answers.1, answers.2)
