use Rattle.life_model.specs.Life.{left_at}
use Rattle.life_model.proofs.Kept.{begins, event_kept, lives_kept, opens, pieces_told, signs_once}
use Rattle.life_model.proofs.laws.lives_are_kept.Goals as goal

pub returns-clause-begins : goal.returns-clause-begins
returns-clause-begins g c who place j s n = begins (left_at g.D.Disk.may_leave g.E.Disk.may_leave) who place j s n

pub returns-clause-event : goal.returns-clause-event
returns-clause-event g c l m k e = event_kept (left_at g.D.Disk.may_leave g.E.Disk.may_leave) l m k e

pub returns-clause-lives : goal.returns-clause-lives
returns-clause-lives g c l m k e = lives_kept (left_at g.D.Disk.may_leave g.E.Disk.may_leave) l m k e

pub returns-clause-once : goal.returns-clause-once
returns-clause-once g c l x y k h i e = signs_once (left_at g.D.Disk.may_leave g.E.Disk.may_leave) l x y k h i e

pub returns-clause-opens : goal.returns-clause-opens
returns-clause-opens g c l j image k left is none = opens (left_at g.D.Disk.may_leave g.E.Disk.may_leave) l j image k left is none

pub returns-clause-told : goal.returns-clause-told
returns-clause-told g c who s ps = pieces_told who s ps
