use Rattle.life_model.specs.Life.{left_at}
use Rattle.release_laws.proofs.Released.{released_accepted, released_signed}
use Rattle.release_laws.proofs.laws.released_segments_are_accepted.Goals as goal

pub returns-clause-signed : goal.returns-clause-signed
returns-clause-signed g c l a from to k fits own key w low r = released_signed (left_at g.D.Disk.may_leave g.E.Disk.may_leave) l a from to k fits own key w low r

pub returns-clause-accepted : goal.returns-clause-accepted
returns-clause-accepted g c l from to bytes auths list k fits own key w export whole read all = released_accepted (left_at g.D.Disk.may_leave g.E.Disk.may_leave) l from to bytes auths list k fits own key w export whole read all
