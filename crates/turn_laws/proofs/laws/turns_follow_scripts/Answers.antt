use Rattle.turn_laws.proofs.Following.{follows, gift_is}
use Rattle.turn_laws.proofs.laws.turns_follow_scripts.Goals as goal

pub returns-clause-gift : goal.returns-clause-gift
returns-clause-gift g c = gift_is

pub returns-clause-turn : goal.returns-clause-turn
returns-clause-turn g c = follows g.O.Outlet.Held g.O.Outlet.adding g.O.Outlet.tearing
