use Rattle.run_laws.proofs.Turning.{cut_turn, turned}
use Rattle.run_laws.proofs.laws.turns_are_of_runs.Goals as goal

pub returns-clause-goes_on : goal.returns-clause-goes_on
returns-clause-goes_on g c who r gift value aside after_aside batch machine f old new turn next flight script stop small feeds p =
    turned g.O.Outlet.adding g.O.Outlet.tearing who r gift value aside after_aside batch machine f (g.O.Outlet.held old) (g.O.Outlet.held new) turn next flight script stop small feeds p

pub returns-clause-stops : goal.returns-clause-stops
returns-clause-stops g c who r gift value aside after_aside batch machine f old new why next flight script stop small feeds p =
    cut_turn g.O.Outlet.adding g.O.Outlet.tearing who r gift value aside after_aside batch machine f (g.O.Outlet.held old) (g.O.Outlet.held new) why next flight script stop small feeds p
