use Rattle.truth_laws.proofs.Calls.{marks_opened, planned, seals, true_opened}
use Rattle.truth_laws.proofs.laws.turns_keep_true.Goals as goal

pub returns-clause-opens : goal.returns-clause-opens
returns-clause-opens g c = true_opened

pub returns-clause-marks : goal.returns-clause-marks
returns-clause-marks g c = marks_opened

pub returns-clause-turn : goal.returns-clause-turn
returns-clause-turn g c who gift value r a aside after batch machine f old new result next flight w head h m p =
    planned g.O.Outlet.adding g.O.Outlet.tearing who r a w head h gift value aside after batch machine f old new result next flight m p

pub returns-clause-seal : goal.returns-clause-seal
returns-clause-seal g c who r rows ram batch f old new result next flight w h m s =
    seals g.O.Outlet.adding g.O.Outlet.tearing who r rows ram batch f old new result next flight w h m s
