use Rattle.opening_laws.proofs.Bases.{same_base}
use Rattle.opening_laws.proofs.Faults.{same_number, same_journal, same_stretch, same_machine}
use Rattle.honest_model.specs.Keeps.{last_of}
use Rattle.opening_laws.proofs.laws.opening_is_one.Goals as goal

pub returns-clause-base : goal.returns-clause-base
returns-clause-base c j n front behind front_2 behind_2 s t a b = let e = same_base j n front behind front_2 behind_2 s t a b in (e.front_is, e.behind_is, e.state_is)

pub returns-clause-number : goal.returns-clause-number
returns-clause-number c s fs a b p q = same_number s fs a b p q

pub returns-clause-journal : goal.returns-clause-journal
returns-clause-journal c j a b p q = same_journal j a b p q

pub returns-clause-stretch : goal.returns-clause-stretch
returns-clause-stretch c j n a b p q = same_stretch j n a b p q

pub returns-clause-opening : goal.returns-clause-opening
returns-clause-opening c j a b p q = same_stretch j (last_of j) a b p q

pub returns-clause-machine : goal.returns-clause-machine
returns-clause-machine c j s t p q = same_machine j s t p q
