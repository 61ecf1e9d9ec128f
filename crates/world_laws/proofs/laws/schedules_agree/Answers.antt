use Rattle.world_laws.proofs.Joins.{empty_agrees}
use Rattle.world_laws.proofs.Keeping.{sound_honest}
use Rattle.world_laws.proofs.Networks.{step_agrees, schedule_agrees, stations_agree}
use Rattle.world_laws.proofs.Tallies.{rows_agree, received_sent}
use Rattle.world_laws.proofs.laws.schedules_agree.Goals as goal

pub returns-clause-begins : goal.returns-clause-begins
returns-clause-begins c = empty_agrees

pub returns-clause-step : goal.returns-clause-step
returns-clause-step c n m h s = step_agrees n m h s

pub returns-clause-schedule : goal.returns-clause-schedule
returns-clause-schedule c n m h s = schedule_agrees n m h s

pub returns-clause-agreed : goal.returns-clause-agreed
returns-clause-agreed c n i j a b h p q = stations_agree n i j a b h p q

pub returns-clause-honest : goal.returns-clause-honest
returns-clause-honest c n i a h p = sound_honest a.recording (h.sound i a p)

pub returns-clause-belongs : goal.returns-clause-belongs
returns-clause-belongs c n peer bytes h i = h.belongs peer bytes i

pub returns-clause-rows : goal.returns-clause-rows
returns-clause-rows c n i j a b row h p q is = rows_agree n i j a b row h p q is

pub returns-clause-counts : goal.returns-clause-counts
returns-clause-counts c n i j a b row back h p q is other = received_sent n i j a b row back h p q is other
