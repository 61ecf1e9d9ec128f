use Rattle.world_headline.proofs.Worlds.{agrees, begun, chained, join_leads, one_honest, packet_belongs, rows_count, step_leads, two_agree}
use Rattle.world_headline.proofs.laws.worlds_agree.Goals as goal

pub returns-clause-begins : goal.returns-clause-begins
returns-clause-begins c w nodes pool = begun w nodes pool

pub returns-clause-joins : goal.returns-clause-joins
returns-clause-joins c old new disk key result h fresh j = join_leads old new disk key result h.network h.stands fresh j

pub returns-clause-steps : goal.returns-clause-steps
returns-clause-steps c old new e result h s = step_leads old new e result h.network (agrees old h) h.stands s

pub returns-clause-follows : goal.returns-clause-follows
returns-clause-follows c old new h l = chained old new h l

pub returns-clause-agreed : goal.returns-clause-agreed
returns-clause-agreed c w i k x y h p q = two_agree w h i k x y p q

pub returns-clause-honest : goal.returns-clause-honest
returns-clause-honest c w i x h p = one_honest w h i x p

pub returns-clause-packets : goal.returns-clause-packets
returns-clause-packets c w p h a = packet_belongs w h p a

pub returns-clause-counts : goal.returns-clause-counts
returns-clause-counts c w i k m o row back h p q r s = rows_count w h i k m o row back p q r s
