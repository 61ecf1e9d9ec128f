use Rattle.record_laws.proofs.Turning.{turn_is_moves, over_is_end}
use Rattle.record_laws.proofs.laws.turns_are_moves.Goals as goal

pub returns-clause-moves : goal.returns-clause-moves
returns-clause-moves c who pages j b p rel dr s at plan act d h = turn_is_moves who pages j b p rel dr s at plan act d h

pub returns-clause-ends : goal.returns-clause-ends
returns-clause-ends c s p none h = over_is_end s p none h
