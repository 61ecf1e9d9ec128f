use Rattle.world_turns.proofs.Turning.{turn_comes, turn_crashes, seal_comes, seal_crashes}
use Rattle.world_turns.proofs.laws.turns_come.Goals as goal

pub returns-clause-turn : goal.returns-clause-turn
returns-clause-turn c pool who g value r a aside after batch machine f old new result next flight w head h m gives signs p = turn_comes pool who g value r a aside after batch machine f old new result next flight w head h m gives signs p

pub returns-clause-turn_crash : goal.returns-clause-turn_crash
returns-clause-turn_crash c pool who g value r a aside after batch machine f old new result next flight image m to w head h marks gives p stands is opens = turn_crashes pool who g value r a aside after batch machine f old new result next flight image m to w head h marks gives p stands is opens

pub returns-clause-seal : goal.returns-clause-seal
returns-clause-seal c pool who r rows batch f old new result next flight signs s = seal_comes pool who r rows batch f old new result next flight signs s

pub returns-clause-seal_crash : goal.returns-clause-seal_crash
returns-clause-seal_crash c pool who r rows batch f old new result next flight image m to s stands is opens = seal_crashes pool who r rows batch f old new result next flight image m to s stands is opens
