use Rattle.world_turns.proofs.Fronts.{signs_for}
use Rattle.world_turns.proofs.laws.spelled_journals_sign.Goals as goal

pub returns : goal.returns
returns c who r own low carried h b = signs_for who r own low carried h b
