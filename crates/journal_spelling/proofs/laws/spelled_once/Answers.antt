use Rattle.journal_spelling.proofs.Fronts.{spelled, again, stands, one_front}
use Rattle.journal_spelling.proofs.laws.spelled_once.Goals as goal

pub returns-clause-spelled : goal.returns-clause-spelled
returns-clause-spelled c bytes j fits e = spelled bytes j fits e

pub returns-clause-again : goal.returns-clause-again
returns-clause-again c j gate rest s shut = again j gate rest s shut

pub returns-clause-stands : goal.returns-clause-stands
returns-clause-stands c j s = stands j s

pub returns-clause-front : goal.returns-clause-front
returns-clause-front c j front fits is begun = one_front j front fits is begun
