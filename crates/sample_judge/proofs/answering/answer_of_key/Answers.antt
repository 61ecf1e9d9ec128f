use Rattle.std.proofs.Common.{sym, ◌∙◌}
use Rattle.evid_file.specs.Views.{evidence_view}
use Rattle.sample_judge.proofs.Replies.{other_key, own_key}
use Rattle.sample_judge.proofs.answering.answer_of_key.Goals as goal

pub returns-then-not-is_of : goal.returns-then-not-is_of
returns-then-not-is_of c = λ j on. other_key j (evidence_view c.args.evidence.now) c.key.result (c.key.ensures ∙ on.at.keeps.key) (sym c.is_of.ensures ∙ c.if-not-is_of.true)

pub returns : goal.returns
returns c = λ j on. own_key j (evidence_view c.args.evidence.now) c.key.result c.rebut.result c.answered.result (c.key.ensures ∙ on.at.keeps.key) (sym c.is_of.ensures ∙ c.if-not-is_of.false) c.requires.holds (c.rebut.ensures.answers j on.at on.ended_is) c.answered.ensures
