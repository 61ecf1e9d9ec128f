use Rattle.evid_file.specs.Views.{evidence_view}
use Rattle.sample_judge.proofs.Replies.{head_none, head_open, on_same}
use Rattle.sample_judge.proofs.answering.answer.Goals as goal

pub returns-in-Ok-true : goal.returns-in-Ok-true
returns-in-Ok-true c = λ j stands.
    let on = c.in_ok-journal.ensures.on j stands in
    head_open j (evidence_view c.args.evidence.now) c.in-Ok-true.field-0 c.answer_of_key.result (c.in-Ok-true.ensures.head j on.at on.ended_is) c.in-Ok-true.field-0-test
    (c.answer_of_key.ensures j (on_same j _ _ _ _ c.in-Ok-true.ensures.kept c.in-Ok-true.ensures.reads.same on))

pub returns-in-Ok-false : goal.returns-in-Ok-false
returns-in-Ok-false c = λ j stands.
    let on = c.in_ok-journal.ensures.on j stands in
    head_none j (evidence_view c.args.evidence.now) c.in-Ok-false.field-0 (c.in-Ok-false.ensures.head j on.at on.ended_is) c.in-Ok-false.field-0-test
