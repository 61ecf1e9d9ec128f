use Rattle.std.proofs.Common.{sym, ◌∙◌}
use Rattle.evid_file.specs.Views.{evidence_view}
use Rattle.jrnl_store.specs.Kept.{kept}
use Rattle.rebut_command.proofs.Judgements.{stands_holds, holds_stands, match_true, match_false, holding_answered, holding_not, answered_counts}
use Rattle.rebut_command.proofs.judging.judge_holding.Goals as goal

pub rebut-requires : goal.rebut-requires
rebut-requires g c = record {
  fits = c.requires.fits;
  holds = stands_holds _ c.args.bytes.now (evidence_view c.args.evidence.now) c.requires.read (match_true c.in-Ok-true.field-0 _ _ c.in-Ok-true.field-0-test c.in-Ok-true.ensures);
}

pub returns-in-Ok-true-clause-ends : goal.returns-in-Ok-true-clause-ends
returns-in-Ok-true-clause-ends g c =
    holding_answered _ (kept c.args.journal.now) (evidence_view c.args.evidence.now) c.rebut.result c.answered.result c.answered.ensures
    (stands_holds _ c.args.bytes.now (evidence_view c.args.evidence.now) c.requires.read (match_true c.in-Ok-true.field-0 _ _ c.in-Ok-true.field-0-test c.in-Ok-true.ensures)) c.rebut.ensures.answers

pub returns-in-Ok-true-clause-counts : goal.returns-in-Ok-true-clause-counts
returns-in-Ok-true-clause-counts g c = answered_counts c.rebut.result c.answered.result _ _ c.answered.ensures c.rebut.ensures.faults

pub returns-in-Ok-false-clause-ends : goal.returns-in-Ok-false-clause-ends
returns-in-Ok-false-clause-ends g c =
    holding_not _ (kept c.args.journal.now) (evidence_view c.args.evidence.now) (holds_stands _ c.args.bytes.now (evidence_view c.args.evidence.now) c.requires.read (c.requires.key ∙ sym c.key.ensures) (match_false c.in-Ok-false.field-0 _ _ c.in-Ok-false.field-0-test c.in-Ok-false.ensures))
