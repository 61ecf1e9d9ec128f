use Rattle.std.proofs.Common.{sym, ◌∙◌}
use Rattle.evid_file.specs.Views.{evidence_view}
use Rattle.jrnl_store.specs.Kept.{kept}
use Rattle.rebut_command.proofs.Judgements.{same_key, other_told, own_told}
use Rattle.rebut_command.proofs.judging.judge_key.Goals as goal

pub returns-then-not-is_of-clause-ends : goal.returns-then-not-is_of-clause-ends
returns-then-not-is_of-clause-ends g c = other_told _ (kept c.args.journal.now) (evidence_view c.args.evidence.now) c.key.result c.key.ensures (sym c.is_of.ensures ∙ c.if-not-is_of.true)

pub judge_holding-requires : goal.judge_holding-requires
judge_holding-requires g c = record { read = c.requires.read; fits = c.requires.fits; key = same_key (evidence_view c.args.evidence.now) c.key.result (sym c.is_of.ensures ∙ c.if-not-is_of.false) ∙ c.key.ensures }

pub returns-clause-ends : goal.returns-clause-ends
returns-clause-ends g c = own_told _ (kept c.args.journal.now) (evidence_view c.args.evidence.now) c.key.result c.judge_holding.result c.key.ensures (sym c.is_of.ensures ∙ c.if-not-is_of.false) c.judge_holding.ensures.ends
