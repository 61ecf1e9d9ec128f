use Rattle.std.proofs.Common.{ℕ, [], sym, ap, subst, ◌∙◌}
use Rattle.evid_file.specs.Views.{evidence_view}
use Rattle.jrnl_store.specs.Kept.{kept}
use Rattle.rebut_judge.specs.Judging.{judge_view, JudgedTo}
use Rattle.rebut_pass.specs.Looking.{sought_of}
use Rattle.rebut_texts.specs.Walk.{walk_view}
use Rattle.rebuttal.proofs.Starts.{walk_starts}
use Rattle.rebuttal.proofs.seen.begin.Goals as goal

pub returns : goal.returns
returns c = record {
  judge = subst (λ (n : ℕ). JudgedTo c.args.machine.state n [] (judge_view c.new.result)) c.first.ensures c.new.ensures;
  one = c.new-2.ensures ∙ ap (sought_of (kept c.args.journal.now)) c.first_auth.ensures;
  two = c.new-3.ensures ∙ ap (sought_of (kept c.args.journal.now)) c.second_auth.ensures;
  walk = λ j same. walk_starts (walk_view c.new-4.result) c.before-2.result.0 (evidence_view c.args.evidence.now) c.entries_of-told.result c.new-4.ensures c.entries_of-told.ensures j (same ∙ sym c.before-2.ensures);
}
