use Rattle.std.proofs.Common.{true, false, refl, sym, ap, subst, ◌∙◌}
use Rattle.avm_model.specs.declared.Digest.{Digest}
use Rattle.log_entry.specs.Views.{frame_view}
use Rattle.journal_export.specs.Cuts.{Cuts}
use Rattle.journal_export.specs.declared.cut.Cut.{Cut}
use Rattle.journal_export.proofs.Surveyed.{surveys_on}
use Rattle.journal_export.proofs.survey.Survey.entry.Goals as goal

pub returns-then-takes-clause-surveys : goal.returns-then-takes-clause-surveys
returns-then-takes-clause-surveys c =
    surveys_on c.args.self.now c.count.new.self (frame_view c.args.frame.now) true (record {
      cuts = subst (λ (x : Cut). Cuts c.args.self.now.cut (frame_view c.args.frame.now) true x) (sym c.count.ensures.cut) (c.if-takes.ensures (frame_view c.args.frame.now) refl);
      hash = ap (λ (d : Digest). d.0) c.count.ensures.hash ∙ c.hash_on-hash.ensures;
      begins = c.count.ensures.begins ∙ c.begins_on-begins.ensures;
    }) c.count.ensures.snaps c.count.ensures.size

pub returns-else-takes-clause-surveys : goal.returns-else-takes-clause-surveys
returns-else-takes-clause-surveys c =
    surveys_on c.args.self.now _ (frame_view c.args.frame.now) false (record { cuts = c.if-takes.ensures (frame_view c.args.frame.now) refl; hash = c.hash_on-hash.ensures; begins = c.begins_on-begins.ensures }) refl refl
