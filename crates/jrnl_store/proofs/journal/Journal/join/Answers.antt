use Rattle.std.proofs.Common.{◌≡◌, ◌∙◌, sym, ap, List, ℕ, take, None, rules}
use Rattle.journal_model.specs.Journal.{begins_mark}
use Rattle.jrnl_store.specs.Kept.{kept}
use Rattle.jrnl_store.proofs.Steps.{mark_joins_ok, parts_join}
use Rattle.jrnl_store.proofs.journal.Journal.join.Goals as goal

pub returns-then-is_mark-clause-joined : goal.returns-then-is_mark-clause-joined
returns-then-is_mark-clause-joined g c =
    let unmarked : c.args.self.now.mark ≡ None = search rules in
    mark_joins_ok c.join_mark.result _ (kept c.args.self.now) (kept c.join_mark.new.self) (take c.args.size c.args.self.now.buffer.items) _
    (ap (λ (l : List ℕ). begins_mark (take c.args.size l)) (sym c.deref.ensures.value) ∙ sym c.is_mark.ensures ∙ c.if-is_mark.true) unmarked c.join_mark.ensures.kept c.join_mark.ensures.joined

pub returns-clause-joined : goal.returns-clause-joined
returns-clause-joined g c =
    let unmarked : c.args.self.now.mark ≡ None = search rules in
    parts_join _ (kept c.args.self.now) (kept c.join_parts.new.self) (take c.args.size c.args.self.now.buffer.items) _ c.join_parts.result
    (ap (λ (l : List ℕ). begins_mark (take c.args.size l)) (sym c.deref.ensures.value) ∙ sym c.is_mark.ensures ∙ c.if-is_mark.false) unmarked c.join_parts.ensures.joined c.join_parts.ensures.kept
