use Rattle.std.proofs.Common.{◌∙◌, ◌-◌, sym, ap, ℕ, List, take, drop}
use Rattle.journal_model.specs.Journal.{mark_at}
use Rattle.jrnl_store.specs.Kept.{Kept, kept}
use Rattle.jrnl_store.proofs.Steps.{mark_none, mark_true, mark_false, drop_taken}
use Rattle.jrnl_store.proofs.journal.Journal.join_mark.Goals as goal

pub returns-in_default-clause-joined : goal.returns-in_default-clause-joined
returns-in_default-clause-joined g c =
    mark_none _ (kept c.args.self.now) (kept c.args.self.now) _ (ap mark_at (drop_taken c.args.size c.args.self.now.buffer.items ∙ ap (λ (l : List ℕ). take (c.args.size - 1) (drop 1 l)) (sym c.deref.ensures.value)) ∙ sym c.mark_number.ensures ∙ c.in_default.is)

pub returns-then-not-branch-clause-joined : goal.returns-then-not-branch-clause-joined
returns-then-not-branch-clause-joined g c =
    mark_false _ (kept c.args.self.now) (kept c.has_snap.new.self) (drop 1 (take c.args.size c.args.self.now.buffer.items)) c.in-Some.number _ c.if-not-branch.true
    (ap mark_at (drop_taken c.args.size c.args.self.now.buffer.items ∙ ap (λ (l : List ℕ). take (c.args.size - 1) (drop 1 l)) (sym c.deref.ensures.value)) ∙ sym c.mark_number.ensures ∙ c.in-Some.is) c.in_ok-has_snap.ensures.found

pub returns-clause-joined : goal.returns-clause-joined
returns-clause-joined g c =
    mark_true _ (kept c.args.self.now) (kept c.is_marked.new.self) (drop 1 (take c.args.size c.args.self.now.buffer.items)) c.in-Some.number _ c.if-not-branch.false
    (ap mark_at (drop_taken c.args.size c.args.self.now.buffer.items ∙ ap (λ (l : List ℕ). take (c.args.size - 1) (drop 1 l)) (sym c.deref.ensures.value)) ∙ sym c.mark_number.ensures ∙ c.in-Some.is) (ap (λ (k : Kept). k.mark) c.is_marked.ensures) c.in_ok-has_snap.ensures.found
