use Rattle.std.proofs.Common.{◌≡◌, subst, ap, sym, arith, length, List, ℕ, Some}
use Rattle.journal_model.specs.Part.{part_at}
use Rattle.jrnl_part.specs.Views.{part_view}
use Rattle.jrnl_part.specs.declared.part.Part.{Part}
use Rattle.journal_model.proofs.Parts.{part_short}
use Rattle.base_records.proofs.Tails.{IsPast, past_keep_is, past_entry_is, past_seal_is, past_none_is}
use Rattle.base_records.proofs.tail.past_keep.Goals as goal

pub returns-in-Some-Keep-clause-short : goal.returns-in-Some-Keep-clause-short
returns-in-Some-Keep-clause-short c =
    let s = part_short _ _ (c.in-Some-Keep.ensures) in
    omega (arith, s, ap length c.rest.ensures.value, ap length c.new-view.ensures)

pub returns-in-Some-Keep-clause-past : goal.returns-in-Some-Keep-clause-past
returns-in-Some-Keep-clause-past c =
    let p : IsPast c.new-view.result c.take_part.new.view = past_keep_is _ _ _ (subst (λ (x : Part). part_at c.new-view.result ≡ Some (part_view x, c.take_part.new.view)) c.in-Some-Keep.field-0-is c.in-Some-Keep.ensures) in
    subst (λ (l : List ℕ). IsPast l c.rest.result.now) c.new-view.ensures (subst (λ (l : List ℕ). IsPast c.new-view.result l) (sym c.rest.ensures.value) p)

pub returns-in-Some-Entry-clause-past : goal.returns-in-Some-Entry-clause-past
returns-in-Some-Entry-clause-past c = subst (λ (l : List ℕ). IsPast l l) c.new-view.ensures (past_entry_is _ _ _ (subst (λ (x : Part). part_at c.new-view.result ≡ Some (part_view x, c.take_part.new.view)) c.in-Some-Entry.field-0-is c.in-Some-Entry.ensures))

pub returns-in-Some-Seal-clause-past : goal.returns-in-Some-Seal-clause-past
returns-in-Some-Seal-clause-past c = subst (λ (l : List ℕ). IsPast l l) c.new-view.ensures (past_seal_is _ _ (subst (λ (x : Part). part_at c.new-view.result ≡ Some (part_view x, c.take_part.new.view)) c.in-Some-Seal.field-0-is c.in-Some-Seal.ensures))

pub returns-in-None-clause-past : goal.returns-in-None-clause-past
returns-in-None-clause-past c = subst (λ (l : List ℕ). IsPast l l) c.new-view.ensures (past_none_is _ c.in-None.ensures.0)
