use Rattle.std.proofs.Common.{◌^◌, ◌-◌, sym, ap, subst, ◌∙◌, arith}
use Rattle.std.proofs.lemmas.List.{with_items_is}
use Rattle.log_entry.specs.Views.{frame_view}
use Rattle.avm_model.specs.declared.judged.Marked.{Marked}
use Rattle.audit_stream.specs.Matching.{Matched, Matches}
use Rattle.audit_stream.specs.Numbers.{least_above}
use Rattle.audit_stream.proofs.Matches.{goes_marked, goes_unmarked}
use Rattle.audit_stream.proofs.matching.Matching.entry.Goals as goal

pub returns-then-self-frame-clause-goes : goal.returns-then-self-frame-clause-goes
returns-then-self-frame-clause-goes c start before fs seq m =
    let old = subst (λ (x : Matched). Matches x start before fs) (sym c.self.view_is) m in
    let len = c.as_mut_slice.ensures.len in
    let same = c.mark_all.auto.marks in
    let items = with_items_is c.self.inside.marks c.mark_all.new.marks (omega (arith, len, same)) in
    goes_marked c.self.inside.auths.items c.self.inside.marks.items _ c.self.inside.wanted _ (2 ^ 64 - 1) c.self.inside.hash.0 _ start before fs (frame_view c.args.frame.now) seq old c.next-self-inside.ensures
    (items ∙ rw (← c.as_slice.ensures.value, ← c.as_mut_slice.ensures.value) c.mark_all.ensures)
    (c.number_above-self-inside.ensures ∙ ap (least_above (λ (m : Marked). m.seq) c.args.frame.now.seq (2 ^ 64 - 1)) c.as_slice-then-self-frame.ensures.value)

pub returns-else-self-frame-clause-goes : goal.returns-else-self-frame-clause-goes
returns-else-self-frame-clause-goes c start before fs seq m =
    let old = subst (λ (x : Matched). Matches x start before fs) (sym c.self.view_is) m in
    goes_unmarked c.self.inside.auths.items c.self.inside.marks.items c.self.inside.wanted c.self.inside.hash.0 _ start before fs (frame_view c.args.frame.now) seq c.if-self-frame.false old c.next-self-inside.ensures
