use Rattle.std.proofs.Common.{◌≡◌, arith, sym, ap, ◌∙◌, true, false, Bool, List, ℕ, [], ◌∷◌, length, nat_eq, ne_eqb, refl}
use Rattle.avm_num.specs.Bytes.{kept}
use Rattle.avm_num.specs.Walk.{is_nil}
use Rattle.journal_model.proofs.Parts.{part_short, part_seq}
use Rattle.journal_model.proofs.Judging.{continued_is, judged_on, low_on, rest_stops, rest_ends}
use Rattle.jrnl_part.specs.Views.{standing_view, part_view}
use Rattle.jrnl_part.proofs.Counting.{next_goes}
use Rattle.jrnl_part.proofs.standing.continued.Goals as goal

nil_is : (bytes : List ℕ) → nat_eq (length bytes) 0 ≡ is_nil bytes
nil_is [] = refl
nil_is (x ∷ bytes) = ne_eqb (length (x ∷ bytes)) 0 (λ (e : length (x ∷ bytes) ≡ 0). omega (arith, e))

pub loop-part-init : goal.loop-part-init
loop-part-init c = record {
  same = rw c.new-view.ensures (sym (continued_is _ _ _));
  low = c.requires.low;
  least = omega arith;
  most = let v = ap length c.new-view.ensures in omega (arith, v);
}

pub returns-then-not-takes-clause-value : goal.returns-then-not-takes-clause-value
returns-then-not-takes-clause-value c =
    sym (rest_stops _ _ c.loop-part.snap _ _ _ c.in-Some.ensures (sym c.takes.ensures ∙ c.if-not-takes.true)) ∙ c.loop-part.invariant.same

pub loop-part-smaller : goal.loop-part-smaller
loop-part-smaller c = part_short _ _ c.in-Some.ensures

pub loop-part-preserved : goal.loop-part-preserved
loop-part-preserved c =
    let fits = sym c.takes.ensures ∙ c.if-not-takes.false in
    let n = next_goes (standing_view c.loop-part.stand) (standing_view c.goes_behind.new.self) (part_view c.in-Some.part) c.goes_behind.ensures in
    let shorter = part_short _ _ c.in-Some.ensures in
    record {
      same = judged_on _ _ _ c.loop-part.snap _ _ _ _ _ c.in-Some.ensures fits c.goes_behind.ensures c.snap_in-snap.ensures c.loop-part.invariant.same;
      low = low_on _ _ _ c.loop-part.snap _ fits (part_seq _ _ c.in-Some.ensures) c.goes_behind.ensures c.loop-part.invariant.low;
      least = omega (arith, n.0, c.loop-part.invariant.least);
      most = omega (arith, n.1, shorter, c.loop-part.invariant.most);
    }

pub returns-then-is_empty-clause-value : goal.returns-then-is_empty-clause-value
returns-then-is_empty-clause-value c =
    let t = c.in_default.ensures in
    let nil : true ≡ is_nil c.loop-part.view = sym c.if-is_empty.true ∙ c.is_empty.ensures ∙ ap (λ (ys : List ℕ). nat_eq (length ys) 0) (c.rest.ensures.value ∙ t.1) ∙ nil_is c.loop-part.view in
    ap (λ (b : Bool). kept b (standing_view c.loop-part.stand)) nil ∙ sym (rest_ends _ _ c.loop-part.snap _ t.0 c.loop-part.invariant.low.used) ∙ c.loop-part.invariant.same

pub returns-else-is_empty-clause-value : goal.returns-else-is_empty-clause-value
returns-else-is_empty-clause-value c =
    let t = c.in_default.ensures in
    let nil : false ≡ is_nil c.loop-part.view = sym c.if-is_empty.false ∙ c.is_empty.ensures ∙ ap (λ (ys : List ℕ). nat_eq (length ys) 0) (c.rest.ensures.value ∙ t.1) ∙ nil_is c.loop-part.view in
    ap (λ (b : Bool). kept b (standing_view c.loop-part.stand)) nil ∙ sym (rest_ends _ _ c.loop-part.snap _ t.0 c.loop-part.invariant.low.used) ∙ c.loop-part.invariant.same
