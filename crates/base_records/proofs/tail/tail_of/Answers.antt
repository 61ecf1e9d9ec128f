use Rattle.std.proofs.Common.{sym, subst, ap, ◌∙◌, arith, length, take, ◌-◌, List, ℕ}
use Rattle.std.proofs.lemmas.List.{length-take-le}
use Rattle.journal_model.proofs.Parts.{part_short}
use Rattle.base_records.proofs.Tails.{Left, IsPast, left_first, left_on, left_none, left_found}
use Rattle.base_records.proofs.tail.tail_of.Goals as goal

pub loop-part-init : goal.loop-part-init
loop-part-init c = record {
  same = sym c.new-view.ensures;
  short = omega arith;
  left = subst (λ (l : List ℕ). Left c.args.number c.args.items.now l) (sym c.new-view.ensures) (left_first c.args.number c.args.items.now);
}

pub slice_bounds-result-count : goal.slice_bounds-result-count
slice_bounds-result-count c = omega (arith, part_short _ _ c.in-Some.ensures, ap length c.rest-behind.ensures.value, ap length c.loop-part.invariant.same)

pub returns-then-is_entry-clause-tail : goal.returns-then-is_entry-clause-tail
returns-then-is_entry-clause-tail c =
    left_found c.args.number c.args.items.now c.loop-part.view c.take_part.new.view _ _ _ c.in-Some.ensures (sym c.if-is_entry.ensures)
    (ap (λ (l : List ℕ). take (length l - length c.rest-behind.result.now) l) c.loop-part.invariant.same ∙ ap (λ (l : List ℕ). take (length c.loop-part.view - length l) c.loop-part.view) c.rest-behind.ensures.value)
    (subst (λ (l : List ℕ). IsPast l c.past_keep.result.now) c.rest-behind.ensures.value c.past_keep.ensures.past) c.loop-part.invariant.left

pub returns-then-is_entry-clause-short : goal.returns-then-is_entry-clause-short
returns-then-is_entry-clause-short c =
    let a = part_short _ _ c.in-Some.ensures in
    let b = ap length c.rest-behind.ensures.value in
    let d = ap length c.loop-part.invariant.same in
    let e = c.past_keep.ensures.short in
    let f = c.loop-part.invariant.short in
    let t = length-take-le (length c.loop-part.here.now - length c.rest-behind.result.now) c.loop-part.here.now (omega arith) in
    omega (arith, a, b, d, e, f, t)

pub loop-part-smaller : goal.loop-part-smaller
loop-part-smaller c = part_short _ _ c.in-Some.ensures

pub loop-part-preserved : goal.loop-part-preserved
loop-part-preserved c = record {
  same = c.rest-behind.ensures.value;
  short =
      let f = c.loop-part.invariant.short in
      omega (arith, part_short _ _ c.in-Some.ensures, ap length c.rest-behind.ensures.value, ap length c.loop-part.invariant.same, f);
  left = left_on c.args.number c.args.items.now c.loop-part.view c.take_part.new.view _ c.in-Some.ensures (sym c.if-is_entry.ensures) c.loop-part.invariant.left;
}

pub returns-clause-tail : goal.returns-clause-tail
returns-clause-tail c = left_none c.args.number c.args.items.now c.loop-part.view c.in_default.ensures.0 c.loop-part.invariant.left
