use Rattle.std.proofs.Common.{arith, ◌∙◌, ◌+◌, ℕ, sym, ap, List, ne_eqb, nat_eq, length}
use Rattle.seg_file.proofs.Following.{frame_seq, goes_on, ends, nil_is}
use Rattle.seg_file.proofs.entries.rest_follows.Goals as goal

pub loop-frame-preserved : goal.loop-frame-preserved
loop-frame-preserved c =
    let step = c.in-Some.ensures.steps in
    let bound = frame_seq _ _ step.1 in
    let ne = ne_eqb c.in-Some.frame.kind 1 c.if-frame-eq1.false in
    record {
      same = rw c.with_entry-more.ensures (goes_on (c.loop-frame.number + 1) c.loop-frame.snaps _ _ _ step.0 step.1 c.if-frame-number.false ne ∙ c.loop-frame.invariant.same);
      number = omega arith;
      few = omega arith;
    }

pub returns : goal.returns
returns c =
    let t = c.in_default.ensures.steps.1 in
    c.is_empty.ensures ∙ ap (λ (ys : List ℕ). nat_eq (length ys) 0) (c.rest.ensures ∙ t.1) ∙ nil_is c.loop-frame.frames
    ∙ sym (ends (c.loop-frame.number + 1) c.loop-frame.snaps c.loop-frame.frames t.0 c.loop-frame.invariant.few) ∙ c.loop-frame.invariant.same
