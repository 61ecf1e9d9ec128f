use Rattle.std.proofs.Common.{sym, ◌∙◌}
use Rattle.journal_model.proofs.Parts.{page_short, ascend_goes, ascend_low, ascend_high, ascend_ends}
use Rattle.jrnl_part.proofs.standing.ascends.Goals as goal
use Rattle.jrnl_part.proofs.standing.ascends.Goals.{then-page-low-via-then-page-low, then-page-low-via-else-page-low+then-page-most}

pub returns-then-page-low : goal.returns-then-page-low
returns-then-page-low c =
    elim c.then-page-low.branch [
      | then-page-low-via-then-page-low w ↦ sym (ascend_low c.loop-page.low c.args.most _ _ _ c.in-Some.ensures w.if-page-low.true) ∙ c.loop-page.invariant
      | then-page-low-via-else-page-low+then-page-most w ↦ sym (ascend_high c.loop-page.low c.args.most _ _ _ c.in-Some.ensures w.if-page-most.true) ∙ c.loop-page.invariant
    ]

pub loop-page-smaller : goal.loop-page-smaller
loop-page-smaller c = page_short _ _ c.in-Some.ensures

pub loop-page-preserved : goal.loop-page-preserved
loop-page-preserved c = sym (ascend_goes c.loop-page.low c.args.most _ _ _ c.in-Some.ensures c.if-page-low.false c.if-page-most.false) ∙ c.loop-page.invariant

pub returns : goal.returns
returns c = sym (ascend_ends c.loop-page.low c.args.most _ c.in_default.ensures.0) ∙ c.loop-page.invariant
