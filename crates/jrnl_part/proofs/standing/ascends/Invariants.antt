use Rattle.std.proofs.Common.{◌≡◌, length}
use Rattle.avm_num.specs.Walk.{items_of}
use Rattle.journal_model.specs.Part.{page_at}
use Rattle.journal_model.specs.Journal.{pages_ascend}
use Rattle.jrnl_part.proofs.standing.ascends.Given as goal

abbrev pub invariant-loop-page : goal.invariant-loop-page
invariant-loop-page l = pages_ascend l.low l.most (items_of page_at l.view) ≡ pages_ascend 0 l.fn.most (items_of page_at l.fn.pages)

abbrev pub decreases-loop-page : goal.decreases-loop-page
decreases-loop-page l = length l.view
