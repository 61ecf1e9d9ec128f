use Rattle.std.proofs.Common.{◌/◌, ◌≤◌, length, sym, ◌∙◌, arith}
use Rattle.avm_model.proofs.PageCounts.{few_pages}
use Rattle.rebut_texts.proofs.Walking.{finds_all}
use Rattle.rebut_texts.specs.Places.{count_of, trees, differ_at}
use Rattle.rebut_texts.proofs.pages.page_walk.Goals as goal

pub overflow_cast-result : goal.overflow_cast-result
overflow_cast-result c =
    let n = length c.args.ours.now / 2 in
    let few : n ≤ 4096 = few_pages n c.requires.count in
    omega (arith, few, c.requires.ours, c.in-Some.ensures.inside)

pub returns-in-Some-clause-value : goal.returns-in-Some-clause-value
returns-in-Some-clause-value c =
    let t = trees c.args.ours.now c.args.our_pages.now c.args.theirs.now c.args.their_pages.now in
    sym c.in-Some.is ∙ finds_all (count_of t) (differ_at t) _ c.requires.count c.first_from.ensures.value

pub returns-in-None-clause-value : goal.returns-in-None-clause-value
returns-in-None-clause-value c =
    let t = trees c.args.ours.now c.args.our_pages.now c.args.theirs.now c.args.their_pages.now in
    sym c.in-None.is ∙ finds_all (count_of t) (differ_at t) _ c.requires.count c.first_from.ensures.value
