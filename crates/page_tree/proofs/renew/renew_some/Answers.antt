use Rattle.std.proofs.Common.{◌≡◌, ◌+◌, arith}
use Rattle.page_tree.proofs.renew.renew_some.Goals as goal

pub returns-then-are_dirty-clause-count : goal.returns-then-are_dirty-clause-count
returns-then-are_dirty-clause-count g c start before =
    let place : c.args.place ≡ c.renew_eight.result + 8 = omega (arith, c.renew_eight.ensures.place, c.pages-pages.ensures.value) in
    c.renew_eight.ensures.count start (rw place at before)
