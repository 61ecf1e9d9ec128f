use Rattle.std.proofs.Common.{arith, ◌≡◌, ◌+◌, ◌-◌}
use Rattle.page_tree.proofs.Renewals.{step, count_step}
use Rattle.page_tree.proofs.renew.renew_one.Goals as goal

pub returns-clause-renewing : goal.returns-clause-renewing
returns-clause-renewing g c =
    let q : c.args.place ≡ c.args.place - 1 + 1 = omega arith in
    step _ _ _ _ _ _ (c.args.place - 1) c.args.place (omega arith) q c.requires.renewing c.renew.ensures.nodes c.renew.ensures.marks

pub returns-clause-count : goal.returns-clause-count
returns-clause-count g c start before =
    let q : c.args.place ≡ c.args.place - 1 + 1 = omega arith in
    let r = c.requires.renewing in
    let low = r.inside in
    count_step c.args.marks.now _ (c.args.place - 1) c.args.place _ _ _ _ _ q (omega (arith, r.marks_len)) (omega arith) c.renew.ensures.marks before c.renew.ensures.count
