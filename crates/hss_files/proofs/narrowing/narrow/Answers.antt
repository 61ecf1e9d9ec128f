use Rattle.std.proofs.Common.{arith}
use Rattle.hss_files.proofs.Judged.{too_long, no_auths, some_auths, few_auths}
use Rattle.hss_files.proofs.narrowing.narrow.Goals as goal

pub returns-then-bytes : goal.returns-then-bytes
returns-then-bytes c = too_long c.args.top.now c.args.bytes.now c.args.out.now c.if-bytes.true

pub judge-requires-clause-few : goal.judge-requires-clause-few
judge-requires-clause-few c = let f = few_auths c.in-Some.auths in let s = c.in-Some.ensures.sized in let le = c.if-bytes.false in omega (arith, f, s, le)

pub returns-in-Some : goal.returns-in-Some
returns-in-Some c = some_auths c.args.top.now c.args.bytes.now c.in-Some.auths c.args.out.now c.judge.new.out c.judge.result c.if-bytes.false c.in-Some.ensures.exact c.judge.ensures

pub returns-in-None : goal.returns-in-None
returns-in-None c = no_auths c.args.top.now c.args.bytes.now c.args.out.now c.if-bytes.false c.in-None.ensures.exact
