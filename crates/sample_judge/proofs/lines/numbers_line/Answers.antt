use Rattle.std.proofs.Common.{◌≡◌, IfOk, List, ℕ, string_bytes, sym, subst}
use Rattle.sample_judge.proofs.Saying.{numbers_is}
use Rattle.sample_judge.proofs.lines.numbers_line.Goals as goal

pub returns : goal.returns
returns c = subst (λ (l : List ℕ). IfOk c.format.result (λ t. string_bytes t ≡ l)) (sym (numbers_is c.args.last c.args.snaps c.args.leaves c.args.steps)) c.format.ensures.ok
