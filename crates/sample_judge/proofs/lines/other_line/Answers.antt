use Rattle.std.proofs.Common.{◌≡◌, IfOk, List, ℕ, string_bytes, sym, subst}
use Rattle.std.specs.Fmt.{decimal}
use Rattle.audit_command.specs.Ends.{text_of_verdict}
use Rattle.sample_judge.proofs.Saying.{segment_is}
use Rattle.sample_judge.proofs.lines.other_line.Goals as goal

pub returns : goal.returns
returns c = subst (λ (l : List ℕ). IfOk c.format.result (λ t. string_bytes t ≡ l)) (sym (segment_is (decimal c.args.number) (text_of_verdict c.args.verdict))) c.format.ensures.ok
