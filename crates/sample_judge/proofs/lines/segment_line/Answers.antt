use Rattle.std.proofs.Common.{◌≡◌, IfOk, List, ℕ, string_bytes, sym, subst, codes}
use Rattle.std.specs.Fmt.{decimal}
use Rattle.avm_model.specs.declared.judged.Verdict.{Verdict}
use Rattle.command_parts.specs.Printing.{line}
use Rattle.sample_lines.specs.Judging.{segment_line}
use Rattle.sample_judge.proofs.Saying.{segment_is}
use Rattle.sample_judge.proofs.lines.segment_line.Goals as goal

pub returns-in-Accepted : goal.returns-in-Accepted
returns-in-Accepted c =
    let said = subst (λ (l : List ℕ). IfOk c.format.result (λ t. string_bytes t ≡ l)) (sym (segment_is (decimal c.args.number) (codes "accepted"))) c.format.ensures.ok in
    subst (λ (v : Verdict). IfOk c.format.result (λ t. string_bytes t ≡ line (segment_line c.args.number v))) (sym c.in-Accepted.is) said
