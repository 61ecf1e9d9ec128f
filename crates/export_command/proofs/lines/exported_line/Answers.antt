use Rattle.std.proofs.Common.{◌≡◌, IfOk, List, ℕ, string_bytes, sym, subst}
use Rattle.std.specs.Fmt.{decimal}
use Rattle.export_command.proofs.Saying.{line_is}
use Rattle.export_command.proofs.lines.exported_line.Goals as goal

pub returns : goal.returns
returns c = subst (λ (l : List ℕ). IfOk c.format.result (λ t. string_bytes t ≡ l)) (sym (line_is (decimal c.args.from) (decimal c.args.to))) c.format.ensures.ok
