use Rattle.std.proofs.Common.{◌≡◌, ◌^◌, ◌-◌, drop}
use Rattle.avm_model.specs.declared.judged.Marked.{Marked}
use Rattle.audit_stream.specs.Numbers.{least_above}
use Rattle.audit_stream.proofs.marking.number_above.Given as goal

abbrev pub invariant-loop-mark : goal.invariant-loop-mark
invariant-loop-mark l = least_above (λ (m : Marked). m.seq) l.seq l.least (drop l.mark-index l.marks) ≡ least_above (λ (m : Marked). m.seq) l.seq (2 ^ 64 - 1) l.marks
