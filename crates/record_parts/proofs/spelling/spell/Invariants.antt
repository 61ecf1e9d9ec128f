use Rattle.avm_model.specs.PageMarks.{MarksPages}
use Rattle.guest_machine.specs.Outs.{IsEmpty, IsOuts}
use Rattle.record_parts.specs.Outs.{ram_in}
use Rattle.record_parts.proofs.Steps.{Quietly}
use Rattle.record_parts.proofs.spelling.spell.Given as goal

abbrev pub invariant-loop-made : goal.invariant-loop-made
invariant-loop-made l =
    Quietly l.until l.fn.machine.state l.machine.state l.made × IsEmpty l.outs × IsOuts l.outs
    × MarksPages (ram_in l.fn.machine) (ram_in l.machine)
