use Rattle.std.proofs.Common.{◌++◌, ◌-◌, ◌+◌, ◌<◌, ℕ, List, Err, ap, sym, subst, ◌∙◌, append_assoc, arith}
use Rattle.avm_model.specs.Hart.{reg}
use Rattle.view_command.specs.Lines.{register_lines, register_lines_at}
use Rattle.command_parts.specs.Printing.{PrintsAll}
use Rattle.view_command.proofs.Rows.{registers_next}
use Rattle.command_parts.proofs.Joined.{prints_on, fault_on}
use Rattle.view_command.proofs.showing.print_registers.Goals as goal

pub returns-in-Err : goal.returns-in-Err
returns-in-Err g c =
    let h = c.args.machine.now.state.hart in
    let i = c.loop-number.number in
    let said = c.loop-number.invariant.0 in
    let lt : i < 32 = omega arith in
    let more = register_lines_at i (reg h i) in
    let rest = register_lines h (i + 1) (32 - (i + 1)) in
    let whole = ap (λ (l : List (List ℕ)). said ++ l) (sym (registers_next h i 32 lt)) ∙ c.loop-number.invariant.1 in
    subst (λ (l : List (List ℕ)). PrintsAll l (Err c.in-Err.fault) (g.S.Sink.faults c.args.out.now) (g.S.Sink.faults c.print_register.new.out) (g.S.Sink.written c.args.out.now) (g.S.Sink.written c.print_register.new.out)) whole
    (fault_on said more rest c.in-Err.fault (g.S.Sink.faults c.args.out.now) (g.S.Sink.faults c.loop-number.out) (g.S.Sink.faults c.print_register.new.out) (g.S.Sink.written c.args.out.now) (g.S.Sink.written c.loop-number.out) (g.S.Sink.written c.print_register.new.out) c.loop-number.invariant.2 c.in-Err.ensures)

pub loop-number-preserved : goal.loop-number-preserved
loop-number-preserved g c =
    let h = c.args.machine.now.state.hart in
    let i = c.loop-number.number in
    let said = c.loop-number.invariant.0 in
    let lt : i < 32 = omega arith in
    let more = register_lines_at i (reg h i) in
    let rest = register_lines h (i + 1) (32 - (i + 1)) in
    let whole = ap (λ (l : List (List ℕ)). said ++ l) (sym (registers_next h i 32 lt)) ∙ c.loop-number.invariant.1 in (
      said ++ more,
      append_assoc said more rest ∙ whole,
      prints_on said more (g.S.Sink.faults c.args.out.now) (g.S.Sink.faults c.loop-number.out) (g.S.Sink.faults c.print_register.new.out) (g.S.Sink.written c.args.out.now) (g.S.Sink.written c.loop-number.out) (g.S.Sink.written c.print_register.new.out) c.loop-number.invariant.2 c.in_default.ensures,
    )
