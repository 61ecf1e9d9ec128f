use Rattle.std.proofs.Common.{◌∷◌, [], ◌++◌}
use Rattle.command_parts.proofs.Printed.{prints_none}
use Rattle.command_parts.proofs.Joined.{prints_on, fault_on, all_on}
use Rattle.view_command.specs.Lines.{head_line, register_lines, word_lines}
use Rattle.view_command.proofs.showing.print_state.Goals as goal

pub returns-in-Err : goal.returns-in-Err
returns-in-Err g c =
    let s = c.args.machine.now.state in
    fault_on [] (head_line s ∷ []) (register_lines s.hart 0 32 ++ word_lines s c.args.from c.args.words) c.in-Err.fault _ _ _ _ _ _ (prints_none _ _) c.in-Err.ensures

pub returns-in-Err-print_registers : goal.returns-in-Err-print_registers
returns-in-Err-print_registers g c =
    let s = c.args.machine.now.state in
    fault_on (head_line s ∷ []) (register_lines s.hart 0 32) (word_lines s c.args.from c.args.words) c.in-Err-print_registers.fault _ _ _ _ _ _ c.in_default.ensures c.in-Err-print_registers.ensures

pub returns : goal.returns
returns g c =
    let s = c.args.machine.now.state in
    let said = prints_on (head_line s ∷ []) (register_lines s.hart 0 32) _ _ _ _ _ _ c.in_default.ensures c.in_default-print_registers.ensures in
    all_on (head_line s ∷ register_lines s.hart 0 32) (word_lines s c.args.from c.args.words) c.print_words.result _ _ _ _ _ _ said c.print_words.ensures
