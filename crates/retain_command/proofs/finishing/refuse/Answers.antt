use Rattle.std.specs.Prelude.{Err}
use Rattle.store_move.specs.declared.fault.RetainFault.TheVariants as fault
use Rattle.retain_command.specs.Ends.{text_of}
use Rattle.retain_command.proofs.Saying.{damaged_as, journal_as, said_as}
use Rattle.retain_command.proofs.finishing.refuse.Goals as goal

pub returns-in-NoMemory : goal.returns-in-NoMemory
returns-in-NoMemory g c = λ a. said_as a c.args.fault fault.NoMemory _ _ _ _ c.print_last.result c.in-NoMemory.is c.print_last.ensures

pub returns-in-DiskFault : goal.returns-in-DiskFault
returns-in-DiskFault g c = λ a. said_as a c.args.fault fault.DiskFault _ _ _ _ c.print_last-in-DiskFault.result c.in-DiskFault.is c.print_last-in-DiskFault.ensures

pub returns-in-NoStore : goal.returns-in-NoStore
returns-in-NoStore g c = λ a. said_as a c.args.fault fault.NoStore _ _ _ _ c.print_last-in-NoStore.result c.in-NoStore.is c.print_last-in-NoStore.ensures

pub returns-in-Range : goal.returns-in-Range
returns-in-Range g c = λ a. said_as a c.args.fault fault.Range _ _ _ _ c.print_last-in-Range.result c.in-Range.is c.print_last-in-Range.ensures

pub returns-in-Damaged : goal.returns-in-Damaged
returns-in-Damaged g c = λ a. damaged_as a c.args.fault c.in-Damaged.place _ _ _ _ c.print_refusal.result c.in-Damaged.is (c.print_refusal.ensures (text_of 0 (Err (fault.Damaged c.in-Damaged.place))) c.damaged_line.ensures)

pub returns-in-Unreplayed : goal.returns-in-Unreplayed
returns-in-Unreplayed g c = λ a. journal_as a c.args.fault c.in-Unreplayed.number _ _ _ _ c.print_refusal-in-Unreplayed.result c.in-Unreplayed.is (c.print_refusal-in-Unreplayed.ensures (text_of 0 (Err (fault.Unreplayed c.in-Unreplayed.number))) c.journal_line.ensures)

pub returns-in-SpareFault : goal.returns-in-SpareFault
returns-in-SpareFault g c = λ a. said_as a c.args.fault fault.SpareFault _ _ _ _ c.print_last-in-SpareFault.result c.in-SpareFault.is c.print_last-in-SpareFault.ensures

pub returns-in-NotEmpty : goal.returns-in-NotEmpty
returns-in-NotEmpty g c = λ a. said_as a c.args.fault fault.NotEmpty _ _ _ _ c.print_last-in-NotEmpty.result c.in-NotEmpty.is c.print_last-in-NotEmpty.ensures

pub returns-in-OtherSpare : goal.returns-in-OtherSpare
returns-in-OtherSpare g c = λ a. said_as a c.args.fault fault.OtherSpare _ _ _ _ c.print_last-in-OtherSpare.result c.in-OtherSpare.is c.print_last-in-OtherSpare.ensures

pub returns-in-Full : goal.returns-in-Full
returns-in-Full g c = λ a. said_as a c.args.fault fault.Full _ _ _ _ c.print_last-in-Full.result c.in-Full.is c.print_last-in-Full.ensures
