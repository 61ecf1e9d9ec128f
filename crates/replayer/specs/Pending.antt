-- The outputs of the last step that no entry has matched yet.
use Rattle.std.specs.Prelude.{List, map}
use Rattle.avm_model.specs.Machine.{State, MachineState}
use Rattle.avm_model.specs.Memory.{RamState}
use Rattle.avm_model.specs.Rerun.{Stand}
use Rattle.avm_model.specs.Reference.{Made, made_of}
use Rattle.guest_machine.specs.Outs.{outs_list}
use Rattle.guest_machine.specs.declared.outs.Outs.{Outs}

-- as the log has them
abbrev pub pending_of : State → Outs → List Made
pending_of s o = map (made_of s) (outs_list o s.devices.window)

abbrev pub stand_of : State → Outs → Stand State Made
stand_of s o = record { state = s; pending = pending_of s o }

-- the RAM of a machine, with its marks
abbrev pub ram_of : MachineState → RamState
ram_of m = record { bytes = m.state.ram; dirty = m.dirty }
