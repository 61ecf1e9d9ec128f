-- What opening a recorder answers, as what opening its parts does.
use Rattle.std.specs.Prelude.{Result, Ok, Err}
use Rattle.record_open.specs.declared.fault.RecordFault.{RecordFault}
use Rattle.record_turn.specs.declared.desk.Desk.{Desk}
use Rattle.recorder.specs.Recorder.{desk_of}
use Rattle.recorder.specs.declared.recorder.Recorder.{Recorder}

abbrev pub desk_result : Result Recorder RecordFault → Result Desk RecordFault
desk_result (Ok r) = Ok (desk_of r)
desk_result (Err fault) = Err fault
