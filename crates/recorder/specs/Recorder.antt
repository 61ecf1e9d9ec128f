-- The parts of a recorder that contracts name.
use Rattle.std.specs.Prelude.{Option}
use Rattle.jrnl_store.specs.declared.fault.Stop.{Stop}
use Rattle.record_turn.specs.declared.desk.Desk.{Desk}
use Rattle.recorder.specs.declared.recorder.Recorder.{Recorder}

abbrev pub desk_of : Recorder → Desk
desk_of r = r.desk

abbrev pub stop_of : Recorder → Option Stop
stop_of r = r.stop
