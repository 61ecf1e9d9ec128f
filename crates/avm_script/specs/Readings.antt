-- What was read of a script so far, as a value.
use Rattle.avm_script.specs.Listed.{script_in}
use Rattle.avm_script.specs.Sofar.{Sofar}
use Rattle.avm_script.specs.declared.script.Reading.{Reading}

abbrev pub sofar : Reading → Sofar
sofar r = record { script = script_in r.list; last = r.last; ended = r.ended }
