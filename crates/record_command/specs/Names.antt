-- The names of a recording's files.
use Rattle.record_command.specs.Outcomes.{Names}
use Rattle.record_command.specs.declared.command.RecordNames.{RecordNames}

abbrev pub record_names : RecordNames → Names
record_names n = record { key = n.key.now; script = n.script.now; packets = n.packets.now; console = n.console.now; auths = n.auths.now }
