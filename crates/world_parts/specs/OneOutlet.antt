-- What an outlet of one packet keeps.
use Rattle.std.specs.Prelude.{ℕ, List}
use Rattle.world_parts.specs.Holding.{packets_in}
use Rattle.world_parts.specs.declared.one_outlet.OneOutlet.{OneOutlet}

abbrev pub one_packets : OneOutlet → List (ℕ × List ℕ)
one_packets o = packets_in o.peer o.bytes.bytes

abbrev pub outlet_faults : OneOutlet → ℕ
outlet_faults o = o.faults
