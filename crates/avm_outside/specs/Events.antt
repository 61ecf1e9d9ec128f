-- An event of a list.
use Rattle.std.specs.Prelude.{ℕ, List, []}
use Rattle.avm_outside.specs.declared.due.Due.{Due}
use Rattle.avm_outside.specs.declared.due.Due.TheVariants.{Console, Packet, Resend, Later, End}
use Rattle.avm_outside.specs.Feed.{Event, console, packet, resend}

-- the event that an answer names, with these bytes; an answer without event stands for none
abbrev pub event_of : Due → List ℕ → Event
event_of (Console n) bytes = console bytes
event_of (Packet n) bytes = packet bytes
event_of (Resend peer) bytes = resend peer
event_of (Later c) bytes = console []
event_of End bytes = console []
