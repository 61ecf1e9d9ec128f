-- What the feed of a deed holds.
use Rattle.std.specs.Prelude.{ℕ, ◌<◌, ◌≤◌, List, [], length}
use Rattle.avm_outside.specs.Feed.{Agenda}
use Rattle.avm_outside.specs.declared.due.Due.TheVariants as due
use Rattle.world_model.specs.Deeds.{Deed, Turn, Deliver, Console, Resend, Seal}
use Rattle.world_parts.specs.Holding.{event_agenda, later_agenda}

-- the event of a deed, where these are the bytes of the packet that is delivered, or none before a count; and the number that a clock
-- request gets
abbrev pub agenda_for : Deed → List ℕ → ℕ → ℕ → Agenda
agenda_for Turn packet later number = later_agenda later number
agenda_for (Deliver n) packet later number = event_agenda (due.Packet (length packet)) packet number
agenda_for (Console bytes) packet later number = event_agenda (due.Console (length bytes)) bytes number
agenda_for (Resend peer) packet later number = event_agenda (due.Resend peer) [] number
agenda_for Seal packet later number = later_agenda later number

-- a packet has a byte and at most 20,000, console input at most 256
abbrev pub FitsGift : Deed → List ℕ → Type 0
FitsGift Turn packet = Unit {0}
FitsGift (Deliver n) packet = (0 < length packet) × (length packet ≤ 20000)
FitsGift (Console bytes) packet = (0 < length bytes) × (length bytes ≤ 256)
FitsGift (Resend peer) packet = Unit {0}
FitsGift Seal packet = Unit {0}
