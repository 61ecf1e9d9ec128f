-- What a feed of one event holds, and what an outlet of one packet keeps.
use Rattle.std.specs.Prelude.{ℕ, List, [], ◌∷◌, ◌++◌, Option, None, Some}
use Rattle.avm_outside.specs.Events.{event_of}
use Rattle.avm_outside.specs.Feed.{Agenda, Timed, timed}
use Rattle.avm_outside.specs.Outlet.{Piece, auth, console, packet}
use Rattle.avm_outside.specs.declared.due.Due.{Due}

-- ---- a feed

-- an event that is due at once, or none
abbrev pub events_in : Option Due → List ℕ → List Timed
events_in None bytes = []
events_in (Some due) bytes = timed 0 (event_of due bytes) ∷ []

-- the event, and the value of each clock request
abbrev pub event_agenda : Due → List ℕ → ℕ → Agenda
event_agenda due bytes clock = record { events = timed 0 (event_of due bytes) ∷ []; ending = 0; clocks = clock ∷ []; asked = 0 }

-- none before a count
abbrev pub later_agenda : ℕ → ℕ → Agenda
later_agenda later clock = record { events = []; ending = later; clocks = clock ∷ []; asked = 0 }

-- ---- an outlet

-- a packet with the peer that it is for
abbrev pub packets_in : Option ℕ → List ℕ → List (ℕ × List ℕ)
packets_in None bytes = []
packets_in (Some peer) bytes = (peer, bytes) ∷ []

-- a packet joins; other pieces are passed over
abbrev pub with_piece : Piece → List (ℕ × List ℕ) → List (ℕ × List ℕ)
with_piece (packet peer bytes) packets = packets ++ (peer, bytes) ∷ []
with_piece (console bytes) packets = packets
with_piece (auth bytes) packets = packets
