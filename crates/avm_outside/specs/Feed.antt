-- What a feed holds and gives.
use Rattle.std.specs.Prelude.{◌≡◌, ℕ, ◌+◌, ◌-◌, ◌^◌, min, ◌||◌, not, nat_le, Bool, List, [], ◌∷◌, ◌++◌, length, drop, slice_index, if◌then◌else◌}
use Rattle.avm_outside.specs.declared.due.Due.{Due}
use Rattle.avm_outside.specs.declared.due.Due.TheVariants.{Console, Packet, Resend, Later, End}

-- console input, a packet, or a peer to whom the outstanding packet is sent again
pub data Event : Type 0 where
  console : List ℕ → Event
  packet : List ℕ → Event
  resend : ℕ → Event

-- an event, and the count of the machine at which it is due
pub record Timed : Type 0 where
  pub at : ℕ
  pub event : Event

abbrev pub timed : ℕ → Event → Timed
timed at event = record { at = at; event = event }

-- the events that remain, the count of the end, the clock values, and how many clock requests were answered
pub record Agenda : Type 0 where
  pub events : List Timed
  pub ending : ℕ
  pub clocks : List ℕ
  pub asked : ℕ

-- an event as an answer names it, and its bytes
abbrev pub due_of : Event → Due
due_of (console bytes) = Console (length bytes)
due_of (packet bytes) = Packet (length bytes)
due_of (resend peer) = Resend peer

abbrev pub bytes_of : Event → List ℕ
bytes_of (console bytes) = bytes
bytes_of (packet bytes) = bytes
bytes_of (resend peer) = []

-- what stands at a count has come where the machine has reached the count, or doesn't run
abbrev pub has_come : ℕ → ℕ → Bool → Bool
has_come at count running = nat_le at count || not running

-- only the first event is looked at; without events the end is
abbrev pub answer_at : List Timed → ℕ → ℕ → Bool → Due
answer_at [] ending count running = if has_come ending count running then End else Later ending
answer_at (t ∷ events) ending count running = if has_come t.at count running then due_of t.event else Later t.at

-- the answer of a list of events
abbrev pub answer_of : Agenda → ℕ → Bool → Due
answer_of a count running = answer_at a.events a.ending count running

-- an answer gave the first event, whose bytes stand at the front of the buffer
abbrev pub Gives : Due → Agenda → Agenda → List ℕ → List ℕ → Type 0
Gives due old new before after =
    (t : Timed) × (due ≡ due_of t.event) × (old ≡ record new { events = t ∷ new.events })
    × (after ≡ bytes_of t.event ++ drop (length (bytes_of t.event)) before)

-- an answer that gives no event leaves all
abbrev pub Leaves : Agenda → Agenda → List ℕ → List ℕ → Type 0
Leaves old new before after = (new ≡ old) × (after ≡ before)

abbrev pub Gave : Due → Agenda → Agenda → List ℕ → List ℕ → Type 0
Gave (Later c) old new before after = Leaves old new before after
Gave End old new before after = Leaves old new before after
Gave due old new before after = Gives due old new before after

-- the next clock request gets the value of its number, or the last one again, or 0 where there is none
abbrev pub clock_of : Agenda → ℕ
clock_of a = slice_index a.clocks (min a.asked (length a.clocks - 1))

-- one more clock request was answered; the number stays at the last value of a u64
abbrev pub with_asked : Agenda → Agenda
with_asked a = record a { asked = min (a.asked + 1) (2 ^ 64 - 1) }
