-- The bounds on what a feed gives.
use Rattle.std.specs.Prelude.{◌≡◌, ℕ, ◌^◌, ◌<◌, ◌≤◌}
use Rattle.avm_outside.specs.declared.due.Due.{Due}
use Rattle.avm_outside.specs.declared.due.Due.TheVariants.{Console, Packet, Resend, Later, End}

-- an answer that gives an event names as many bytes as the event has
abbrev pub IsEvent : Due → ℕ → Type 0
IsEvent (Console n) len = (len ≡ n) × (0 < n) × (n ≤ 256)
IsEvent (Packet n) len = (len ≡ n) × (0 < n) × (n ≤ 20000)
IsEvent (Resend peer) len = len ≡ 0
IsEvent (Later c) len = ⊥
IsEvent End len = ⊥

-- what an answer at this count may name
abbrev pub IsBounded : Due → ℕ → Type 0
IsBounded (Console n) count = (0 < n) × (n ≤ 256)
IsBounded (Packet n) count = (0 < n) × (n ≤ 20000)
IsBounded (Resend peer) count = Unit {0}
IsBounded (Later c) count = (count < c) × (c < 2 ^ 62)
IsBounded End count = Unit {0}
