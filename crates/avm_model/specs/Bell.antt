-- The doorbell of a machine of version 2: how it rings, and the return from its handler (docs/FORMATS.md, "The doorbell"). It is
-- this project's own. A machine of version 1 has none.
use Rattle.std.specs.Prelude.{ℕ, ◌%◌, ◌==◌, ◌&&◌, not, nat_le, Bool, true, false, Option, Some, None, if◌then◌else◌}
use Rattle.avm_model.specs.declared.Bell.{Bell}

-- the states of a bell: the handler was left; it was entered; and it was entered, and something came in since
abbrev pub idle_bell : ℕ
idle_bell = 0

abbrev pub inside_bell : ℕ
inside_bell = 1

abbrev pub rung_bell : ℕ
rung_bell = 2

-- at boot
abbrev pub new_bell : Bell
new_bell = record { vector = 0; saved = 0; state = idle_bell }

-- the bell at boot of a machine of this version
abbrev pub bell_of : ℕ → Option Bell
bell_of version = if version == 2 then Some new_bell else None

-- the version of the machine that has this bell or none
abbrev pub version_of : Option Bell → ℕ
version_of None = 1
version_of (Some b) = 2

-- Both addresses are multiples of 4.
abbrev pub is_bell : Option Bell → Bool
is_bell None = true
is_bell (Some b) = b.vector % 4 == 0 && b.saved % 4 == 0 && nat_le b.state rung_bell

-- ---- ringing

-- Where the vector is 0, nothing rings. An idle bell saves pc and is entered; another one is rung.
abbrev pub ring : Bell → ℕ → Bell
ring b pc =
    if b.vector == 0 then b else
    if b.state == idle_bell then record b { saved = pc; state = inside_bell } else record b { state = rung_bell }

-- pc goes to the vector where the handler is entered
abbrev pub ring_pc : Bell → ℕ → ℕ
ring_pc b pc = if not (b.vector == 0) && b.state == idle_bell then b.vector else pc

-- the bell and pc of a machine of either version
abbrev pub after_ring : Option Bell → ℕ → Option Bell
after_ring None pc = None
after_ring (Some b) pc = Some (ring b pc)

abbrev pub pc_after_ring : Option Bell → ℕ → ℕ
pc_after_ring None pc = pc
pc_after_ring (Some b) pc = ring_pc b pc

-- ---- the return

-- the handler was entered and not left
abbrev pub is_entered : Option Bell → Bool
is_entered None = false
is_entered (Some b) = not (b.state == idle_bell)

-- a bell that was rung inside the handler enters it again, where the vector isn't 0
abbrev pub enters_again : Bell → Bool
enters_again b = b.state == rung_bell && not (b.vector == 0)

abbrev pub after_return : Option Bell → Option Bell
after_return None = None
after_return (Some b) = Some (record b { state = if enters_again b then inside_bell else idle_bell })

-- the handler again, or else the saved pc
abbrev pub pc_after_return : Option Bell → ℕ → ℕ
pc_after_return None pc = pc
pc_after_return (Some b) pc = if enters_again b then b.vector else b.saved
