-- What a node did in a step.
use Rattle.std.specs.Prelude.{◌≡◌, ◌+◌, ◌-◌, ◌^◌, ℕ, List, min}
use Rattle.avm_outside.specs.declared.mem_disk.MemDisk.{MemDisk}
use Rattle.record_parts.specs.declared.answers.Sealed.{Sealed}
use Rattle.record_parts.specs.declared.answers.Turn.{Turn}
use Rattle.recorder.specs.Recorder.{desk_of}
use Rattle.recorder.specs.declared.recorder.Recorder.{Recorder}
use Rattle.world_core.specs.Gifts.{agenda_for}
use Rattle.world_core.specs.Turns.{Packets, SealOf, TurnOf}
use Rattle.world_core.specs.declared.types.Stepped.{Stepped}
use Rattle.world_core.specs.declared.types.Stepped.TheVariants as step
use Rattle.world_model.specs.Deeds.{Deed, Turn as TurnDeed, Deliver, Console, Resend, Seal}

-- the count before which a turn without an event has none
abbrev pub later_of : ℕ → ℕ
later_of count = min (count + 65536) (2 ^ 62 - 1)

-- a turn, by the feed of its deed
pub record Turns (d e : MemDisk) (r q : Recorder) (deed : Deed) (packet : List ℕ) (number : ℕ) (before packets : Packets) (answer : Stepped) : Type 0 where
  pub turn : Turn
  pub answer_is : answer ≡ step.Turned turn
  pub of_turn : TurnOf d e r q (agenda_for deed packet (later_of (desk_of r).machine.state.count) number) before packets turn

pub record Seals (d e : MemDisk) (r q : Recorder) (before packets : Packets) (answer : Stepped) : Type 0 where
  pub sealed : Sealed
  pub answer_is : answer ≡ step.Sealed sealed
  pub of_seal : SealOf d e r q before packets sealed

-- a seal, or a turn whose feed gives the deed's event; a clock request gets this number
abbrev pub ActOf : MemDisk → MemDisk → Recorder → Recorder → Deed → List ℕ → ℕ → Packets → Packets → Stepped → Type 0
ActOf d e r q TurnDeed packet number before packets answer = Turns d e r q TurnDeed packet number before packets answer
ActOf d e r q (Deliver n) packet number before packets answer = Turns d e r q (Deliver n) packet number before packets answer
ActOf d e r q (Console bytes) packet number before packets answer = Turns d e r q (Console bytes) packet number before packets answer
ActOf d e r q (Resend peer) packet number before packets answer = Turns d e r q (Resend peer) packet number before packets answer
ActOf d e r q Seal packet number before packets answer = Seals d e r q before packets answer
