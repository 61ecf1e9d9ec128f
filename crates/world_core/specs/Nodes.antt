-- A step at one node: its act, and the crash behind it.
use Rattle.std.specs.Prelude.{◌≡◌, ◌+◌, ◌-◌, ℕ, Bool, true, false, List, min, nat_le, if◌then◌else◌, Option, None, Some, Result, Ok}
use Rattle.avm_num.specs.declared.buffer.NoMemory.{NoMemory}
use Rattle.avm_outside.specs.MemDisks.{disk_calls, disk_state}
use Rattle.avm_model.specs.Machine.{MachineState}
use Rattle.record_parts.specs.declared.answers.Turn.{Turn}
use Rattle.record_parts.specs.declared.answers.Turn.TheVariants as turn
use Rattle.recorder.specs.Recorder.{desk_of}
use Rattle.recorder.specs.declared.recorder.Recorder.{Recorder}
use Rattle.world_core.specs.Acts.{ActOf}
use Rattle.world_core.specs.Crashes.{CrashedIfUp}
use Rattle.world_core.specs.Turns.{Packets}
use Rattle.world_core.specs.declared.node.Node.{Node}
use Rattle.world_core.specs.declared.types.Stepped.{Stepped}
use Rattle.world_core.specs.declared.types.Stepped.TheVariants as step
use Rattle.world_model.specs.Deeds.{CrashData, Deed, EventData}
use Rattle.world_parts.specs.Crash.{crash_image}

-- the machine of a node that isn't down
abbrev pub machine_of : Option Recorder → Option MachineState
machine_of None = None
machine_of (Some r) = Some (desk_of r).machine

-- what an act did at a node, which is down or not
abbrev pub DidIfUp : Option Recorder → Node → Node → Deed → List ℕ → ℕ → Packets → Packets → Stepped → Type 0
DidIfUp None n m deed packet number before packets answer = (answer ≡ step.Down) × (m ≡ n) × (packets ≡ before)
DidIfUp (Some r) n m deed packet number before packets answer = (q : Recorder) × (m.recorder ≡ Some q) × ActOf n.disk m.disk r q deed packet number before packets answer

-- behind this answer nothing was saved: at most a packet was released again
abbrev pub reads_alone : Turn → Bool
reads_alone turn.Resent = true
reads_alone (turn.Dropped why) = true
reads_alone other = false

-- So many disk calls count of those that an act made. The reads that find the entry of a packet that is released again count as one.
abbrev pub counted : Stepped → ℕ → ℕ
counted (step.Turned answer) made = if reads_alone answer then min made 1 else made
counted other made = made

abbrev pub calls_between : Node → Node → Stepped → ℕ
calls_between n m answer = counted answer (disk_calls m.disk - disk_calls n.disk)

-- where a crash comes behind an act of which more calls count than those before it, nothing is released
abbrev pub keeps : Option CrashData → ℕ → Bool
keeps None made = true
keeps (Some c) made = nat_le made c.calls

-- behind which call of its disk a node crashes: the last, where what the act released is kept
abbrev pub crash_call : Bool → ℕ → ℕ → ℕ → ℕ
crash_call kept before calls now = if kept then now else min (before + calls) now

-- the image that a crash leaves of a node behind its act
abbrev pub image_behind : Node → Node → CrashData → Bool → List ℕ
image_behind n m c kept = crash_image (disk_state m.disk (crash_call kept (disk_calls n.disk) c.calls (disk_calls m.disk))) c.long c.fill

-- its own id, its key and its peers stay
pub record SameNode (n m : Node) : Type 0 where
  pub own : m.own ≡ n.own
  pub key : m.key ≡ n.key
  pub peers : m.peers ≡ n.peers

-- what became of a node behind its act: it stays so, or it crashes
abbrev pub EndsBy : Option CrashData → Node → Node → Node → Bool → Stepped → Result Stepped NoMemory → Type 0
EndsBy None n m last kept answer result = (result ≡ Ok answer) × (last ≡ m)
EndsBy (Some c) n m last kept answer result = CrashedIfUp m.recorder m.disk last.disk last.recorder (image_behind n m c kept) result

-- One step at a node: its act, and the crash behind it. At most one packet is released.
pub record StepsAt (n last : Node) (e : EventData) (packet : List ℕ) (number : ℕ) (before packets : Packets) (kept : Bool) (result : Result Stepped NoMemory) : Type 0 where
  pub acted : Node
  pub answer : Stepped
  pub did : DidIfUp n.recorder n acted e.deed packet number before packets answer
  pub ends : EndsBy e.crash n acted last kept answer result
  pub kept_is : kept ≡ keeps e.crash (calls_between n acted answer)
  pub same : SameNode n last
