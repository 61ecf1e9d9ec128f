-- A world, and what a step does to it.
use Rattle.std.specs.Prelude.{◌≡◌, ◌⊎◌, ◌+◌, ◌-◌, ◌<◌, ◌≤◌, ◌^◌, ℕ, Bool, List, [], ◌++◌, length, map, min, slice_get, slice_set, nat_le, if◌then◌else◌, Option, None, Some, Result, Ok, IsErr}
use Rattle.avm_num.specs.declared.buffer.NoMemory.{NoMemory}
use Rattle.avm_model.specs.Machine.{MachineState}
use Rattle.world_core.specs.Nodes.{StepsAt, machine_of}
use Rattle.world_core.specs.Runs.{RunsIfUp}
use Rattle.world_core.specs.Turns.{Packets}
use Rattle.world_core.specs.declared.node.Node.{Node}
use Rattle.world_core.specs.declared.pool.Packet.{Packet}
use Rattle.world_core.specs.declared.types.Parcel.{Parcel}
use Rattle.world_core.specs.declared.types.Stepped.{Stepped}
use Rattle.world_core.specs.declared.types.Stepped.TheVariants as step
use Rattle.world_core.specs.declared.world.World.{World}
use Rattle.world_model.specs.Deeds.{Deed, Turn, Deliver, Console, Resend, Seal, EventData}

abbrev pub nodes_of : World → List Node
nodes_of w = w.nodes.items

-- a packet of the pool: the own id of the node that released it, the peer, and its bytes
pub record ParcelData : Type 0 where
  pub from : ℕ
  pub to : ℕ
  pub bytes : List ℕ

abbrev pub parcel_of : Packet → ParcelData
parcel_of p = record { from = p.from; to = p.to; bytes = p.bytes.bytes }

abbrev pub pool_of : World → List ParcelData
pool_of w = map parcel_of w.pool.items

abbrev pub parcel_view : Parcel → ParcelData
parcel_view p = record { from = p.from; to = p.to; bytes = p.bytes.now }

-- console input has 1 to 256 bytes
abbrev pub FitsDeed : Deed → Type 0
FitsDeed (Console bytes) = (0 < length bytes) × (length bytes ≤ 256)
FitsDeed deed = Unit {0}

abbrev pub machine_in : Option Node → Option MachineState
machine_in None = None
machine_in (Some n) = machine_of n.recorder

-- the machine of a node of this number that isn't down
abbrev pub machine_at : List Node → ℕ → Option MachineState
machine_at nodes k = machine_in (slice_get nodes k)

-- how many steps were made at a node
abbrev pub events_of : World → ℕ
events_of w = w.events

-- each node runs on its disk, or is down
abbrev pub IsWorld : World → Type 0
IsWorld w = (i : ℕ) (n : Node) → slice_get (nodes_of w) i ≡ Some n → RunsIfUp n.disk n.recorder

pub record SameWorld (old new : World) : Type 0 where
  pub nodes : nodes_of new ≡ nodes_of old
  pub pool : pool_of new ≡ pool_of old
  pub events : events_of new ≡ events_of old

-- the number of the packet that a deed delivers
abbrev pub delivered_by : Deed → Option ℕ
delivered_by Turn = None
delivered_by (Deliver n) = Some n
delivered_by (Console bytes) = None
delivered_by (Resend peer) = None
delivered_by Seal = None

abbrev pub refused_packet : ℕ → Option ℕ → Option Stepped
refused_packet packets None = None
refused_packet packets (Some n) = if nat_le packets n then Some step.NoPacket else None

-- why an event can't come where there are so many nodes and packets
abbrev pub refusal_of : ℕ → ℕ → EventData → Option Stepped
refusal_of nodes packets e = if nat_le nodes e.node then Some step.NoNode else refused_packet packets (delivered_by e.deed)

abbrev pub bytes_or_none : Option ParcelData → List ℕ
bytes_or_none None = []
bytes_or_none (Some p) = p.bytes

-- the bytes of the packet that is delivered
abbrev pub bytes_at : List ParcelData → Option ℕ → List ℕ
bytes_at pool None = []
bytes_at pool (Some n) = bytes_or_none (slice_get pool n)

-- the packets that a node released, as they join the pool
abbrev pub parcels : ℕ → Packets → List ParcelData
parcels from ps = map (λ p. record { from = from; to = p.0; bytes = p.1 }) ps

-- One step that is made: one act at one node, and the crash behind it; what was released joins the pool.
pub record Made (old new : World) (e : EventData) (result : Result Stepped NoMemory) : Type 0 where
  pub node : Node
  pub there : slice_get (nodes_of old) e.node ≡ Some node
  pub last : Node
  pub packets : Packets
  pub few : length packets ≤ 1
  pub kept : Bool
  pub steps : StepsAt node last e (bytes_at (pool_of old) (delivered_by e.deed)) (events_of new) [] packets kept result
  pub nodes : nodes_of new ≡ slice_set (nodes_of old) e.node last
  pub pool : pool_of new ≡ pool_of old ++ (if kept then parcels node.own packets else [])
  pub events : events_of new ≡ min (events_of old + 1) (2 ^ 64 - 1)

-- a step that isn't refused is made, unless memory is wanting for it: then the world stays
abbrev pub StepsBy : Option Stepped → World → World → EventData → Result Stepped NoMemory → Type 0
StepsBy (Some refused) old new e result = (result ≡ Ok refused) × (new ≡ old)
StepsBy None old new e result = (IsErr result × SameWorld old new) ⊎ Made old new e result
