-- What a step does to a node and to the worlds around it.
use Rattle.std.proofs.Common.{◌≡◌, ◌≢◌, ◌<◌, ◌≤◌, ◌^◌, ◌+◌, ◌-◌, leb-false, slice_index_or, ℕ, zero, suc, Bool, true, false, List, [], ◌∷◌, ◌++◌, length, Option, Some, None, Result, Ok, refl, sym, ap, subst, ◌∙◌, arith, ◌⊎◌, inl, inr, min}
use Rattle.std.specs.Prelude.{if◌then◌else◌, nat_le, option_map, slice_get, slice_set}
use Rattle.avm_num.specs.declared.buffer.NoMemory.{NoMemory}
use Rattle.avm_outside.specs.declared.mem_disk.MemDisk.{MemDisk}
use Rattle.avm_model.specs.Keys.{KeyData}
use Rattle.avm_outside.specs.MemDisks.{disk_calls, disk_state}
use Rattle.record_open.specs.declared.fault.RecordFault.{RecordFault}
use Rattle.record_open.specs.declared.fault.RecordFault.TheVariants as fault
use Rattle.recorder.specs.Recorder.{desk_of}
use Rattle.recorder.specs.declared.recorder.Recorder.{Recorder}
use Rattle.world_core.specs.Acts.{ActOf}
use Rattle.world_core.specs.Crashes.{Crashed, CrashedIfUp, Fails, FailsOn, IsDown, OpensOn, Reopens, Wants}
use Rattle.world_core.specs.Nodes.{DidIfUp, EndsBy, SameNode, StepsAt, crash_call, keeps}
use Rattle.world_core.specs.Runs.{RunsIfUp}
use Rattle.world_core.specs.Turns.{Packets}
use Rattle.world_core.specs.Worlds.{Made, ParcelData, bytes_at, delivered_by, events_of, StepsBy, nodes_of, parcels, pool_of, refusal_of}
use Rattle.world_core.specs.declared.node.Node.{Node}
use Rattle.world_core.specs.declared.types.Stepped.{Stepped}
use Rattle.world_core.specs.declared.types.Stepped.TheVariants as step
use Rattle.world_core.specs.declared.world.World.{World}
use Rattle.world_model.proofs.Lists.{get_one_more}
use Rattle.world_model.specs.Deeds.{Deed, EventData}
use Rattle.world_model.specs.EventView.{crash_view}
use Rattle.world_model.specs.declared.event.Crash.{Crash}
use Rattle.world_parts.specs.Crash.{crash_image}
use Rattle.world_parts.specs.Holding.{packets_in}

-- ---- a node

pub crashed_up : (o : Option Recorder) (r : Recorder) (old new : MemDisk) (p : Option Recorder) (image : List ℕ) (res : Result Stepped NoMemory) → o ≡ Some r → Crashed old new p (desk_of r).press.key image res → CrashedIfUp o old new p image res
crashed_up o r old new p image res e h = subst (λ (x : Option Recorder). CrashedIfUp x old new p image res) (sym e) h

pub did_up : (o : Option Recorder) (r q : Recorder) (n m : Node) (deed : Deed) (packet : List ℕ) (number : ℕ) (before packets : Packets) (answer : Stepped) → o ≡ Some r → m.recorder ≡ Some q → ActOf n.disk m.disk r q deed packet number before packets answer → DidIfUp o n m deed packet number before packets answer
did_up o r q n m deed packet number before packets answer e up act = subst (λ (x : Option Recorder). DidIfUp x n m deed packet number before packets answer) (sym e) (q, up, act)

pub same_twice : (n m l : Node) → SameNode n m → SameNode m l → SameNode n l
same_twice n m l a b = record { own = b.own ∙ a.own; key = b.key ∙ a.key; peers = b.peers ∙ a.peers }

-- ---- crashes

pub reopens_on : (old new : MemDisk) (r : Recorder) (signer key : KeyData) (image want : List ℕ) → signer ≡ key → image ≡ want → OpensOn new r signer image → Crashed old new (Some r) key want (Ok step.Reopened)
reopens_on old new r signer key image want k i h =
    let one = subst (λ (x : KeyData). OpensOn new r x image) k h in
    Reopens r refl refl (subst (λ (x : List ℕ). OpensOn new r key x) i one)

fails_on : (old new : MemDisk) (o : Option Recorder) (signer key : KeyData) (image want : List ℕ) (why : RecordFault) (res : Result Stepped NoMemory) → o ≡ None → signer ≡ key → image ≡ want → res ≡ Ok step.Down → FailsOn old new signer image why → Crashed old new o key want res
fails_on old new o signer key image want why res none k i down h =
    let one = subst (λ (x : KeyData). FailsOn old new x image why) k h in
    Fails why none down (subst (λ (x : List ℕ). FailsOn old new key x why) i one)

pub crashed_down : (old new : MemDisk) (o : Option Recorder) (signer key : KeyData) (image want : List ℕ) (why : RecordFault) (res : Result Stepped NoMemory) → o ≡ None → signer ≡ key → image ≡ want → IsDown why res → (why ≢ fault.NoMemory → FailsOn old new signer image why) → Crashed old new o key want res
crashed_down old new o signer key image want fault.NoMemory res none k i d f = Wants none d
crashed_down old new o signer key image want fault.DiskFault res none k i d f = fails_on old new o signer key image want fault.DiskFault res none k i d (f (λ e. absurd cc))
crashed_down old new o signer key image want fault.NoStore res none k i d f = fails_on old new o signer key image want fault.NoStore res none k i d (f (λ e. absurd cc))
crashed_down old new o signer key image want (fault.Damaged p) res none k i d f = fails_on old new o signer key image want (fault.Damaged p) res none k i d (f (λ e. absurd cc))
crashed_down old new o signer key image want (fault.Retired n) res none k i d f = fails_on old new o signer key image want (fault.Retired n) res none k i d (f (λ e. absurd cc))
crashed_down old new o signer key image want fault.KeyMismatch res none k i d f = fails_on old new o signer key image want fault.KeyMismatch res none k i d (f (λ e. absurd cc))
crashed_down old new o signer key image want (fault.Unreplayed n) res none k i d f = fails_on old new o signer key image want (fault.Unreplayed n) res none k i d (f (λ e. absurd cc))

-- ---- a step's end

pub ends_plain : (o : Option Crash) (n m : Node) (answer : Stepped) → ((x : Crash) → o ≡ Some x → ⊥) → EndsBy (option_map crash_view o) n m m true answer (Ok answer)
ends_plain None n m answer never = (refl, refl)
ends_plain (Some x) n m answer never = absurd (never x refl)

pub keeps_plain : (o : Option Crash) (made : ℕ) → ((x : Crash) → o ≡ Some x → ⊥) → true ≡ keeps (option_map crash_view o) made
keeps_plain None made never = refl
keeps_plain (Some x) made never = absurd (never x refl)

pub ends_crash : (o : Option Crash) (c : Crash) (n m last : Node) (kept : Bool) (answer : Stepped) (res : Result Stepped NoMemory) (at : ℕ) → o ≡ Some c → at ≡ crash_call kept (disk_calls n.disk) c.calls (disk_calls m.disk)
    → CrashedIfUp m.recorder m.disk last.disk last.recorder (crash_image (disk_state m.disk at) c.long c.fill) res → EndsBy (option_map crash_view o) n m last kept answer res
ends_crash o c n m last kept answer res at is a h =
    subst (λ (x : Option Crash). EndsBy (option_map crash_view x) n m last kept answer res) (sym is)
    (subst (λ (k : ℕ). CrashedIfUp m.recorder m.disk last.disk last.recorder (crash_image (disk_state m.disk k) c.long c.fill) res) a h)

pub keeps_crash : (o : Option Crash) (c : Crash) (x made : ℕ) → o ≡ Some c → x ≡ made → nat_le x c.calls ≡ keeps (option_map crash_view o) made
keeps_crash o c x made is e = rw (is, e) refl

-- ---- an outlet

-- an outlet of one packet has one at most
pub one_at_most : (peer : Option ℕ) (bytes : List ℕ) → length (packets_in peer bytes) ≤ 1
one_at_most None bytes = omega arith
one_at_most (Some peer) bytes = omega arith

-- ---- the nodes of a world

abbrev pub AllRun : List Node → Type 0
AllRun nodes = (i : ℕ) (n : Node) → slice_get nodes i ≡ Some n → RunsIfUp n.disk n.recorder

pub set_runs : (nodes : List Node) (k : ℕ) (last : Node) → AllRun nodes → RunsIfUp last.disk last.recorder → AllRun (slice_set nodes k last)
set_runs [] k last w h i n e = w i n e
set_runs (z ∷ xs) zero last w h zero n e = let same : last ≡ n = cc in subst (λ (x : Node). RunsIfUp x.disk x.recorder) same h
set_runs (z ∷ xs) zero last w h (suc i) n e = w (suc i) n e
set_runs (z ∷ xs) (suc k) last w h zero n e = w zero n e
set_runs (z ∷ xs) (suc k) last w h (suc i) n e = set_runs xs k last (λ j m q. w (suc j) m q) h i n e

pub join_runs : (nodes : List Node) (node : Node) → AllRun nodes → RunsIfUp node.disk node.recorder → AllRun (nodes ++ node ∷ [])
join_runs nodes node w h i n e = by (get_one_more nodes node n i e)
  where
    by : (slice_get nodes i ≡ Some n) ⊎ ((i ≡ length nodes) × (n ≡ node)) → RunsIfUp n.disk n.recorder
    by (inl q) = w i n q
    by (inr q) = subst (λ (x : Node). RunsIfUp x.disk x.recorder) (sym q.1) h

-- ---- a step that is made

pub made_same : (old mid new : World) (e : EventData) (res : Result Stepped NoMemory) → nodes_of mid ≡ nodes_of old → pool_of mid ≡ pool_of old → events_of mid ≡ events_of old → Made mid new e res → Made old new e res
made_same old mid new e res nodes pool events m = record {
  node = m.node;
  there = subst (λ (xs : List Node). slice_get xs e.node ≡ Some m.node) nodes m.there;
  last = m.last;
  packets = m.packets;
  few = m.few;
  kept = m.kept;
  steps = subst (λ (ps : List ParcelData). StepsAt m.node m.last e (bytes_at ps (delivered_by e.deed)) (events_of new) [] m.packets m.kept res) pool m.steps;
  nodes = m.nodes ∙ ap (λ (xs : List Node). slice_set xs e.node m.last) nodes;
  pool = m.pool ∙ ap (λ (ps : List ParcelData). ps ++ (if m.kept then parcels m.node.own m.packets else [])) pool;
  events = m.events ∙ ap (λ (n : ℕ). min (n + 1) (2 ^ 64 - 1)) events;
}

-- the node of an index below the length
pub node_at : (xs : List Node) (k : ℕ) (x : Node) → k < length xs → x ≡ slice_index_or xs k x → slice_get xs k ≡ Some x
node_at [] k x lt e = absurd (omega (arith, lt))
node_at (z ∷ xs) zero x lt e = ap (λ (y : Node). Some y) (sym e)
node_at (z ∷ xs) (suc k) x lt e = node_at xs k x (omega (arith, lt)) e

pub node_in : (nodes packets : ℕ) (e : EventData) → refusal_of nodes packets e ≡ None → e.node < nodes
node_in nodes packets e h = by (nat_le nodes e.node) refl
  where
    by : (b : Bool) → nat_le nodes e.node ≡ b → e.node < nodes
    by false q = leb-false nodes e.node q
    by true q = absurd (let bad : Some step.NoNode ≡ None = sym (refused q) ∙ h in cc bad)
      where
        refused : nat_le nodes e.node ≡ true → refusal_of nodes packets e ≡ Some step.NoNode
        refused q = rw q refl

pub steps_as : (n last : Node) (e : EventData) (packet want : List ℕ) (number : ℕ) (before packets : Packets) (kept keep : Bool) (res : Result Stepped NoMemory) → packet ≡ want → before ≡ [] → kept ≡ keep → StepsAt n last e packet number before packets kept res → StepsAt n last e want number [] packets keep res
steps_as n last e packet want number before packets kept keep res p b k h =
    let one = subst (λ (x : List ℕ). StepsAt n last e x number before packets kept res) p h in
    let two = subst (λ (x : Packets). StepsAt n last e want number x packets kept res) b one in
    subst (λ (x : Bool). StepsAt n last e want number [] packets x res) k two

pub steps_made : (o : Option Stepped) (old new : World) (e : EventData) (res : Result Stepped NoMemory) → ((x : Stepped) → o ≡ Some x → ⊥) → Made old new e res → StepsBy o old new e res
steps_made None old new e res never m = inr m
steps_made (Some x) old new e res never m = absurd (never x refl)

pub not_some : {A : Type 0} (o : Option A) → ((x : A) → o ≡ Some x → ⊥) → o ≡ None
not_some None never = refl
not_some (Some x) never = absurd (never x refl)
