-- A step of a world and a store that joins it, as a schedule of its network.
use Rattle.std.proofs.Common.{◌≡◌, ◌<◌, ◌≤◌, ℕ, zero, suc, Bool, true, false, List, [], ◌∷◌, ◌++◌, length, Option, None, Some, Result, Ok, Err, refl, sym, ap, subst, ◌∙◌, ◌⊎◌, inl, inr, arith, leb-false}
use Rattle.std.specs.Prelude.{if◌then◌else◌, nat_le, slice_get, slice_set}
use Rattle.avm_num.specs.declared.buffer.NoMemory.{NoMemory}
use Rattle.avm_model.specs.Device.{row_of}
use Rattle.avm_model.specs.Keys.{KeyData}
use Rattle.avm_model.specs.Machine.{MachineState}
use Rattle.avm_model.specs.declared.Peer.{Peer}
use Rattle.avm_outside.specs.Outlet.{Piece, packet}
use Rattle.avm_outside.specs.declared.mem_disk.MemDisk.{MemDisk}
use Rattle.life_model.proofs.Among.{among_either, among_left, among_right}
use Rattle.life_model.specs.Life.{Among}
use Rattle.record_model.specs.Released.{Sender}
use Rattle.recorder.specs.Recorder.{desk_of}
use Rattle.recorder.specs.declared.recorder.Recorder.{Recorder}
use Rattle.world_core.specs.Joining.{JoinAnswers}
use Rattle.world_core.specs.Turns.{Packets}
use Rattle.world_core.specs.Nodes.{machine_of}
use Rattle.world_core.specs.Worlds.{Made, ParcelData, SameWorld, StepsBy, bytes_at, bytes_or_none, delivered_by, machine_at, machine_in, nodes_of, parcels, pool_of, refusal_of, refused_packet}
use Rattle.world_core.specs.declared.node.Node.{Node}
use Rattle.world_core.specs.declared.types.Stepped.{Stepped}
use Rattle.world_core.specs.declared.types.Stepped.TheVariants as step
use Rattle.world_core.specs.declared.types.WorldFault.{WorldFault}
use Rattle.world_core.specs.declared.types.WorldFault.TheVariants as world
use Rattle.world_core.specs.declared.world.World.{World}
use Rattle.world_headline.proofs.Gifts.{Brought}
use Rattle.world_headline.proofs.Joining.{new_comer, new_station}
use Rattle.world_headline.proofs.Nodes.{Went, step_went}
use Rattle.world_headline.specs.Agreed.{AgreeAt, HonestAt, Leads}
use Rattle.world_headline.specs.Standing.{AreStations, IsFresh, IsStation, StandsFor, StandsIfUp, station_of}
use Rattle.world_laws.proofs.Joins.{empty_agrees}
use Rattle.world_laws.proofs.Keeping.{sound_honest}
use Rattle.world_laws.proofs.Networks.{schedule_agrees, stations_agree}
use Rattle.world_laws.proofs.Tallies.{received_sent}
use Rattle.world_laws.specs.Network.{Belongs, GoesOn, IsAgreeing, IsSchedule, Joins, Network, Rests, Station, empty_network}
use Rattle.world_model.specs.Deeds.{Deed, EventData, Turn as TurnDeed, Deliver, Console, Resend, Seal}
use Rattle.world_turns.proofs.Schedules.{come_schedule}

-- ---- nodes and stations

-- the station of a node
record Stationed (stations : List Station) (i : ℕ) (n : Node) : Type 0 where
  pub station : Station
  pub there : slice_get stations i ≡ Some station
  pub is : IsStation n station

stationed : (nodes : List Node) (stations : List Station) (i : ℕ) (n : Node) → AreStations nodes stations → slice_get nodes i ≡ Some n → Stationed stations i n
stationed [] [] i n a e = absurd cc
stationed [] (s ∷ ss) i n a e = absurd a
stationed (x ∷ xs) [] i n a e = absurd a
stationed (x ∷ xs) (s ∷ ss) zero n a e = let same : x ≡ n = cc in record { station = s; there = refl; is = subst (λ (y : Node). IsStation y s) same a.0 }
stationed (x ∷ xs) (s ∷ ss) (suc i) n a e = let o = stationed xs ss i n a.1 e in record { station = o.station; there = o.there; is = o.is }

set_stations : (nodes : List Node) (stations : List Station) (i : ℕ) (n : Node) (s : Station) → AreStations nodes stations → IsStation n s → AreStations (slice_set nodes i n) (slice_set stations i s)
set_stations [] [] i n s a h = tt
set_stations [] (t ∷ ts) i n s a h = absurd a
set_stations (x ∷ xs) [] i n s a h = absurd a
set_stations (x ∷ xs) (t ∷ ts) zero n s a h = (h, a.1)
set_stations (x ∷ xs) (t ∷ ts) (suc i) n s a h = (a.0, set_stations xs ts i n s a.1 h)

more_stations : (nodes : List Node) (stations : List Station) (n : Node) (s : Station) → AreStations nodes stations → IsStation n s → AreStations (nodes ++ n ∷ []) (stations ++ s ∷ [])
more_stations [] [] n s a h = (h, tt)
more_stations [] (t ∷ ts) n s a h = absurd a
more_stations (x ∷ xs) [] n s a h = absurd a
more_stations (x ∷ xs) (t ∷ ts) n s a h = (a.0, more_stations xs ts n s a.1 h)

-- ---- the pool

get_among : {A : Type 0} (xs : List A) (i : ℕ) (x : A) → slice_get xs i ≡ Some x → Among x xs
get_among [] i x e = absurd cc
get_among (y ∷ ys) zero x e = let same : y ≡ x = cc in inl (sym same)
get_among (y ∷ ys) (suc i) x e = inr (get_among ys i x e)

get_below : {A : Type 0} (xs : List A) (i : ℕ) → i < length xs → (x : A) × (slice_get xs i ≡ Some x)
get_below [] i lt = absurd (omega (arith, lt))
get_below (x ∷ xs) zero lt = (x, refl)
get_below (x ∷ xs) (suc i) lt = get_below xs i (omega (arith, lt))

-- an event that isn't refused brings bytes of a packet that was released
brought : (w : World) (n : Network) (e : EventData) → ((p : ParcelData) → Among p (pool_of w) → Among (packet p.to p.bytes) n.released) → refusal_of (length (nodes_of w)) (length (pool_of w)) e ≡ None → Brought n.released e.deed (bytes_at (pool_of w) (delivered_by e.deed))
brought w n e pool none = by (nat_le (length (nodes_of w)) e.node) refl
  where
    delivers : (d : Deed) → refused_packet (length (pool_of w)) (delivered_by d) ≡ None → Brought n.released d (bytes_at (pool_of w) (delivered_by d))
    delivers TurnDeed q = tt
    delivers (Deliver k) q = go (nat_le (length (pool_of w)) k) refl
      where
        go : (b : Bool) → nat_le (length (pool_of w)) k ≡ b → Brought n.released (Deliver k) (bytes_at (pool_of w) (Some k))
        go true p = absurd (let bad : Some step.NoPacket ≡ None = sym (ap (λ (b : Bool). if b then Some step.NoPacket else None) p) ∙ q in cc bad)
        go false p =
            let x = get_below (pool_of w) k (leb-false (length (pool_of w)) k p) in
            (x.0.to, subst (λ (o : Option ParcelData). Among (packet x.0.to (bytes_or_none o)) n.released) (sym x.1) (pool x.0 (get_among (pool_of w) k x.0 x.1)))
    delivers (Console text) q = tt
    delivers (Resend peer) q = tt
    delivers Seal q = tt

    by : (b : Bool) → nat_le (length (nodes_of w)) e.node ≡ b → Brought n.released e.deed (bytes_at (pool_of w) (delivered_by e.deed))
    by true p = absurd (let bad : Some step.NoNode ≡ None = sym (ap (λ (b : Bool). if b then Some step.NoNode else refused_packet (length (pool_of w)) (delivered_by e.deed)) p) ∙ none in cc bad)
    by false p = delivers e.deed (sym (ap (λ (b : Bool). if b then Some step.NoNode else refused_packet (length (pool_of w)) (delivered_by e.deed)) p) ∙ none)

-- each parcel that joins the pool was released
joins_pool : (own : ℕ) (packets : Packets) (pieces : List Piece) → ((p : ℕ × List ℕ) → Among p packets → Among (packet p.0 p.1) pieces) → (x : ParcelData) → Among x (parcels own packets) → Among (packet x.to x.bytes) pieces
joins_pool own [] pieces f x h = absurd h
joins_pool own (p ∷ ps) pieces f x (inl e) = subst (λ (y : ParcelData). Among (packet y.to y.bytes) pieces) (sym e) (f p (inl refl))
joins_pool own (p ∷ ps) pieces f x (inr h) = joins_pool own ps pieces (λ q a. f q (inr a)) x h

released_or : (own : ℕ) (kept : Bool) (packets : Packets) (pieces : List Piece) → ((p : ℕ × List ℕ) → Among p (if kept then packets else []) → Among (packet p.0 p.1) pieces) → (x : ParcelData) → Among x (if kept then parcels own packets else []) → Among (packet x.to x.bytes) pieces
released_or own true packets pieces f x h = joins_pool own packets pieces f x h
released_or own false packets pieces f x h = absurd h

-- ---- a step

same_world : (old new : World) (n : Network) → SameWorld old new → StandsFor old n → Leads n new
same_world old new n s h = record {
  network = n;
  schedule = Rests n;
  stands = record {
    nodes = subst (λ (ns : List Node). AreStations ns n.stations) (sym s.nodes) h.nodes;
    pool = λ p a. h.pool p (subst (λ (ps : List ParcelData). Among p ps) s.pool a);
  };
}

made_leads : (old new : World) (e : EventData) (result : Result Stepped NoMemory) (n : Network) → IsAgreeing n → StandsFor old n → refusal_of (length (nodes_of old)) (length (pool_of old)) e ≡ None → Made old new e result → Leads n new
made_leads old new e result n agreeing h none m =
    let at = stationed (nodes_of old) n.stations e.node m.node h.nodes m.there in
    let went : Went n.released at.station m.last m.kept m.packets =
    step_went n.released m.node m.last at.station e (bytes_at (pool_of old) (delivered_by e.deed)) _ m.packets m.kept result (agreeing.sound e.node at.station at.there) at.is (brought old n e h.pool none) m.steps in
    let who : went.to ≡ record { who = at.station.who; recording = went.to.recording } = ap (λ (x : Sender). record { who = x; recording = went.to.recording }) went.who in
    let goes = come_schedule n e.node at.station at.station.recording went.to.recording went.pieces at.there refl went.comes in
    record {
      network = record { stations = slice_set n.stations e.node (record { who = at.station.who; recording = went.to.recording }); released = n.released ++ went.pieces };
      schedule = goes;
      stands = record {
        nodes = subst (λ (ns : List Node). AreStations ns (slice_set n.stations e.node (record { who = at.station.who; recording = went.to.recording }))) (sym m.nodes)
            (set_stations (nodes_of old) n.stations e.node m.last (record { who = at.station.who; recording = went.to.recording }) h.nodes (subst (λ (x : Station). IsStation m.last x) who went.station));
        pool = λ p a. by p went.pieces went.released (among_either p (pool_of old) _ (subst (λ (ps : List ParcelData). Among p ps) m.pool a));
      };
    }
  where
    by : (p : ParcelData) (pieces : List Piece) → ((q : ℕ × List ℕ) → Among q (if m.kept then m.packets else []) → Among (packet q.0 q.1) pieces) → Among p (pool_of old) ⊎ Among p (if m.kept then parcels m.node.own m.packets else []) → Among (packet p.to p.bytes) (n.released ++ pieces)
    by p pieces f (inl a) = among_left (packet p.to p.bytes) n.released pieces (h.pool p a)
    by p pieces f (inr a) = among_right (packet p.to p.bytes) n.released pieces (released_or m.node.own m.kept m.packets pieces f p a)

pub step_leads : (old new : World) (e : EventData) (result : Result Stepped NoMemory) (n : Network) → IsAgreeing n → StandsFor old n → StepsBy (refusal_of (length (nodes_of old)) (length (pool_of old)) e) old new e result → Leads n new
step_leads old new e result n agreeing h s = go (refusal_of (length (nodes_of old)) (length (pool_of old)) e) refl s
  where
    go : (o : Option Stepped) → refusal_of (length (nodes_of old)) (length (pool_of old)) e ≡ o → StepsBy o old new e result → Leads n new
    go (Some refused) q k = record { network = n; schedule = Rests n; stands = subst (λ (w : World). StandsFor w n) (sym k.1) h }
    go None q (inl k) = same_world old new n k.1 h
    go None q (inr m) = made_leads old new e result n agreeing h q m

-- ---- a store that joins

pub join_leads : (old new : World) (d : MemDisk) (key : KeyData) (result : Result ℕ WorldFault) (n : Network) → StandsFor old n → IsFresh d → JoinAnswers old new d key result → Leads n new
join_leads old new d key (Ok k) n h f a =
    let s : Station = station_of f.journal (desk_of a.2.recorder) in
    record {
      network = record n { stations = n.stations ++ s ∷ [] };
      schedule = Joins n n s (Rests n) (new_comer d key a.1 f a.2 n (nodes_of old) h.nodes a.3);
      stands = record {
        nodes = subst (λ (ns : List Node). AreStations ns (n.stations ++ s ∷ [])) (sym a.5) (more_stations (nodes_of old) n.stations a.1 s h.nodes (new_station d key a.1 f a.2));
        pool = λ p b. h.pool p (subst (λ (ps : List ParcelData). Among p ps) a.6 b);
      };
    }
join_leads old new d key (Err world.NoMemory) n h f s = same_world old new n s h
join_leads old new d key (Err (world.Node why)) n h f s = same_world old new n s.2 h
join_leads old new d key (Err (world.Ids k)) n h f s = same_world old new n s.3 h
join_leads old new d key (Err (world.Keys k)) n h f s = same_world old new n s.4 h

-- ---- what it gives

pub begun : (w : World) → nodes_of w ≡ [] → pool_of w ≡ [] → Leads empty_network w
begun w nodes pool = record {
  network = empty_network;
  schedule = Rests empty_network;
  stands = record {
    nodes = subst (λ (ns : List Node). AreStations ns []) (sym nodes) tt;
    pool = λ p a. let bad : Among p [] = subst (λ (ps : List ParcelData). Among p ps) pool a in absurd bad;
  };
}

pub agrees : (w : World) → (h : Leads empty_network w) → IsAgreeing h.network
agrees w h = schedule_agrees empty_network h.network empty_agrees h.schedule

pub two_agree : (w : World) → (h : Leads empty_network w) → (i k : ℕ) (x y : Node) → slice_get (nodes_of w) i ≡ Some x → slice_get (nodes_of w) k ≡ Some y → AgreeAt x y
two_agree w h i k x y p q =
    let a = stationed (nodes_of w) h.network.stations i x h.stands.nodes p in
    let b = stationed (nodes_of w) h.network.stations k y h.stands.nodes q in
    record { mine = a.station; other = b.station; mine_is = a.is; other_is = b.is; agreed = stations_agree h.network i k a.station b.station (agrees w h) a.there b.there }

pub one_honest : (w : World) → (h : Leads empty_network w) → (i : ℕ) (x : Node) → slice_get (nodes_of w) i ≡ Some x → HonestAt x
one_honest w h i x p =
    let a = stationed (nodes_of w) h.network.stations i x h.stands.nodes p in
    let k = sound_honest a.station.recording ((agrees w h).sound i a.station a.there) in
    record { station = a.station; is = a.is; saved = k.0; open_too = k.1 }

pub packet_belongs : (w : World) → (h : Leads empty_network w) → (p : ParcelData) → Among p (pool_of w) → Belongs h.network (packet p.to p.bytes)
packet_belongs w h p a = (agrees w h).belongs p.to p.bytes (h.stands.pool p a)

-- the station of a machine
record Machined (stations : List Station) (i : ℕ) (m : MachineState) : Type 0 where
  pub station : Station
  pub there : slice_get stations i ≡ Some station
  pub is : station.recording.machine ≡ m.state

machined : (nodes : List Node) (stations : List Station) (i : ℕ) (m : MachineState) → AreStations nodes stations → machine_at nodes i ≡ Some m → Machined stations i m
machined nodes stations i m a e = go (slice_get nodes i) refl e
  where
    of : (x : Node) (s : Station) (o : Option Recorder) → StandsIfUp x.disk o s → machine_of o ≡ Some m → s.recording.machine ≡ m.state
    of x s None u q = absurd cc
    of x s (Some r) u q = let same : (desk_of r).machine ≡ m = cc in ap (λ (y : Station). y.recording.machine) u.is ∙ ap (λ (y : MachineState). y.state) same

    go : (o : Option Node) → slice_get nodes i ≡ o → machine_in o ≡ Some m → Machined stations i m
    go None p q = absurd cc
    go (Some x) p q = let s = stationed nodes stations i x a p in record { station = s.station; there = s.there; is = of x s.station x.recorder s.is.up q }

pub rows_count : (w : World) → Leads empty_network w → (i k : ℕ) (m o : MachineState) (row back : Peer) → machine_at (nodes_of w) i ≡ Some m → machine_at (nodes_of w) k ≡ Some o → row_of m.state.devices.peers o.state.devices.own ≡ Some row → row_of o.state.devices.peers m.state.devices.own ≡ Some back → row.received ≤ back.sent
rows_count w h i k m o row back p q r s =
    let a = machined (nodes_of w) h.network.stations i m h.stands.nodes p in
    let b = machined (nodes_of w) h.network.stations k o h.stands.nodes q in
    received_sent h.network i k a.station b.station row back (agrees w h) a.there b.there (rw (a.is, b.is) r) (rw (a.is, b.is) s)

-- ---- one after another

schedules_chain : (n m o : Network) → IsSchedule n m → IsSchedule m o → IsSchedule n o
schedules_chain n m _ a (Rests _) = a
schedules_chain n m _ a (Joins _ p s b new) = Joins n p s (schedules_chain n m p a b) new
schedules_chain n m _ a (GoesOn _ p q b last) = GoesOn n p q (schedules_chain n m p a b) last

pub chained : (old new : World) → (h : Leads empty_network old) → Leads h.network new → Leads empty_network new
chained old new h l = record { network = l.network; schedule = schedules_chain empty_network h.network l.network h.schedule l.schedule; stands = l.stands }
