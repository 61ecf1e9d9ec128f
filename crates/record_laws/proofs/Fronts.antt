-- A machine keeps its K, its own id, the size of its RAM, and its peers' ids and keys; and an entry costs it at most K steps.
use Rattle.std.proofs.Common.{drop, ◌≡◌, ℕ, zero, suc, ◌+◌, ◌-◌, ◌*◌, ◌/◌, ◌%◌, ◌≤◌, ◌<◌, Bool, true, false, cond, eqb, ◌&&◌, List, [], ◌∷◌, length, Option, Some, None, refl, sym, ap, subst, ◌∙◌, arith}
use Rattle.std.specs.Prelude.{if◌then◌else◌, ◌==◌, nat_le, nat_lt, slice_get, slice_set}
use Rattle.std.specs.Option.{option_map, option_and_then}
use Rattle.std.proofs.lemmas.Bool.{and_from, eq-eqb}
use Rattle.std.proofs.lemmas.List.{length-set}
use Rattle.std.proofs.Math.Nat.{mul-suc}
use Rattle.std.proofs.lemmas.Slice.Eq.{bytes_eq-Decides}
use Rattle.avm_model.specs.Hart.{HartState}
use Rattle.avm_model.specs.Memory.{ram_load, with_number, place_of}
use Rattle.avm_model.specs.Values.{bytes_of}
use Rattle.avm_model.specs.Bell.{version_of, after_ring, after_return}
use Rattle.avm_model.specs.declared.Bell.{Bell}
use Rattle.avm_model.specs.Device.{load_vector, load_saved, store_vector, store_return, DeviceState, load_console, load_clock, device_load, device_store, try_send, send_result, row_of, row_at, find_peer, change_at, with_row, sends_one}
use Rattle.avm_model.specs.Exec.{Loaded, Gave, NotMapped, NoClock, Outcome, Goes, Waits, Stops, bus_after, state_after, stored_state}
use Rattle.avm_model.specs.Machine.{left, State, Board, board, flat, exec_flat, board_of, stepped, load_from, with_devices, with_stored, store_to}
use Rattle.avm_model.specs.Input.{rings, is_halted, InputState, Console, Clock, Message, Acked, Take, receives_one, acknowledges}
use Rattle.avm_model.specs.Offer.{Offer, OfferConsole, OfferClock, OfferData, OfferAck, DataIn, AckIn, data_in, ack_in, take_data, take_ack, message_of, acked_of, refused, taken}
use Rattle.avm_model.specs.Timed.{Entry, given, made, entry_count}
use Rattle.avm_model.specs.Rerun.{Stand}
use Rattle.avm_model.specs.Judge.{judge, judge_all, quiet, quiet_step, settle, settled, compare, accept, stand_of}
use Rattle.avm_model.specs.Reference.{Given, Made, timed, step_of, take_of, unless}
use Rattle.avm_model.proofs.ReferenceLaws.{is_timed, step_is}
use Rattle.avm_model.proofs.ReferenceShort.{reference_short}
use Rattle.avm_model.specs.declared.Peer.{Peer}
use Rattle.avm_model.specs.declared.NotTaken.{NotTaken}
use Rattle.avm_model.specs.declared.Width.{Width}
use Rattle.avm_model.specs.declared.Width.TheVariants.{Byte, Half, Word}
use Rattle.guest_machine.proofs.Kept.{run_kept}
use Rattle.honest_model.specs.Keeps.{same_peers}

-- ---- rows

abbrev pub faces : List Peer → List (ℕ × List ℕ)
faces [] = []
faces (p ∷ ps) = (p.id, p.key) ∷ faces ps

-- a change that keeps id and key
abbrev KeepsFace : (Peer → Peer) → Type 0
KeepsFace change = (p : Peer) → ((change p).id ≡ p.id) × ((change p).key ≡ p.key)

faces_set : (change : Peer → Peer) → KeepsFace change → (ps : List Peer) (i : ℕ) (p : Peer) → slice_get ps i ≡ Some p → faces (slice_set ps i (change p)) ≡ faces ps
faces_set change keeps [] i p e = refl
faces_set change keeps (q ∷ ps) zero p e =
    let same : q ≡ p = cc in
    let k = keeps p in
    rw (k.0, k.1, same) refl
faces_set change keeps (q ∷ ps) (suc i) p e = ap (λ (fs : List (ℕ × List ℕ)). (q.id, q.key) ∷ fs) (faces_set change keeps ps i p e)

faces_at : (change : Peer → Peer) → KeepsFace change → (ps : List Peer) (place : Option ℕ) (row : Option Peer) → row_at ps place ≡ row → faces (change_at ps change place row) ≡ faces ps
faces_at change keeps ps (Some i) (Some p) e = faces_set change keeps ps i p e
faces_at change keeps ps (Some i) None e = refl
faces_at change keeps ps None row e = refl

faces_row : (change : Peer → Peer) → KeepsFace change → (ps : List Peer) (id : ℕ) → faces (with_row ps id change) ≡ faces ps
faces_row change keeps ps id = faces_at change keeps ps (find_peer ps id) (row_of ps id) refl

-- equal faces are the same peers
pub faces_same : (a b : List Peer) → faces a ≡ faces b → same_peers a b ≡ true
faces_same [] [] e = refl
faces_same [] (q ∷ qs) e = absurd cc
faces_same (p ∷ ps) [] e = absurd cc
faces_same (p ∷ ps) (q ∷ qs) e =
    let one : (p.id, p.key) ≡ (q.id, q.key) = cc in
    let id : p.id ≡ q.id = ap (λ (x : ℕ × List ℕ). x.0) one in
    let key : p.key ≡ q.key = ap (λ (x : ℕ × List ℕ). x.1) one in
    let rest : faces ps ≡ faces qs = ap (drop 1) e in
    and_from _ _ (and_from _ _ (eq-eqb p.id q.id id) ((bytes_eq-Decides p.key q.key).1 key)) (faces_same ps qs rest)

-- ---- devices and board

record SameDevices (d e : DeviceState) : Type 0 where
  version : version_of e.bell ≡ version_of d.bell
  own : e.own ≡ d.own
  peers : faces e.peers ≡ faces d.peers

dev_same : (d : DeviceState) → SameDevices d d
dev_same d = record { version = refl; own = refl; peers = refl }

either_load : (d : DeviceState) (b : Bool) (x y : Loaded DeviceState) → SameDevices d (state_after d x) → SameDevices d (state_after d y) → SameDevices d (state_after d (if b then x else y))
either_load d true x y p q = p
either_load d false x y p q = q

either_store : (d : DeviceState) (b : Bool) (x y : Option DeviceState) → SameDevices d (stored_state d x) → SameDevices d (stored_state d y) → SameDevices d (stored_state d (if b then x else y))
either_store d true x y p q = p
either_store d false x y p q = q

console_same : (d : DeviceState) (o : Option ℕ) → SameDevices d (state_after d (load_console d o))
console_same d None = dev_same d
console_same d (Some byte) = record { version = refl; own = refl; peers = refl }

clock_same : (d : DeviceState) (o : Option ℕ) → SameDevices d (state_after d (load_clock d o))
clock_same d None = dev_same d
clock_same d (Some value) = record { version = refl; own = refl; peers = refl }

vector_same : (d : DeviceState) (o : Option Bell) → SameDevices d (state_after d (load_vector d o))
vector_same d None = dev_same d
vector_same d (Some b) = dev_same d

saved_same : (d : DeviceState) (o : Option Bell) → SameDevices d (state_after d (load_saved d o))
saved_same d None = dev_same d
saved_same d (Some b) = dev_same d

load_same : (d : DeviceState) (a : ℕ) → SameDevices d (state_after d (device_load d a))
load_same d a =
    either_load d (a == 0x10000004) _ _ (console_same d (slice_get d.console 0)) (
    either_load d (a == 0x10000008) _ _ (clock_same d d.clock) (
    either_load d (a == 0x1000000c) _ _ (dev_same d) (
    either_load d (a == 0x10000014) _ _ (dev_same d) (
    either_load d (a == 0x10000018) _ _ (dev_same d) (
    either_load d (a == 0x10000020) _ _ (dev_same d) (
    either_load d (a == 0x10000024) _ _ (dev_same d) (
    either_load d (a == 0x1000002c) _ _ (dev_same d) (
    either_load d (a == 0x10000030) _ _ (vector_same d d.bell) (
    either_load d (a == 0x10000034) _ _ (saved_same d d.bell) (
    either_load d (a % 4 == 0 && nat_le 0x10001000 a && nat_lt a 0x10001400) _ _ (dev_same d) (
    either_load d (a % 4 == 0 && nat_le 0x10002000 a && nat_lt a 0x10002400) _ _ (dev_same d) (dev_same d))))))))))))

send_same : (d : DeviceState) → SameDevices d (try_send d)
send_same d = record { version = refl; own = refl; peers = by (send_result d.tx_len (row_of d.peers d.tx_peer) == 0) }
  where
    by : (b : Bool) → faces (if b then with_row d.peers d.tx_peer sends_one else d.peers) ≡ faces d.peers
    by true = faces_row sends_one (λ p. (refl, refl)) d.peers d.tx_peer
    by false = refl

set_same : (d : DeviceState) (value : ℕ) (o : Option Bell) → d.bell ≡ o → SameDevices d (stored_state d (store_vector d value o))
set_same d value None e = dev_same d
set_same d value (Some b) e = record { version = ap version_of (sym e); own = refl; peers = refl }

return_same : (d : DeviceState) (o : Option Bell) → SameDevices d (stored_state d (store_return d o))
return_same d None = dev_same d
return_same d (Some b) = dev_same d

store_same : (d : DeviceState) (a value : ℕ) → SameDevices d (stored_state d (device_store d a value))
store_same d a value =
    either_store d (a == 0x10000000) _ _ (record { version = refl; own = refl; peers = refl }) (
    either_store d (a == 0x10000010) _ _ (dev_same d) (
    either_store d (a == 0x1000001c) _ _ (record { version = refl; own = refl; peers = refl }) (
    either_store d (a == 0x10000020) _ _ (record { version = refl; own = refl; peers = refl }) (
    either_store d (a == 0x10000024) _ _ (record { version = refl; own = refl; peers = refl }) (
    either_store d (a == 0x10000028) _ _ (send_same d) (
    either_store d (a == 0x10000030) _ _ (set_same d value d.bell refl) (
    either_store d (a == 0x10000038) _ _ (return_same d d.bell) (
    either_store d (a % 4 == 0 && nat_le 0x10002000 a && nat_lt a 0x10002400) _ _ (record { version = refl; own = refl; peers = refl }) (dev_same d)))))))))

record SameBoard (b c : Board) : Type 0 where
  devices : SameDevices b.devices c.devices
  ram : length c.ram ≡ length b.ram

board_same : (b : Board) → SameBoard b b
board_same b = record { devices = dev_same b.devices; ram = refl }

devices_loaded : (b : Board) (l : Loaded DeviceState) → SameDevices b.devices (state_after b.devices l) → SameBoard b (state_after b (with_devices b l))
devices_loaded b (Gave value d) m = record { devices = m; ram = refl }
devices_loaded b NotMapped m = board_same b
devices_loaded b NoClock m = board_same b

load_from_same : (b : Board) (a : ℕ) (w : Width) (o : Option ℕ) → SameBoard b (state_after b (load_from b a w o))
load_from_same b a w (Some value) = board_same b
load_from_same b a Byte None = board_same b
load_from_same b a Half None = board_same b
load_from_same b a Word None = devices_loaded b (device_load b.devices a) (load_same b.devices a)

stored_same : (b : Board) (a : ℕ) (o : Option DeviceState) → SameDevices b.devices (stored_state b.devices o) → SameBoard b (stored_state b (with_stored b a o))
stored_same b a (Some d) m = record { devices = m; ram = refl }
stored_same b a None m = board_same b

number_length : (n : ℕ) (bytes : List ℕ) (i value : ℕ) → length (with_number n bytes i value) ≡ length bytes
number_length zero bytes i value = refl
number_length (suc n) bytes i value = number_length n (slice_set bytes i (value % 256)) (i + 1) (value / 256) ∙ length-set bytes i (value % 256)

store_to_same : (b : Board) (a : ℕ) (w : Width) (value : ℕ) (place : Option ℕ) → SameBoard b (stored_state b (store_to b a w value (option_map (λ i. with_number (bytes_of w) b.ram i value) place)))
store_to_same b a w value (Some i) = record { devices = dev_same b.devices; ram = number_length (bytes_of w) b.ram i value }
store_to_same b a Byte value None = board_same b
store_to_same b a Half value None = board_same b
store_to_same b a Word value None = stored_same b a (device_store b.devices a value) (store_same b.devices a value)

exec_same : (h : HartState) (b : Board) → SameBoard b (bus_after b (exec_flat h b))
unfolding exec_flat
exec_same h b =
    run_kept (board flat) SameBoard board_same
    (λ s a w. load_from_same s a w (ram_load s.ram a (bytes_of w)))
    (λ s a w value. store_to_same s a w value (place_of s.ram a (bytes_of w))) h b

-- ---- states

pub record SameFront (s t : State) : Type 0 where
  pub version : version_of t.devices.bell ≡ version_of s.devices.bell
  pub snap : t.snap ≡ s.snap
  pub own : t.devices.own ≡ s.devices.own
  pub peers : faces t.devices.peers ≡ faces s.devices.peers
  pub ram : length t.ram ≡ length s.ram

pub front_same : (s : State) → SameFront s s
front_same s = record { version = refl; snap = refl; own = refl; peers = refl; ram = refl }

pub front_on : (s t u : State) → SameFront s t → SameFront t u → SameFront s u
front_on s t u a b = record { version = b.version ∙ a.version; snap = b.snap ∙ a.snap; own = b.own ∙ a.own; peers = b.peers ∙ a.peers; ram = b.ram ∙ a.ram }

-- a return and a ring keep the version
return_version : (returns : Bool) (d : DeviceState) → version_of (left returns d).bell ≡ version_of d.bell
return_version false d = refl
return_version true d = go d.bell
  where
    go : (o : Option Bell) → version_of (after_return o) ≡ version_of o
    go None = refl
    go (Some b) = refl

ring_version : (pc : ℕ) (o : Option Bell) → version_of (after_ring o pc) ≡ version_of o
ring_version pc None = refl
ring_version pc (Some b) = refl

rings_front : (s : State) → SameFront s (rings s)
rings_front s = record { version = go (is_halted s.status); snap = refl; own = refl; peers = refl; ram = refl }
  where
    go : (h : Bool) → version_of (if h then s.devices.bell else after_ring s.devices.bell s.hart.pc) ≡ version_of s.devices.bell
    go true = refl
    go false = ring_version s.hart.pc s.devices.bell

stepped_front : (s : State) (o : Outcome Board) → SameBoard (board_of s) (bus_after (board_of s) o) → SameFront s (stepped s o).state
stepped_front s (Goes h b) k = record { version = return_version b.returns b.devices ∙ k.devices.version; snap = refl; own = k.devices.own; peers = k.devices.peers; ram = k.ram }
stepped_front s Waits k = front_same s
stepped_front s (Stops cause value) k = record { version = refl; snap = refl; own = refl; peers = refl; ram = refl }

pub step_front : (s t : State) (os : List Made) → step_of s ≡ Some (t, os) → SameFront s t
step_front s t os e =
    let k = step_is s t os e in
    subst (λ (x : State). SameFront s x) (sym k.1) (stepped_front s (exec_flat s.hart (board_of s)) (exec_same s.hart (board_of s)))

input_front : (s : State) (i : InputState) → SameFront s (Take s i)
input_front s (Console bytes) = front_on s _ _ (record { version = refl; snap = refl; own = refl; peers = refl; ram = refl }) (rings_front _)
input_front s (Clock value) = record { version = refl; snap = refl; own = refl; peers = refl; ram = refl }
input_front s (Message peer number payload) = front_on s _ _ (record { version = refl; snap = refl; own = refl; peers = faces_row receives_one (λ p. (refl, refl)) s.devices.peers peer; ram = refl }) (rings_front _)
input_front s (Acked peer number) = front_on s _ _ (record { version = refl; snap = refl; own = refl; peers = faces_row acknowledges (λ p. (refl, refl)) s.devices.peers peer; ram = refl }) (rings_front _)

data_front : (s : State) (d : Option DataIn) → SameFront s (take_data s d)
data_front s None = front_same s
data_front s (Some d) = input_front s (message_of d)

ack_front : (s : State) (a : Option AckIn) → SameFront s (take_ack s a)
ack_front s None = front_same s
ack_front s (Some a) = input_front s (acked_of a)

pub taken_front : (s : State) (o : Offer) → SameFront s (taken s o)
unfolding taken
taken_front s (OfferConsole bytes) = input_front s (Console bytes)
taken_front s (OfferClock value) = input_front s (Clock value)
taken_front s (OfferData bytes) = data_front s (data_in bytes)
taken_front s (OfferAck bytes) = ack_front s (ack_in bytes)

take_front : (s t : State) (i : Given) → take_of s i ≡ Some t → SameFront s t
unfolding take_of
take_front s t i e = go (refused s i.offer) e
  where
    go : (w : Option NotTaken) → unless w (taken s i.offer) ≡ Some t → SameFront s t
    go None q = let same : taken s i.offer ≡ t = cc in subst (λ (x : State). SameFront s x) same (taken_front s i.offer)
    go (Some why) q = absurd cc

-- ---- entries

quiet_front : (k : ℕ) (s : State) → SameFront s (quiet timed k s).state
quiet_front zero s = front_same s
quiet_front (suc k) s = go (λ t. quiet_front k t) (step_of s) refl
  where
    go : ((t : State) → SameFront t (quiet timed k t).state) → (r : Option (State × List Made)) → step_of s ≡ r → SameFront s (quiet_step (quiet timed k) s r).state
    go ih None e = front_same s
    go ih (Some (t, [])) e = front_on s t _ (step_front s t [] e) (ih t)
    go ih (Some (t, o ∷ os)) e = step_front s t (o ∷ os) e

settle_front : (c : ℕ) (s : State) (os : List Made) → SameFront s (settle timed c s os).state
settle_front c s [] = quiet_front (c - s.count) s
settle_front c s (o ∷ os) = front_same s

-- an entry keeps the front, and costs at most K steps
pub record Costs (s t : State) (n : ℕ) : Type 0 where
  pub front : SameFront s t
  pub most : t.count ≤ s.count + s.snap * n

compared : (o : Made) (t : State) (os : List Made) (k : Stand State Made) → compare timed o t os ≡ Some k → t ≡ k.state
compared o t [] k e = absurd cc
compared o t (q ∷ qs) k e = go (timed.same o q) e
  where
    go : (b : Bool) → cond b (Some (record { state = t; pending = qs })) None ≡ Some k → t ≡ k.state
    go true h = let e2 : record { state = t; pending = qs } ≡ k = cc in rw (← e2) refl
    go false h = absurd cc

accepted : (i : Given) (t : State) (os : List Made) (k : Stand State Made) → accept timed i t os ≡ Some k → (SameFront t k.state) × (k.state.count ≡ t.count)
accepted i t (q ∷ qs) k e = absurd cc
accepted i t [] k e = by (eqb i.count t.count) e
  where
    go : (r : Option State) → take_of t i ≡ r → stand_of r ≡ Some k → (SameFront t k.state) × (k.state.count ≡ t.count)
    go None p h = absurd cc
    go (Some u) p h =
        let e2 : record { state = u; pending = [] } ≡ k = cc in
        let same : u ≡ k.state = ap (λ (x : Stand State Made). x.state) e2 in
        (subst (λ (x : State). SameFront t x) same (take_front t u i p), subst (λ (x : State). x.count ≡ t.count) same (is_timed.takes t u i p))

    by : (b : Bool) → stand_of (cond b (take_of t i) None) ≡ Some k → (SameFront t k.state) × (k.state.count ≡ t.count)
    by true h = go (take_of t i) refl h
    by false h = absurd cc

settled_front : (j k : Stand State Made) (e : Entry Given Made) (q : Stand State Made) → settled timed e q ≡ Some k → (SameFront q.state k.state) × (k.state.count ≡ q.state.count)
settled_front j k (made o) q h =
    let same = compared o q.state q.pending k h in
    (subst (λ (x : State). SameFront q.state x) same (front_same q.state), ap (λ (x : State). x.count) (sym same))
settled_front j k (given i) q h = accepted i q.state q.pending k h

judge_costs : (j k : Stand State Made) (e : Entry Given Made) → 0 < j.state.snap → judge timed j e ≡ Some k → Costs j.state k.state 1
judge_costs j k e pos h =
    let q : Stand State Made = settle timed (entry_count timed e) j.state j.pending in
    let s = settled_front j k e q h in
    let short = reference_short (entry_count timed e) j.state j.pending pos in
    record { front = front_on j.state q.state k.state (settle_front (entry_count timed e) j.state j.pending) s.0; most = omega (arith, short, s.1) }

pub all_cost : (j k : Stand State Made) (es : List (Entry Given Made)) → 0 < j.state.snap → judge_all timed j es ≡ Some k → Costs j.state k.state (length es)
all_cost j k [] pos h =
    let e : j ≡ k = cc in
    subst (λ (x : Stand State Made). Costs j.state x.state 0) e (record { front = front_same j.state; most = omega arith })
all_cost j k (e ∷ es) pos h = go (λ x. all_cost x k es) (judge timed j e) refl h
  where
    go : ((x : Stand State Made) → 0 < x.state.snap → judge_all timed x es ≡ Some k → Costs x.state k.state (length es)) → (r : Option (Stand State Made)) → judge timed j e ≡ r → option_and_then (λ x. judge_all timed x es) r ≡ Some k → Costs j.state k.state (length (e ∷ es))
    go ih None p f = absurd cc
    go ih (Some x) p f =
        let one = judge_costs j x e pos p in
        let more = ih x (rw one.front.snap pos) f in
        let same : x.state.snap ≡ j.state.snap = one.front.snap in
        record { front = front_on j.state x.state k.state one.front more.front; most = by (length es) x.state.snap same one.most more.most }
      where
        by : (n K : ℕ) → K ≡ j.state.snap → x.state.count ≤ j.state.count + j.state.snap * 1 → k.state.count ≤ x.state.count + K * n → k.state.count ≤ j.state.count + j.state.snap * (suc n)
        by n K same a b = let b' : k.state.count ≤ x.state.count + j.state.snap * n = rw same at b in let m : j.state.snap * suc n ≡ j.state.snap * n + j.state.snap = mul-suc j.state.snap n in omega (arith, a, b', m)
