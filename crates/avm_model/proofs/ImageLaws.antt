-- The test of a booted state is true exactly at a booted state.
use Rattle.std.proofs.Common.{◌≡◌, ℕ, true, not, nat_eq, List, [], ◌∷◌, length, map, replicate, Option, Some, None, is_some, refl, sym, ap, subst, arith}
use Rattle.std.specs.Str.{bytes_eq}
use Rattle.std.specs.Cmp.Lexicographic.{bytes_decides}
use Rattle.std.proofs.lemmas.Bool.{and_parts, and_from, eqb-true, eq-eqb}
use Rattle.avm_model.specs.Bell.{bell_of, version_of, idle_bell}
use Rattle.avm_model.specs.Device.{DeviceState, idle, fresh_with}
use Rattle.avm_model.specs.Machine.{State, is_running}
use Rattle.avm_model.specs.ImageState.{Image, Gives, Refuses, unused, IsBooted, IsBootedFrom, IsImageOf, are_unused, is_new, is_fresh, is_booted, is_booted_from, is_image_of}
use Rattle.avm_model.specs.declared.Bell.{Bell}
use Rattle.avm_model.specs.declared.Peer.{Peer}
use Rattle.avm_model.specs.declared.Status.{Status}
use Rattle.avm_model.specs.declared.Status.TheVariants.{Running, Waiting, Halted}

none_left : {A : Type 0} (xs : List A) → nat_eq (length xs) 0 ≡ true → xs ≡ []
none_left [] e = refl
none_left (x ∷ xs) e = absurd (let q = eqb-true (length (x ∷ xs)) 0 e in omega (arith, q))

is_none : (o : Option ℕ) → not (is_some o) ≡ true → o ≡ None
is_none None e = refl
is_none (Some n) e = absurd cc

runs : (s : Status) → is_running s ≡ true → s ≡ Running
runs Running e = refl
runs Waiting e = absurd cc
runs Halted e = absurd cc

-- ---- rows

same_unused : (p : Peer) → p.sent ≡ 0 → p.acked ≡ 0 → p.received ≡ 0 → p ≡ unused p
same_unused p a b c = λ i. record { id = p.id; key = p.key; sent = a i; acked = b i; received = c i }

unused_from : (ps : List Peer) → are_unused ps ≡ true → ps ≡ map unused ps
unused_from [] e = refl
unused_from (p ∷ ps) e =
    let a = and_parts _ (are_unused ps) e in
    let b = and_parts _ (nat_eq p.received 0) a.0 in
    let c = and_parts (nat_eq p.sent 0) (nat_eq p.acked 0) b.0 in
    let same = same_unused p (eqb-true _ _ c.0) (eqb-true _ _ c.1) (eqb-true _ _ b.1) in
    λ i. same i ∷ unused_from ps a.1 i

unused_to : (ps : List Peer) → are_unused (map unused ps) ≡ true
unused_to [] = refl
unused_to (p ∷ ps) = unused_to ps

-- ---- devices

new_from : (o : Option Bell) → is_new o ≡ true → o ≡ bell_of (version_of o)
new_from None e = refl
new_from (Some b) e =
    let p = and_parts _ (nat_eq b.state idle_bell) e in
    let q = and_parts (nat_eq b.vector 0) (nat_eq b.saved 0) p.0 in
    λ i. Some (record { vector = eqb-true b.vector 0 q.0 i; saved = eqb-true b.saved 0 q.1 i; state = eqb-true b.state idle_bell p.1 i })

new_to : (o : Option Bell) → is_new (bell_of (version_of o)) ≡ true
new_to None = refl
new_to (Some b) = refl

fresh_from : (d : DeviceState) → is_fresh d ≡ true → d ≡ fresh_with (bell_of (version_of d.bell)) d.own (map unused d.peers)
fresh_from d e =
    let m = and_parts _ (is_new d.bell) e in
    let a = and_parts _ (are_unused d.peers) m.0 in
    let b = and_parts _ (bytes_eq d.window (replicate 1024 0)) a.0 in
    let c = and_parts _ (nat_eq d.tx_result 0) b.0 in
    let f = and_parts _ (nat_eq d.tx_len 0) c.0 in
    let g = and_parts _ (nat_eq d.tx_peer 0) f.0 in
    let h = and_parts _ (nat_eq d.latch 0) g.0 in
    let j = and_parts _ (not (is_some d.clock)) h.0 in
    let k = and_parts (nat_eq (length d.line) 0) (idle d) j.0 in
    let l = and_parts (nat_eq (length d.console) 0) (nat_eq (length d.messages) 0) k.1 in
    λ i. record {
      own = d.own;
      peers = unused_from d.peers a.1 i;
      line = none_left d.line k.0 i;
      console = none_left d.console l.0 i;
      messages = none_left d.messages l.1 i;
      latch = eqb-true d.latch 0 h.1 i;
      clock = is_none d.clock j.1 i;
      tx_peer = eqb-true d.tx_peer 0 g.1 i;
      tx_len = eqb-true d.tx_len 0 f.1 i;
      tx_result = eqb-true d.tx_result 0 c.1 i;
      window = (bytes_decides d.window (replicate 1024 0)).0 b.1 i;
      bell = new_from d.bell m.1 i;
    }

fresh_to : (o : Option Bell) (own : ℕ) (ps : List Peer) → is_fresh (fresh_with (bell_of (version_of o)) own (map unused ps)) ≡ true
fresh_to o own ps = and_from _ _ (and_from _ _ ((bytes_decides (replicate 1024 0) (replicate 1024 0)).1 refl) (unused_to ps)) (new_to o)

-- ---- the state

booted_from : (s : State) (ram : List ℕ) (entry : ℕ) → is_booted s ram entry ≡ true → IsBooted s ram entry
booted_from s ram entry e =
    let a = and_parts _ (bytes_eq s.ram ram) e in
    let b = and_parts _ (is_fresh s.devices) a.0 in
    let c = and_parts _ (bytes_eq s.hart.x (replicate 32 0)) b.0 in
    let d = and_parts _ (nat_eq s.hart.pc entry) c.0 in
    let f = and_parts (nat_eq s.count 0) (is_running s.status) d.0 in
    λ i. record {
      hart = record { x = (bytes_decides s.hart.x (replicate 32 0)).0 c.1 i; pc = eqb-true s.hart.pc entry d.1 i };
      ram = (bytes_decides s.ram ram).0 a.1 i;
      devices = fresh_from s.devices b.1 i;
      snap = s.snap;
      count = eqb-true s.count 0 f.0 i;
      status = runs s.status f.1 i;
    }

booted_to : (s : State) (ram : List ℕ) (entry : ℕ) → IsBooted s ram entry → is_booted s ram entry ≡ true
booted_to s ram entry e =
    let x = (bytes_decides s.hart.x (replicate 32 0)).1 (ap (λ (t : State). t.hart.x) e) in
    let pc = eq-eqb s.hart.pc entry (ap (λ (t : State). t.hart.pc) e) in
    let held = (bytes_decides s.ram ram).1 (ap (λ (t : State). t.ram) e) in
    let count = eq-eqb s.count 0 (ap (λ (t : State). t.count) e) in
    let runs = ap (λ (t : State). is_running t.status) e in
    let devices = subst (λ (d : DeviceState). is_fresh d ≡ true) (sym (ap (λ (t : State). t.devices) e)) (fresh_to s.devices.bell s.devices.own s.devices.peers) in
    and_from _ _ (and_from _ _ (and_from _ _ (and_from _ _ (and_from _ _ count runs) pc) x) devices) held

test_from : (s : State) (i : Image) → is_booted_from s i ≡ true → IsBootedFrom s i
test_from s (Gives ram entry) e = booted_from s ram entry e
test_from s (Refuses fault) e = absurd cc

test_to : (s : State) (i : Image) → IsBootedFrom s i → is_booted_from s i ≡ true
test_to s (Gives ram entry) e = booted_to s ram entry e
test_to s (Refuses fault) e = absurd e

pub image_from : (s : State) (file : List ℕ) → is_image_of s file ≡ true → IsImageOf s file
unfolding is_image_of
image_from s file e = test_from s _ e

pub image_to : (s : State) (file : List ℕ) → IsImageOf s file → is_image_of s file ≡ true
unfolding is_image_of
image_to s file e = test_to s _ e
