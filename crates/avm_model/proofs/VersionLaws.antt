-- A machine of version 1 has no bell, and none rings.
use Rattle.std.proofs.Common.{◌≡◌, ℕ, Bool, true, false, [], ◌∷◌, ◌++◌, Option, None, refl, sym, ap, ◌∙◌}
use Rattle.std.specs.Prelude.{if◌then◌else◌}
use Rattle.avm_model.specs.Bell.{after_ring, pc_after_ring}
use Rattle.avm_model.specs.Device.{DeviceState, device_load, device_store, with_row}
use Rattle.avm_model.specs.Exec.{NotMapped}
use Rattle.avm_model.specs.Input.{InputState, Console, Clock, Message, Acked, Take, rings, is_halted, woken, receives_one, acknowledges}
use Rattle.avm_model.specs.Machine.{State}
use Rattle.avm_model.specs.declared.Bell.{Bell}

pub no_loads : (d : DeviceState) → d.bell ≡ None → (device_load d 0x10000030 ≡ NotMapped) × (device_load d 0x10000034 ≡ NotMapped) × (device_load d 0x10000038 ≡ NotMapped)
no_loads d e = (rw e refl, rw e refl, refl)

pub no_stores : (d : DeviceState) (value : ℕ) → d.bell ≡ None → (device_store d 0x10000030 value ≡ None) × (device_store d 0x10000034 value ≡ None) × (device_store d 0x10000038 value ≡ None)
no_stores d value e = (rw e refl, refl, rw e refl)

both : {A : Type 0} (b : Bool) (x y : A) → y ≡ x → (if b then x else y) ≡ x
both true x y e = refl
both false x y e = e

quiet : (s : State) → s.devices.bell ≡ None → (t : State) → t.devices.bell ≡ s.devices.bell → t.hart ≡ s.hart → ((rings t).hart ≡ s.hart) × ((rings t).devices.bell ≡ None)
quiet s e t bell hart =
    let none : t.devices.bell ≡ None = bell ∙ e in
    let pc = both (is_halted t.status) t.hart.pc (pc_after_ring t.devices.bell t.hart.pc) (ap (λ (o : Option Bell). pc_after_ring o t.hart.pc) none) in
    let still = both (is_halted t.status) t.devices.bell (after_ring t.devices.bell t.hart.pc) (ap (λ (o : Option Bell). after_ring o t.hart.pc) none ∙ sym none) in
    ((λ i. record { x = t.hart.x; pc = pc i }) ∙ hart, still ∙ none)

pub none_rings : (s : State) (i : InputState) → s.devices.bell ≡ None → ((Take s i).hart ≡ s.hart) × ((Take s i).devices.bell ≡ None)
none_rings s (Console bytes) e =
    quiet s e (record s { status = woken s.status; devices = record s.devices { console = s.devices.console ++ bytes } }) refl refl
none_rings s (Clock value) e = (refl, e)
none_rings s (Message peer number payload) e =
    quiet s e (record s {
      status = woken s.status;
      devices = record s.devices {
        messages = s.devices.messages ++ record { peer = peer; payload = payload } ∷ [];
        peers = with_row s.devices.peers peer receives_one;
      };
    }) refl refl
none_rings s (Acked peer number) e =
    quiet s e (record s { status = woken s.status; devices = record s.devices { peers = with_row s.devices.peers peer acknowledges } }) refl refl

-- a clock value rings no bell of either version
pub clock_is_quiet : (s : State) (value : ℕ) → ((Take s (Clock value)).hart ≡ s.hart) × ((Take s (Clock value)).devices.bell ≡ s.devices.bell)
clock_is_quiet s value = (refl, refl)
