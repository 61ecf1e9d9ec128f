-- What an input that is taken leaves of the machine's RAM and count.
use Rattle.std.proofs.Common.{◌≡◌, ℕ, List, Result, Ok, Err, refl, ap, ◌∙◌}
use Rattle.std.specs.Prelude.{OnErr, OnOk}
use Rattle.avm_model.specs.Machine.{MachineState, State}
use Rattle.avm_model.specs.Offer.{Offer, OfferClock, OfferConsole, taken}
use Rattle.record_batch.specs.Batch.{BatchData}
use Rattle.record_machine.specs.Taking.{Takes}
use Rattle.record_parts.specs.Outs.{ram_in}

pub clock_ram : (s : State) (value : ℕ) → (taken s (OfferClock value)).ram ≡ s.ram
unfolding taken
clock_ram s value = refl

pub clock_count : (s t : State) (value : ℕ) → t ≡ taken s (OfferClock value) → t.count ≡ s.count
unfolding taken
clock_count s t value e = ap (λ (x : State). x.count) e

pub console_ram : (s : State) (bytes : List ℕ) → (taken s (OfferConsole bytes)).ram ≡ s.ram
unfolding taken
console_ram s bytes = refl

pub console_clock : (s t : State) (bytes : List ℕ) → t ≡ taken s (OfferConsole bytes) → t.devices.clock ≡ s.devices.clock
unfolding taken
console_clock s t bytes e = ap (λ (x : State). x.devices.clock) e

-- the RAM is as before
pub same_ram : (m n : MachineState) (o : Offer) → n.state ≡ taken m.state o → (taken m.state o).ram ≡ m.state.ram → n.dirty ≡ m.dirty → ram_in n ≡ ram_in m
same_ram m n o e ram dirty = let r : n.state.ram ≡ m.state.ram = ap (λ (x : State). x.ram) e ∙ ram in rw (r, dirty) refl

-- whether it was taken or not
pub ram_after : {T E : Type 0} (r : Result T E) (m n : MachineState) (o : Offer) (b c : BatchData) → (taken m.state o).ram ≡ m.state.ram → OnOk r (Takes o m.state n.state b c) → OnErr r (n ≡ m) → n.dirty ≡ m.dirty → ram_in n ≡ ram_in m
ram_after (Ok x) m n o b c ram t e dirty = same_ram m n o t.machine ram dirty
ram_after (Err x) m n o b c ram t e dirty = ap ram_in e
