-- What an input leaves as it was.
use Rattle.std.proofs.Common.{◌≡◌, ℕ, List, Option, Some, None, Result, Ok, Err, refl, ap, ◌∙◌}
use Rattle.std.specs.Prelude.{OnOk, OnErr}
use Rattle.avm_model.specs.Machine.{State, MachineState}
use Rattle.avm_model.specs.Offer.{Offer, OfferConsole, OfferClock, OfferData, OfferAck, DataIn, AckIn, data_in, ack_in, take_data, take_ack, taken}
use Rattle.avm_model.specs.declared.NotTaken.{NotTaken}
use Rattle.replayer.specs.Pending.{ram_of}
use Rattle.replayer.specs.Taking.{machine_taken}

data_ram : (s : State) (d : Option DataIn) → (take_data s d).ram ≡ s.ram
data_ram s None = refl
data_ram s (Some d) = refl

ack_ram : (s : State) (a : Option AckIn) → (take_ack s a).ram ≡ s.ram
ack_ram s None = refl
ack_ram s (Some a) = refl

taken_ram : (s : State) (o : Offer) → (taken s o).ram ≡ s.ram
unfolding taken
taken_ram s (OfferConsole bytes) = refl
taken_ram s (OfferClock value) = refl
taken_ram s (OfferData bytes) = data_ram s (data_in bytes)
taken_ram s (OfferAck bytes) = ack_ram s (ack_in bytes)

pub ram_after : (r : Result Unit NotTaken) (old new : MachineState) (o : Offer) → OnOk r (new ≡ machine_taken old o) → OnErr r (new ≡ old) → ram_of new ≡ ram_of old
ram_after (Ok x) old new o ok err = ap ram_of ok ∙ ap (λ (b : List ℕ). record { bytes = b; dirty = old.dirty }) (taken_ram old.state o)
ram_after (Err e) old new o ok err = ap ram_of err

data_count : (s : State) (d : Option DataIn) → (take_data s d).count ≡ s.count
data_count s None = refl
data_count s (Some d) = refl

ack_count : (s : State) (a : Option AckIn) → (take_ack s a).count ≡ s.count
ack_count s None = refl
ack_count s (Some a) = refl

taken_count : (s : State) (o : Offer) → (taken s o).count ≡ s.count
unfolding taken
taken_count s (OfferConsole bytes) = refl
taken_count s (OfferClock value) = refl
taken_count s (OfferData bytes) = data_count s (data_in bytes)
taken_count s (OfferAck bytes) = ack_count s (ack_in bytes)

pub count_after : (r : Result Unit NotTaken) (old new : MachineState) (o : Offer) → OnOk r (new ≡ machine_taken old o) → OnErr r (new ≡ old) → new.state.count ≡ old.state.count
count_after (Ok x) old new o ok err = ap (λ (m : MachineState). m.state.count) ok ∙ taken_count old.state o
count_after (Err e) old new o ok err = ap (λ (m : MachineState). m.state.count) err
