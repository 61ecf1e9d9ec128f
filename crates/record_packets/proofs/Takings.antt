-- What a packet that was taken leaves of the machine, and what is told of it.
use Rattle.std.proofs.Common.{◌≡◌, ℕ, List, Option, Some, None, Result, Ok, Err, refl, sym, ap, subst, ◌∙◌}
use Rattle.std.specs.Prelude.{IfOk, OnErr}
use Rattle.avm_model.specs.Machine.{MachineState, State}
use Rattle.avm_model.specs.Offer.{AckIn, DataIn, Offer, ack_in, data_in, take_ack, take_data, taken}
use Rattle.avm_model.specs.declared.NotTaken.{NotTaken}
use Rattle.avm_outside.specs.Outlet.{Piece}
use Rattle.avm_outside.specs.Outside.{BothTold}
use Rattle.journal_model.specs.Journal.{JournalData}
use Rattle.journal_model.specs.Part.{Part}
use Rattle.jrnl_store.specs.Kept.{Kept}
use Rattle.jrnl_store.specs.Own.{IsOwn}
use Rattle.jrnl_store.specs.declared.fault.Stop.{Stop}
use Rattle.record_batch.specs.Batch.{BatchData}
use Rattle.record_model.specs.Recording.{Act, Recording, TakeIn}
use Rattle.record_model.specs.Released.{Sender}
use Rattle.record_parts.specs.Ends.{Faults}
use Rattle.record_parts.specs.declared.answers.Turn.{Turn}
use Rattle.record_turn.specs.Keeping.{Aside}
use Rattle.record_turn.specs.Leaves.{Acted, Leaves}
use Rattle.record_machine.specs.Taking.{Takes}
use Rattle.record_parts.specs.Outs.{ram_in}
use Rattle.record_turn.proofs.Inputs.{same_ram}
use Rattle.replayer.specs.Taking.{offered_of}
use Rattle.replayer.specs.declared.offering.Offered.{Offered}
use Rattle.replayer.specs.declared.offering.Offered.TheVariants.{Recv, Acked}

-- a packet leaves RAM and clock
record Left (s t : State) : Type 0 where
  ram : t.ram ≡ s.ram
  clock : t.devices.clock ≡ s.devices.clock

data_left : (s : State) (d : Option DataIn) → Left s (take_data s d)
data_left s None = record { ram = refl; clock = refl }
data_left s (Some d) = record { ram = refl; clock = refl }

ack_left : (s : State) (a : Option AckIn) → Left s (take_ack s a)
ack_left s None = record { ram = refl; clock = refl }
ack_left s (Some a) = record { ram = refl; clock = refl }

offered_left : (s : State) (o : Offered) (bytes : List ℕ) → Left s (taken s (offered_of o bytes))
unfolding taken
offered_left s Recv bytes = data_left s (data_in bytes)
offered_left s Acked bytes = ack_left s (ack_in bytes)

-- whether it was taken or not
pub packet_ram : (r : Result Offered NotTaken) (m n : MachineState) (bytes : List ℕ) (b c : BatchData) → IfOk r (λ o. Takes (offered_of o bytes) m.state n.state b c) → OnErr r (n ≡ m) → n.dirty ≡ m.dirty → ram_in n ≡ ram_in m
packet_ram (Ok o) m n bytes b c t e dirty = same_ram m n (offered_of o bytes) t.machine (offered_left m.state o bytes).ram dirty
packet_ram (Err x) m n bytes b c t e dirty = ap ram_in e

pub packet_clock : (r : Result Offered NotTaken) (m n : MachineState) (bytes : List ℕ) (b c : BatchData) → IfOk r (λ o. Takes (offered_of o bytes) m.state n.state b c) → OnErr r (n ≡ m) → n.state.devices.clock ≡ m.state.devices.clock
packet_clock (Ok o) m n bytes b c t e = ap (λ (s : State). s.devices.clock) t.machine ∙ (offered_left m.state o bytes).clock
packet_clock (Err x) m n bytes b c t e = ap (λ (q : MachineState). q.state.devices.clock) e

-- ---- what is told

-- of the journals whose tickets are kept
pub told_kept : {D : Type 0} (moment : D → ℕ) (left_since : D → ℕ → List ℕ → Type 0) (seen : D → Option (List ℕ)) (images : D → List ℕ → Type 0) (old new : D) (k n : Kept) (Q : JournalData → Type 0) (P : JournalData → JournalData → List Part → Type 0)
    → BothTold (seen old) (seen new) (λ was now. (j : JournalData) → IsOwn k (images old) was j → Leaves moment left_since old new n (images new) now j (P j))
    → BothTold (seen old) (seen new) (λ was now. (j : JournalData) → IsOwn k (images old) was j → Q j → Leaves moment left_since old new n (images new) now j (P j))
told_kept moment left_since seen images old new k n Q P h = go (seen old) (seen new) h
  where
    go : (a b : Option (List ℕ)) → BothTold a b (λ was now. (j : JournalData) → IsOwn k (images old) was j → Leaves moment left_since old new n (images new) now j (P j)) → BothTold a b (λ was now. (j : JournalData) → IsOwn k (images old) was j → Q j → Leaves moment left_since old new n (images new) now j (P j))
    go None None h = tt
    go None (Some now) h = h
    go (Some was) None h = h
    go (Some was) (Some now) h = λ j o q. h j o

-- an input by the bytes that were offered
pub as_offered : {H : Type 0} (adding : Piece → H → H) (tearing : Piece → H → H → Type 0) (who : Sender) (o p : Option Offer) (before : Recording) (aside after : Aside) (batch : List Part) (machine : State) (f : Faults) (old new : H) (result : Result Turn Stop) (next : JournalData) (flight : List Part) → o ≡ p
    → Acted adding tearing who 0 (TakeIn p) before aside after batch machine f old new result next flight → Acted adding tearing who 0 (TakeIn o) before aside after batch machine f old new result next flight
as_offered adding tearing who o p before aside after batch machine f old new result next flight same h = subst (λ (x : Option Offer). Acted adding tearing who 0 (TakeIn x) before aside after batch machine f old new result next flight) (sym same) h

-- beside what stands there so too
pub acted_from : {H : Type 0} (adding : Piece → H → H) (tearing : Piece → H → H → Type 0) (who : Sender) (act : Act) (before : Recording) (aside other after : Aside) (batch : List Part) (machine : State) (f : Faults) (old new : H) (result : Result Turn Stop) (next : JournalData) (flight : List Part) → other ≡ aside
    → Acted adding tearing who 0 act before other after batch machine f old new result next flight → Acted adding tearing who 0 act before aside after batch machine f old new result next flight
acted_from adding tearing who act before aside other after batch machine f old new result next flight same h = subst (λ (x : Aside). Acted adding tearing who 0 act before x after batch machine f old new result next flight) same h
