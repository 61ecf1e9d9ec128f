-- Inputs that are offered to a machine.
use Rattle.std.specs.Prelude.{ℕ, List, Option, Some, None, Result, Ok, Err}
use Rattle.avm_model.specs.Content.{ContentData, recv, acked}
use Rattle.avm_model.specs.declared.NotTaken.{NotTaken}
use Rattle.avm_model.specs.Machine.{MachineState}
use Rattle.avm_model.specs.Offer.{Offer, OfferData, OfferAck, taken}
use Rattle.replayer.specs.declared.offering.Offered.{Offered}
use Rattle.replayer.specs.declared.offering.Offered.TheVariants.{Recv, Acked}

-- the machine after an offer that is not refused
abbrev pub machine_taken : MachineState → Offer → MachineState
machine_taken m o = record { state = taken m.state o; dirty = m.dirty }

-- what a packet was taken as
abbrev pub offered_of : Offered → List ℕ → Offer
offered_of Recv bytes = OfferData bytes
offered_of Acked bytes = OfferAck bytes

-- the content of the entry that logs it
abbrev pub content_offered : ℕ → Offered → List ℕ → ContentData
content_offered count Recv bytes = recv count bytes
content_offered count Acked bytes = acked count bytes

-- the refusal that an answer tells
abbrev pub offer_refusal : Result Offered NotTaken → Option NotTaken
offer_refusal (Ok o) = None
offer_refusal (Err e) = Some e
