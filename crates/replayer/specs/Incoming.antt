-- The inputs of a log.
use Rattle.std.specs.Prelude.{ℕ}
use Rattle.avm_model.specs.Offer.{Offer, OfferConsole, OfferClock, OfferData, OfferAck}
use Rattle.avm_model.specs.Reference.{Given}
use Rattle.replayer.specs.declared.taking.Incoming.{Incoming}
use Rattle.replayer.specs.declared.taking.Incoming.TheVariants.{Console, Clock, Recv, Acked}

abbrev pub offer_of : Incoming → Offer
offer_of (Console bytes) = OfferConsole bytes.now
offer_of (Clock value) = OfferClock value
offer_of (Recv bytes) = OfferData bytes.now
offer_of (Acked bytes) = OfferAck bytes.now

-- an input at its count
abbrev pub given_at : ℕ → Incoming → Given
given_at count input = record { count = count; offer = offer_of input }
