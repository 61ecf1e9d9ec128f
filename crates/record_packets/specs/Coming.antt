-- A message that comes in.
use Rattle.std.specs.Prelude.{ℕ, List}
use Rattle.avm_model.specs.Content.{FitsContent, recv}
use Rattle.avm_model.specs.Machine.{State}
use Rattle.avm_model.specs.Offer.{OfferData}
use Rattle.jrnl_store.specs.Kept.{Kept}
use Rattle.record_batch.specs.Batch.{BatchData}
use Rattle.record_machine.specs.Taking.{Takes}
use Rattle.record_turn.specs.Desk.{IsReady}

-- the machine has taken it, and the batch, which was ready, has its entry
pub record Came (k : Kept) (s u : State) (b c : BatchData) (bytes : List ℕ) : Type 0 where
  pub ready : IsReady k b
  pub takes : Takes (OfferData bytes) s u b c
  pub fits : FitsContent (recv s.count bytes)
