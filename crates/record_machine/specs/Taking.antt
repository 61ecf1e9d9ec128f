-- What comes in and is taken, as an entry of the batch.
use Rattle.std.specs.Prelude.{◌≡◌, None}
use Rattle.avm_model.specs.Machine.{State}
use Rattle.avm_model.specs.Offer.{Offer, refused, taken}
use Rattle.record_batch.specs.Batch.{BatchData, with_part}
use Rattle.record_batch.specs.Spelled.{numbered}
use Rattle.record_model.specs.Recording.{offer_content}

-- the machine has taken an input, and the batch has its entry
pub record Takes (o : Offer) (s t : State) (b c : BatchData) : Type 0 where
  pub none : refused s o ≡ None
  pub machine : t ≡ taken s o
  pub batch : c ≡ with_part b (numbered b.next (offer_content s.count o)) 1
