use Rattle.hss_model.proofs.RoundTrip.{round_trip}
use Rattle.hss_model.proofs.widened_is_narrowed.Goals as goal

pub returns : goal.returns
returns c = λ top e a auths. round_trip top e a auths
