-- What the statuses of retaining a store say.
use Rattle.std.specs.Prelude.{◌≡◌, ℕ, IfSome}
use Rattle.avm_outside.specs.Outside.{BothTold}
use Rattle.retain_command.specs.Outcomes.{Told}
use Rattle.store_retain.specs.Retaining.{Opens, Retires}

-- It ends with 0 only where the store is retired, and the spare stands for its journal moved to this entry, or stood as its base before
-- and is as it was.
pub record RetainMeans (at : ℕ) (store spare : Told) (result : ℕ) : Type 0 where
  pub opens : result ≡ 0 → IfSome store.was (λ was. BothTold spare.was spare.now (Opens at was spare.images))
  pub retires : result ≡ 0 → BothTold store.was store.now (Retires at store.images)
