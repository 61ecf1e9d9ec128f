-- Where the outlet failed the journal hasn't stopped.
use Rattle.std.proofs.Common.{ℕ, Err}
use Rattle.jrnl_store.specs.declared.fault.Stop.{Stop}
use Rattle.jrnl_store.specs.declared.fault.Stop.TheVariants.{LeavesSpent, Full, DiskFault, OutletFault, FeedFault}
use Rattle.record_store.specs.Saving.{SaveCounts}
use Rattle.record_turn.specs.Leaves.{OnOutlet}

-- saving asks nothing of the outlet
pub saves_run : (T U : Type 0) (before now : ℕ) (stop : Stop) (P : Type 0) → SaveCounts {T = T} before now (Err stop) → OnOutlet {T = U} (Err stop) P
saves_run T U before now LeavesSpent P h = tt
saves_run T U before now Full P h = tt
saves_run T U before now DiskFault P h = tt
saves_run T U before now OutletFault P h = absurd h
saves_run T U before now FeedFault P h = tt

-- what holds anyway
pub runs_anyway : (U : Type 0) (stop : Stop) (P : Type 0) → P → OnOutlet {T = U} (Err stop) P
runs_anyway U LeavesSpent P h = tt
runs_anyway U Full P h = tt
runs_anyway U DiskFault P h = tt
runs_anyway U OutletFault P h = h
runs_anyway U FeedFault P h = tt

-- whatever is answered where nothing stops the call
pub runs_alike : (T U : Type 0) (stop : Stop) (P : Type 0) → OnOutlet {T = T} (Err stop) P → OnOutlet {T = U} (Err stop) P
runs_alike T U LeavesSpent P h = h
runs_alike T U Full P h = h
runs_alike T U DiskFault P h = h
runs_alike T U OutletFault P h = h
runs_alike T U FeedFault P h = h
