-- What a replay shows: where it stands, the marks of the machine's pages, the nodes of the tree, and the number of the fault, if
-- one came.
use Rattle.std.specs.Prelude.{ℕ, Bool, List, Option}
use Rattle.avm_model.specs.Machine.{State}
use Rattle.avm_model.specs.Pages.{sha_hashes}
use Rattle.avm_model.specs.Rerun.{Stand}
use Rattle.avm_model.specs.Reference.{Made}
use Rattle.avm_model.specs.declared.Digest.{Digest}
use Rattle.guest_machine.specs.Outs.{IsOuts}
use Rattle.page_tree.specs.Nodes.{IsStale}
use Rattle.replayer.specs.Pending.{stand_of, ram_of}
use Rattle.replayer.specs.declared.replay.Replay.TheInside.{Inside}

pub record Replaying : Type 0 where
  pub stand : Stand State Made
  pub dirty : List Bool
  pub nodes : List Digest
  pub fault : Option ℕ

abbrev pub replaying_of : Inside → Replaying
replaying_of r = record
    { stand = stand_of r.machine.state r.pending; dirty = r.machine.dirty; nodes = r.tree; fault = r.fault }

-- the tree is one that can be renewed, and the pending outputs are those of a step
pub record IsReplay (r : Inside) : Type 0 where
  pub stale : IsStale sha_hashes (ram_of r.machine) r.tree
  pub fits : IsOuts r.pending
