-- What holds of the nodes of a world.
use Rattle.honest_model.specs.Honest.{IsHonest}
use Rattle.journal_model.specs.Journal.{with_record}
use Rattle.world_core.specs.declared.node.Node.{Node}
use Rattle.world_core.specs.declared.world.World.{World}
use Rattle.world_headline.specs.Standing.{IsStation, StandsFor}
use Rattle.world_laws.specs.Network.{IsSchedule, Network, Station, station_node}
use Rattle.world_model.specs.World.{AreAgreed}

-- a world stands for a network to which a schedule leads from this one
pub record Leads (n : Network) (w : World) : Type 0 where
  pub network : Network
  pub schedule : IsSchedule n network
  pub stands : StandsFor w network

-- What one node has from another is a front of what the other has sent to it, each message once; and what it counts as acknowledged by
-- the other, the other has received: both by the other's acknowledged journal.
pub record AgreeAt (x y : Node) : Type 0 where
  pub mine : Station
  pub other : Station
  pub mine_is : IsStation x mine
  pub other_is : IsStation y other
  pub agreed : AreAgreed (station_node mine) (station_node other)

-- a node's acknowledged journal is honest, and so is that one with the unsaved batch
pub record HonestAt (x : Node) : Type 0 where
  pub station : Station
  pub is : IsStation x station
  pub saved : IsHonest station.recording.journal
  pub open_too : IsHonest (with_record station.recording.journal station.recording.batch)
