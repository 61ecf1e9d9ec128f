-- The events of a schedule: what is done at which node, and the crash behind it.
use Rattle.std.specs.Prelude.{ℕ, Bool, List, Option}

-- a turn without an event; a packet of the pool, by its number, is delivered; console input; the outstanding packet to a peer is
-- sent again; a seal
pub data Deed : Type 0 where
  Turn : Deed
  Deliver : ℕ → Deed
  Console : List ℕ → Deed
  Resend : ℕ → Deed
  Seal : Deed

-- The node goes on from an image of its disk: the one behind so many of the disk calls of the deed, or behind all of them where
-- there are fewer. Of the lengths that the image may have it has the greatest or the least, and its free bytes are this byte.
pub record CrashData : Type 0 where
  pub calls : ℕ
  pub long : Bool
  pub fill : ℕ

pub record EventData : Type 0 where
  pub node : ℕ
  pub deed : Deed
  pub crash : Option CrashData

-- a node of a schedule: the seed of its key, and the image that it boots
pub record NodeData : Type 0 where
  pub seed : List ℕ
  pub image : List ℕ

pub record ScheduleData : Type 0 where
  pub nodes : List NodeData
  pub events : List EventData
