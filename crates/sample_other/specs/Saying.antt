-- What the other node's calls leave: of itself, and of the first node's feed.
use Rattle.std.specs.Prelude.{◌≡◌, ℕ, ◌+◌, ◌*◌, ◌≤◌, List, ◌++◌, length}
use Rattle.avm_outside.specs.Feed.{Timed}
use Rattle.avm_outside.specs.MemFeed.{SameCounts, feed_agenda}
use Rattle.avm_outside.specs.declared.list_feed.ListFeed.{ListFeed}
use Rattle.sample_model.specs.Other.{Said, Side, messages}

-- it signs by a key of height 10 and w 8, and has logged at most two entries for each answer, and one or two fewer than two more
pub record IsWithin (fewer : ℕ) (b : Side) : Type 0 where
  pub lms : b.log.key.lms ≡ 6
  pub ots : b.log.key.ots ≡ 4
  pub hash : length b.log.hash ≡ 32
  pub last : b.log.last + fewer ≤ 2 * b.answers + 2
  pub answers : b.answers ≤ messages

-- a feed gets events behind those that remain
pub record Adds (events : List Timed) (old new : ListFeed) : Type 0 where
  pub agenda : feed_agenda new ≡ record (feed_agenda old) { events = (feed_agenda old).events ++ events }
  pub counts : SameCounts old new

-- the node stands where it then does, and what it says is added to the feed
pub record SaidAs (said : Said) (side : Side) (old new : ListFeed) : Type 0 where
  pub side_is : side ≡ said.side
  pub adds : Adds said.events old new
