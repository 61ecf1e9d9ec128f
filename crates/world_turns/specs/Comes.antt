-- Happenings at a station, one after another, as a turn or a seal of its recorder makes them.
use Rattle.std.specs.Prelude.{◌≡◌, ℕ, List, [], ◌++◌}
use Rattle.avm_outside.specs.Feed as feed
use Rattle.avm_outside.specs.Feed.{Event}
use Rattle.avm_outside.specs.Outlet.{Piece, all_added, packet}
use Rattle.life_model.specs.Life.{Among}
use Rattle.record_model.specs.Recording.{Recording}
use Rattle.record_model.specs.Released.{Sender}
use Rattle.record_model.specs.Turn as turn
use Rattle.record_model.specs.Turn.{Gift}
use Rattle.world_laws.specs.Network.{Happens}
use Rattle.world_parts.specs.Holding.{with_piece}

-- from a recording to another, and all that is released meanwhile
pub data Comes (pool : List Piece) (who : Sender) : Recording → Recording → List Piece → Type 0 where
  Stays : (r : Recording) → Comes pool who r r []
  Then : (r q t : Recording) → (ps qs : List Piece) → Comes pool who r q ps → Happens (pool ++ ps) (record { who = who; recording = q }) t qs → Comes pool who r t (ps ++ qs)

-- an event that is given brings no packet, or one that was released
abbrev pub BringsReleased : List Piece → Event → Type 0
BringsReleased pool (feed.console bytes) = Unit {0}
BringsReleased pool (feed.packet bytes) = (peer : ℕ) × Among (packet peer bytes) pool
BringsReleased pool (feed.resend peer) = Unit {0}

abbrev pub GivesReleased : List Piece → Gift → Type 0
GivesReleased pool (turn.Comes what) = BringsReleased pool what
GivesReleased pool (turn.Later c) = Unit {0}
GivesReleased pool turn.Over = Unit {0}

-- a piece that fails leaves an outlet of one packet
abbrev pub leaves_all : Piece → List (ℕ × List ℕ) → List (ℕ × List ℕ) → Type 0
leaves_all piece old new = new ≡ old

-- A turn or a seal as it comes, with the pieces that an outlet of one packet was given.
pub record Turns (pool : List Piece) (who : Sender) (r q : Recording) (old new : List (ℕ × List ℕ)) : Type 0 where
  pub pieces : List Piece
  pub held : new ≡ all_added with_piece pieces old
  pub comes : Comes pool who r q pieces
