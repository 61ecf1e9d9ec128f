-- A network of recorders: what happens at one of them, and every schedule of that.
use Rattle.std.specs.Prelude.{◌≡◌, ℕ, ◌≤◌, length, true, List, [], ◌∷◌, ◌++◌, map, slice_get, slice_set, None, Some, ◌⊎◌}
use Rattle.avm_model.specs.Machine.{State}
use Rattle.avm_model.specs.ImageState.{are_unused}
use Rattle.avm_model.specs.declared.Peer.{Peer}
use Rattle.avm_model.specs.Offer.{packet_offer}
use Rattle.avm_model.specs.Reference.{timed}
use Rattle.avm_model.specs.Rerun.{moved}
use Rattle.avm_outside.specs.Outlet.{Piece, packet}
use Rattle.journal_model.specs.Journal.{JournalData, parts}
use Rattle.journal_model.specs.Standing.{start}
use Rattle.honest_model.specs.Honest.{header_state, Leads}
use Rattle.honest_model.specs.Keeps.{HasTrueKeeps, IsOpened}
use Rattle.record_model.specs.Recording.{Act, Done, Effect, Recording, TakeIn, effect, finished, sealed, with_seal}
use Rattle.record_model.specs.Released.{Sender, pieces_from}
use Rattle.record_model.specs.Standing.{FitsAct, KeepsTrue}
use Rattle.life_model.specs.Life.{Among, opened}
use Rattle.world_model.specs.World.{World, Node, mail_of, sent_to, received_from, IsConsistent}
use Rattle.world_laws.specs.Counting.{mail_in, node_of, act_shows}
use Rattle.world_laws.specs.Events.{pieces_show, SignsFor, IsReopened, IsSound}

-- a recorder with its key
pub record Station : Type 0 where
  pub who : Sender
  pub recording : Recording

-- the recorders, and all that they released
pub record Network : Type 0 where
  pub stations : List Station
  pub released : List Piece

abbrev pub station_node : Station → Node
station_node s = node_of s.recording

abbrev pub world_of : Network → World
world_of n = record { nodes = map station_node n.stations; pool = pieces_show n.released }

-- an act takes in a packet that some node released, or none
abbrev pub TakesReleased : List Piece → Act → Type 0
TakesReleased pool act = ((peer : ℕ) × (bytes : List ℕ) × Among (packet peer bytes) pool × (act ≡ TakeIn (packet_offer bytes))) ⊎ (act_shows act ≡ [])

-- an act with its effect; the keep that it may write is true
pub record Acting (pool : List Piece) (s : Station) (act : Act) (e : Effect) : Type 0 where
  pub pages : List ℕ
  pub fits : e.dropped ≡ None → FitsAct s.recording act
  pub effect_is : effect s.who pages s.recording act ≡ Some e
  pub keeps : KeepsTrue e.recording
  pub takes : TakesReleased pool act

-- a journal that is opened, with the machine that opening it gives
pub record Opening (s : Station) (j : JournalData) (to : State) : Type 0 where
  pub reopened : IsReopened s.recording j
  pub opened_is : IsOpened j to

-- what is done, and the pieces of it that were released: all of them, or a front of them where the outlet failed
pub record Gives (d : Done) (r : Recording) (pieces : List Piece) : Type 0 where
  pub recording : r ≡ d.recording
  pub rest : List Piece
  pub front : d.pieces ≡ pieces ++ rest

-- What happens at a recorder, and what it releases: steps without outputs; an act; an act whose batch isn't saved; a seal; a seal that
-- isn't saved; opening again.
pub data Happens (pool : List Piece) (s : Station) (r : Recording) (pieces : List Piece) : Type 0 where
  Moves : (n : ℕ) → (u : State) → moved timed n s.recording.machine ≡ Some u → r ≡ record s.recording { machine = u } → pieces ≡ [] → Happens pool s r pieces
  Acts : (act : Act) → (e : Effect) → Acting pool s act e → SignsFor s.who r → Gives (finished s.who e) r pieces → Happens pool s r pieces
  Begins : (act : Act) → (e : Effect) → Acting pool s act e → r ≡ e.recording → pieces ≡ [] → Happens pool s r pieces
  Seals : SignsFor s.who r → Gives (sealed s.who s.recording) r pieces → Happens pool s r pieces
  BeginsSeal : r ≡ with_seal s.recording → pieces ≡ [] → Happens pool s r pieces
  Reopens : (j : JournalData) → (to : State) → Opening s j to → r ≡ opened j to → pieces ≡ [] → Happens pool s r pieces

pub record IsNetworkStep (old new : Network) : Type 0 where
  pub place : ℕ
  pub station : Station
  pub station_is : slice_get old.stations place ≡ Some station
  pub recording : Recording
  pub pieces : List Piece
  pub happens : Happens old.released station recording pieces
  pub next : new ≡ record { stations = slice_set old.stations place (record { who = station.who; recording = recording }); released = old.released ++ pieces }

-- A station that joins: its journal leads to its machine, its keeps are true, no message was sent or received, and nothing is unsaved.
pub record IsFirst (s : Station) : Type 0 where
  pub from : State
  pub header : header_state s.recording.journal.header ≡ Some from
  pub leads : Leads from (parts s.recording.journal) s.recording.machine
  pub keeps : HasTrueKeeps s.recording.journal
  pub mail : mail_in (parts s.recording.journal) ≡ []
  pub batch : s.recording.batch ≡ []
  pub rows : are_unused s.recording.machine.devices.peers ≡ true

-- another own id than that of each station
pub record IsNewcomer (n : Network) (s : Station) : Type 0 where
  pub first : IsFirst s
  pub other : (i : ℕ) (a : Station) → slice_get n.stations i ≡ Some a → a.recording.machine.devices.own ≡ s.recording.machine.devices.own → ⊥

-- every schedule: stations join, and something happens at one of them
pub data IsSchedule : Network → Network → Type 0 where
  Rests : (n : Network) → IsSchedule n n
  Joins : (n m : Network) → (s : Station) → IsSchedule n m → IsNewcomer m s → IsSchedule n (record m { stations = m.stations ++ s ∷ [] })
  GoesOn : (n m o : Network) → IsSchedule n m → IsNetworkStep m o → IsSchedule n o

abbrev pub empty_network : Network
empty_network = record { stations = []; released = [] }

-- ---- what holds of every schedule

-- a piece is what an entry of the acknowledged journal of some station releases
pub record Belongs (n : Network) (p : Piece) : Type 0 where
  pub place : ℕ
  pub station : Station
  pub station_is : slice_get n.stations place ≡ Some station
  pub stands : Among p (pieces_from station.who (start station.recording.journal.header) (parts station.recording.journal))

-- each recorder is sound, they agree, and each packet that was released belongs to a journal
pub record IsAgreeing (n : Network) : Type 0 where
  pub sound : (i : ℕ) (s : Station) → slice_get n.stations i ≡ Some s → IsSound s.recording
  pub consistent : IsConsistent (world_of n)
  pub belongs : (peer : ℕ) (bytes : List ℕ) → Among (packet peer bytes) n.released → Belongs n (packet peer bytes)

-- ---- what a station's rows say of another station

-- Of a peer's row: as many messages were received as the mail has, at most as many as the peer has sent; and at most as many are counted
-- as acknowledged as the peer has received. Both hold with the peer's acknowledged journal.
pub record RowAgrees (a b : Station) (row : Peer) : Type 0 where
  pub received : row.received ≡ length (received_from (station_node b).own (mail_of (station_node a)))
  pub sent : row.sent ≡ length (sent_to (station_node b).own (mail_of (station_node a)))
  pub came : row.received ≤ length (sent_to (station_node a).own (station_node b).saved)
  pub arrived : row.acked ≤ length (received_from (station_node a).own (station_node b).saved)
