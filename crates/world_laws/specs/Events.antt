-- What is done at a node as an event of a world.
use Rattle.std.specs.Prelude.{◌^◌, ◌<◌, length}
use Rattle.avm_model.specs.Frame.{FrameData}
use Rattle.avm_model.specs.Parts.{IsOrdinal}
use Rattle.std.specs.Prelude.{◌≡◌, ℕ, List, [], ◌∷◌, ◌++◌, Option, Some, None}
use Rattle.avm_model.specs.Offer.{Offer, packet_offer}
use Rattle.avm_model.specs.Packet.{FitsPacket}
use Rattle.avm_num.specs.Bytes.{IsBytes}
use Rattle.world_model.specs.World.{Node, Parcel}
use Rattle.avm_model.specs.Machine.{State}
use Rattle.world_laws.specs.Counting.{offer_shows, mail_in, IsCounted, IsMailCounted}
use Rattle.journal_model.specs.Journal.{JournalData, with_record, parts}
use Rattle.journal_model.specs.Part.{Part, entry, seal, keep}
use Rattle.journal_model.specs.Standing.{StandingData, behind, start}
use Rattle.journal_model.specs.Header.{CarriedData}
use Rattle.record_model.specs.Recording.{Recording}
use Rattle.record_model.specs.Released.{Sender, packet_of}
use Rattle.avm_outside.specs.Outlet.{Piece, packet, console, auth}
use Rattle.honest_model.specs.Honest.{header_state, Leads}
use Rattle.record_model.specs.Standing.{IsStanding, KeepsTrue}

-- what bytes show, as they are taken in
abbrev pub shown_by : Option Offer → List Parcel
shown_by None = []
shown_by (Some o) = offer_shows o

abbrev pub packet_shows : List ℕ → List Parcel
packet_shows bytes = shown_by (packet_offer bytes)

-- what the packets among pieces show
abbrev pub pieces_show : List Piece → List Parcel
pieces_show [] = []
pieces_show (packet peer bytes ∷ ps) = packet_shows bytes ++ pieces_show ps
pieces_show (console bytes ∷ ps) = pieces_show ps
pieces_show (auth bytes ∷ ps) = pieces_show ps

-- Behind a crash a node is opened again: on the journal that was acknowledged, or on the one with the batch in flight.
pub data IsReopened (r : Recording) (j : JournalData) : Type 0 where
  AsSaved : j ≡ r.journal → IsReopened r j
  WithBatch : j ≡ with_record r.journal r.batch → IsReopened r j

-- a node of this journal, with nothing unsaved
abbrev pub opened_node : ℕ → JournalData → Node
opened_node own j = record { own = own; saved = mail_in (parts j); unsaved = [] }

-- a signed entry's packet has a spelling
pub record IsSpelled (who : Sender) (e : CarriedData) : Type 0 where
  pub packet : FitsPacket (packet_of who e)
  pub content : IsBytes e.frame.content

-- each entry of these parts has, where it stands behind a point
abbrev pub AreSpelled : Sender → StandingData → List Part → Type 0
AreSpelled who p [] = Unit {0}
AreSpelled who p (entry f ∷ ps) = IsSpelled who (record { leaf = p.used; before = p.hash; frame = f }) × AreSpelled who (behind p (entry f)) ps
AreSpelled who p (seal ∷ ps) = AreSpelled who (behind p seal) ps
AreSpelled who p (keep k ∷ ps) = AreSpelled who (behind p (keep k)) ps

-- Whoever signs has the node's own id, no entry was carried over, and each entry of the acknowledged journal has a spelling in a packet.
pub record SignsFor (who : Sender) (r : Recording) : Type 0 where
  pub own : who.own ≡ r.machine.devices.own
  pub carried : r.journal.header.carried ≡ []
  pub journal : AreSpelled who (start r.journal.header) (parts r.journal)

-- ---- what a journal's own state counts

-- each state that the journal leads to has this own id, and its rows count the journal's mail
abbrev pub IsJournalCounted : ℕ → JournalData → Type 0
IsJournalCounted own j = (from s : State) → header_state j.header ≡ Some from → Leads from (parts j) s → (s.devices.own ≡ own) × IsCounted s.devices.peers (mail_in (parts j))

-- What is kept of a recording: it stands, its keeps are true, its rows count its mail, and its journal's state counts the journal's.
pub record IsSound (r : Recording) : Type 0 where
  pub standing : IsStanding r
  pub keeps : KeepsTrue r
  pub counted : IsMailCounted r
  pub journal : IsJournalCounted r.machine.devices.own r.journal

-- an entry of a frame's bounds
pub record FitsEntry (f : FrameData) : Type 0 where
  pub seq : IsOrdinal f.seq
  pub short : length f.content < 2 ^ 32
  pub content : IsBytes f.content

abbrev pub AreFit : List Part → Type 0
AreFit [] = Unit {0}
AreFit (entry f ∷ ps) = FitsEntry f × AreFit ps
AreFit (seal ∷ ps) = AreFit ps
AreFit (keep k ∷ ps) = AreFit ps
