-- The authenticators that come of what was released (docs/FORMATS.md, "Authenticators" and "Packets").
use Rattle.std.specs.Prelude.{◌≡◌, ◌≤◌, ℕ, List, [], Option, Some, None}
use Rattle.std.specs.Option.{option_map}
use Rattle.avm_model.specs.Auth.{AuthData, auth_at}
use Rattle.avm_model.specs.Chain.{committed}
use Rattle.avm_model.specs.Offer.{AckIn, DataIn, Offer, OfferAck, OfferClock, OfferConsole, OfferData, ack_in, data_in, packet_offer}
use Rattle.avm_model.specs.Packet.{PacketData}
use Rattle.avm_outside.specs.Outlet.{Piece, auth, console, packet}
use Rattle.life_model.specs.Life.{Among, Told}

-- the number of a packet, the hash that its sender committed to, and the signature
abbrev pub formed_of : ℕ → PacketData → AuthData
formed_of kind p = record { seq = p.seq; hash = committed kind p; sig = p.sig }

-- whoever is given a packet forms an authenticator from it
abbrev pub formed : Option Offer → Option AuthData
formed None = None
formed (Some (OfferConsole bytes)) = None
formed (Some (OfferClock value)) = None
formed (Some (OfferData bytes)) = option_map (λ (d : DataIn). formed_of 8 d.packet) (data_in bytes)
formed (Some (OfferAck bytes)) = option_map (λ (k : AckIn). formed_of 5 k.packet) (ack_in bytes)

-- a released piece is the authenticator, or a packet from which it is formed
abbrev pub Gives : Piece → AuthData → Type 0
Gives (packet peer bytes) a = formed (packet_offer bytes) ≡ Some a
Gives (console bytes) a = ⊥
Gives (auth bytes) a = auth_at bytes ≡ Some (a, [])

-- a piece that was released for an entry from..to gives it
pub record IsReleased (released : List Told) (from to : ℕ) (a : AuthData) : Type 0 where
  pub piece : Told
  pub was_released : Among piece released
  pub gives : Gives piece.piece a
  pub no_less : from ≤ piece.seq
  pub no_more : piece.seq ≤ to
