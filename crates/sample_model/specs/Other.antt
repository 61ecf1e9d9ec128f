-- The other node of a sample: what it says to what comes from the first one (docs/FORMATS.md, "The sample").
use Rattle.std.specs.Prelude.{ℕ, ◌+◌, ◌%◌, ◌==◌, ◌&&◌, nat_lt, is_some, Bool, List, [], ◌∷◌, ◌++◌, if◌then◌else◌}
use Rattle.rand_chacha.specs.ChaCha.{ChaCha}
use Rattle.avm_model.specs.Packet.{data_at}
use Rattle.avm_outside.specs.Feed.{Timed, console, packet, timed}
use Rattle.sample_model.specs.Start.{message_words, other_key}
use Rattle.sample_parts.specs.Drawn.{behind_message, message_of}
use Rattle.sample_parts.specs.PeerLog.{PeerLog, ack_of, data_of, new_log, receiving, sending}

-- its log, the generator behind the messages that it has drawn, and how many answers it has received
pub record Side : Type 0 where
  pub log : PeerLog
  pub words : ChaCha
  pub answers : ℕ

-- what it says, as events of the first node, and where it stands then
pub record Said : Type 0 where
  pub side : Side
  pub events : List Timed

abbrev pub says : Side → List Timed → Said
says b events = record { side = b; events = events }

-- what it says behind something else
abbrev pub followed : Said → (Side → Said) → Said
followed s next = says (next s.side).side (s.events ++ (next s.side).events)

-- how many messages it sends
abbrev pub messages : ℕ
messages = 150

-- at the start
abbrev pub side_of : ℕ → Side
side_of seed = record { log = new_log (other_key seed); words = message_words seed; answers = 0 }

-- its message of a number
abbrev pub with_message : Side → ℕ → Side
with_message b number = record b { log = sending b.log number (message_of b.words); words = behind_message b.words }

abbrev pub message : Side → ℕ → Said
message b number = says (with_message b number) (timed 0 (packet (data_of b.log number (message_of b.words))) ∷ [])

-- the console input that halts the first node
abbrev pub farewell : Side → Said
farewell b = says b (timed 0 (console (4 ∷ [])) ∷ [])

-- the next message, or behind the last one's answer the end
abbrev pub next_said : Side → Said
next_said b = if nat_lt b.answers messages then message b (b.answers + 1) else farewell b

-- each tenth receipt is followed by console input
abbrev pub greeting : ℕ → List Timed
greeting n = if n % 10 == 0 then timed 0 (console (0x6f ∷ 0x6b ∷ 0x0a ∷ [])) ∷ [] else []

-- the receipt of an answer
abbrev pub with_receipt : Side → List ℕ → Side
with_receipt b answer = record b { log = receiving b.log answer; answers = b.answers + 1 }

abbrev pub receipt : Side → List ℕ → Said
receipt b answer = says (with_receipt b answer) (timed 0 (packet (ack_of b.log answer)) ∷ greeting (b.answers + 1))

-- it listens to DATA packets, up to the answer of its last message
abbrev pub listens : Side → List ℕ → Bool
listens b bytes = nat_lt b.answers messages && is_some (data_at bytes)

abbrev pub hear : Side → List ℕ → Said
hear b bytes = if listens b bytes then followed (receipt b bytes) next_said else says b []

-- packets one after another, with their peers
abbrev pub hear_all : Side → List (ℕ × List ℕ) → Said
hear_all b [] = says b []
hear_all b (p ∷ ps) = followed (hear b p.1) (λ c. hear_all c ps)
