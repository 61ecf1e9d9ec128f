-- How many bytes a head has.
use Rattle.std.specs.Prelude.{ℕ, ◌+◌, ◌*◌, List, [], ◌∷◌, length, Option, Some, None}
use Rattle.avm_model.specs.Device.{MessageState}
use Rattle.avm_model.specs.Head.{HeadData}
use Rattle.avm_model.specs.declared.Bell.{Bell}

abbrev pub messages_size : List MessageState → ℕ
messages_size [] = 0
messages_size (m ∷ ms) = 3 + length m.payload + messages_size ms

abbrev pub bell_size : Option Bell → ℕ
bell_size None = 0
bell_size (Some b) = 9

-- 1192 bytes, 81 a row, the line, the console queue, each message with three bytes before it, and 9 of a bell
abbrev pub head_size : HeadData → ℕ
head_size h = 1192 + 81 * length h.front.peers + length h.queues.line + length h.queues.console + messages_size h.queues.messages + bell_size h.bell
