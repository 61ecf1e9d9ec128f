-- A script: lines, each ended by the byte 10 (docs/FORMATS.md, "Script").
use Rattle.std.specs.Prelude.{ℕ, ◌^◌, ◌==◌, ◌&&◌, nat_le, nat_lt, Bool, true, false, List, [], ◌∷◌, length, Option, Some, None, option_map, if◌then◌else◌, codes}
use Rattle.std.specs.List.{position_or_len, before_first, after_first}
use Rattle.std.specs.Str.{bytes_eq}
use Rattle.avm_num.specs.Bytes.{◌>>=◌, kept}
use Rattle.avm_num.specs.Walk.{Reader, all_at}
use Rattle.avm_model.specs.Words.{number_of, hex_of}
use Rattle.avm_outside.specs.Feed.{Event, console, packet, resend, Timed, timed}

-- what stands before the first such byte, and what stands behind it; none where there is none
unfoldable pub cut_at : ℕ → Reader (List ℕ)
cut_at c bytes = kept (nat_lt (position_or_len (λ b. b == c) bytes) (length bytes)) (before_first (λ b. b == c) bytes, after_first (λ b. b == c) bytes)

-- what a line says
pub data Line : Type 0 where
  passed : Line
  clock : ℕ → Line
  event : ℕ → Event → Line
  end : ℕ → Line

-- at least one byte and at most so many, in hexadecimal digits
unfoldable pub some_hex : ℕ → List ℕ → Option (List ℕ)
some_hex most text = hex_of text >>= λ bytes. kept (nat_lt 0 (length bytes) && nat_le (length bytes) most) bytes

-- console input, a packet, or a peer
unfoldable pub event_of : List ℕ → List ℕ → Option Event
event_of kind value =
    if bytes_eq kind (codes "console") then option_map console (some_hex 256 value)
    else if bytes_eq kind (codes "packet") then option_map packet (some_hex 20000 value)
    else if bytes_eq kind (codes "resend") then option_map resend (number_of 16 value)
    else None

-- a count, the kind of an event and its value, with single spaces between them
unfoldable pub event_line : List ℕ → Option Line
event_line text = do
  count ← cut_at 32 text
  at ← number_of (2 ^ 62) count.0
  kind ← cut_at 32 count.1
  e ← event_of kind.0 kind.1
  Some (event at e)

-- a line by its first word and what stands behind the space
unfoldable pub named_line : List ℕ → List ℕ → Option Line
named_line name text =
    if bytes_eq name (codes "clock") then option_map clock (number_of (2 ^ 64) text)
    else if bytes_eq name (codes "at") then event_line text
    else if bytes_eq name (codes "end") then option_map end (number_of (2 ^ 62) text)
    else None

-- empty lines, and those that begin with #, are passed over
unfoldable pub line_of : List ℕ → Option Line
line_of [] = Some passed
line_of (b ∷ text) = if b == 35 then Some passed else (cut_at 32 (b ∷ text) >>= λ p. named_line p.0 p.1)

-- a line and its byte 10
unfoldable pub line_at : Reader Line
line_at bytes = cut_at 10 bytes >>= λ p. line_of p.0 >>= λ l. Some (l, p.1)

-- ---- the lines together

abbrev pub is_passed : Line → Bool
is_passed passed = true
is_passed line = false

abbrev pub are_passed : List Line → Bool
are_passed [] = true
are_passed (line ∷ lines) = is_passed line && are_passed lines

-- what a script says
pub record ScriptData : Type 0 where
  pub events : List Timed
  pub clocks : List ℕ
  pub ending : ℕ

-- the count of the first event, or of the end
abbrev pub first_count : List Timed → ℕ → ℕ
first_count [] ending = ending
first_count (t ∷ events) ending = t.at

abbrev pub next_count : ScriptData → ℕ
next_count s = first_count s.events s.ending

abbrev pub with_clock : ℕ → ScriptData → ScriptData
with_clock v s = record s { clocks = v ∷ s.clocks }

abbrev pub with_event : ℕ → Event → ScriptData → ScriptData
with_event at e s = record s { events = timed at e ∷ s.events }

-- Events and clock values in the order of the lines. Counts don't fall, and none is above that of the end, which is the
-- last line that isn't passed over.
abbrev pub script_of : List Line → Option ScriptData
script_of [] = None
script_of (passed ∷ lines) = script_of lines
script_of (clock v ∷ lines) = option_map (with_clock v) (script_of lines)
script_of (event at e ∷ lines) = script_of lines >>= λ s. kept (nat_le at (next_count s)) (with_event at e s)
script_of (end c ∷ lines) = kept (are_passed lines) (record { events = []; clocks = []; ending = c })

-- what a script's bytes say, where they are a script
unfoldable pub script_at : List ℕ → Option ScriptData
script_at bytes = all_at line_at bytes >>= script_of
