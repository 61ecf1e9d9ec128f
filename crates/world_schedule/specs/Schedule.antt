-- A schedule (docs/FORMATS.md, "Schedule"): lines, each ended by the byte 10; first its nodes, then the events.
use Rattle.std.specs.Prelude.{ℕ, ◌^◌, ◌==◌, ◌&&◌, not, nat_le, Bool, true, false, List, [], ◌∷◌, length, take, slice_index, Option, Some, None, option_map, if◌then◌else◌, codes}
use Rattle.std.specs.Str.{bytes_eq}
use Rattle.avm_num.specs.Bytes.{◌>>=◌, kept}
use Rattle.avm_num.specs.Walk.{Reader, all_at}
use Rattle.avm_model.specs.Words.{number_of, hex_sized}
use Rattle.avm_script.specs.Script.{cut_at, some_hex}
use Rattle.world_model.specs.Deeds.{Deed, Turn, Deliver, Console, Resend, Seal, CrashData, EventData, NodeData, ScheduleData}

-- what a line says
pub data Line : Type 0 where
  passed : Line
  node : NodeData → Line
  event : EventData → Line

-- ---- words, with single spaces between them

abbrev pub Word : Type 0
Word = List ℕ × Option (List ℕ)

abbrev pub word_by : List ℕ → Option (List ℕ × List ℕ) → Word
word_by text None = (text, None)
word_by text (Some p) = (p.0, Some p.1)

-- the first word, and what stands behind the space where there is one
unfoldable pub word_at : List ℕ → Word
word_at text = word_by text (cut_at 32 text)

-- ---- a node

-- an image that begins with these bytes is no flat one
abbrev pub is_flat : List ℕ → Bool
is_flat image = not (bytes_eq (take 4 image) (127 ∷ 69 ∷ 76 ∷ 70 ∷ []))

-- the seed of a key and an image, in hexadecimal digits
unfoldable pub node_of : List ℕ → Option NodeData
node_of text = do
  words ← cut_at 32 text
  seed ← hex_sized 32 words.0
  image ← some_hex 4096 words.1
  kept (is_flat image) (record { seed = seed; image = image })

-- ---- an event

-- a deed and the words behind it
abbrev pub Done : Type 0
Done = Deed × Option (List ℕ)

-- a deed that has a value, read from the word behind its name
abbrev pub valued : (List ℕ → Option Deed) → Option (List ℕ) → Option Done
valued read None = None
valued read (Some text) = option_map (λ d. (d, (word_at text).1)) (read (word_at text).0)

abbrev pub delivery : List ℕ → Option Deed
delivery word = option_map Deliver (number_of (2 ^ 32) word)

abbrev pub input : List ℕ → Option Deed
input word = option_map Console (some_hex 256 word)

abbrev pub repetition : List ℕ → Option Deed
repetition word = option_map Resend (number_of 16 word)

-- a deed that has a value, by its name
unfoldable pub deed_named : List ℕ → List ℕ → Option Deed
deed_named name word =
    if bytes_eq name (codes "deliver") then delivery word
    else if bytes_eq name (codes "console") then input word
    else if bytes_eq name (codes "resend") then repetition word
    else None

unfoldable pub deed_at : Word → Option Done
deed_at word =
    if bytes_eq word.0 (codes "turn") then Some (Turn, word.1)
    else if bytes_eq word.0 (codes "seal") then Some (Seal, word.1)
    else valued (deed_named word.0) word.1

unfoldable pub is_long : List ℕ → Option Bool
is_long word = if bytes_eq word (codes "long") then Some true else if bytes_eq word (codes "short") then Some false else None

unfoldable pub byte_of : List ℕ → Option ℕ
byte_of word = option_map (λ bytes. slice_index bytes 0) (hex_sized 1 word)

-- behind its name a crash has the number of calls, the length and the free bytes
unfoldable pub crash_at : List ℕ → Option CrashData
crash_at text = do
  calls ← cut_at 32 text
  n ← number_of (2 ^ 32) calls.0
  words ← cut_at 32 calls.1
  long ← is_long words.0
  fill ← byte_of words.1
  Some (record { calls = n; long = long; fill = fill })

unfoldable pub crash_named : List ℕ → Option CrashData
crash_named text = do
  words ← cut_at 32 text
  if bytes_eq words.0 (codes "crash") then crash_at words.1 else None

-- nothing stands behind a deed, or a crash
abbrev pub crash_of : Option (List ℕ) → Option (Option CrashData)
crash_of None = Some None
crash_of (Some text) = option_map Some (crash_named text)

-- the number of the node, and what stands behind it
unfoldable pub event_of : List ℕ → List ℕ → Option EventData
event_of number text = do
  n ← number_of (2 ^ 32) number
  done ← deed_at (word_at text)
  crash ← crash_of done.1
  Some (record { node = n; deed = done.0; crash = crash })

-- ---- lines

unfoldable pub named_line : List ℕ → List ℕ → Option Line
named_line name text = if bytes_eq name (codes "node") then option_map node (node_of text) else option_map event (event_of name text)

-- empty lines, and those that begin with #, are passed over
unfoldable pub line_of : List ℕ → Option Line
line_of [] = Some passed
line_of (b ∷ text) = if b == 35 then Some passed else (cut_at 32 (b ∷ text) >>= λ p. named_line p.0 p.1)

-- a line and its byte 10
unfoldable pub line_at : Reader Line
line_at bytes = cut_at 10 bytes >>= λ p. line_of p.0 >>= λ l. Some (l, p.1)

-- ---- the lines together

-- the events, where no node comes any more
abbrev pub events_of : List Line → Option (List EventData)
events_of [] = Some []
events_of (passed ∷ lines) = events_of lines
events_of (node n ∷ lines) = None
events_of (event e ∷ lines) = option_map (λ es. e ∷ es) (events_of lines)

abbrev pub with_node : NodeData → ScheduleData → ScheduleData
with_node n s = record s { nodes = n ∷ s.nodes }

-- the nodes, and then the events
abbrev pub schedule_of : List Line → Option ScheduleData
schedule_of [] = Some (record { nodes = []; events = [] })
schedule_of (passed ∷ lines) = schedule_of lines
schedule_of (node n ∷ lines) = option_map (with_node n) (schedule_of lines)
schedule_of (event e ∷ lines) = option_map (λ es. record { nodes = []; events = e ∷ es }) (events_of lines)

abbrev pub longest : ℕ
longest = 2 ^ 24

abbrev pub is_few : ScheduleData → Bool
is_few s = nat_le 1 (length s.nodes) && nat_le (length s.nodes) 4

-- what the lines in bytes say together
abbrev pub lines_at : List ℕ → Option ScheduleData
lines_at bytes = all_at line_at bytes >>= schedule_of

-- what a schedule's bytes say, where they are a schedule
unfoldable pub schedule_at : List ℕ → Option ScheduleData
schedule_at bytes = lines_at bytes >>= λ s. kept (nat_le (length bytes) longest && is_few s) s
