-- The lines that `list` prints of a journal (docs/FORMATS.md, "Lines of a journal").
use Rattle.std.specs.Prelude.{ℕ, ◌+◌, ◌/◌, ◌%◌, nat_lt, List, [], ◌∷◌, ◌++◌, codes, Option, Some, None, if◌then◌else◌}
use Rattle.std.specs.Fmt.{decimal}
use Rattle.avm_model.specs.Content.{ContentData, boot, snap, conin, clock, recv, acked, out, send, halt, count_of, content_at}
use Rattle.avm_model.specs.Frame.{FrameData}
use Rattle.avm_model.specs.Offer.{DataIn, AckIn, data_in, ack_in}
use Rattle.journal_model.specs.Part.{Part, entry, seal, keep}
use Rattle.journal_model.specs.Journal.{JournalData, parts}

-- ---- words

abbrev pub space : ℕ
space = 32

-- a lower-case hexadecimal digit
abbrev pub digit : ℕ → ℕ
digit n = if nat_lt n 10 then 48 + n else 87 + n

unfoldable pub hex : List ℕ → List ℕ
hex [] = []
hex (b ∷ bytes) = digit (b / 16) ∷ digit (b % 16) ∷ hex bytes

-- a space and a number, or bytes in hexadecimal
abbrev pub number_word : ℕ → List ℕ
number_word n = space ∷ decimal n

abbrev pub hex_word : List ℕ → List ℕ
hex_word bytes = space ∷ hex bytes

-- nothing where there are no bytes
abbrev pub some_hex : List ℕ → List ℕ
some_hex [] = []
some_hex (b ∷ bytes) = hex_word (b ∷ bytes)

-- ---- entries

abbrev pub name_of : ContentData → List ℕ
name_of (boot count root) = codes "BOOT"
name_of (snap count root) = codes "SNAP"
name_of (conin count bytes) = codes "CONIN"
name_of (clock count value) = codes "CLOCK"
name_of (recv count packet) = codes "RECV"
name_of (acked count packet) = codes "ACKED"
name_of (out count bytes) = codes "OUT"
name_of (send count peer number payload) = codes "SEND"
name_of (halt count cause value) = codes "HALT"

-- a packet's sender and the number of the message
abbrev pub data_words : Option DataIn → List ℕ
data_words None = []
data_words (Some d) = number_word d.packet.from ++ number_word d.message.number

abbrev pub ack_words : Option AckIn → List ℕ
ack_words None = []
ack_words (Some a) = number_word a.packet.from ++ number_word a.inner.message.number

-- what stands behind the count
abbrev pub words_of : ContentData → List ℕ
words_of (boot count root) = hex_word root
words_of (snap count root) = hex_word root
words_of (conin count bytes) = hex_word bytes
words_of (clock count value) = number_word value
words_of (recv count packet) = data_words (data_in packet)
words_of (acked count packet) = ack_words (ack_in packet)
words_of (out count bytes) = hex_word bytes
words_of (send count peer number payload) = number_word peer ++ number_word number ++ some_hex payload
words_of (halt count cause value) = number_word cause ++ number_word value

abbrev pub content_line : ℕ → Option ContentData → List ℕ
content_line seq None = decimal seq
content_line seq (Some c) = decimal seq ++ (space ∷ name_of c) ++ number_word (count_of c) ++ words_of c

abbrev pub entry_line : FrameData → List ℕ
entry_line f = content_line f.seq (content_at f.kind f.content)

-- ---- seals and the mark

-- `seal` and the last entry's number
abbrev pub seal_line : ℕ → List ℕ
seal_line last = codes "seal" ++ number_word last

-- `retired` and the mark's number
abbrev pub mark_lines : Option ℕ → List (List ℕ)
mark_lines None = []
mark_lines (Some n) = (codes "retired" ++ number_word n) ∷ []

-- ---- a journal

-- of parts behind an entry of this number: a line for each item, none for a keep
abbrev pub part_lines : ℕ → List Part → List (List ℕ)
part_lines last [] = []
part_lines last (entry f ∷ ps) = entry_line f ∷ part_lines f.seq ps
part_lines last (seal ∷ ps) = seal_line last ∷ part_lines last ps
part_lines last (keep k ∷ ps) = part_lines last ps

-- a line for each item in order, and one for the mark; carried entries are no items
unfoldable pub journal_lines : JournalData → List (List ℕ)
journal_lines j = part_lines 0 (parts j) ++ mark_lines j.mark
