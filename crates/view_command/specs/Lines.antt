-- The lines of a view (docs/FORMATS.md, "Views").
use Rattle.std.specs.Prelude.{ℕ, zero, suc, ◌+◌, ◌/◌, ◌%◌, ◌==◌, List, [], ◌∷◌, ◌++◌, Option, Some, None, slice_index, codes, if◌then◌else◌}
use Rattle.std.specs.Fmt.{decimal}
use Rattle.std.specs.Int.{w32}
use Rattle.avm_num.specs.Lists.{be}
use Rattle.avm_model.specs.Hart.{HartState, reg}
use Rattle.avm_model.specs.Machine.{State}
use Rattle.avm_model.specs.declared.Status.{Status}
use Rattle.avm_model.specs.declared.Status.TheVariants.{Running, Waiting, Halted}
use Rattle.view_model.specs.Views.{Change, word_at}

-- a hexadecimal digit, in lower case (RFC 4648, section 8)
abbrev pub hex_glyph : ℕ → ℕ
hex_glyph d = slice_index (codes "0123456789abcdef") d

-- each byte in two digits, the high one first
unfoldable pub hex_text : List ℕ → List ℕ
hex_text [] = []
hex_text (b ∷ bytes) = hex_glyph (b / 16) ∷ hex_glyph (b % 16) ∷ hex_text bytes

-- a number in eight digits
abbrev pub hex_word : ℕ → List ℕ
hex_word n = hex_text (be w32 n)

-- words with a space between two, and the byte 10 behind the last
abbrev pub words_line : List (List ℕ) → List ℕ
words_line [] = 10 ∷ []
words_line (word ∷ []) = word ++ 10 ∷ []
words_line (word ∷ next ∷ words) = word ++ (32 ∷ words_line (next ∷ words))

abbrev pub status_word : Status → List ℕ
status_word Running = codes "running"
status_word Waiting = codes "waiting"
status_word Halted = codes "halted"

abbrev pub head_line : State → List ℕ
head_line s = words_line (codes "count" ∷ decimal s.count ∷ codes "pc" ∷ hex_word s.hart.pc ∷ status_word s.status ∷ [])

abbrev pub register_line : ℕ → ℕ → List ℕ
register_line i value = words_line ((codes "x" ++ decimal i) ∷ hex_word value ∷ [])

-- the line of a register; what is 0 has none
abbrev pub register_lines_at : ℕ → ℕ → List (List ℕ)
register_lines_at i value = if value == 0 then [] else register_line i value ∷ []

-- n registers from number i on
abbrev pub register_lines : HartState → ℕ → ℕ → List (List ℕ)
register_lines h i zero = []
register_lines h i (suc n) = register_lines_at i (reg h i) ++ register_lines h (i + 1) n

abbrev pub word_line : ℕ → ℕ → List ℕ
word_line a value = words_line (hex_word a ∷ hex_word value ∷ [])

-- the line of a word of the RAM; what is no word of it has none
abbrev pub word_lines_at : ℕ → Option ℕ → List (List ℕ)
word_lines_at a None = []
word_lines_at a (Some value) = word_line a value ∷ []

-- n words from an address on
abbrev pub word_lines : State → ℕ → ℕ → List (List ℕ)
word_lines s a zero = []
word_lines s a (suc n) = word_lines_at a (word_at a s) ++ word_lines s (a + 4) n

-- a state, and n words of its RAM from an address on
abbrev pub state_lines : State → ℕ → ℕ → List (List ℕ)
state_lines s a n = head_line s ∷ (register_lines s.hart 0 32 ++ word_lines s a n)

abbrev pub change_line : Change → List ℕ
change_line c = words_line (decimal c.count ∷ hex_word c.old ∷ hex_word c.new ∷ [])
