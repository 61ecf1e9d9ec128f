-- The words of a command line: options with their values, numbers, and bytes in hexadecimal.
use Rattle.std.specs.Prelude.{ℕ, ◌+◌, ◌-◌, ◌*◌, ◌==◌, ◌&&◌, not, nat_le, nat_lt, Bool, true, false, List, [], ◌∷◌, length, Option, Some, None, if◌then◌else◌}
use Rattle.std.specs.Str.{bytes_eq}
use Rattle.std.specs.Str.Parse.{digits_value}
use Rattle.std.specs.Fmt.{decimal}
use Rattle.avm_num.specs.Bytes.{◌>>=◌, kept}
use Rattle.avm_num.specs.Walk.{is_nil}

-- the number below the limit that is written so: the text is how the number is written in decimal
unfoldable pub number_of : ℕ → List ℕ → Option ℕ
number_of limit text = kept (bytes_eq (decimal (digits_value 10 text)) text && nat_lt (digits_value 10 text) limit) (digits_value 10 text)

-- the value of a hexadecimal digit, in either case (RFC 4648, section 8)
unfoldable pub hex_digit : ℕ → Option ℕ
hex_digit c =
    if nat_le 65 c && nat_le c 70 then Some (c - 55)
    else if nat_le 97 c && nat_le c 102 then Some (c - 87)
    else if nat_le 48 c && nat_le c 57 then Some (c - 48)
    else None

-- the bytes that are written so, each in two digits, the high one first
unfoldable pub hex_of : List ℕ → Option (List ℕ)
hex_of [] = Some []
hex_of (digit ∷ []) = None
hex_of (high ∷ low ∷ text) = do
  h ← hex_digit high
  l ← hex_digit low
  bytes ← hex_of text
  Some ((h * 16 + l) ∷ bytes)

-- n bytes that are written so
unfoldable pub hex_sized : ℕ → List ℕ → Option (List ℕ)
hex_sized n text = hex_of text >>= λ bytes. kept (length bytes == n) bytes

-- whether the word is one of those
abbrev pub is_among : List ℕ → List (List ℕ) → Bool
is_among word [] = false
is_among word (w ∷ words) = if bytes_eq word w then true else is_among word words

-- whether no word comes twice
abbrev pub are_distinct : List (List ℕ) → Bool
are_distinct [] = true
are_distinct (w ∷ words) = if is_among w words then false else are_distinct words

-- whether the words are options out of those and values of at least one byte, in turn
unfoldable pub are_pairs : List (List ℕ) → List (List ℕ) → Bool
are_pairs options [] = true
are_pairs options (name ∷ []) = false
are_pairs options (name ∷ value ∷ words) = if is_among name options && not (is_nil value) then are_pairs options words else false

-- the values behind an option, in the order of the words
unfoldable pub values_of : List ℕ → List (List ℕ) → List (List ℕ)
values_of option [] = []
values_of option (name ∷ []) = []
values_of option (name ∷ value ∷ words) = if bytes_eq name option then value ∷ values_of option words else values_of option words

-- none where nothing is given, and the one that is given; more than one is refused
abbrev pub at_most_one : List (List ℕ) → Option (Option (List ℕ))
at_most_one [] = Some None
at_most_one (value ∷ []) = Some (Some value)
at_most_one (value ∷ other ∷ values) = None

-- the value of an option that may be missing, and may not come twice
unfoldable pub optional : List ℕ → List (List ℕ) → Option (Option (List ℕ))
optional option words = at_most_one (values_of option words)

-- the value of an option that comes exactly once
unfoldable pub needed : List ℕ → List (List ℕ) → Option (List ℕ)
needed option words = optional option words >>= λ value. value
