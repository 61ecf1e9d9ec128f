-- What reading a gate and a record from a disk tells of its bytes.
use Rattle.std.specs.Prelude.{◌≡◌, ◌+◌, ◌^◌, ◌<◌, ◌≤◌, ℕ, false, List, ◌∷◌, ◌++◌, length, take, Option, None, Some, MatchOption}
use Rattle.journal_model.specs.Header.{HeaderData, header_at}
use Rattle.jrnl_part.specs.Starts.{IsStart}
use Rattle.jrnl_part.specs.declared.header.Start.{Start}
use Rattle.std.specs.Int.{w32}
use Rattle.avm_num.specs.Lists.{be, sized_bytes}
use Rattle.journal_model.specs.Journal.{is_open, items_at, longest_record, HasRoom}
use Rattle.jrnl_store.specs.declared.reading.Gate.{Gate}
use Rattle.jrnl_store.specs.declared.reading.Gate.TheVariants as gate
use Rattle.jrnl_store.specs.declared.reading.Found.{Found}
use Rattle.jrnl_store.specs.declared.reading.Found.TheVariants as found

-- the bytes from a gate on: it is closed; it is open, and no length stands behind it; it is open, and a length stands there
abbrev pub IsGate : Gate → List ℕ → Type 0
IsGate gate.Closed bytes = is_open bytes ≡ false
IsGate gate.Cut bytes = (rest : List ℕ) × (bytes ≡ 1 ∷ rest) × (length rest < 4)
IsGate (gate.Open size) bytes = (rest : List ℕ) × (bytes ≡ 1 ∷ (be w32 size ++ rest)) × (size < 2 ^ 32)

-- the bytes from a gate at a place on: it is closed; it is open, and no items stand behind it; it is open, and these items stand there
abbrev pub IsFound : Found → ℕ → List ℕ → List ℕ → Type 0
IsFound found.Closed place buffer bytes = is_open bytes ≡ false
IsFound found.Lacking place buffer bytes = (rest : List ℕ) × (bytes ≡ 1 ∷ rest) × (items_at place rest ≡ None)
IsFound (found.Items size) place buffer bytes =
    (b : ℕ) × (rest : List ℕ) × (bytes ≡ 1 ∷ (sized_bytes (be w32) (take size buffer) ++ b ∷ rest)) × HasRoom place (take size buffer) × (length (take size buffer) ≡ size)

-- how many bytes of items there are
abbrev pub IsSized : Found → ℕ → Type 0
IsSized found.Closed place = Unit {0}
IsSized found.Lacking place = Unit {0}
IsSized (found.Items size) place = (1 ≤ size) × (size ≤ longest_record) × (place + 5 + size < 2 ^ 30)

-- where a journal starts whose header stands at the front of the bytes
abbrev pub IsStartOf : Option Start → List ℕ → Type 0
IsStartOf r was = MatchOption r (header_at was ≡ None) (λ s. (h : HeaderData) × (rest : List ℕ) × (header_at was ≡ Some (h, rest)) × IsStart s h × (s.front + length rest ≡ length was))
