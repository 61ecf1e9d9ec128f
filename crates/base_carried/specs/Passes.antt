-- Two readings of a journal for the entries that a base carries.
use Rattle.std.specs.Prelude.{◌≡◌, ℕ, ◌+◌, ◌≤◌, ◌==◌, ◌++◌, map, filter, flat_map, min, List, [], ◌∷◌, length, if◌then◌else◌}
use Rattle.std.specs.List.{AllByRecursion, list_any}
use Rattle.avm_num.specs.Lists.{list_bytes}
use Rattle.avm_model.specs.Machine.{State}
use Rattle.avm_model.specs.declared.Peer.{Peer}
use Rattle.base_model.specs.Base.{carried_of, earlier, row_numbers}
use Rattle.journal_model.specs.Header.{CarriedData}
use Rattle.journal_model.specs.Journal.{JournalData}
use Rattle.journal_model.specs.Spelling.{carried_bytes}
use Rattle.jrnl_store.specs.Items.{ItemData}
use Rattle.open_pass.specs.Tickets.{IsSignedBy}
use Rattle.base_carried.specs.Rows.{has_number, is_chosen, noted_entry}
use Rattle.base_carried.specs.declared.finding.Finding.{Finding}
use Rattle.base_carried.specs.declared.picking.Picking.{Picking}
use Rattle.base_carried.specs.declared.reading.Carried.{Carried}
use Rattle.base_carried.specs.declared.row.Row.{Row}

-- ---- the first reading

abbrev pub row_over : ℕ → List CarriedData → Row → Row
row_over n [] r = r
row_over n (e ∷ es) r = row_over n es (noted_entry n e.frame r)

-- one item more
pub record Finds (old : Finding) (x : ItemData) (new : Finding) : Type 0 where
  pub number : new.number ≡ old.number
  pub rows : (es : List CarriedData) → IsSignedBy x es → new.rows.items ≡ map (row_over old.number es) old.rows.items

-- the rows have found what a base carries
abbrev pub IsFound : JournalData → ℕ → List Peer → List Row → Type 0
IsFound j n ps rows = (seq : ℕ) → list_any (has_number seq) rows ≡ list_any (λ m. m == seq) (flat_map (row_numbers (earlier n j)) ps)

-- ---- the second reading

-- a content within the limit of a signed entry
abbrev pub IsShort : CarriedData → Type 0
IsShort e = length e.frame.content ≤ 32768

abbrev pub picked : ℕ → List Row → List CarriedData → List CarriedData
picked n rows es = filter (λ e. is_chosen n rows e.frame.seq) es

-- how many are chosen; a count past 255 stays there
abbrev pub one_more : ℕ → List Row → ℕ → ℕ → ℕ
one_more n rows seq count = if is_chosen n rows seq then min (count + 1) 255 else count

abbrev pub counted : ℕ → List Row → List CarriedData → ℕ → ℕ
counted n rows [] count = count
counted n rows (e ∷ es) count = counted n rows es (one_more n rows e.frame.seq count)

-- entries more
pub record TakesAll (old new : Picking) (es : List CarriedData) : Type 0 where
  pub bytes : new.bytes.items ≡ old.bytes.items ++ list_bytes carried_bytes (picked old.number old.rows.items es)
  pub count : new.count ≡ counted old.number old.rows.items es old.count

-- one item more
pub record Picks (old : Picking) (x : ItemData) (new : Picking) : Type 0 where
  pub number : new.number ≡ old.number
  pub rows : new.rows.items ≡ old.rows.items
  pub takes : (es : List CarriedData) → IsSignedBy x es → AllByRecursion IsShort es → TakesAll old new es

-- the entries that a base carries, by the peers' rows of the state there; a count past 255 stays there
pub record IsCarried (j : JournalData) (n : ℕ) (ps : List Peer) (c : Carried) : Type 0 where
  pub bytes : (s : State) → s.devices.peers ≡ ps → c.bytes.items ≡ list_bytes carried_bytes (carried_of j n s)
  pub count : (s : State) → s.devices.peers ≡ ps → c.count ≡ min (length (carried_of j n s)) 255
