-- The items of a journal: carried entries, and what each part is, with what signs it.
use Rattle.std.specs.Prelude.{false, ◌&&◌, ◌+◌, ◌-◌, ◌^◌, ◌<◌, ◌==◌, ◌≡◌, nat_lt, ℕ, Bool, is_some, List, [], ◌∷◌, ◌++◌, ◌≤◌, map, true, take, Option, None, Some, IfSome, option_map, if◌then◌else◌, Result, Ok, Err}
use Rattle.avm_num.specs.Bytes.{◌>>=◌}
use Rattle.avm_num.specs.Lists.{list_at, read_of}
use Rattle.avm_num.specs.Walk.{all_at, items_of}
use Rattle.avm_model.specs.Frame.{FrameData}
use Rattle.log_entry.specs.Views.{frame_view}
use Rattle.journal_model.specs.Part.{Part, entry, seal, keep, KeepData, part_at, is_signed_kind}
use Rattle.journal_model.specs.Header.{CarriedData, carried_at}
use Rattle.journal_model.specs.Journal.{JournalData, parts, longest_record}
use Rattle.journal_model.specs.Standing.{StandingData, SignedData, Bounds, IsLow, entry_signed, seal_signed, behind, start, standing, judged}
use Rattle.jrnl_part.specs.Views.{keep_view, standing_view, bounds_view}
use Rattle.jrnl_part.specs.Carriage.{carried_signed}
use Rattle.jrnl_store.specs.Kept.{Kept, ticket_view}
use Rattle.jrnl_store.specs.Own.{IsCursor}
use Rattle.jrnl_store.specs.declared.items.Item.{Item}
use Rattle.jrnl_store.specs.declared.items.Item.TheVariants as item
use Rattle.jrnl_store.specs.declared.snaps.Seek.{Seek}
use Rattle.jrnl_store.specs.declared.snaps.Seek.TheVariants as seek
use Rattle.jrnl_store.specs.declared.cursor.Cursor.{Cursor}
use Rattle.jrnl_store.specs.declared.cursor.Record.{Record}
use Rattle.jrnl_part.specs.declared.standing.Bounds.{Bounds as BoundsValue}
use Rattle.jrnl_store.specs.declared.fault.StoreFault.{StoreFault}
use Rattle.jrnl_store.specs.declared.fault.StoreFault.TheVariants as fault

pub data ItemData : Type 0 where
  carried_item : FrameData → SignedData → ItemData
  entry_item : FrameData → Option SignedData → ItemData
  seal_item : SignedData → ItemData
  keep_item : KeepData → ItemData

-- a carried entry keeps its own leaf
abbrev pub carried_of : CarriedData → ItemData
carried_of c = carried_item c.frame (carried_signed c)

abbrev pub carried_items : List CarriedData → List ItemData
carried_items cs = map carried_of cs

-- a part where a journal stands so: SEND and RECV are signed, and each seal
abbrev pub item_of : StandingData → Part → ItemData
item_of s (entry f) = entry_item f (if is_signed_kind f.kind then Some (entry_signed s f) else None)
item_of s seal = seal_item (seal_signed s)
item_of s (keep k) = keep_item k

abbrev pub items_from : StandingData → List Part → List ItemData
items_from s [] = []
items_from s (p ∷ ps) = item_of s p ∷ items_from (behind s p) ps

-- the items that its records hold
unfoldable pub part_items : JournalData → List ItemData
part_items j = items_from (start j.header) (parts j)

-- all items of a journal in order: those that it carries stand first
unfoldable pub items_in : JournalData → List ItemData
items_in j = carried_items j.header.carried ++ part_items j

abbrev pub item_view : Item → ItemData
item_view (item.Carried f t) = carried_item (frame_view f) (ticket_view t)
item_view (item.Entry f t) = entry_item (frame_view f) (option_map ticket_view t)
item_view (item.Seal t) = seal_item (ticket_view t)
item_view (item.Keep k) = keep_item (keep_view k)

-- a ticket's leaf is below a bound
abbrev pub IsLowItem : ℕ → ItemData → Type 0
IsLowItem most (carried_item f s) = s.leaf < most
IsLowItem most (entry_item f t) = IfSome t (λ s. s.leaf < most)
IsLowItem most (seal_item s) = s.leaf < most
IsLowItem most (keep_item k) = Unit {0}

-- ---- what a buffer holds

-- whole parts stand in the bytes, which fit where a journal stands so
abbrev pub are_whole : Bounds → StandingData → Option ℕ → List ℕ → Bool
are_whole b s snap bytes = is_some (all_at part_at bytes >>= λ ps. judged b s snap ps)

-- every leaf is below a bound
abbrev pub all_low : ℕ → List CarriedData → Bool
all_low most [] = true
all_low most (c ∷ cs) = nat_lt c.leaf most && all_low most cs

abbrev pub read_low : ℕ → Option (List CarriedData × List ℕ) → Bool
read_low most None = false
read_low most (Some p) = all_low most p.0

-- so many carried entries stand in the bytes, with low leaves
abbrev pub carried_fit : ℕ → ℕ → List ℕ → Bool
carried_fit most n bytes = read_low most (list_at carried_at n bytes)

-- what they are
abbrev pub carried_list : ℕ → List ℕ → List ItemData
carried_list n bytes = carried_items (read_of (list_at carried_at n bytes))

-- a count, and that many of them
abbrev pub carriage_fits : ℕ → List ℕ → Bool
carriage_fits most [] = false
carriage_fits most (n ∷ bytes) = carried_fit most n bytes

abbrev pub carriage_items : List ℕ → List ItemData
carriage_items [] = []
carriage_items (n ∷ bytes) = carried_list n bytes

-- the bytes are carried entries, or a whole record
abbrev pub is_held : Bounds → Record → List ℕ → Bool
is_held b r bytes = if r.carried then carriage_fits b.most bytes else are_whole b (standing_view r.stand) None bytes

pub record IsHeld (b : BoundsValue) (buffer : List ℕ) (r : Record) : Type 0 where
  pub few : r.size ≤ longest_record + 5
  pub low : IsLow (bounds_view b) (standing_view r.stand)
  pub whole : is_held (bounds_view b) r (take r.size buffer) ≡ true

abbrev pub given_items : Record → List ℕ → List ItemData
given_items r bytes = if r.carried then carriage_items bytes else items_from (standing_view r.stand) (items_of part_at bytes)

abbrev pub held_items : List ℕ → Record → List ItemData
held_items buffer r = given_items r (take r.size buffer)

-- ---- what is left from a cursor on

-- a cursor in front of these items of a journal's records, the last that it has
pub record PartsLeft (k : Kept) (was : List ℕ) (c : Cursor) (j : JournalData) (left : List ItemData) : Type 0 where
  pub so_far : JournalData
  pub cursor : IsCursor c.place (take k.gate was) so_far
  pub stands : standing_view c.stand ≡ standing so_far
  pub items : part_items j ≡ part_items so_far ++ left

-- what a journal carries, where a cursor stands before it
abbrev pub carried_left : Bool → JournalData → List ItemData
carried_left true j = carried_items j.header.carried
carried_left false j = []

-- a cursor in front of these items of a journal, the last that it has
pub record IsLeft (k : Kept) (was : List ℕ) (c : Cursor) (j : JournalData) (left : List ItemData) : Type 0 where
  pub rest : List ItemData
  pub behind : PartsLeft k was c j rest
  pub items : left ≡ carried_left c.carried j ++ rest
  pub carries : c.carried ≡ true → (j.header.first == 1) ≡ false

-- what moving a cursor tells, which was in front of these items: none is left, or the first of them are given
abbrev pub MovedAnswers : {T : Type 0} → (T → List ItemData) → (List ItemData → Type 0) → List ItemData → Result (Option T) StoreFault → Type 0
MovedAnswers items Rest left (Ok None) = left ≡ []
MovedAnswers items Rest left (Ok (Some given)) = (rest : List ItemData) × (left ≡ items given ++ rest) × Rest rest
MovedAnswers items Rest left (Err fault.NoMemory) = ⊥
MovedAnswers items Rest left (Err fault.DiskFault) = Unit {0}
MovedAnswers items Rest left (Err fault.NotEmpty) = ⊥
MovedAnswers items Rest left (Err fault.NoStore) = ⊥
MovedAnswers items Rest left (Err (fault.Damaged p)) = ⊥
MovedAnswers items Rest left (Err fault.LeavesSpent) = ⊥
MovedAnswers items Rest left (Err fault.Full) = ⊥
MovedAnswers items Rest left (Err (fault.Ended s)) = ⊥

abbrev pub PartsAnswers : List ℕ → Kept → List ℕ → Cursor → JournalData → List ItemData → Result (Option Record) StoreFault → Type 0
PartsAnswers buffer k was c j left r = MovedAnswers (held_items buffer) (PartsLeft k was c j) left r

abbrev pub ItemsAnswers : List ℕ → Kept → List ℕ → Cursor → JournalData → List ItemData → Result (Option Record) StoreFault → Type 0
ItemsAnswers buffer k was c j left r = MovedAnswers (held_items buffer) (IsLeft k was c j) left r

-- how many moves a cursor has at most
abbrev pub moves_left : Cursor → ℕ
moves_left c = 2 ^ 30 - c.place + (if c.carried then 1 else 0)

-- ---- seeking an entry

-- whether the first entry of a number among items is a SNAP entry
abbrev pub snap_left : ℕ → List ItemData → Bool
snap_left n [] = false
snap_left n (carried_item f s ∷ xs) = snap_left n xs
snap_left n (entry_item f t ∷ xs) = if f.seq == n then f.kind == 2 else snap_left n xs
snap_left n (seal_item s ∷ xs) = snap_left n xs
snap_left n (keep_item k ∷ xs) = snap_left n xs

-- the first entry of a number among items
abbrev pub frame_numbered : ℕ → List ItemData → Option FrameData
frame_numbered n [] = None
frame_numbered n (carried_item f s ∷ xs) = if f.seq == n then Some f else frame_numbered n xs
frame_numbered n (entry_item f t ∷ xs) = if f.seq == n then Some f else frame_numbered n xs
frame_numbered n (seal_item s ∷ xs) = frame_numbered n xs
frame_numbered n (keep_item k ∷ xs) = frame_numbered n xs

abbrev pub disk_fault : StoreFault
disk_fault = fault.DiskFault

-- what the next record tells of an entry's number: the entry stands there; the items behind it tell; there is none
abbrev pub SeekAnswers : Kept → List ℕ → Cursor → JournalData → ℕ → List ItemData → Seek → Type 0
SeekAnswers k was c j n left (seek.Found b) = snap_left n left ≡ b
SeekAnswers k was c j n left seek.Passed = (rest : List ItemData) × PartsLeft k was c j rest × (snap_left n left ≡ snap_left n rest)
SeekAnswers k was c j n left seek.Ended = snap_left n left ≡ false

-- a cursor goes on, where there may be a further record
abbrev pub GoesOn : Seek → ℕ → ℕ → Type 0
GoesOn (seek.Found b) old new = Unit {0}
GoesOn seek.Passed old new = (old < new) × (old < 2 ^ 30)
GoesOn seek.Ended old new = Unit {0}
