-- Journals (docs/FORMATS.md, "Journal"): a header, records of parts, and perhaps the mark that ends it. On a disk a gate stands
-- before each record: the byte 1 is open, every other byte is closed and ends the journal.
use Rattle.std.specs.Prelude.{◌≡◌, ℕ, zero, suc, ◌+◌, ◌-◌, ◌^◌, ◌<◌, ◌≤◌, ◌==◌, ◌&&◌, not, nat_lt, nat_le, Bool, true, false, List, [], ◌∷◌, ◌++◌, length, drop, Option, Some, None, is_none, if◌then◌else◌}
use Rattle.std.specs.List.{flat_map}
use Rattle.std.specs.Int.{w32, w64}
use Rattle.avm_num.specs.Bytes.{◌>>=◌, number_at, kept}
use Rattle.avm_num.specs.Lists.{sized_at}
use Rattle.avm_num.specs.Walk.{is_nil, all_at}
use Rattle.avm_model.specs.Frame.{FrameData}
use Rattle.avm_model.specs.Chain.{top_of}
use Rattle.journal_model.specs.Part.{Part, entry, seal, keep, pages_of, PageData, part_at, frames_in, items_in, signing}
use Rattle.journal_model.specs.Header.{HeaderData, header_at, most_leaves, pages_in}

pub record JournalData : Type 0 where
  pub header : HeaderData
  pub records : List (List Part)
  pub mark : Option ℕ

-- ---- what a journal holds

unfoldable pub parts : JournalData → List Part
parts j = flat_map (λ (r : List Part). r) j.records

unfoldable pub entries : JournalData → List FrameData
entries j = frames_in (parts j)

-- its items: entries and seals
unfoldable pub items : JournalData → List Part
items j = items_in (parts j)

-- the number of the next entry
unfoldable pub next_number : JournalData → ℕ
next_number j = j.header.first + length (entries j)

-- the hash of the last entry
unfoldable pub last_hash : JournalData → List ℕ
last_hash j = top_of j.header.before (entries j)

-- how many leaves are used
unfoldable pub used : JournalData → ℕ
used j = j.header.leaves + signing (parts j)

-- ---- what a record may hold

-- the first entry is BOOT where its number is 1, else SNAP; no later one is BOOT
abbrev pub may_stand : ℕ → ℕ → ℕ → Bool
may_stand first seq kind = if seq == first then (if first == 1 then kind == 1 else kind == 2) else not (kind == 1)

abbrev pub snap_of : FrameData → Option ℕ
snap_of f = if f.kind == 2 then Some f.seq else None

abbrev pub is_number : Option ℕ → ℕ → Bool
is_number None n = false
is_number (Some m) n = n == m

-- page numbers ascend from n on, below a bound
abbrev pub pages_ascend : ℕ → ℕ → List PageData → Bool
pages_ascend n most [] = true
pages_ascend n most (p ∷ ps) = nat_le n p.number && nat_lt p.number most && pages_ascend (p.number + 1) most ps

-- Entry numbers run on from n. A seal stands behind an entry. A keep stands directly behind its SNAP entry, whose number is `snap`.
abbrev pub follows : ℕ → ℕ → ℕ → Option ℕ → List Part → Bool
follows first pages n snap [] = true
follows first pages n snap (entry f ∷ ps) = f.seq == n && may_stand first n f.kind && follows first pages (n + 1) (snap_of f) ps
follows first pages n snap (seal ∷ ps) = nat_lt first n && follows first pages n None ps
follows first pages n snap (keep k ∷ ps) = is_number snap k.seq && pages_ascend 0 pages (pages_of k) && follows first pages n None ps

abbrev pub count_or_zero : Option ℕ → ℕ
count_or_zero None = 0
count_or_zero (Some n) = n

abbrev pub page_count_of : JournalData → ℕ
page_count_of j = count_or_zero (pages_in j.header.head)

-- the parts continue the journal
unfoldable pub continues : JournalData → List Part → Bool
continues j ps = follows j.header.first (page_count_of j) (next_number j) None ps && nat_le (used j + signing ps) (most_leaves j.header.key)

-- a SNAP entry has this number
abbrev pub has_snap : ℕ → List FrameData → Bool
has_snap n [] = false
has_snap n (f ∷ fs) = if f.seq == n then f.kind == 2 else has_snap n fs

-- ---- records

-- the journal with one record more
abbrev pub with_record : JournalData → List Part → JournalData
with_record j ps = record j { records = j.records ++ ps ∷ [] }

unfoldable pub with_parts : JournalData → List ℕ → Option JournalData
with_parts j items = do
  ps ← all_at part_at items
  kept (continues j ps) (with_record j ps)

-- the number of a mark
unfoldable pub mark_at : List ℕ → Option ℕ
mark_at bytes = do
  number ← number_at w64 bytes
  kept (is_nil number.1) number.0

-- the mark alone, which names a SNAP entry
unfoldable pub with_mark : JournalData → List ℕ → Option JournalData
with_mark j items = do
  number ← mark_at items
  kept (has_snap number (entries j)) (record j { mark = Some number })

abbrev pub begins_mark : List ℕ → Bool
begins_mark [] = false
begins_mark (tag ∷ items) = tag == 4

-- the journal with the record that these items are
unfoldable pub joined : JournalData → List ℕ → Option JournalData
joined j items = if begins_mark items then with_mark j (drop 1 items) else with_parts j items

-- ---- reading

-- a gate: the journal before it, its place, and the bytes from it on
pub record Gate : Type 0 where
  pub journal : JournalData
  pub place : ℕ
  pub bytes : List ℕ

abbrev pub is_open : List ℕ → Bool
is_open [] = false
is_open (gate ∷ bytes) = gate == 1

abbrev pub longest_record : ℕ
longest_record = 2 ^ 25

-- the items of a record fit: their number, and the place of the next gate, whose byte stands behind them
abbrev pub has_room : ℕ → List ℕ → List ℕ → Bool
has_room place items behind = nat_le 1 (length items) && nat_le (length items) longest_record && not (is_nil behind) && nat_lt (place + 5 + length items) (2 ^ 30)

-- the same of items that something stands behind
pub record HasRoom (place : ℕ) (items : List ℕ) : Type 0 where
  pub some : 1 ≤ length items
  pub few : length items ≤ longest_record
  pub below : place + 5 + length items < 2 ^ 30

-- the items of a record behind an open gate, and the bytes from the next gate on
unfoldable pub items_at : ℕ → List ℕ → Option (List ℕ × List ℕ)
items_at place bytes = do
  items ← sized_at (number_at w32) bytes
  kept (has_room place items.0 items.1) items

-- the gate behind the record of an open one, where a record stands there; none stands behind a mark
unfoldable pub next_gate : Gate → Option Gate
next_gate g = do
  items ← items_at g.place (drop 1 g.bytes)
  next ← joined g.journal items.0
  kept (is_none g.journal.mark) (record { journal = next; place = g.place + 5 + length items.0; bytes = items.1 })

-- what bytes stand for
pub data Outcome : Type 0 where
  NoStore : Outcome
  Damaged : ℕ → Outcome
  Is : JournalData → Outcome

-- at a closed gate: a journal has a record
abbrev pub ended_with : List (List Part) → JournalData → Outcome
ended_with [] j = NoStore
ended_with (r ∷ rs) j = Is j

abbrev pub ended : JournalData → Outcome
ended j = ended_with j.records j

abbrev pub passed : ℕ → Option Gate → (Gate → Outcome) → Outcome
passed place None go_on = Damaged place
passed place (Some g) go_on = go_on g

-- from a gate on, over at most n records
abbrev pub walk_gates : ℕ → Gate → Outcome
walk_gates zero g = ended g.journal
walk_gates (suc n) g = if is_open g.bytes then passed g.place (next_gate g) (walk_gates n) else ended g.journal

-- from a gate on: each record has a byte or more
unfoldable pub journal_from : Gate → Outcome
journal_from g = walk_gates (length g.bytes) g

-- the first gate, behind a header
abbrev pub first_gate : ℕ → HeaderData × List ℕ → Gate
first_gate len h = record { journal = record { header = h.0; records = []; mark = None }; place = len - length h.1; bytes = h.1 }

abbrev pub behind_header : ℕ → Option (HeaderData × List ℕ) → Outcome
behind_header len None = NoStore
behind_header len (Some h) = journal_from (first_gate len h)

unfoldable pub journal_of : List ℕ → Outcome
journal_of bytes = behind_header (length bytes) (header_at bytes)

-- Bytes before a gate of a journal: whatever stands at the gate and behind it, reading goes on there.
abbrev pub IsFront : JournalData → List ℕ → Type 0
IsFront j front = (gate : ℕ) (rest : List ℕ) → journal_of (front ++ gate ∷ rest) ≡ journal_from (record { journal = j; place = length front; bytes = gate ∷ rest })
