-- The journal's own disk: what its bytes are, and what each crash leaves of them.
use Rattle.std.specs.Prelude.{◌≡◌, ◌⊎◌, ◌+◌, ◌^◌, ◌≤◌, ℕ, Bool, true, false, List, [], ◌∷◌, ◌++◌, length, take, drop, Option, None, Some, Result, Ok, Err}
use Rattle.avm_num.specs.Walk.{all_at}
use Rattle.journal_model.specs.Part.{part_at, parts_of, signing}
use Rattle.journal_model.specs.Header.{header_at}
use Rattle.journal_model.specs.Saving.{CommitRefusal, NoLeaf, NoRoom, last_gate}
use Rattle.journal_model.specs.Journal.{JournalData, follows, with_record, joined, with_mark, longest_record, Is, Damaged, NoStore, is_open, ended, journal_of, IsFront}
use Rattle.journal_model.specs.Standing.{StandingData, IsLow, standing, bounds, continued}
use Rattle.avm_outside.specs.Moments.{Begins, IsShut, Reaches}
use Rattle.avm_outside.specs.Outside.{Rises}
use Rattle.jrnl_store.specs.Writing.{Each}
use Rattle.jrnl_store.specs.Kept.{Kept, kept}
use Rattle.jrnl_store.specs.declared.journal.Journal.{Journal}
use Rattle.jrnl_store.specs.declared.fault.StoreFault.{StoreFault}
use Rattle.jrnl_store.specs.declared.fault.StoreFault.TheVariants as fault
use Rattle.jrnl_store.specs.declared.fault.Stop.TheVariants as stop

-- the value keeps what the journal has
pub record AreKept (k : Kept) (j : JournalData) : Type 0 where
  pub key : k.key ≡ j.header.key
  pub before : k.before ≡ j.header.before
  pub bounds : k.bounds ≡ bounds j
  pub head_len : k.head_len ≡ length j.header.head
  pub leaves : k.leaves ≡ j.header.leaves
  pub standing : k.standing ≡ standing j
  pub mark : k.mark ≡ j.mark

-- the journal without its records and its mark
abbrev pub bare : JournalData → JournalData
bare j = record { header = j.header; records = []; mark = None }

-- the header stands before a place, at the front of the bytes
pub record HasBase (place : ℕ) (front : List ℕ) (j : JournalData) : Type 0 where
  pub header : List ℕ
  pub tail : List ℕ
  pub at : length header ≡ place
  pub reads : (rest : List ℕ) → header_at (header ++ rest) ≡ Some (j.header, rest)
  pub starts : IsFront (bare j) header
  pub read : front ≡ header ++ tail

-- the bytes before the last gate's place stand for the journal, and a byte stands at the gate
pub record IsAt (k : Kept) (was : List ℕ) (j : JournalData) : Type 0 where
  pub front : List ℕ
  pub place : length front ≡ k.gate
  pub last : k.gate ≡ last_gate j
  pub stands : IsFront j front
  pub keeps : AreKept k j
  pub base : HasBase k.front front j
  pub read : (gate : ℕ) × (rest : List ℕ) × (was ≡ front ++ gate ∷ rest)
  pub begun : (k.gate ≡ k.front) × (j.records ≡ []) ⊎ (ended j ≡ Is j)

-- what reading one record more tells: the gate was closed; the journal has one record more; the bytes are damaged there
abbrev pub StepAnswers : Kept → Kept → List ℕ → JournalData → Result Bool StoreFault → Type 0
StepAnswers k new was j (Ok false) = (journal_of was ≡ ended j) × IsAt new was j × (is_open (drop new.gate was) ≡ false)
StepAnswers k new was j (Ok true) = (next : JournalData) × IsAt new was next × (ended next ≡ Is next)
StepAnswers k new was j (Err fault.NoMemory) = ⊥
StepAnswers k new was j (Err fault.DiskFault) = Unit {0}
StepAnswers k new was j (Err fault.NotEmpty) = ⊥
StepAnswers k new was j (Err fault.NoStore) = ⊥
StepAnswers k new was j (Err (fault.Damaged p)) = journal_of was ≡ Damaged p
StepAnswers k new was j (Err fault.LeavesSpent) = ⊥
StepAnswers k new was j (Err fault.Full) = ⊥
StepAnswers k new was j (Err (fault.Ended s)) = ⊥

-- what reading all records that follow tells
abbrev pub RestAnswers : Kept → List ℕ → Result (Unit {0}) StoreFault → Type 0
RestAnswers new was (Ok t) = (next : JournalData) × (journal_of was ≡ Is next) × IsAt new was next × (is_open (drop new.gate was) ≡ false)
RestAnswers new was (Err fault.NoMemory) = ⊥
RestAnswers new was (Err fault.DiskFault) = Unit {0}
RestAnswers new was (Err fault.NotEmpty) = ⊥
RestAnswers new was (Err fault.NoStore) = ⊥
RestAnswers new was (Err (fault.Damaged p)) = journal_of was ≡ Damaged p
RestAnswers new was (Err fault.LeavesSpent) = ⊥
RestAnswers new was (Err fault.Full) = ⊥
RestAnswers new was (Err (fault.Ended s)) = ⊥

-- and all records
abbrev pub WalkAnswers : Kept → List ℕ → Result (Unit {0}) StoreFault → Type 0
WalkAnswers new was (Ok t) = (next : JournalData) × (journal_of was ≡ Is next) × IsAt new was next × (is_open (drop new.gate was) ≡ false)
WalkAnswers new was (Err fault.NoMemory) = ⊥
WalkAnswers new was (Err fault.DiskFault) = Unit {0}
WalkAnswers new was (Err fault.NotEmpty) = ⊥
WalkAnswers new was (Err fault.NoStore) = journal_of was ≡ NoStore
WalkAnswers new was (Err (fault.Damaged p)) = journal_of was ≡ Damaged p
WalkAnswers new was (Err fault.LeavesSpent) = ⊥
WalkAnswers new was (Err fault.Full) = ⊥
WalkAnswers new was (Err (fault.Ended s)) = ⊥

-- what reading a header tells: a journal that has no record yet, or none
abbrev pub OpenAnswers : Result Journal StoreFault → List ℕ → Type 0
OpenAnswers (Ok v) was = (j : JournalData) × IsAt (kept v) was j × (j.records ≡ [])
OpenAnswers (Err fault.NoMemory) was = Unit {0}
OpenAnswers (Err fault.DiskFault) was = Unit {0}
OpenAnswers (Err fault.NotEmpty) was = ⊥
OpenAnswers (Err fault.NoStore) was = journal_of was ≡ NoStore
OpenAnswers (Err (fault.Damaged p)) was = ⊥
OpenAnswers (Err fault.LeavesSpent) was = ⊥
OpenAnswers (Err fault.Full) was = ⊥
OpenAnswers (Err (fault.Ended s)) was = ⊥

-- whether items behind the mark's byte are a mark, and the value that keeps it
abbrev pub MarkAnswers : Bool → Kept → JournalData → List ℕ → Type 0
MarkAnswers true new j bytes = (n : ℕ) × (with_mark j bytes ≡ Some (record j { mark = Some n })) × (new.mark ≡ Some n)
MarkAnswers false new j bytes = with_mark j bytes ≡ None

-- whether a record of these items stands behind the journal, and the value that keeps it
abbrev pub JoinAnswers : Bool → Kept → JournalData → List ℕ → Type 0
JoinAnswers true new j items = (next : JournalData) × (joined j items ≡ Some next) × (j.mark ≡ None) × AreKept new next × (ended next ≡ Is next)
JoinAnswers false new j items = (joined j items ≡ None) ⊎ (n : ℕ) × (j.mark ≡ Some n)

-- A byte stands at the last gate. The bytes before it are the same in a read and in every image that a crash may leave; they stand for the
-- journal; and unless it has stopped, the gate is closed in the read and in each image.
pub record IsOwn (k : Kept) (images : List ℕ → Type 0) (was : List ℕ) (j : JournalData) : Type 0 where
  pub front : List ℕ
  pub place : length front ≡ k.gate
  pub last : k.gate ≡ last_gate j
  pub stands : IsFront j front
  pub begun : ended j ≡ Is j
  pub keeps : AreKept k j
  pub base : HasBase k.front front j
  pub read : Reaches front was
  pub left : Each images (Begins front)
  pub shut : k.stop ≡ None → IsShut front was
  pub left_shut : k.stop ≡ None → Each images (IsShut front)

-- whole items that continue the journal, of which at most one signs
pub record IsBatch (k : Kept) (items : List ℕ) : Type 0 where
  pub some : 1 ≤ length items
  pub few : length items ≤ longest_record
  pub whole : all_at part_at items ≡ Some (parts_of items)
  pub follows : follows k.bounds.first k.bounds.pages k.standing.next None (parts_of items) ≡ true
  pub one : signing (parts_of items) ≤ 1

-- the journal behind a commit
abbrev pub after_commit : {T : Type 0} → JournalData → List ℕ → Result T StoreFault → JournalData
after_commit j items (Ok t) = with_record j (parts_of items)
after_commit j items (Err e) = j

-- the image stands for the journal, or for it with one record more
abbrev pub StandsForEither : JournalData → List ℕ → List ℕ → Type 0
StandsForEither j items c = (journal_of c ≡ Is j) ⊎ (journal_of c ≡ Is (with_record j (parts_of items)))

-- what a batch needs that isn't refused
abbrev pub IsSpent : Kept → List ℕ → Type 0
IsSpent k items = (signing (parts_of items) ≡ 1) × (k.standing.used ≡ k.bounds.most)

abbrev pub IsFull : Kept → List ℕ → Type 0
IsFull k items = 2 ^ 30 ≤ k.gate + 5 + length items

-- where the journal stands behind a batch that has leaves
pub record IsBehind (k : Kept) (items : List ℕ) (s : StandingData) : Type 0 where
  pub leaves : IsSpent k items → ⊥
  pub value : continued k.bounds k.standing items ≡ Some s
  pub low : IsLow k.bounds s

-- the cause of each answer of a commit
abbrev pub CommitCause : {T : Type 0} → Kept → List ℕ → Result T StoreFault → Type 0
CommitCause k items (Ok t) = (k.stop ≡ None) × (IsSpent k items → ⊥) × (IsFull k items → ⊥)
CommitCause k items (Err fault.NoMemory) = ⊥
CommitCause k items (Err fault.DiskFault) = (k.stop ≡ None) × (IsSpent k items → ⊥) × (IsFull k items → ⊥)
CommitCause k items (Err fault.NotEmpty) = ⊥
CommitCause k items (Err fault.NoStore) = ⊥
CommitCause k items (Err (fault.Damaged p)) = ⊥
CommitCause k items (Err fault.LeavesSpent) = (k.stop ≡ None) × IsSpent k items
CommitCause k items (Err fault.Full) = (k.stop ≡ None) × (IsSpent k items → ⊥) × IsFull k items
CommitCause k items (Err (fault.Ended s)) = k.stop ≡ Some s

-- what saving a batch answers where the journal hadn't stopped
abbrev pub Answers : {T : Type 0} → Option CommitRefusal → Result T StoreFault → Type 0
Answers (Some NoLeaf) r = r ≡ Err fault.LeavesSpent
Answers (Some NoRoom) r = r ≡ Err fault.Full
Answers None (Ok t) = Unit {0}
Answers None (Err fault.NoMemory) = ⊥
Answers None (Err fault.DiskFault) = Unit {0}
Answers None (Err fault.NotEmpty) = ⊥
Answers None (Err fault.NoStore) = ⊥
Answers None (Err (fault.Damaged p)) = ⊥
Answers None (Err fault.LeavesSpent) = ⊥
Answers None (Err fault.Full) = ⊥
Answers None (Err (fault.Ended s)) = ⊥

-- what a commit leaves in the value
abbrev pub CommitLeaves : {T : Type 0} → Kept → List ℕ → Kept → Result T StoreFault → Type 0
CommitLeaves k items new (Ok t) = (continued k.bounds k.standing items ≡ Some new.standing) × (new ≡ record k { gate = k.gate + 5 + length items; standing = new.standing })
CommitLeaves k items new (Err fault.NoMemory) = new ≡ k
CommitLeaves k items new (Err fault.DiskFault) = new ≡ record k { stop = Some stop.DiskFault }
CommitLeaves k items new (Err fault.NotEmpty) = new ≡ k
CommitLeaves k items new (Err fault.NoStore) = new ≡ k
CommitLeaves k items new (Err (fault.Damaged p)) = new ≡ k
CommitLeaves k items new (Err fault.LeavesSpent) = new ≡ record k { stop = Some stop.LeavesSpent }
CommitLeaves k items new (Err fault.Full) = new ≡ record k { stop = Some stop.Full }
CommitLeaves k items new (Err (fault.Ended s)) = new ≡ k

-- the count of the disk's faults rises where a call answers DiskFault, and else stays
abbrev pub CountsFaults : {T : Type 0} → ℕ → ℕ → Result T StoreFault → Type 0
CountsFaults before now (Ok t) = now ≡ before
CountsFaults before now (Err fault.NoMemory) = now ≡ before
CountsFaults before now (Err fault.DiskFault) = Rises before now
CountsFaults before now (Err fault.NotEmpty) = now ≡ before
CountsFaults before now (Err fault.NoStore) = now ≡ before
CountsFaults before now (Err (fault.Damaged p)) = now ≡ before
CountsFaults before now (Err fault.LeavesSpent) = now ≡ before
CountsFaults before now (Err fault.Full) = now ≡ before
CountsFaults before now (Err (fault.Ended s)) = now ≡ before

-- what opening tells: the journal that the bytes stand for, or what they stand for in its place
abbrev pub AttachAnswers : Result Journal StoreFault → (List ℕ → Type 0) → List ℕ → Type 0
AttachAnswers (Ok v) images was = (j : JournalData) × (journal_of was ≡ Is j) × IsOwn (kept v) images was j
AttachAnswers (Err fault.NoMemory) images was = Unit {0}
AttachAnswers (Err fault.DiskFault) images was = Unit {0}
AttachAnswers (Err fault.NotEmpty) images was = ⊥
AttachAnswers (Err fault.NoStore) images was = journal_of was ≡ NoStore
AttachAnswers (Err (fault.Damaged p)) images was = journal_of was ≡ Damaged p
AttachAnswers (Err fault.LeavesSpent) images was = ⊥
AttachAnswers (Err fault.Full) images was = ⊥
AttachAnswers (Err (fault.Ended s)) images was = ⊥

-- what holds where a commit was refused before it wrote
abbrev pub WhereRefused : {T : Type 0} → Result T StoreFault → Type 0 → Type 0
WhereRefused (Ok t) P = Unit {0}
WhereRefused (Err fault.NoMemory) P = P
WhereRefused (Err fault.DiskFault) P = Unit {0}
WhereRefused (Err fault.NotEmpty) P = P
WhereRefused (Err fault.NoStore) P = P
WhereRefused (Err (fault.Damaged p)) P = P
WhereRefused (Err fault.LeavesSpent) P = P
WhereRefused (Err fault.Full) P = P
WhereRefused (Err (fault.Ended s)) P = P

-- where a cursor stands: behind some records of the journal, whose bytes before the last gate these are
pub record IsCursor (place : ℕ) (whole : List ℕ) (i : JournalData) : Type 0 where
  pub front : List ℕ
  pub tail : List ℕ
  pub at : length front ≡ place
  pub stands : IsFront i front
  pub read : whole ≡ front ++ tail

-- what reading the record at a cursor tells: the journal is whole, or what its next record is
abbrev pub NextAnswers : ℕ → List ℕ → JournalData → JournalData → List ℕ → Result (Option ℕ) StoreFault → Type 0
NextAnswers place whole i j buffer (Ok None) = i ≡ j
NextAnswers place whole i j buffer (Ok (Some size)) = (next : JournalData) × (joined i (take size buffer) ≡ Some next) × IsCursor (place + 5 + size) whole next
NextAnswers place whole i j buffer (Err fault.NoMemory) = ⊥
NextAnswers place whole i j buffer (Err fault.DiskFault) = Unit {0}
NextAnswers place whole i j buffer (Err fault.NotEmpty) = ⊥
NextAnswers place whole i j buffer (Err fault.NoStore) = ⊥
NextAnswers place whole i j buffer (Err (fault.Damaged p)) = ⊥
NextAnswers place whole i j buffer (Err fault.LeavesSpent) = ⊥
NextAnswers place whole i j buffer (Err fault.Full) = ⊥
NextAnswers place whole i j buffer (Err (fault.Ended s)) = ⊥
