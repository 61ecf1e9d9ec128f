-- What opening a store answers, and what it makes of the journal.
use Rattle.std.specs.Prelude.{◌≡◌, ◌*◌, get_or, length, ◌⊎◌, ◌<◌, ◌≤◌, ℕ, true, false, List, None, Some, Result, Ok, Err}
use Rattle.avm_model.specs.HeadReading.{head_of}
use Rattle.avm_model.specs.Machine.{MachineState}
use Rattle.avm_model.specs.Pages.{page_of}
use Rattle.avm_model.specs.Keys.{KeyData, public_of}
use Rattle.honest_model.specs.KeepPages.{IsKeptRam}
use Rattle.honest_model.specs.Keeps.{IsOpenFault, IsOpened}
use Rattle.journal_model.specs.Journal.{Damaged, Is, JournalData, NoStore, journal_of, parts}
use Rattle.jrnl_store.specs.Kept.{Kept, kept as kept_of}
use Rattle.jrnl_store.specs.Own.{IsOwn}
use Rattle.jrnl_store.specs.declared.journal.Journal.{Journal}
use Rattle.keep_judge.specs.Good.{pages_fit}
use Rattle.record_kept.specs.Tickets.{AreKeptOf}
use Rattle.record_parts.specs.Outs.{ram_in}
use Rattle.record_ready.specs.Ready.{IsSteady}
use Rattle.record_turn.specs.Desk.{rows_of}
use Rattle.record_turn.specs.declared.desk.Desk.{Desk}
use Rattle.open_replay.specs.Replayed.{HasLaterSnap}
use Rattle.record_open.specs.declared.fault.RecordFault.{RecordFault}
use Rattle.record_open.specs.declared.fault.RecordFault.TheVariants as fault

-- a journal's header has a head, the journal has no mark, and its key is the signer's
pub record IsAllowed (who : KeyData) (j : JournalData) : Type 0 where
  pub head : head_of j.header.head ≡ None → ⊥
  pub mark : j.mark ≡ None
  pub key : j.header.key ≡ public_of who

-- The parts of a recorder are those of a journal: the machine is the one that opening it gives; the tickets are kept for sending again;
-- a page of its RAM without a mark is as header and keeps have it; the next keep has all pages exactly where a SNAP stands behind
-- the base, other than the journal's first entry; and a clock waits only where the machine asks for it and can step.
pub record IsDesk (j : JournalData) (d : Desk) : Type 0 where
  pub fault : IsOpenFault j None
  pub machine : IsOpened j d.machine.state
  pub tickets : AreKeptOf (rows_of d.kept) j
  pub marks : IsKeptRam j.header (parts j) (ram_in d.machine)
  pub all : HasLaterSnap j d.all
  pub steady : IsSteady d.machine.state

-- A machine's RAM has so many pages, and so has another; each page without a mark is as the other has it.
pub record IsSettled (m : MachineState) (other : List ℕ) (n : ℕ) : Type 0 where
  pub count : length m.dirty ≡ n
  pub size : length m.state.ram ≡ 4096 * length m.dirty
  pub len : length other ≡ length m.state.ram
  pub same : (i : ℕ) → i < length m.dirty → get_or m.dirty i false ≡ false → page_of other i ≡ page_of m.state.ram i

-- what the journal on a disk is opened to
abbrev pub Opens : KeyData → JournalData → Result Desk RecordFault → Type 0
Opens who j (Ok d) = IsAllowed who j × IsDesk j d
Opens who j (Err fault.NoMemory) = Unit {0}
Opens who j (Err fault.DiskFault) = Unit {0}
Opens who j (Err fault.NoStore) = head_of j.header.head ≡ None
Opens who j (Err (fault.Damaged p)) = ⊥
Opens who j (Err (fault.Retired n)) = (head_of j.header.head ≡ None → ⊥) × (j.mark ≡ Some n)
Opens who j (Err fault.KeyMismatch) = (head_of j.header.head ≡ None → ⊥) × (j.mark ≡ None) × (j.header.key ≡ public_of who → ⊥)
Opens who j (Err (fault.Unreplayed n)) = IsAllowed who j × IsOpenFault j (Some n)

-- what opening tells of a disk's bytes, and of the images that a crash may leave
abbrev pub AttachAnswers : KeyData → Result Desk RecordFault → (List ℕ → Type 0) → List ℕ → Type 0
AttachAnswers who (Ok d) images was = (j : JournalData) × (journal_of was ≡ Is j) × IsOwn (kept_of d.store.journal) images was j × Opens who j (Ok d)
AttachAnswers who (Err fault.NoMemory) images was = Unit {0}
AttachAnswers who (Err fault.DiskFault) images was = Unit {0}
AttachAnswers who (Err fault.NoStore) images was = (journal_of was ≡ NoStore) ⊎ ((j : JournalData) × (journal_of was ≡ Is j) × Opens who j (Err fault.NoStore))
AttachAnswers who (Err (fault.Damaged p)) images was = journal_of was ≡ Damaged p
AttachAnswers who (Err (fault.Retired n)) images was = (j : JournalData) × (journal_of was ≡ Is j) × Opens who j (Err (fault.Retired n))
AttachAnswers who (Err fault.KeyMismatch) images was = (j : JournalData) × (journal_of was ≡ Is j) × Opens who j (Err fault.KeyMismatch)
AttachAnswers who (Err (fault.Unreplayed n)) images was = (j : JournalData) × (journal_of was ≡ Is j) × Opens who j (Err (fault.Unreplayed n))

-- what opening the journal alone tells
abbrev pub JournalAnswers : Result Journal RecordFault → (List ℕ → Type 0) → List ℕ → Type 0
JournalAnswers (Ok v) images was = (j : JournalData) × (journal_of was ≡ Is j) × IsOwn (kept_of v) images was j
JournalAnswers (Err fault.NoMemory) images was = Unit {0}
JournalAnswers (Err fault.DiskFault) images was = Unit {0}
JournalAnswers (Err fault.NoStore) images was = journal_of was ≡ NoStore
JournalAnswers (Err (fault.Damaged p)) images was = journal_of was ≡ Damaged p
JournalAnswers (Err (fault.Retired n)) images was = ⊥
JournalAnswers (Err fault.KeyMismatch) images was = ⊥
JournalAnswers (Err (fault.Unreplayed n)) images was = ⊥

-- why a journal that is kept so, with this head, isn't opened
abbrev pub Refuses : Kept → KeyData → List ℕ → RecordFault → Type 0
Refuses k who head fault.NoMemory = ⊥
Refuses k who head fault.DiskFault = ⊥
Refuses k who head fault.NoStore = (pages_fit k.bounds.pages (head_of head) ≡ false) ⊎ (k.standing.next ≤ k.bounds.first)
Refuses k who head (fault.Damaged p) = ⊥
Refuses k who head (fault.Retired n) = (pages_fit k.bounds.pages (head_of head) ≡ true) × (k.mark ≡ Some n)
Refuses k who head fault.KeyMismatch = (pages_fit k.bounds.pages (head_of head) ≡ true) × (k.mark ≡ None) × (k.key ≡ public_of who → ⊥)
Refuses k who head (fault.Unreplayed n) = ⊥

-- nothing of this stands against it
pub record Allows (k : Kept) (who : KeyData) (head : List ℕ) : Type 0 where
  pub fits : pages_fit k.bounds.pages (head_of head) ≡ true
  pub begun : k.bounds.first < k.standing.next
  pub mark : k.mark ≡ None
  pub key : k.key ≡ public_of who
