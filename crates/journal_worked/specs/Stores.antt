-- A made-up store: its header, and the bytes of three records behind it.
use Rattle.std.specs.Prelude.{Option, ℕ, List, [], ◌∷◌, length, map, replicate, None}
use Rattle.avm_model.specs.Auth.{AuthData}
use Rattle.avm_model.specs.Chain.{next_hash}
use Rattle.avm_model.specs.Device.{fresh}
use Rattle.avm_model.specs.Evidence.{EvidData, fork}
use Rattle.avm_model.specs.Frame.{FrameData}
use Rattle.avm_model.specs.Machine.{initial}
use Rattle.journal_model.specs.Header.{HeaderData}
use Rattle.journal_model.specs.Journal.{JournalData, Outcome, NoStore, Damaged, Is, journal_from, next_number}
use Rattle.journal_model.specs.Standing.{SignedData, signed_items}
use Rattle.avm_model.specs.declared.NotTaken.{NotTaken}
use Rattle.avm_outside.specs.Feed.{Agenda, timed, console}
use Rattle.journal_model.specs.Part.{Part, entry, seal}
use Rattle.record_model.specs.Recording.{Recording, Effect}

-- a key of height 5, which has 32 leaves
abbrev pub made_header : HeaderData
made_header = record {
  key = 0 ∷ 0 ∷ 0 ∷ 5 ∷ 0 ∷ 0 ∷ 0 ∷ 4 ∷ replicate 48 0;
  first = 1;
  before = replicate 32 0;
  leaves = 0;
  head = [];
  pages = [];
  carried = [];
}

abbrev pub made_store : JournalData
made_store = record { header = made_header; records = []; mark = None }

-- a BOOT entry, a seal, and an OUT entry of the letter A at count 5
abbrev pub boot_record : List ℕ
boot_record = 0 ∷ 0 ∷ 0 ∷ 54 ∷ 1 ∷ 0 ∷ 0 ∷ 0 ∷ 0 ∷ 0 ∷ 0 ∷ 0 ∷ 1 ∷ 1 ∷ 0 ∷ 0 ∷ 0 ∷ 40 ∷ replicate 40 0

abbrev pub seal_record : List ℕ
seal_record = 0 ∷ 0 ∷ 0 ∷ 1 ∷ 2 ∷ []

abbrev pub out_record : List ℕ
out_record = 0 ∷ 0 ∷ 0 ∷ 23 ∷ 1 ∷ 0 ∷ 0 ∷ 0 ∷ 0 ∷ 0 ∷ 0 ∷ 0 ∷ 2 ∷ 7 ∷ 0 ∷ 0 ∷ 0 ∷ 9 ∷ 0 ∷ 0 ∷ 0 ∷ 0 ∷ 0 ∷ 0 ∷ 0 ∷ 5 ∷ 65 ∷ []

-- what bytes from the first gate on, at place 300, stand for
abbrev pub read_from : List ℕ → Outcome
read_from bytes = journal_from (record { journal = made_store; place = 300; bytes = bytes })

-- how many parts each record has, the next entry's number, and the leaves of the signing items
pub record Shape : Type 0 where
  pub sizes : List ℕ
  pub next : ℕ
  pub leaves : List ℕ

pub data Seen : Type 0 where
  Empty : Seen
  Broken : ℕ → Seen
  Seen_as : Shape → Seen

abbrev pub shape_of : Outcome → Seen
shape_of NoStore = Empty
shape_of (Damaged p) = Broken p
shape_of (Is j) = Seen_as (record { sizes = map length j.records; next = next_number j; leaves = map (λ (s : SignedData). s.leaf) (signed_items j) })

-- a recorder that has just opened it, over a RAM of one instruction that does nothing
abbrev pub opened : Recording
opened = record { journal = made_store; batch = []; machine = initial (fresh 0 []) (0x13 ∷ 0 ∷ 0 ∷ 0 ∷ []) 1024 0x80000000 }

-- the letter A is typed in at a count; the end is at count 9
abbrev pub one_event : ℕ → Agenda
one_event at = record { events = timed at (console (65 ∷ [])) ∷ []; ending = 9; clocks = []; asked = 0 }

abbrev pub no_event : ℕ → Agenda
no_event ending = record { events = []; ending = ending; clocks = []; asked = 0 }

abbrev pub dropped_by : Effect → Option NotTaken
dropped_by e = e.dropped

abbrev pub batch_of : Effect → List Part
batch_of e = e.recording.batch

-- two authenticators of made-up hashes, and a fork without entries that claims them
abbrev pub made_auth : ℕ → ℕ → AuthData
made_auth seq fill = record { seq = seq; hash = replicate 32 fill; sig = [] }

abbrev pub made_fork : EvidData
made_fork = fork made_header.key 1 (replicate 32 0) [] (made_auth 2 7) (made_auth 1 8)

-- a store of BOOT and a seal, which binds the pair of BOOT, and a fork that claims this pair and another
abbrev pub boot_frame : FrameData
boot_frame = record { seq = 1; kind = 1; content = replicate 40 0 }

abbrev pub sealed_store : JournalData
sealed_store = record { header = made_header; records = (entry boot_frame ∷ []) ∷ (seal ∷ []) ∷ []; mark = None }

abbrev pub sealed_fork : EvidData
sealed_fork = fork made_header.key 1 (replicate 32 0) [] (record { seq = 1; hash = next_hash (replicate 32 0) boot_frame; sig = [] }) (made_auth 9 8)
