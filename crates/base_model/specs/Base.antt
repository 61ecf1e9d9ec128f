-- Bases (docs/FORMATS.md, "Journal"): the journal that one becomes when it is moved to another disk from a SNAP entry on.
use Rattle.std.specs.Prelude.{◌++◌, flat_map, ◌≡◌, ◌⊎◌, filter, nat_lt, ◌&&◌, Bool, ℕ, ◌+◌, ◌==◌, List, [], ◌∷◌, Option, Some, None, if◌then◌else◌}
use Rattle.avm_model.specs.Chain.{top_of}
use Rattle.journal_model.specs.Part.{Part, entry, seal, keep, frames_in, signing}
use Rattle.journal_model.specs.Header.{HeaderData, CarriedData}
use Rattle.std.specs.List.{list_any}
use Rattle.avm_model.specs.Machine.{State}
use Rattle.avm_model.specs.Head.{head_bytes}
use Rattle.avm_model.specs.HeadState.{data_of}
use Rattle.avm_model.specs.declared.Peer.{Peer}
use Rattle.record_model.specs.Released.{signed_entries, last_that, is_send_to, is_recv_from, number_in, read}
use Rattle.journal_model.specs.Journal.{JournalData, parts, is_number}
use Rattle.journal_model.specs.Spelling.{spelled}
use Rattle.honest_model.specs.Honest.{header_state, Leads}
use Rattle.honest_model.specs.KeepPages.{WritesHead}
use Rattle.avm_model.specs.Frame.{FrameData}

-- ---- what is moved

-- the parts before entry n
abbrev pub before_entry : ℕ → List Part → List Part
before_entry n [] = []
before_entry n (entry f ∷ ps) = if f.seq == n then [] else entry f ∷ before_entry n ps
before_entry n (seal ∷ ps) = seal ∷ before_entry n ps
before_entry n (keep k ∷ ps) = keep k ∷ before_entry n ps

-- the parts from entry n on, where it is among them
abbrev pub from_entry : ℕ → List Part → Option (List Part)
from_entry n [] = None
from_entry n (entry f ∷ ps) = if f.seq == n then Some (entry f ∷ ps) else from_entry n ps
from_entry n (seal ∷ ps) = from_entry n ps
from_entry n (keep k ∷ ps) = from_entry n ps

-- without a keep at the front
abbrev pub past_keep : List Part → List Part
past_keep [] = []
past_keep (entry f ∷ ps) = entry f ∷ ps
past_keep (seal ∷ ps) = seal ∷ ps
past_keep (keep k ∷ ps) = ps

-- without the keep behind the first part
abbrev pub without_keep : List Part → List Part
without_keep [] = []
without_keep (p ∷ ps) = p ∷ past_keep ps

-- the records from entry n on: its own from it on, without its keep, and all later ones
abbrev pub records_from : ℕ → List (List Part) → List (List Part)
records_from n [] = []
records_from n (r ∷ rs) = begun (from_entry n r) (records_from n rs) rs
  where
    begun : Option (List Part) → List (List Part) → List (List Part) → List (List Part)
    begun None later rs = later
    begun (Some ps) later rs = without_keep ps ∷ rs

-- the state at the SNAP entry, and the entries before it that the base carries
pub record MovedState : Type 0 where
  pub head : List ℕ
  pub pages : List ℕ
  pub carried : List CarriedData

-- the header of a base: it begins at entry n, with the leaves that are used before that one
unfoldable pub base_header : JournalData → ℕ → MovedState → HeaderData
base_header j n s = record {
  key = j.header.key;
  first = n;
  before = top_of j.header.before (frames_in (before_entry n (parts j)));
  leaves = j.header.leaves + signing (before_entry n (parts j));
  head = s.head;
  pages = s.pages;
  carried = s.carried;
}

-- the journal that goes on from SNAP entry n
unfoldable pub moved : JournalData → ℕ → MovedState → JournalData
moved j n s = record { header = base_header j n s; records = records_from n j.records; mark = None }

-- ---- what the state at the SNAP entry tells

-- the entries that go on to be sent again: with numbers below n
abbrev pub earlier : ℕ → JournalData → List CarriedData
earlier n j = filter (λ e. nat_lt e.frame.seq n) (signed_entries j)

abbrev pub is_send_of : ℕ → ℕ → CarriedData → Bool
is_send_of peer number e = is_send_to peer (read e) && is_number (number_in (read e)) number

abbrev pub number_of : Option CarriedData → List ℕ
number_of None = []
number_of (Some e) = e.frame.seq ∷ []

-- of a row: the SEND of number `sent`, where that isn't acknowledged, and the last RECV, where there was one
abbrev pub row_numbers : List CarriedData → Peer → List ℕ
row_numbers es row =
    (if row.sent == row.acked then [] else number_of (last_that (is_send_of row.id row.sent) es))
    ++ (if row.received == 0 then [] else number_of (last_that (λ e. is_recv_from row.id (read e)) es))

-- what a base carries, in ascending number, since the signed entries stand so
unfoldable pub carried_of : JournalData → ℕ → State → List CarriedData
carried_of j n s =
    filter (λ e. list_any (λ m. m == e.frame.seq) (flat_map (row_numbers (earlier n j)) s.devices.peers)) (earlier n j)

abbrev pub moved_state : JournalData → ℕ → State → MovedState
moved_state j n s = record { head = head_bytes (data_of s); pages = s.ram; carried = carried_of j n s }

-- Moved(J, N), s being the state behind entry N
abbrev pub moved_at : JournalData → ℕ → State → JournalData
moved_at j n s = moved j n (moved_state j n s)

-- the bytes of a base
unfoldable pub base_bytes : JournalData → ℕ → MovedState → List ℕ
base_bytes j n s = spelled (moved j n s)

-- ---- what a moved journal is

-- The state behind entry n, which is the header's where no entry stands before it. If its head tells it whole, it is the state of the
-- moved journal's header, and the moved journal leads from it to where the journal leads.
pub record Moves (j : JournalData) (n : ℕ) (from to : State) (before : List Part) (f : FrameData) : Type 0 where
  pub at : State
  pub reached : ((frames_in before ≡ []) × (at ≡ from)) ⊎ Leads from (before ++ entry f ∷ []) at
  pub leads : WritesHead at → (header_state (moved_at j n at).header ≡ Some at) × Leads at (parts (moved_at j n at)) to
