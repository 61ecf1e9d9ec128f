-- The base of a store at an entry.
use Rattle.std.specs.Prelude.{◌≡◌, ◌⊎◌, ℕ, ◌+◌, ◌≤◌, ◌==◌, ◌&&◌, nat_le, nat_lt, Bool, true, false, List, [], ◌∷◌, ◌++◌, length, take, slice_index, Option, Some, None, IfSome, Result, Ok, Err}
use Rattle.avm_model.specs.Head.{head_bytes}
use Rattle.avm_model.specs.HeadReading.{head_of}
use Rattle.avm_model.specs.HeadState.{data_of}
use Rattle.avm_model.specs.Machine.{State}
use Rattle.base_model.specs.Base.{base_bytes, base_header, moved_state}
use Rattle.base_write.specs.declared.writing.Base.{Base}
use Rattle.export_model.specs.Exports.{IsStateAt}
use Rattle.honest_model.specs.Keeps.{IsStretch}
use Rattle.journal_model.specs.Journal.{Is, JournalData, ended, entries, has_snap, journal_of}
use Rattle.journal_model.specs.Part.{longest_head}
use Rattle.journal_model.specs.Spelling.{header_bytes}
use Rattle.jrnl_store.specs.Kept.{Kept}
use Rattle.jrnl_store.specs.Own.{IsAt}
use Rattle.rebut_model.specs.Texts.{OfHead}
use Rattle.store_move.specs.declared.fault.RetainFault.{RetainFault}
use Rattle.store_move.specs.declared.fault.RetainFault.TheVariants as fault
use Rattle.base_build.specs.Judging.{can_begin, is_other}

-- what holds of the journal that the bytes of the disk stand for, where it tells them
abbrev pub OfStore : Option (List ℕ) → Kept → (JournalData → Type 0) → Type 0
OfStore told k P = IfSome told (λ was. (j : JournalData) → journal_of was ≡ Is j → IsAt k was j → ended j ≡ Is j → P j)

-- the bytes of the base from entry n on, s being the state behind it, which its head and its pages tell whole
pub record IsBaseAt (j : JournalData) (n : ℕ) (s : State) (b : Base) : Type 0 where
  pub whole : OfHead s
  pub short : length (head_bytes (data_of s)) ≤ longest_head
  pub bytes : b.bytes.items ≡ base_bytes j n (moved_state j n s)
  pub header : b.header ≡ length (header_bytes (base_header j n (moved_state j n s)))

-- an open gate stands behind the header
abbrev pub is_gated : ℕ → List ℕ → Bool
is_gated header bytes = nat_le 1 header && nat_lt header (length bytes) && slice_index bytes header == 1

pub record HasGate (b : Base) : Type 0 where
  pub some : 1 ≤ b.header
  pub header : b.header + 1 ≤ length b.bytes.items
  pub gate : take (b.header + 1) b.bytes.items ≡ take b.header b.bytes.items ++ 1 ∷ []

abbrev pub Gated : Base → Result Base RetainFault → Type 0
Gated b (Ok x) = (x ≡ b) × HasGate b
Gated b (Err fault.NoStore) = is_gated b.header b.bytes.items ≡ false
Gated b (Err e) = ⊥

abbrev pub HasHead : JournalData → Type 0
HasHead j = head_of j.header.head ≡ None → ⊥

-- a store that can go on from entry n, and its base there
pub record IsBuilt (n : ℕ) (j : JournalData) (b : Base) : Type 0 where
  pub head : HasHead j
  pub own : is_other j.mark n ≡ false
  pub state : State
  pub stretch_is : IsStretch j n None
  pub state_is : IsStateAt j n state
  pub begins : can_begin (has_snap n (entries j)) n state.count ≡ true
  pub base : IsBaseAt j n state b

-- why no base may begin there, behind a mark that names no other entry and a replay without a fault
pub record IsOut (n : ℕ) (j : JournalData) : Type 0 where
  pub own : is_other j.mark n ≡ false
  pub state : State
  pub stretch_is : IsStretch j n None
  pub state_is : IsStateAt j n state
  pub not_begins : can_begin (has_snap n (entries j)) n state.count ≡ false

-- the base, or the first refusal
abbrev pub Builds : ℕ → JournalData → Result Base RetainFault → Type 0
Builds n j (Ok b) = IsBuilt n j b
Builds n j (Err fault.NoMemory) = Unit {0}
Builds n j (Err fault.DiskFault) = Unit {0}
Builds n j (Err fault.NoStore) = head_of j.header.head ≡ None
Builds n j (Err (fault.Unreplayed k)) = HasHead j × (is_other j.mark n ≡ false) × IsStretch j n (Some k)
Builds n j (Err fault.Range) = HasHead j × ((is_other j.mark n ≡ true) ⊎ IsOut n j)
Builds n j (Err e) = ⊥
