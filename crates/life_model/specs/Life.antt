-- The life of a store, over all its openings and over its moves to other disks: what holds between two calls, and what an event changes.
-- A place is where the store is now: one of two disks, or an image that a crash has left; `left` tells which images a crash now may leave.
use Rattle.std.specs.Prelude.{◌≡◌, ◌⊎◌, ℕ, ◌+◌, ◌-◌, ◌<◌, ◌==◌, Bool, true, false, List, [], ◌∷◌, ◌++◌, length, map, Option, Some, None}
use Rattle.avm_model.specs.Chain.{next_hash}
use Rattle.avm_model.specs.Frame.{FrameData}
use Rattle.avm_model.specs.Head.{HeadData}
use Rattle.avm_model.specs.HeadState.{state_of}
use Rattle.avm_model.specs.Machine.{State}
use Rattle.avm_outside.specs.Outlet.{Piece}
use Rattle.journal_model.specs.Header.{CarriedData}
use Rattle.journal_model.specs.Journal.{JournalData, Is, journal_of, parts, with_record}
use Rattle.journal_model.specs.Part.{Part, entry, seal, keep}
use Rattle.journal_model.specs.Standing.{LeavesFrom, SignedData, StandingData, behind, signed_from, signed_items, standing, start}
use Rattle.journal_spelling.specs.Spelled.{HasSpelling}
use Rattle.honest_model.specs.Honest.{Leads, header_state}
use Rattle.honest_model.specs.KeepPages.{IsHeader, WritesHead}
use Rattle.honest_model.specs.Keeps.{HasTrueKeeps, IsOpened}
use Rattle.record_model.specs.Released.{Sender, entry_pieces, part_pieces}
use Rattle.record_model.specs.Recording.{Recording, saved}
use Rattle.record_model.specs.Standing.{GoesOn, IsStanding, KeepsTrue}
use Rattle.base_model.specs.Base.{Moves, before_entry, from_entry, moved_at}
use Rattle.base_laws.specs.Moving.{BeginsKeep}

-- x is one of them
abbrev pub Among : {A : Type 0} → A → List A → Type 0
Among x [] = ⊥
Among x (y ∷ ys) = (x ≡ y) ⊎ Among x ys

-- ---- what is released, and what is signed

-- a piece that was released, and the number of the entry to which it belongs
pub record Told : Type 0 where
  pub seq : ℕ
  pub piece : Piece

abbrev pub told : ℕ → List Piece → List Told
told n ps = map (λ p. record { seq = n; piece = p }) ps

-- the number of an entry; for a seal that of the last entry
abbrev pub number_of : StandingData → Part → ℕ
number_of s (entry f) = f.seq
number_of s seal = s.next - 1
number_of s (keep k) = 0

-- what is released for parts at a point, with the numbers
abbrev pub told_from : Sender → StandingData → List Part → List Told
told_from who s [] = []
told_from who s (p ∷ ps) = told (number_of s p) (part_pieces who s p) ++ told_from who (behind s p) ps

-- all that a journal's own items release
unfoldable pub told_of : Sender → JournalData → List Told
told_of who j = told_from who (start j.header) (parts j)

-- what is released again for an entry that was signed, and how it was signed
abbrev pub told_again : Sender → CarriedData → List Told
told_again who e = told e.frame.seq (entry_pieces who e)

abbrev pub signed_as : CarriedData → SignedData
signed_as e = record { leaf = e.leaf; seq = e.frame.seq; hash = next_hash e.before e.frame; before = e.before }

-- ---- where a store is

-- on one of two disks, or what a crash has left of one
pub data Place (D E : Type 0) : Type 0 where
  OnStore : D → Place D E
  OnSpare : E → Place D E
  CutTo : List ℕ → Place D E

abbrev pub left_at : {D E : Type 0} → (D → List ℕ → Type 0) → (E → List ℕ → Type 0) → Place D E → List ℕ → Type 0
left_at store spare (OnStore d) c = store d c
left_at store spare (OnSpare e) c = spare e c
left_at store spare (CutTo image) c = c ≡ image

-- ---- a life

-- what belongs to the items before a journal's first: what is released for them, and what they sign
pub record Gone : Type 0 where
  pub told : List Told
  pub signed : List SignedData

-- Who signs; the recording; where the store is; the number of a mark that is being written, where one is; what belongs to items
-- that were left behind; and all that was released and signed so far.
pub record Life (W : Type 0) : Type 0 where
  pub who : Sender
  pub recording : Recording
  pub place : W
  pub retiring : Option ℕ
  pub gone : Gone
  pub released : List Told
  pub signed : List SignedData

abbrev pub with_batch : Recording → JournalData
with_batch r = with_record r.journal r.batch

-- an image stands for the journal with the mark that is being written
abbrev pub IsMarked : Option ℕ → JournalData → List ℕ → Type 0
IsMarked None j c = ⊥
IsMarked (Some n) j c = journal_of c ≡ Is (record j { mark = Some n })

-- an image stands for the journal, or for it with the batch in flight, or for it with the mark
abbrev pub StandsForOne : Option ℕ → Recording → List ℕ → Type 0
StandsForOne retiring r c = (journal_of c ≡ Is r.journal) ⊎ ((journal_of c ≡ Is (with_batch r)) ⊎ IsMarked retiring r.journal c)

-- each SNAP entry but the first entry has its keep behind it; `first`: no entry stands before these parts
abbrev pub KeepsSnaps : Bool → List Part → Type 0
KeepsSnaps first [] = Unit {0}
KeepsSnaps first (entry f ∷ ps) = ((first ≡ true) ⊎ (((f.kind == 2) ≡ false) ⊎ BeginsKeep ps)) × KeepsSnaps false ps
KeepsSnaps first (seal ∷ ps) = KeepsSnaps first ps
KeepsSnaps first (keep k ∷ ps) = KeepsSnaps first ps

-- the leaf and the pair of an entry, and what is released for it, belong to what was left behind
pub record IsGone (who : Sender) (gone : Gone) (e : CarriedData) : Type 0 where
  pub signed : Among (signed_as e) gone.signed
  pub told : (t : Told) → Among t (told_again who e) → Among t gone.told

-- Between two calls: every image that a crash now may leave stands for the journal, or for it with the batch in flight, or for it with the
-- mark that is being written. The machine is the one behind journal and batch, moved on by steps without outputs; the batch holds
-- whole steps and continues the journal. What was released belongs to the journal, or was left behind, and then its number is below
-- the journal's first. What was signed is one of its signing items, or was left behind, at that item's leaf, and the leaves run on
-- from the first. The entries that it carries were left behind. Each keep is true, and each SNAP but the first entry has its keep.
pub record IsKept {W : Type 0} (left : W → List ℕ → Type 0) (l : Life W) : Type 0 where
  pub images : (c : List ℕ) → left l.place c → StandsForOne l.retiring l.recording c
  pub unmarked : l.recording.journal.mark ≡ None
  pub standing : IsStanding l.recording
  pub goes_on : GoesOn l.recording
  pub released : (t : Told) → Among t l.released → Among t (l.gone.told ++ told_of l.who l.recording.journal)
  pub below : (t : Told) → Among t l.gone.told → t.seq < l.recording.journal.header.first
  pub signed : (s : SignedData) → Among s l.signed → Among s (l.gone.signed ++ signed_items l.recording.journal)
  pub signed_below : (s : SignedData) → Among s l.gone.signed → s.seq < l.recording.journal.header.first
  pub first : ℕ
  pub leaves : LeavesFrom first l.gone.signed
  pub meets : first + length l.gone.signed ≡ l.recording.journal.header.leaves
  pub carried : (e : CarriedData) → Among e l.recording.journal.header.carried → IsGone l.who l.gone e
  pub keeps : KeepsTrue l.recording
  pub snaps : KeepsSnaps true (parts l.recording.journal)
  pub open_snaps : KeepsSnaps true (parts l.recording.journal ++ l.recording.batch)

-- ---- a new store

-- each image stands for a journal that has never recorded: no mark, nothing carried
pub record IsNew {W : Type 0} (left : W → List ℕ → Type 0) (place : W) (j : JournalData) (s : State) : Type 0 where
  pub images_are : (c : List ℕ) → left place c → journal_of c ≡ Is j
  pub unmarked : j.mark ≡ None
  pub nothing : j.header.carried ≡ []
  pub header : header_state j.header ≡ Some s
  pub leads : Leads s (parts j) s
  pub keeps : HasTrueKeeps j
  pub snaps : KeepsSnaps true (parts j)

-- a journal that is opened, with nothing unsaved
abbrev pub opened : JournalData → State → Recording
opened j s = record { journal = j; batch = []; machine = s }

abbrev pub new_life : {W : Type 0} → Sender → W → JournalData → State → Life W
new_life who place j s = record { who = who; recording = opened j s; place = place; retiring = None; gone = record { told = []; signed = [] }; released = []; signed = [] }

-- ---- events

-- The journal stays: steps, an act, a seal that isn't saved yet, a commit that is cut, a mark that is cut, a crash inside a call. What is released again
-- and signed again is of the journal's own items, or of entries that it carries.
pub record Goes {W : Type 0} (left : W → List ℕ → Type 0) (l : Life W) (r : Recording) (place : W) (again : List Told) (signs : List SignedData) : Type 0 where
  pub journal : r.journal ≡ l.recording.journal
  pub standing : IsStanding r
  pub goes_on : GoesOn r
  pub keeps : KeepsTrue r
  pub snaps : KeepsSnaps true (parts r.journal ++ r.batch)
  pub images_are : (c : List ℕ) → left place c → StandsForOne l.retiring r c
  pub own : (t : Told) → Among t again → Among t (told_of l.who r.journal) ⊎ ((e : CarriedData) × Among e r.journal.header.carried × Among t (told_again l.who e))
  pub own_signs : (s : SignedData) → Among s signs → Among s (signed_items r.journal) ⊎ ((e : CarriedData) × Among e r.journal.header.carried × (s ≡ signed_as e))

-- The batch is saved, and of what it releases and signs some front was released and signed.
pub record SavesTo {W : Type 0} (left : W → List ℕ → Type 0) (l : Life W) (place : W) (ps : List Told) (ss : List SignedData) : Type 0 where
  pub images_are : (c : List ℕ) → left place c → journal_of c ≡ Is (with_batch l.recording)
  pub rest : List Told
  pub pieces : told_from l.who (standing l.recording.journal) l.recording.batch ≡ ps ++ rest
  pub more : List SignedData
  pub items : signed_from (standing l.recording.journal) l.recording.batch ≡ ss ++ more

-- behind a crash: the image stands for a journal without a mark, which opens with a machine
pub record Opens {W : Type 0} (left : W → List ℕ → Type 0) (l : Life W) (j : JournalData) (to : State) (place : W) : Type 0 where
  pub image : List ℕ
  pub may_be_left : left l.place image
  pub stands : journal_of image ≡ Is j
  pub unmarked : j.mark ≡ None
  pub opened_is : IsOpened j to
  pub images_are : (c : List ℕ) → left place c → journal_of c ≡ Is j

-- a mark is being written
pub record Retires {W : Type 0} (left : W → List ℕ → Type 0) (l : Life W) (n : ℕ) (place : W) : Type 0 where
  pub images_are : (c : List ℕ) → left place c → StandsForOne (Some n) l.recording c

-- what a move from entry n on leaves behind
abbrev pub gone_by : {W : Type 0} → Life W → ℕ → Gone
gone_by l n = record {
  told = l.gone.told ++ told_from l.who (start l.recording.journal.header) (before_entry n (parts l.recording.journal));
  signed = l.gone.signed ++ signed_from (start l.recording.journal.header) (before_entry n (parts l.recording.journal));
}

-- The store has the mark n in each image, and moves to another disk from SNAP entry n on: each image of that disk stands for the moved
-- journal, which leads to the same machine. What isn't saved isn't moved.
pub record MovesTo {W : Type 0} (left : W → List ℕ → Type 0) (l : Life W) (n : ℕ) (to : State) (place : W) : Type 0 where
  pub marked : (c : List ℕ) → left l.place c → IsMarked (Some n) l.recording.journal c
  pub head : HeadData
  pub snap : FrameData
  pub later : List Part
  pub found : from_entry n (parts l.recording.journal) ≡ Some (entry snap ∷ later)
  pub kind : (snap.kind == 2) ≡ true
  pub above : 1 < n
  pub spelled : HasSpelling l.recording.journal
  pub header : IsHeader l.recording.journal.header head
  pub moves : Moves l.recording.journal n (state_of head l.recording.journal.header.pages) to (before_entry n (parts l.recording.journal)) snap
  pub writes : WritesHead moves.at
  pub images_are : (c : List ℕ) → left place c → journal_of c ≡ Is (moved_at l.recording.journal n moves.at)

pub data Event {W : Type 0} (left : W → List ℕ → Type 0) (l : Life W) : Life W → Type 0 where
  Saves : (place : W) → (ps : List Told) → (ss : List SignedData) → SavesTo left l place ps ss →
      Event left l (record l { recording = saved l.recording; place = place; released = l.released ++ ps; signed = l.signed ++ ss })
  Stays : (r : Recording) → (place : W) → (again : List Told) → (signs : List SignedData) → Goes left l r place again signs →
      Event left l (record l { recording = r; place = place; released = l.released ++ again; signed = l.signed ++ signs })
  Reopens : (j : JournalData) → (to : State) → (place : W) → Opens left l j to place →
      Event left l (record l { recording = opened j to; place = place; retiring = None })
  Marks : (n : ℕ) → (place : W) → Retires left l n place → Event left l (record l { place = place; retiring = Some n })
  MovesOn : (n : ℕ) → (to : State) → (place : W) → (m : MovesTo left l n to place) →
      Event left l (record l { recording = opened (moved_at l.recording.journal n m.moves.at) to; place = place; retiring = None; gone = gone_by l n })

-- a life that comes by events, one after another, from another
pub data Comes {W : Type 0} (left : W → List ℕ → Type 0) (l : Life W) : Life W → Type 0 where
  Here : Comes left l l
  Then : (m n : Life W) → Comes left l m → Event left m n → Comes left l n
