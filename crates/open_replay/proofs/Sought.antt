-- What is read of a header, what is found behind all items, and what both readings tell of a journal.
use Rattle.std.proofs.Common.{◌≡◌, ℕ, ◌+◌, ◌*◌, ◌<◌, Bool, false, nat_lt, List, [], ◌∷◌, ◌++◌, length, replicate, Option, Some, None, IfSome, sym, ap, subst, ◌∙◌, arith}
use Rattle.std.specs.Prelude.{option_map}
use Rattle.std.specs.List.{AllByRecursion}
use Rattle.std.proofs.lemmas.List.{length-replicate}
use Rattle.avm_num.specs.Room.{Buffer, with_bytes}
use Rattle.avm_model.specs.Head.{HeadData}
use Rattle.avm_model.specs.HeadReading.{head_of}
use Rattle.avm_model.specs.HeadState.{data_of, state_of}
use Rattle.avm_model.specs.Machine.{MachineState}
use Rattle.avm_model.specs.Memory.{RamState}
use Rattle.avm_model.proofs.HeadBounds.{head_bounded}
use Rattle.honest_model.specs.Honest.{header_state}
use Rattle.honest_model.specs.Keeps.{IsBase, last_of}
use Rattle.journal_model.specs.Fits.{FitsJournal}
use Rattle.journal_model.specs.Journal.{JournalData, page_count_of}
use Rattle.journal_model.specs.Part.{Part}
use Rattle.journal_model.specs.Standing.{Bounds, StandingData}
use Rattle.journal_model.proofs.Judging.{stands_next}
use Rattle.jrnl_store.specs.Items.{ItemData, items_in}
use Rattle.jrnl_store.specs.Kept.{Kept}
use Rattle.jrnl_store.specs.Own.{IsAt, AreKept as AreKeptIn}
use Rattle.keep_judge.specs.Good.{told_view}
use Rattle.keep_judge.specs.declared.told.Told.{Told}
use Rattle.open_keeps.specs.Search.{IsInside, IsSought, Seeks, parts_of_items, so_far}
use Rattle.open_keeps.specs.declared.base.Search.{Search}
use Rattle.open_keeps.proofs.Bases.{base_start, base_whole}
use Rattle.open_keeps.proofs.ItemParts.{inside_all, parts_are}
use Rattle.open_keeps.proofs.Searching.{kept_all, sought_all}
use Rattle.open_pass.specs.Tickets.{rows_in}
use Rattle.open_pass.specs.declared.tickets.Tickets.{Tickets}
use Rattle.open_pass.proofs.SignedItems.{signed_are}
use Rattle.record_kept.specs.Tickets.{AreKept}
use Rattle.record_model.specs.Released.{signed_entries}
use Rattle.rebut_judge.specs.Judging.{Judges as JudgesMore, judge_view}
use Rattle.rebut_judge.specs.declared.judge.Judge.{Judge}
use Rattle.rebut_pass.specs.Passing.{Takes}
use Rattle.rebut_pass.specs.Reads.{OfJournal}
use Rattle.open_replay.specs.Replayed.{AreRun, AreSought, IsReplayed, Starts}
use Rattle.open_replay.specs.Running.{Runs, frames_past, snaps_in}
use Rattle.open_replay.specs.declared.run.Run.{Run}
use Rattle.open_replay.specs.declared.replaying.Replayed.{Replayed}
use Rattle.open_replay.proofs.Running.{judges_all, snaps_end}
use Rattle.open_replay.proofs.Whole.{Judges, judged_behind, opened_fault, opened_state, size_kept, snap_some, snaps_behind}

-- ---- the header

pub head_told : (told : Option (List ℕ)) (k : Kept) (old new : Buffer) → old.bytes ≡ [] → IfSome told (λ was. (j : JournalData) → IsAt k was j → new ≡ with_bytes old j.header.head) → OfJournal told k (λ j. new.bytes ≡ j.header.head)
head_told None k old new none h = tt
head_told (Some was) k old new none h = λ j o b. ap (λ (r : Buffer). r.bytes) (h j o) ∙ ap (λ (l : List ℕ). l ++ j.header.head) none

pub pages_told : (told : Option (List ℕ)) (k : Kept) (bytes : List ℕ) → IfSome told (λ was. (j : JournalData) → IsAt k was j → bytes ≡ j.header.pages) → OfJournal told k (λ j. bytes ≡ j.header.pages)
pages_told None k bytes h = tt
pages_told (Some was) k bytes h = λ j o b. h j o

first_is : (k : Kept) (j : JournalData) → AreKeptIn k j → k.bounds.first ≡ j.header.first
first_is k j h = ap (λ (b : Bounds). b.first) h.bounds

pages_are : (k : Kept) (j : JournalData) → AreKeptIn k j → k.bounds.pages ≡ page_count_of j
pages_are k j h = ap (λ (b : Bounds). b.pages) h.bounds

last_is : (k : Kept) (j : JournalData) (n : ℕ) → AreKeptIn k j → n + 1 ≡ k.standing.next → n ≡ last_of j
last_is k j n h e = let s = ap (λ (s : StandingData). s.next) h.standing ∙ stands_next j in omega (arith, e, s)

-- a search in front of a journal's first item
pub record Begins (k : Kept) (top bytes : List ℕ) (s : Search) : Type 0 where
  pub own : head_of top ≡ Some (data_of s.own.state)
  pub first : s.first ≡ k.bounds.first
  pub last : s.last + 1 ≡ k.standing.next
  pub ram : s.now.ram.bytes ≡ bytes
  pub told : s.told ≡ None
  pub keeps : s.keeps ≡ 0
  pub head : s.base.head.bytes ≡ top
  pub base : s.base.ram.bytes ≡ bytes
  pub none : s.base.keeps ≡ 0

pub sought_first : (k : Kept) (j : JournalData) (head pages : List ℕ) (s : Search) → Begins k head pages s → AreKeptIn k j → head ≡ j.header.head → pages ≡ j.header.pages → IsSought j.header (last_of j) [] s
sought_first k j head pages s b kept eh ep =
    let own : head_of j.header.head ≡ Some (data_of s.own.state) = ap head_of (sym eh) ∙ b.own in
    let state : header_state j.header ≡ Some (state_of (data_of s.own.state) j.header.pages) = ap (λ (o : Option HeadData). option_map (λ d. state_of d j.header.pages) o) own in
    let base : s.base.ram.bytes ≡ j.header.pages = b.base ∙ ep in
    record {
      own = own;
      first = b.first ∙ first_is k j kept;
      last = last_is k j s.last kept b.last;
      ram = b.ram ∙ ep;
      told = ap (λ (t : Option Told). option_map told_view t) b.told;
      keeps = b.keeps;
      found = record {
        front = [];
        behind = [];
        told = data_of s.own.state;
        is = ap head_of b.head ∙ b.own;
        base = subst (λ (r : List ℕ). IsBase (so_far j.header []) (last_of j) [] [] (state_of (data_of s.own.state) r)) (sym base) (base_start j.header (last_of j) (state_of (data_of s.own.state) j.header.pages) state);
        count = sym b.none;
      };
    }

-- ---- the first reading

pages_all : (xs : List ItemData) (a b : Search) → Takes Seeks a xs b → length b.now.ram.dirty ≡ length a.now.ram.dirty
pages_all [] a b t = ap (λ (s : Search). length s.now.ram.dirty) (sym t)
pages_all (x ∷ xs) a b t = pages_all xs t.0 b t.2 ∙ t.1.pages

pub are_sought : (k : Kept) (j : JournalData) (a b : Search) → FitsJournal j → AreKeptIn k j → length a.now.ram.dirty ≡ k.bounds.pages → IsSought j.header (last_of j) [] a → AreKept (rows_in a.tickets.kept) [] → Takes Seeks a (items_in j) b → AreSought j b
are_sought k j a b fits kept count start none t =
    let pages : length a.now.ram.dirty ≡ page_count_of j = count ∙ pages_are k j kept in
    let inside : AllByRecursion (IsInside (length a.now.ram.dirty)) (items_in j) = subst (λ (n : ℕ). AllByRecursion (IsInside n) (items_in j)) (sym pages) (inside_all j fits) in
    record {
      sought = subst (λ (ps : List Part). IsSought j.header (last_of j) ps b) (parts_are j) (sought_all (items_in j) a b t inside j.header (last_of j) [] start);
      kept = kept_all (items_in j) a b t [] (signed_entries j) (signed_are j) none;
      pages = pages_all (items_in j) a b t ∙ pages;
    }

-- ---- the second

pub are_run : (j : JournalData) (a b : Run) → Takes Runs a (items_in j) b → a.snaps ≡ false → a.begun ≡ nat_lt 0 a.skip → AreRun j a.skip a.judge b
are_run j a b t none begun = record {
  judges = subst (λ (ps : List Part). JudgesMore (frames_past a.skip ps) (judge_view a.judge) (judge_view b.judge)) (parts_are j) (judges_all (items_in j) a b t);
  snaps = snaps_end (items_in j) a b t none ∙ ap (λ (c : Bool). snaps_in c (frames_past a.skip (parts_of_items (items_in j)))) begun ∙ ap (λ (ps : List Part). snaps_in (nat_lt 0 a.skip) (frames_past a.skip ps)) (parts_are j);
}

-- ---- the machine of a base

pub record Made (b : HeadData) (ram built : RamState) (m : MachineState) : Type 0 where
  pub state : m.state ≡ state_of b ram.bytes
  pub ram_is : m.state.ram ≡ ram.bytes
  pub count : length m.dirty ≡ length ram.dirty

pub cleaned : (ram built : RamState) → built ≡ record ram { dirty = replicate (length ram.dirty) false } → length built.dirty ≡ length ram.dirty
cleaned ram built e = ap (λ (r : RamState). length r.dirty) e ∙ length-replicate (length ram.dirty) false

pub made : (b : HeadData) (ram built : RamState) (m : MachineState) → built ≡ record ram { dirty = replicate (length ram.dirty) false } → m ≡ record { state = state_of b built.bytes; dirty = built.dirty } → Made b ram built m
made b ram built m e f =
    let bytes : built.bytes ≡ ram.bytes = ap (λ (r : RamState). r.bytes) e in
    record {
      state = ap (λ (x : MachineState). x.state) f ∙ ap (state_of b) bytes;
      ram_is = ap (λ (x : MachineState). x.state.ram) f ∙ bytes;
      count = ap (λ (x : MachineState). length x.dirty) f ∙ cleaned ram built e;
    }

-- ---- both

pub replayed : (j : JournalData) (v : Search) (judge : Judge) (x : Run) (r : Replayed) → FitsJournal j → AreSought j v → AreRun j v.base.keeps judge x → r.run ≡ x → ((b : HeadData) → head_of v.base.head.bytes ≡ Some b → Starts (state_of b v.base.ram.bytes) v.first v.base.keeps (judge_view judge))
    → r.tickets ≡ v.tickets → r.ram ≡ v.now.ram → length v.base.ram.bytes ≡ 4096 * length v.base.ram.dirty → IsReplayed j r
replayed j v judge x r fits o ran same starts tickets ram size =
    let run : AreRun j v.base.keeps judge r.run = subst (λ (y : Run). AreRun j v.base.keeps judge y) (sym same) ran in
    let f = o.sought.found in
    let s = state_of f.told v.base.ram.bytes in
    let base : IsBase j (last_of j) f.front f.behind s = base_whole j (last_of j) f.front f.behind s f.base in
    let begins : Starts s j.header.first v.base.keeps (judge_view judge) = subst (λ (n : ℕ). Starts s n v.base.keeps (judge_view judge)) o.sought.first (starts f.told f.is) in
    let h : Judges j f.front f.behind s (judge_view r.run.judge) = judged_behind j (last_of j) v.base.keeps f.front f.behind s (judge_view judge) (judge_view r.run.judge) fits base f.count begins (λ fs t. run.judges s j.header.first fs t) in
    let pages : length v.base.ram.dirty ≡ page_count_of j = v.sizes ∙ sym v.pages ∙ o.pages in
    let snap : 0 < s.snap = snap_some f.told (head_bounded v.base.head.bytes f.told f.is) in
    record {
      tickets = subst (λ (t : Tickets). AreKept (rows_in t.kept) (signed_entries j)) (sym tickets) o.kept;
      ram = ap (λ (x : RamState). x.bytes) ram ∙ o.sought.ram;
      pages = ap (λ (x : RamState). length x.dirty) ram ∙ o.pages;
      fault = opened_fault j f.front f.behind s (judge_view r.run.judge) fits base h;
      opened = λ none. opened_state j f.front f.behind s (judge_view r.run.judge) base h none;
      size = λ none. size_kept s _ r.run.judge.replay.stand snap (h.stands none) ∙ size ∙ ap (λ (n : ℕ). 4096 * n) pages;
      all = (f.front, f.behind, s, base, run.snaps ∙ snaps_behind j (last_of j) v.base.keeps f.front f.behind s base f.count);
    }
