-- What is read of a header, what is found behind all items, and what both readings tell of a journal.
use Rattle.std.proofs.Common.{◌≡◌, ℕ, List, [], length, Option, Some, None, IfSome, sym, ap, subst, ◌∙◌}
use Rattle.std.specs.Prelude.{option_map}
use Rattle.std.specs.List.{AllByRecursion}
use Rattle.avm_model.specs.Head.{HeadData}
use Rattle.avm_model.specs.HeadReading.{head_of}
use Rattle.avm_model.specs.HeadState.{data_of, state_of}
use Rattle.avm_model.specs.Machine.{State}
use Rattle.export_model.specs.Exports.{IsStateAt}
use Rattle.honest_model.specs.Honest.{header_state}
use Rattle.honest_model.specs.Keeps.{IsBase, IsStretch}
use Rattle.journal_model.specs.Fits.{FitsJournal}
use Rattle.journal_model.specs.Journal.{JournalData, page_count_of, parts}
use Rattle.journal_model.specs.Part.{Part}
use Rattle.journal_model.specs.Standing.{Bounds}
use Rattle.jrnl_store.specs.Items.{items_in}
use Rattle.jrnl_store.specs.Kept.{Kept}
use Rattle.jrnl_store.specs.Own.{IsAt, AreKept}
use Rattle.keep_judge.specs.Good.{told_view}
use Rattle.keep_judge.specs.declared.told.Told.{Told}
use Rattle.open_keeps.specs.Search.{IsInside, IsSought, Seeks, so_far}
use Rattle.open_keeps.specs.declared.base.Search.{Search}
use Rattle.open_keeps.proofs.Bases.{base_start, base_whole}
use Rattle.open_keeps.proofs.ItemParts.{inside_all, parts_are}
use Rattle.open_keeps.proofs.Searching.{sought_all}
use Rattle.open_replay.specs.Replayed.{Starts}
use Rattle.rebut_judge.specs.Judging.{judge_view}
use Rattle.rebut_judge.specs.declared.judge.Judge.{Judge}
use Rattle.rebut_pass.specs.Passing.{Takes}
use Rattle.rebut_pass.specs.Reads.{OfJournal}
use Rattle.stretch_replay.specs.Running.{AreRun}
use Rattle.stretch_replay.specs.Stretched.{IsStretched}
use Rattle.stretch_replay.specs.declared.run.Run.{Run}
use Rattle.stretch_replay.specs.declared.stretching.Stretched.{Stretched}
use Rattle.stretch_replay.proofs.Whole.{Judges, judged_behind, stretched_fault, stretched_state}

-- ---- the header

pub pages_told : (told : Option (List ℕ)) (k : Kept) (bytes : List ℕ) → IfSome told (λ was. (j : JournalData) → IsAt k was j → bytes ≡ j.header.pages) → OfJournal told k (λ j. bytes ≡ j.header.pages)
pages_told None k bytes h = tt
pages_told (Some was) k bytes h = λ j o b. h j o

-- a search in front of a journal's first item
pub record Begins (k : Kept) (n : ℕ) (top bytes : List ℕ) (s : Search) : Type 0 where
  pub own : head_of top ≡ Some (data_of s.own.state)
  pub first : s.first ≡ k.bounds.first
  pub last : s.last ≡ n
  pub ram : s.now.ram.bytes ≡ bytes
  pub told : s.told ≡ None
  pub keeps : s.keeps ≡ 0
  pub head : s.base.head.bytes ≡ top
  pub base : s.base.ram.bytes ≡ bytes
  pub none : s.base.keeps ≡ 0

pub sought_first : (k : Kept) (j : JournalData) (n : ℕ) (head pages : List ℕ) (s : Search) → Begins k n head pages s → AreKept k j → head ≡ j.header.head → pages ≡ j.header.pages → IsSought j.header n [] s
sought_first k j n head pages s b kept eh ep =
    let own : head_of j.header.head ≡ Some (data_of s.own.state) = ap head_of (sym eh) ∙ b.own in
    let state : header_state j.header ≡ Some (state_of (data_of s.own.state) j.header.pages) = ap (λ (o : Option HeadData). option_map (λ d. state_of d j.header.pages) o) own in
    let base : s.base.ram.bytes ≡ j.header.pages = b.base ∙ ep in
    record {
      own = own;
      first = b.first ∙ ap (λ (x : Bounds). x.first) kept.bounds;
      last = b.last;
      ram = b.ram ∙ ep;
      told = ap (λ (t : Option Told). option_map told_view t) b.told;
      keeps = b.keeps;
      found = record {
        front = [];
        behind = [];
        told = data_of s.own.state;
        is = ap head_of b.head ∙ b.own;
        base = subst (λ (r : List ℕ). IsBase (so_far j.header []) n [] [] (state_of (data_of s.own.state) r)) (sym base) (base_start j.header n (state_of (data_of s.own.state) j.header.pages) state);
        count = sym b.none;
      };
    }

pub are_sought : (k : Kept) (j : JournalData) (n : ℕ) (a b : Search) → FitsJournal j → AreKept k j → length a.now.ram.dirty ≡ k.bounds.pages → IsSought j.header n [] a → Takes Seeks a (items_in j) b → IsSought j.header n (parts j) b
are_sought k j n a b fits kept count start t =
    let pages : length a.now.ram.dirty ≡ page_count_of j = count ∙ ap (λ (x : Bounds). x.pages) kept.bounds in
    let inside : AllByRecursion (IsInside (length a.now.ram.dirty)) (items_in j) = subst (λ (m : ℕ). AllByRecursion (IsInside m) (items_in j)) (sym pages) (inside_all j fits) in
    subst (λ (ps : List Part). IsSought j.header n ps b) (parts_are j) (sought_all (items_in j) a b t inside j.header n [] start)

-- ---- both

pub stretched : (j : JournalData) (n : ℕ) (v : Search) (judge : Judge) (x : Run) (r : Stretched) → FitsJournal j → IsSought j.header n (parts j) v → AreRun j n v.base.keeps judge x → r.fault ≡ x.judge.fault → r.machine.state ≡ x.judge.replay.stand.state
    → ((b : HeadData) → head_of v.base.head.bytes ≡ Some b → Starts (state_of b v.base.ram.bytes) v.first v.base.keeps (judge_view judge)) → IsStretched j n r
stretched j n v judge x r fits o ran fault state starts =
    let f = o.found in
    let s = state_of f.told v.base.ram.bytes in
    let base : IsBase j n f.front f.behind s = base_whole j n f.front f.behind s f.base in
    let begins : Starts s j.header.first v.base.keeps (judge_view judge) = subst (λ (m : ℕ). Starts s m v.base.keeps (judge_view judge)) o.first (starts f.told f.is) in
    let h : Judges j n f.front f.behind s (judge_view x.judge) = judged_behind j n v.base.keeps f.front f.behind s (judge_view judge) (judge_view x.judge) fits base f.count begins (λ fs t. ran s j.header.first fs t) in
    record {
      fault = subst (λ (q : Option ℕ). IsStretch j n q) (sym fault) (stretched_fault j n f.front f.behind s (judge_view x.judge) base h);
      state = λ none. subst (λ (t : State). IsStateAt j n t) (sym state) (stretched_state j n f.front f.behind s (judge_view x.judge) base h (sym fault ∙ none));
    }
