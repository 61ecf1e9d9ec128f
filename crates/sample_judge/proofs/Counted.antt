-- The numbers of a journal, by its items.
use Rattle.std.proofs.Common.{◌≡◌, ℕ, ◌+◌, ◌≤◌, ◌==◌, Bool, true, false, cond, ne_eqb, List, [], ◌∷◌, ◌++◌, refl, sym, ap, subst, ◌∙◌, inr, arith}
use Rattle.avm_model.specs.Entries.{snaps}
use Rattle.avm_model.specs.Frame.{FrameData}
use Rattle.journal_model.specs.Header.{CarriedData}
use Rattle.journal_model.specs.Journal.{Is, JournalData, entries, journal_of, parts}
use Rattle.journal_model.specs.Part.{Part, entry, seal, keep, frames_in}
use Rattle.journal_model.specs.Standing.{StandingData, behind, start}
use Rattle.jrnl_store.specs.Items.{ItemData, carried_item, carried_items, entry_item, items_from, items_in, keep_item, part_items, seal_item}
use Rattle.jrnl_store.specs.Kept.{Kept}
use Rattle.jrnl_store.specs.Own.{IsOwn}
use Rattle.rebut_pass.specs.Passing.{Takes}
use Rattle.sample_lines.specs.Judging.{first_snap}
use Rattle.sample_judge.specs.Counting.{Counting, Counts, IsOn, NumbersOf, counted, item_counted, numbers_view, with_snap}
use Rattle.sample_judge.specs.declared.numbers.Numbers.{Numbers}

-- ---- the entries among items

abbrev frames_among : List ItemData → List FrameData
frames_among [] = []
frames_among (carried_item f s ∷ xs) = frames_among xs
frames_among (entry_item f t ∷ xs) = f ∷ frames_among xs
frames_among (seal_item s ∷ xs) = frames_among xs
frames_among (keep_item k ∷ xs) = frames_among xs

among_parts : (s : StandingData) (ps : List Part) → frames_among (items_from s ps) ≡ frames_in ps
among_parts s [] = refl
among_parts s (entry f ∷ ps) = ap (λ (fs : List FrameData). f ∷ fs) (among_parts (behind s (entry f)) ps)
among_parts s (seal ∷ ps) = among_parts (behind s seal) ps
among_parts s (keep k ∷ ps) = among_parts (behind s (keep k)) ps

past_carried : (cs : List CarriedData) (xs : List ItemData) → frames_among (carried_items cs ++ xs) ≡ frames_among xs
past_carried [] xs = refl
past_carried (c ∷ cs) xs = past_carried cs xs

among_all : (j : JournalData) → frames_among (items_in j) ≡ entries j
unfolding items_in part_items entries
among_all j = past_carried j.header.carried (items_from (start j.header) (parts j)) ∙ among_parts (start j.header) (parts j)

-- ---- counting

abbrev counted_all : Counting → List FrameData → Counting
counted_all n [] = n
counted_all n (f ∷ fs) = counted_all (counted n f) fs

item_step : (n : Counting) (x : ItemData) (xs : List ItemData) → counted_all (item_counted n x) (frames_among xs) ≡ counted_all n (frames_among (x ∷ xs))
item_step n (carried_item f s) xs = refl
item_step n (entry_item f t) xs = refl
item_step n (seal_item s) xs = refl
item_step n (keep_item k) xs = refl

taken_all : (xs : List ItemData) (a b : Numbers) → Takes Counts a xs b → numbers_view b ≡ counted_all (numbers_view a) (frames_among xs)
taken_all [] a b t = ap numbers_view (sym t)
taken_all (x ∷ xs) a b t = taken_all xs t.0 b t.2 ∙ ap (λ (v : Counting). counted_all v (frames_among xs)) t.1 ∙ item_step (numbers_view a) x xs

all_snaps : (fs : List FrameData) (n : Counting) → (counted_all n fs).snaps ≡ n.snaps + snaps fs
all_snaps [] n = omega arith
all_snaps (f ∷ fs) n = go (all_snaps fs (with_snap n f.seq)) (all_snaps fs n) (f.kind == 2)
  where
    go : (counted_all (with_snap n f.seq) fs).snaps ≡ (n.snaps + 1) + snaps fs → (counted_all n fs).snaps ≡ n.snaps + snaps fs → (b : Bool) → (counted_all (cond b (with_snap n f.seq) n) fs).snaps ≡ n.snaps + (cond b 1 0 + snaps fs)
    go p q true = omega (arith, p)
    go p q false = omega (arith, q)

-- once there was a SNAP, the first one stays
first_stays : (fs : List FrameData) (n : Counting) → 1 ≤ n.snaps → (counted_all n fs).first ≡ n.first
first_stays [] n some = refl
first_stays (f ∷ fs) n some = go (first_stays fs (with_snap n f.seq) more) (first_stays fs n some) (f.kind == 2)
  where
    more : 1 ≤ n.snaps + 1
    more = omega arith

    not_none : (n.snaps == 0) ≡ false
    not_none = ne_eqb n.snaps 0 (λ e. absurd (omega (arith, e, some)))

    here : (with_snap n f.seq).first ≡ n.first
    here = ap (λ (b : Bool). cond b f.seq n.first) not_none

    go : (counted_all (with_snap n f.seq) fs).first ≡ (with_snap n f.seq).first → (counted_all n fs).first ≡ n.first → (b : Bool) → (counted_all (cond b (with_snap n f.seq) n) fs).first ≡ n.first
    go p q true = p ∙ here
    go p q false = q

abbrev none : Counting
none = record { snaps = 0; first = 0 }

first_all : (fs : List FrameData) → (counted_all none fs).first ≡ first_snap fs
first_all [] = refl
first_all (f ∷ fs) = go (first_all fs) (f.kind == 2)
  where
    one : 1 ≤ 0 + 1
    one = omega arith

    go : (counted_all none fs).first ≡ first_snap fs → (b : Bool) → (counted_all (cond b (with_snap none f.seq) none) fs).first ≡ cond b f.seq (first_snap fs)
    go q true = first_stays fs (with_snap none f.seq) one
    go q false = q

pub numbers_of : (j : JournalData) (a b : Numbers) → numbers_view a ≡ none → Takes Counts a (items_in j) b → NumbersOf j b
numbers_of j a b start t =
    let all : numbers_view b ≡ counted_all none (entries j) = taken_all (items_in j) a b t ∙ ap (λ (v : Counting). counted_all v (frames_among (items_in j))) start ∙ ap (counted_all none) (among_all j) in
    record {
      snaps_are = ap (λ (v : Counting). v.snaps) all ∙ all_snaps (entries j) none ∙ omega arith;
      first_is = ap (λ (v : Counting). v.first) all ∙ first_all (entries j);
    }

-- ---- the journal of a disk

pub one_journal : (was : List ℕ) (i j : JournalData) → journal_of was ≡ Is i → journal_of was ≡ Is j → i ≡ j
one_journal was i j p q = let e : Is i ≡ Is j = sym p ∙ q in cc

pub stands_on : (k : Kept) (images : List ℕ → Type 0) (was now : List ℕ) (j : JournalData) → now ≡ was → journal_of was ≡ Is j → (i : JournalData) × (journal_of was ≡ Is i) × IsOwn k images was i → IsOn j k now
stands_on k images was now j same stands (i, told, own) =
    let is : i ≡ j = one_journal was i j told stands in
    let here : IsOn i k was = record { at = record { front = own.front; place = own.place; last = own.last; stands = own.stands; keeps = own.keeps; base = own.base; read = own.read; begun = inr own.begun }; ended_is = own.begun } in
    subst (λ (x : JournalData). IsOn x k now) is (subst (λ (b : List ℕ). IsOn i k b) (sym same) here)
