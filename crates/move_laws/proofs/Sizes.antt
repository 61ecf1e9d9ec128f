-- The state at an entry has as many pages as the journal's header.
use Rattle.std.proofs.Common.{◌≡◌, ℕ, zero, suc, ◌+◌, ◌*◌, ◌<◌, true, nat_le, nat_lt, ◌&&◌, List, [], ◌∷◌, ◌++◌, length, Option, Some, None, refl, sym, ap, subst, ◌∙◌, arith, inl, inr, ◌⊎◌, ltb-true}
use Rattle.std.specs.Prelude.{◌==◌, option_map}
use Rattle.std.specs.List.{AllByRecursion}
use Rattle.avm_num.specs.Walk.{items_of, walk, walked}
use Rattle.avm_num.proofs.Numbers.{and_true, bind_some, kept_some}
use Rattle.avm_model.specs.Frame.{FrameData}
use Rattle.avm_model.specs.Entries.{numbered}
use Rattle.avm_model.specs.Head.{HeadData}
use Rattle.avm_model.specs.HeadReading.{head_of}
use Rattle.avm_model.specs.HeadState.{state_of}
use Rattle.avm_model.specs.Machine.{State}
use Rattle.avm_model.specs.Memory.{put_page}
use Rattle.avm_model.specs.Reference.{entries_of, timed}
use Rattle.avm_model.specs.Rerun.{after}
use Rattle.avm_model.proofs.HeadBounds.{head_bounded}
use Rattle.export_model.specs.Exports.{IsStateAt}
use Rattle.export_laws.proofs.Still.{replays_behind}
use Rattle.honest_model.specs.Honest.{header_state}
use Rattle.honest_model.specs.Keeps.{IsBase, IsFaultBehind, IsHeaderBase, IsKeepBase, IsStretch, frames_behind, keep_state, kept_ram, up_to, with_pages}
use Rattle.honest_model.proofs.Keeping.{Fits, put_len}
use Rattle.honest_model.proofs.Logs.{keeps-append}
use Rattle.journal_model.specs.Fits.{FitsJournal}
use Rattle.journal_model.specs.Journal.{JournalData, count_or_zero, entries, follows, is_number, may_stand, page_count_of, pages_ascend, parts, snap_of}
use Rattle.journal_model.specs.Part.{KeepData, PageData, Part, entry, frames_in, keep, keeps_in, page_at, pages_of, seal}
use Rattle.journal_model.proofs.Fitting.{entries_numbered}
use Rattle.keep_judge.proofs.Patching.{page_sized}
use Rattle.open_replay.proofs.Whole.{size_kept, snap_some}
use Rattle.opening_laws.proofs.Bases.{same_base}

-- ---- pages of keeps

abbrev Sized : PageData → Type 0
Sized p = length p.bytes ≡ 4096

sized_walk : (n : ℕ) (bytes : List ℕ) → AllByRecursion Sized (walk page_at n bytes).0
sized_walk zero bytes = tt
sized_walk (suc n) bytes = go (page_at bytes) refl (λ l. sized_walk n l)
  where
    go : (o : Option (PageData × List ℕ)) → page_at bytes ≡ o → ((l : List ℕ) → AllByRecursion Sized (walk page_at n l).0) → AllByRecursion Sized (walked o bytes (walk page_at n)).0
    go None e more = tt
    go (Some p) e more = (page_sized bytes p.0 p.1 e, more p.1)

sized_pages : (bytes : List ℕ) → AllByRecursion Sized (items_of page_at bytes)
unfolding items_of
sized_pages bytes = sized_walk (length bytes) bytes

with_len : (low most : ℕ) (ram : List ℕ) (ps : List PageData) → AllByRecursion Sized ps → pages_ascend low most ps ≡ true → length ram ≡ 4096 * most → length (with_pages ram ps) ≡ length ram
with_len low most ram [] s a e = refl
with_len low most ram (p ∷ ps) s a e =
    let t = and_true (nat_le low p.number && nat_lt p.number most) (pages_ascend (p.number + 1) most ps) a in
    let lt = ltb-true p.number most (and_true (nat_le low p.number) (nat_lt p.number most) t.0).1 in
    let f : Fits ram p.bytes p.number = record { sized = s.0; within = omega (arith, lt, e) } in
    let put = put_len ram p.bytes p.number f in
    with_len (p.number + 1) most (put_page ram p.number p.bytes) ps s.1 t.1 (put ∙ e) ∙ put

abbrev Inside : ℕ → KeepData → Type 0
Inside most k = pages_ascend 0 most (pages_of k) ≡ true

kept_len : (most : ℕ) (ram : List ℕ) (ks : List KeepData) → AllByRecursion (Inside most) ks → length ram ≡ 4096 * most → length (kept_ram ram ks) ≡ length ram
kept_len most ram [] h e = refl
kept_len most ram (k ∷ ks) h e = let one = with_len 0 most ram (pages_of k) (sized_pages k.pages) h.0 e in kept_len most (with_pages ram (pages_of k)) ks h.1 (one ∙ e) ∙ one

all_inside : (first pages n : ℕ) (snap : Option ℕ) (ps : List Part) → follows first pages n snap ps ≡ true → AllByRecursion (Inside pages) (keeps_in ps)
all_inside first pages n snap [] h = tt
all_inside first pages n snap (entry f ∷ ps) h = all_inside first pages (n + 1) (snap_of f) ps (and_true (f.seq == n && may_stand first n f.kind) (follows first pages (n + 1) (snap_of f) ps) h).1
all_inside first pages n snap (seal ∷ ps) h = all_inside first pages n None ps (and_true (nat_lt first n) (follows first pages n None ps) h).1
all_inside first pages n snap (keep k ∷ ps) h =
    let t = and_true (is_number snap k.seq && pages_ascend 0 pages (pages_of k)) (follows first pages n None ps) h in
    ((and_true (is_number snap k.seq) (pages_ascend 0 pages (pages_of k)) t.0).1, all_inside first pages n None ps t.1)

first_of : (most : ℕ) (a b : List KeepData) → AllByRecursion (Inside most) (a ++ b) → AllByRecursion (Inside most) a
first_of most [] b h = tt
first_of most (k ∷ a) b h = (h.0, first_of most a b h.1)

-- ---- bases

-- a state of a head
record IsOf (s : State) : Type 0 where
  bytes : List ℕ
  head : HeadData
  read : head_of bytes ≡ Some head
  ram : List ℕ
  is : state_of head ram ≡ s

snap_of_head : (s : State) → IsOf s → 0 < s.snap
snap_of_head s i = subst (λ (x : State). 0 < x.snap) i.is (snap_some i.head (head_bounded i.bytes i.head i.read))

header_len : (j : JournalData) → FitsJournal j → length j.header.pages ≡ 4096 * page_count_of j
header_len j fits = let p = fits.header.pages in p.2 ∙ ap (λ (n : ℕ). 4096 * n) (sym (ap count_or_zero p.1))

-- the state of a base
record Based (j : JournalData) (s : State) : Type 0 where
  of : IsOf s
  size : length s.ram ≡ 4096 * page_count_of j

of_header : (j : JournalData) (s : State) → FitsJournal j → header_state j.header ≡ Some s → Based j s
of_header j s fits e = go (head_of j.header.head) refl e
  where
    go : (o : Option HeadData) → head_of j.header.head ≡ o → option_map (λ d. state_of d j.header.pages) o ≡ Some s → Based j s
    go None r q = absurd cc
    go (Some d) r q =
        let is : state_of d j.header.pages ≡ s = cc in
        record { of = record { bytes = j.header.head; head = d; read = r; ram = j.header.pages; is = is }; size = ap (λ (x : State). length x.ram) (sym is) ∙ header_len j fits }

of_keep : (j : JournalData) (before : List KeepData) (k : KeepData) (s : State) → FitsJournal j → AllByRecursion (Inside (page_count_of j)) (before ++ k ∷ []) → keep_state j.header before k ≡ Some s → Based j s
of_keep j before k s fits inside e =
    let a = bind_some (head_of j.header.head) _ s e in
    let b = bind_some (head_of k.head) _ s a.2 in
    let c = kept_some _ (state_of b.0 (kept_ram j.header.pages (before ++ k ∷ []))) s b.2 in
    let size : length (kept_ram j.header.pages (before ++ k ∷ [])) ≡ 4096 * page_count_of j = kept_len (page_count_of j) j.header.pages (before ++ k ∷ []) inside (header_len j fits) ∙ header_len j fits in
    record {
      of = record { bytes = k.head; head = b.0; read = b.1; ram = kept_ram j.header.pages (before ++ k ∷ []); is = c.1 };
      size = ap (λ (x : State). length x.ram) (sym c.1) ∙ size;
    }

of_base : (j : JournalData) (n : ℕ) (front behind : List Part) (s : State) → FitsJournal j → IsBase j n front behind s → Based j s
of_base j n front behind s fits base = go base.base
  where
    whole : follows j.header.first (page_count_of j) j.header.first None (front ++ behind) ≡ true
    whole = subst (λ (ps : List Part). follows j.header.first (page_count_of j) j.header.first None ps ≡ true) base.split fits.whole

    all : AllByRecursion (Inside (page_count_of j)) (keeps_in front ++ keeps_in behind)
    all = subst (AllByRecursion (Inside (page_count_of j))) (keeps-append front behind) (all_inside j.header.first (page_count_of j) j.header.first None (front ++ behind) whole)

    go : IsHeaderBase j front s ⊎ IsKeepBase j n front s → Based j s
    go (inl h) = of_header j s fits h.state
    go (inr k) =
        let keeps : keeps_in front ≡ keeps_in k.before ++ k.last ∷ [] = ap keeps_in k.front_is ∙ keeps-append k.before (keep k.last ∷ []) in
        of_keep j (keeps_in k.before) k.last s fits (subst (AllByRecursion (Inside (page_count_of j))) keeps (first_of (page_count_of j) (keeps_in front) (keeps_in behind) all)) k.good.state

-- ---- the state at an entry

entries_split : (j : JournalData) (ps : List Part) → parts j ≡ ps → entries j ≡ frames_in ps
unfolding entries
entries_split j ps q = ap frames_in q

pub state_size : (j : JournalData) (n : ℕ) (s : State) → FitsJournal j → IsStretch j n None → IsStateAt j n s → length s.ram ≡ 4096 * page_count_of j
state_size j n s fits q o =
    let same = same_base j n q.front q.behind o.front o.behind q.state o.base q.base o.base_is in
    let fault : IsFaultBehind j.header.first o.front o.base (up_to n (frames_in o.behind)) None =
    subst (λ (x : List Part). IsFaultBehind j.header.first x o.base (up_to n (frames_in o.behind)) None) same.front_is (subst (λ (x : List Part). IsFaultBehind j.header.first q.front o.base (up_to n (frames_in x)) None) same.behind_is (subst (λ (x : State). IsFaultBehind j.header.first q.front x (up_to n (frames_in q.behind)) None) same.state_is q.fault_is)) in
    let numbers : numbered j.header.first (frames_in (o.front ++ o.behind)) ≡ true = subst (λ (fs : List FrameData). numbered j.header.first fs ≡ true) (entries_split j (o.front ++ o.behind) o.base_is.split) (entries_numbered j fits) in
    let replays = replays_behind j.header.first n o.front o.behind o.base numbers fault in
    let b = of_base j n o.front o.behind o.base fits o.base_is in
    let kept = size_kept o.base (entries_of (up_to n (frames_behind o.front o.behind))) (after timed o.base (entries_of (up_to n (frames_behind o.front o.behind)))) (snap_of_head o.base b.of) (record { replays = replays; is = refl }) in
    ap (λ (x : State). length x.ram) o.state ∙ kept ∙ b.size
