-- A journal without a fault is opened to a steady machine.
use Rattle.std.proofs.Common.{◌≡◌, ℕ, ◌+◌, ◌-◌, ◌*◌, ◌≤◌, ◌<◌, Bool, true, false, List, [], ◌∷◌, ◌++◌, length, Option, Some, None, refl, sym, ap, subst, ◌∙◌, arith, ◌⊎◌, inl, inr, eqb-true, leb-true, length-append}
use Rattle.std.specs.Prelude.{◌==◌, ◌&&◌, ◌^◌, if◌then◌else◌, option_map}
use Rattle.std.specs.Str.{bytes_eq}
use Rattle.std.proofs.lemmas.Nat.{mul-le}
use Rattle.std.proofs.lemmas.List.{length-map}
use Rattle.avm_num.proofs.Numbers.{and_true, bind_some, kept_some}
use Rattle.avm_model.specs.Audit.{behind_first, commits_to, is_committed}
use Rattle.avm_model.specs.Bounds.{is_head}
use Rattle.avm_model.specs.Content.{ContentData, boot, content_at}
use Rattle.avm_model.specs.Parts.{count_at}
use Rattle.avm_model.specs.Frame.{FrameData}
use Rattle.avm_model.specs.Head.{HeadData}
use Rattle.avm_model.specs.HeadReading.{head_of}
use Rattle.avm_model.specs.HeadState.{state_of}
use Rattle.avm_model.specs.Machine.{State}
use Rattle.avm_model.specs.Reference.{Given, Made, entries_of, entry_of_frame, timed}
use Rattle.avm_model.specs.Rerun.{Replays, after, start}
use Rattle.avm_model.specs.Root.{root}
use Rattle.avm_model.specs.Timed.{Entry}
use Rattle.avm_model.specs.Judge.{judge_all}
use Rattle.avm_model.proofs.HeadBounds.{head_bounded}
use Rattle.avm_model.proofs.ReferenceLaws.{is_timed}
use Rattle.avm_model.proofs.ReplayTheorems.{judged-Stands}
use Rattle.honest_model.specs.Honest.{IsFaultFrom, header_state}
use Rattle.honest_model.specs.Keeps.{IsBase, IsFaultBehind, IsHeaderBase, IsKeepBase, IsOpenFault, IsOpened, first_count, frames_behind, keep_state, kept_ram, last_of, same_front, up_to, within_steps}
use Rattle.journal_model.specs.Fits.{FitsJournal}
use Rattle.journal_model.specs.Header.{HeaderData, has_early_count, is_base, is_first}
use Rattle.journal_model.specs.Journal.{JournalData, entries, follows, may_stand, next_number, page_count_of, parts}
use Rattle.journal_model.specs.Part.{KeepData, Part, entry, frames_in, keep, keeps_in}
use Rattle.journal_model.proofs.Fitting.{first_entry}
use Rattle.journal_model.proofs.Prefixes.{frames_append}
use Rattle.avm_model.specs.Entries.{all_zero}
use Rattle.opening_laws.proofs.Bases.{same_base}
use Rattle.record_laws.proofs.Fronts.{Costs, all_cost}
use Rattle.record_ready.specs.Ready.{IsSteady}
use Rattle.rebut_model.proofs.Always.{journal_replays}
use Rattle.snapshot_laws.proofs.Clocks.{Wanted}
use Rattle.steady_laws.proofs.Opened.{opened_wanted}
use Rattle.ready_laws.proofs.Counts.{early_count}
use Rattle.ready_laws.proofs.Behind.{all_behind}

some_is : {A : Type 0} (x y : A) → Some x ≡ Some y → x ≡ y
some_is x y e = cc

-- ---- where the entries begin

-- an entry can't cost too much, and the count is well below its bound
record Begun (s : State) : Type 0 where
  some : 0 < s.snap
  few : s.snap ≤ 2 ^ 24
  early : s.count ≤ 2 ^ 61 + 2 ^ 54

few_steps : (snap n : ℕ) → snap ≤ 2 ^ 24 → n ≤ 2 ^ 30 → snap * n ≤ 2 ^ 54
few_steps snap n a b = mul-le snap n (2 ^ 24) (2 ^ 30) a b

front_few : (h : HeadData) → is_head h ≡ true → (0 < h.front.snap) × (h.front.snap ≤ 2 ^ 24)
unfolding is_head
front_few h e = grind (arith, e)

begun_at : (d : HeadData) (bytes ram : List ℕ) (s : State) → head_of bytes ≡ Some d → state_of d ram ≡ s → d.hart.count ≤ 2 ^ 61 + 2 ^ 54 → Begun s
begun_at d bytes ram s read is low =
    let f = front_few d (head_bounded bytes d read) in
    subst Begun is (record { some = f.0; few = f.1; early = low })

-- ---- the count at the header

boot_count : (s : State) (o : Option ContentData) (count : ℕ) (rest : List ℕ) → o ≡ Some (boot count rest) → count ≡ 0 → commits_to s o ≡ true → s.count ≡ 0
boot_count s o count rest is zero e =
    let both : (count == s.count && bytes_eq rest (root s)) ≡ true = subst (λ (x : Option ContentData). commits_to s x ≡ true) is e in
    sym (eqb-true count s.count (and_true (count == s.count) _ both).0) ∙ zero

never_none : (s : State) → commits_to s None ≡ true → ⊥
never_none s e = absurd cc

boots : (s : State) (kind : ℕ) (bytes : List ℕ) → kind ≡ 1 → commits_to s (content_at kind bytes) ≡ true → s.count ≡ 0
unfolding content_at
boots s kind bytes one e = go (count_at bytes) refl
  where
    form : (count : ℕ) (rest : List ℕ) (b : Bool) → (count == 0 && length rest == 32) ≡ b → count_at bytes ≡ Some (count, rest) → s.count ≡ 0
    form count rest true q p =
        let zero : count ≡ 0 = eqb-true count 0 (and_true (count == 0) _ q).0 in
        boot_count s (content_at kind bytes) count rest (rw (one, p, q) refl) zero e
    form count rest false q p = let none : content_at kind bytes ≡ None = rw (one, p, q) refl in absurd (never_none s (subst (λ (x : Option ContentData). commits_to s x ≡ true) none e))

    go : (o : Option (ℕ × List ℕ)) → count_at bytes ≡ o → s.count ≡ 0
    go None p = let none : content_at kind bytes ≡ None = rw p refl in absurd (never_none s (subst (λ (x : Option ContentData). commits_to s x ≡ true) none e))
    go (Some c) p = form c.0 c.1 (c.0 == 0 && length c.1 == 32) refl p

first_is_boot : (j : JournalData) (f : FrameData) (ps : List Part) → FitsJournal j → parts j ≡ entry f ∷ ps → j.header.first ≡ 1 → f.kind ≡ 1
first_is_boot j f ps fits is one =
    let h : follows j.header.first (page_count_of j) j.header.first None (entry f ∷ ps) ≡ true = subst (λ (l : List Part). follows j.header.first (page_count_of j) j.header.first None l ≡ true) is fits.whole in
    let a = and_true (f.seq == j.header.first && may_stand j.header.first j.header.first f.kind) _ h in
    let b = and_true (f.seq == j.header.first) (may_stand j.header.first j.header.first f.kind) a.0 in
    let c : may_stand 1 1 f.kind ≡ true = subst (λ (n : ℕ). may_stand n n f.kind ≡ true) one b.1 in
    eqb-true f.kind 1 c

first_is_one : (h : HeaderData) → is_first h ≡ true → h.first ≡ 1
first_is_one h e = eqb-true h.first 1 (and_true (h.first == 1) _ (and_true (h.first == 1 && all_zero h.before) _ e).0).0

base_early : (h : HeaderData) (d : HeadData) → is_base h ≡ true → head_of h.head ≡ Some d → d.hart.count < 2 ^ 61
base_early h d e read = early_count h.head d read (and_true _ (has_early_count h.head) e).1

header_begun : (j : JournalData) (s : State) → FitsJournal j → header_state j.header ≡ Some s → is_committed s (entries j) ≡ true → Begun s
unfolding entries is_committed
header_begun j s fits state committed = go (head_of j.header.head) refl state
  where
    count : (d : HeadData) → head_of j.header.head ≡ Some d → state_of d j.header.pages ≡ s → (is_first j.header ≡ true) ⊎ (is_base j.header ≡ true) → d.hart.count ≤ 2 ^ 61 + 2 ^ 54
    count d read is (inl first) =
        let o = first_entry j fits in
        let kind = first_is_boot j o.0 o.1 fits o.2 (first_is_one j.header first) in
        let here : is_committed s (frames_in (entry o.0 ∷ o.1)) ≡ true = subst (λ (l : List Part). is_committed s (frames_in l) ≡ true) o.2 committed in
        let zero : s.count ≡ 0 = boots s o.0.kind o.0.content kind here in
        let same : d.hart.count ≡ s.count = ap (λ (x : State). x.count) is in
        omega (arith, zero, same)
    count d read is (inr base) = let low = base_early j.header d base read in omega (arith, low)

    go : (o : Option HeadData) → head_of j.header.head ≡ o → option_map (λ d. state_of d j.header.pages) o ≡ Some s → Begun s
    go None p e = absurd cc
    go (Some d) p e =
        let is : state_of d j.header.pages ≡ s = some_is _ s e in
        begun_at d j.header.head j.header.pages s p is (count d p is fits.header.version)

-- ---- the count at a keep

first_low : (h : HeaderData) (a : HeadData) → head_of h.head ≡ Some a → (is_first h ≡ true) ⊎ (is_base h ≡ true) → first_count h.first a ≤ 2 ^ 61
first_low h a read (inl first) = rw (first_is_one h first) (omega arith)
first_low h a read (inr base) = by (h.first == 1) (base_early h a base read)
  where
    by : (b : Bool) → a.hart.count < 2 ^ 61 → (if b then 0 else a.hart.count) ≤ 2 ^ 61
    by true low = omega arith
    by false low = omega (arith, low)

keep_begun : (h : HeaderData) (earlier : List KeepData) (k : KeepData) (s : State) → (is_first h ≡ true) ⊎ (is_base h ≡ true) → k.seq - h.first ≤ 2 ^ 30 → keep_state h earlier k ≡ Some s → Begun s
keep_begun h earlier k s version near state =
    let a = bind_some (head_of h.head) _ s state in
    let b = bind_some (head_of k.head) _ s a.2 in
    let q = kept_some (same_front a.0 b.0 && within_steps h.first a.0 k.seq b.0) (state_of b.0 (kept_ram h.pages (earlier ++ k ∷ []))) s b.2 in
    let w : b.0.hart.count ≤ first_count h.first a.0 + a.0.front.snap * (k.seq - h.first) = leb-true _ _ (and_true (same_front a.0 b.0) (within_steps h.first a.0 k.seq b.0) q.0).1 in
    let f = front_few a.0 (head_bounded h.head a.0 a.1) in
    let steps = few_steps a.0.front.snap (k.seq - h.first) f.1 near in
    let low = first_low h a.0 a.1 version in
    begun_at b.0 k.head (kept_ram h.pages (earlier ++ k ∷ [])) s b.1 q.1 (omega (arith, w, steps, low))

-- ---- the entries behind a base replay

next_is : (j : JournalData) → next_number j ≡ j.header.first + length (entries j)
unfolding next_number
next_is j = refl

behind_few : (fs : List FrameData) → length (behind_first fs) ≤ length fs
behind_few [] = omega arith
behind_few (f ∷ fs) = omega arith

few_behind : (j : JournalData) (front behind : List Part) → parts j ≡ front ++ behind → length (frames_behind front behind) ≤ length (entries j)
unfolding entries
few_behind j front behind e = go front e
  where
    len : (front : List Part) → parts j ≡ front ++ behind → length (frames_in behind) ≤ length (frames_in (parts j))
    len front e = let l : length (frames_in (parts j)) ≡ length (frames_in front) + length (frames_in behind) = ap (λ (ps : List Part). length (frames_in ps)) e ∙ ap length (frames_append front behind) ∙ length-append (frames_in front) (frames_in behind) in omega (arith, l)

    go : (front : List Part) → parts j ≡ front ++ behind → length (frames_behind front behind) ≤ length (frames_in (parts j))
    go [] e = let l = len [] e in let few = behind_few (frames_in behind) in omega (arith, l, few)
    go (p ∷ front) e = len (p ∷ front) e

-- where the entries begin, and that they replay
record Leading (j : JournalData) (front behind : List Part) (s : State) : Type 0 where
  begun : Begun s
  replays : Replays timed s (entries_of (frames_behind front behind))

some_front : (before : List Part) (p : Part) → before ++ p ∷ [] ≡ [] → ⊥
some_front [] p e = absurd cc
some_front (x ∷ before) p e = absurd cc

leading : (j : JournalData) (front behind : List Part) (s : State) → FitsJournal j → length (entries j) ≤ 2 ^ 30 → IsBase j (last_of j) front behind s → IsFaultBehind j.header.first front s (frames_in behind) None → Leading j front behind s
unfolding entries
leading j front behind s fits few base fault = go base.base
  where
    by_header : IsHeaderBase j front s → Leading j front behind s
    by_header h =
        let split : parts j ≡ behind = base.split ∙ ap (λ (ps : List Part). ps ++ behind) h.front_is in
        let from : IsFaultFrom j.header.first s (frames_in behind) None = subst (λ (ps : List Part). IsFaultBehind j.header.first ps s (frames_in behind) None) h.front_is fault in
        let r = journal_replays s j fits (subst (λ (ps : List Part). IsFaultFrom j.header.first s (frames_in ps) None) (sym split) from) in
        let here : Replays timed s (entries_of (frames_behind [] behind)) = subst (λ (ps : List Part). Replays timed s (entries_of (behind_first (frames_in ps)))) split r.1 in
        record {
          begun = header_begun j s fits h.state r.0;
          replays = subst (λ (ps : List Part). Replays timed s (entries_of (frames_behind ps behind))) (sym h.front_is) here;
        }

    keeps : (front : List Part) → (front ≡ [] → ⊥) → IsFaultBehind j.header.first front s (frames_in behind) None → Replays timed s (entries_of (frames_behind front behind))
    keeps [] some f = absurd (some refl)
    keeps (p ∷ ps) some f = f

    by_keep : IsKeepBase j (last_of j) front s → Leading j front behind s
    by_keep k =
        let next = next_is j in
        let low = k.low in
        record {
          begun = keep_begun j.header (keeps_in k.before) k.last s fits.header.version (omega (arith, next, low, few)) k.good.state;
          replays = keeps front (λ e. some_front k.before (keep k.last) (sym k.front_is ∙ e)) fault;
        }

    go : IsHeaderBase j front s ⊎ IsKeepBase j (last_of j) front s → Leading j front behind s
    go (inl h) = by_header h
    go (inr k) = by_keep k

-- ---- and leave a steady machine

ends : (s : State) (es : List (Entry Given Made)) → Begun s → length es ≤ 2 ^ 30 → Replays timed s es → Wanted (after timed s es).state → IsSteady (after timed s es).state
ends s es b few r want =
    let judged : judge_all timed (start s) es ≡ Some (after timed s es) = judged-Stands timed is_timed s es (after timed s es) (record { replays = r; is = refl }) in
    let cost : Costs s (after timed s es).state (length es) = all_cost (start s) (after timed s es) es b.some judged in
    let steps = few_steps s.snap (length es) b.few few in
    let most = cost.most in
    let early = b.early in
    record { asks = want; room = λ some. omega (arith, steps, most, early) }

pub steady : (j : JournalData) (s : State) → FitsJournal j → length (entries j) ≤ 2 ^ 30 → IsOpenFault j None → IsOpened j s → IsSteady s
steady j s fits few none o =
    let same = same_base j (last_of j) none.front none.behind o.front o.behind none.state o.state none.base o.base in
    let all : up_to (last_of j) (frames_in o.behind) ≡ frames_in o.behind = all_behind j o.front o.behind fits o.base.split in
    let fault : IsFaultBehind j.header.first o.front o.state (up_to (last_of j) (frames_in o.behind)) None =
    subst (λ (front : List Part). IsFaultBehind j.header.first front o.state (up_to (last_of j) (frames_in o.behind)) None) same.front_is
    (subst (λ (x : State). IsFaultBehind j.header.first none.front x (up_to (last_of j) (frames_in o.behind)) None) same.state_is
    (subst (λ (ps : List Part). IsFaultBehind j.header.first none.front none.state (up_to (last_of j) (frames_in ps)) None) same.behind_is none.fault_is)) in
    let lead = leading j o.front o.behind o.state fits few o.base (subst (λ (fs : List FrameData). IsFaultBehind j.header.first o.front o.state fs None) all fault) in
    let es : List (Entry Given Made) = entries_of (frames_behind o.front o.behind) in
    let len : length es ≤ 2 ^ 30 = (let m : length es ≡ length (frames_behind o.front o.behind) = length-map (frames_behind o.front o.behind) entry_of_frame in let f = few_behind j o.front o.behind o.base.split in omega (arith, m, f, few)) in
    subst IsSteady (sym o.after_is) (ends o.state es lead.begun len lead.replays (subst Wanted o.after_is (opened_wanted j s o)))
