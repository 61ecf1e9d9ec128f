-- Whether entries of a journal are a segment, by what both readings tell.
use Rattle.std.proofs.Common.{◌≡◌, ◌⊎◌, ◌&&◌, ℕ, ◌+◌, ◌^◌, Bool, true, false, cond, is_some, nat_eq, nat_le, List, [], ◌∷◌, ◌++◌, length, Option, Some, None, IfSome, Ok, Err, refl, sym, ap, subst, ◌∙◌, arith, inl, inr, eq-eqb}
use Rattle.std.specs.Prelude.{Result, min}
use Rattle.std.specs.List.{flat_map}
use Rattle.std.proofs.lemmas.List.{length-append}
use Rattle.avm_num.proofs.Lengths.{be32, be64, one1}
use Rattle.avm_model.specs.Chain.{link, next_hash}
use Rattle.avm_model.specs.Entries.{snaps}
use Rattle.avm_model.specs.Frame.{FrameData, frame_bytes}
use Rattle.avm_model.specs.Head.{HeadData, head_bytes}
use Rattle.avm_model.specs.HeadReading.{head_of}
use Rattle.avm_model.specs.HeadState.{data_of}
use Rattle.avm_model.specs.Machine.{State}
use Rattle.avm_model.specs.Reference.{entries_of, timed}
use Rattle.avm_model.specs.Rerun.{after}
use Rattle.avm_model.specs.Segment.{SegmentFront, segment_bytes, segment_front_bytes}
use Rattle.avm_model.proofs.LmsLaw.{length-hash}
use Rattle.evid_file.specs.Pieces.{Written}
use Rattle.export_model.specs.Exports.{IsExport, IsStateAt, begins_at, exported, in_range, range, segment_for, stretch}
use Rattle.export_laws.proofs.Still.{still}
use Rattle.honest_model.specs.Keeps.{IsStretch, frames_behind, last_of, up_to}
use Rattle.journal_model.specs.Fits.{FitsJournal}
use Rattle.journal_model.specs.Journal.{Is, JournalData, count_or_zero, entries, journal_of, page_count_of}
use Rattle.journal_model.specs.Part.{Part}
use Rattle.journal_model.specs.Standing.{Bounds, StandingData}
use Rattle.journal_model.proofs.Judging.{stands_next}
use Rattle.jrnl_store.specs.Kept.{Kept, kept as kept_of}
use Rattle.jrnl_store.specs.Own.{AreKept}
use Rattle.jrnl_store.specs.declared.journal.Journal.{Journal}
use Rattle.jrnl_store.proofs.Commits.{own_at}
use Rattle.keep_judge.specs.Good.{pages_fit}
use Rattle.keep_judge.proofs.Goodness.{fits_head, head_count}
use Rattle.opening_laws.proofs.Bases.{same_base}
use Rattle.rebut_model.specs.Texts.{OfHead, Stretch, from_number}
use Rattle.rebut_pass.specs.Reads.{OfJournal}
use Rattle.rebut_pass.specs.declared.fault.ReadFault.{ReadFault}
use Rattle.rebut_pass.specs.declared.fault.ReadFault.TheVariants as read
use Rattle.stretch_replay.specs.Stretched.{IsStretched}
use Rattle.stretch_replay.specs.declared.stretching.Stretched.{Stretched}
use Rattle.journal_export.specs.Counts.{read_fault}
use Rattle.journal_export.specs.Cuts.{cut}
use Rattle.journal_export.specs.Exporting.{ExportAnswers, Exports, HasHead, IsOfWriting, IsSnapshot, IsWritten, JournalAnswers, Judges, Taken, front_of, is_range}
use Rattle.journal_export.specs.Limits.{most_bytes, most_snaps}
use Rattle.journal_export.specs.Survey.{IsSurveyOf}
use Rattle.journal_export.specs.declared.fault.ExportFault.{ExportFault}
use Rattle.journal_export.specs.declared.fault.ExportFault.TheVariants as fault
use Rattle.journal_export.specs.declared.judging.Snapshot.{Snapshot}
use Rattle.journal_export.specs.declared.survey.Survey.{Survey}
use Rattle.journal_export.proofs.Surveyed.{within}

-- ---- the size of a segment

front_length : (f : SegmentFront) → length f.before ≡ 32 → length (segment_front_bytes f) ≡ 49 + length f.head
unfolding segment_front_bytes
front_length f b = simp (length-append, be32, be64, one1) (omega (arith, b))

before_length : (n : ℕ) (h : List ℕ) (fs : List FrameData) → length h ≡ 32 → length (from_number n h fs).before ≡ 32
before_length n h [] e = e
before_length n h (f ∷ fs) e = go (nat_eq f.seq n) (before_length n (next_hash h f) fs (length-hash (link h f)))
  where
    here : Bool → Stretch
    here b = cond b (record { before = h; frames = f ∷ fs }) (from_number n (next_hash h f) fs)

    go : (b : Bool) → length (from_number n (next_hash h f) fs).before ≡ 32 → length (here b).before ≡ 32
    go true ih = e
    go false ih = ih

segment_length : (j : JournalData) (from to : ℕ) (s : State) → length j.header.before ≡ 32 → length (segment_bytes (segment_for j from to s)) ≡ 49 + length (head_bytes (data_of s)) + length s.ram + length (flat_map frame_bytes (stretch j from to))
unfolding segment_bytes
segment_length j from to s e =
    let front = front_length (segment_for j from to s).front (before_length from j.header.before (entries j) e) in
    let a = length-append (segment_front_bytes (segment_for j from to s).front ++ s.ram) (flat_map frame_bytes (stretch j from to)) in
    let b = length-append (segment_front_bytes (segment_for j from to s).front) s.ram in
    omega (arith, front, a, b)

few_snaps : (x : ℕ) → nat_le (min 65 x) 64 ≡ nat_le x 64
few_snaps x = let z : (n : ℕ) → 0 + n ≡ n = (λ n. omega arith) in ap (λ (n : ℕ). nat_le n 64) (sym (z (min 65 x))) ∙ within 0 64 x ∙ ap (λ (n : ℕ). nat_le n 64) (z x)

last_is : (k : Kept) (j : JournalData) (n : ℕ) → AreKept k j → n + 1 ≡ k.standing.next → n ≡ last_of j
last_is k j n h e = let s = ap (λ (s : StandingData). s.next) h.standing ∙ stands_next j in omega (arith, e, s)

pub range_is : (j : JournalData) (from to last : ℕ) (v : Survey) (s : State) → length j.header.before ≡ 32 → last ≡ last_of j → IsSurveyOf j from to v → is_range v last s ≡ in_range j from to (segment_bytes (segment_for j from to s))
range_is j from to last v s before l o =
    let begins : v.begins ≡ begins_at from (entries j) = o.all.begins_is ∙ ap (λ (n : ℕ). begins_at n (entries j)) o.from_is in
    let same : cut v.cut.from v.cut.to j.header.before (entries j) ≡ stretch j from to = ap (λ (n : ℕ). cut n v.cut.to j.header.before (entries j)) o.from_is ∙ ap (λ (n : ℕ). cut from n j.header.before (entries j)) o.to_is in
    let few : nat_le v.snaps 64 ≡ nat_le (snaps (stretch j from to)) 64 = ap (λ (n : ℕ). nat_le n 64) (o.all.snaps_is ∙ ap (λ (l : List FrameData). min most_snaps (snaps l)) same) ∙ few_snaps (snaps (stretch j from to)) in
    let size : v.size ≡ min most_bytes (length (flat_map frame_bytes (stretch j from to))) = o.all.size_is ∙ ap (λ (l : List FrameData). min most_bytes (length (flat_map frame_bytes l))) same in
    let top = 49 + length (head_bytes (data_of s)) + length s.ram in
    let short : nat_le (top + v.size) (2 ^ 26) ≡ nat_le (length (segment_bytes (segment_for j from to s))) (2 ^ 26) =
    ap (λ (n : ℕ). nat_le (top + n) (2 ^ 26)) size ∙ within top (2 ^ 26) (length (flat_map frame_bytes (stretch j from to))) ∙ ap (λ (n : ℕ). nat_le n (2 ^ 26)) (sym (segment_length j from to s before)) in
    rw (begins, o.from_is, o.to_is, l, few, short) refl

begins_of : (a b c d e : Bool) → (a && b && c && d && e) ≡ true → a ≡ true
begins_of true b c d e h = refl
begins_of false b c d e h = absurd cc

pub begins_in : (j : JournalData) (from to : ℕ) (bytes : List ℕ) → in_range j from to bytes ≡ true → begins_at from (entries j) ≡ true
begins_in j from to bytes h = begins_of (begins_at from (entries j)) _ _ _ _ h

-- ---- the state there is one

pub state_one : (j : JournalData) (n : ℕ) (s t : State) → IsStateAt j n s → IsStateAt j n t → s ≡ t
state_one j n s t p q =
    let e = same_base j n p.front p.behind q.front q.behind p.base q.base p.base_is q.base_is in
    p.state ∙ ap (λ (x : List Part). (after timed p.base (entries_of (up_to n (frames_behind x p.behind)))).state) e.front_is ∙ ap (λ (x : List Part). (after timed p.base (entries_of (up_to n (frames_behind q.front x)))).state) e.behind_is
    ∙ ap (λ (x : State). (after timed x (entries_of (up_to n (frames_behind q.front q.behind)))).state) e.state_is ∙ sym q.state

-- ---- heads

pub fits_some : (n : ℕ) (head : List ℕ) (j : JournalData) → pages_fit n (head_of head) ≡ true → head ≡ j.header.head → HasHead j
fits_some n head j e same = λ none. let f = fits_head n (head_of head) e in (let q : None ≡ Some f.0 = sym (ap head_of same ∙ none) ∙ f.1 in absurd cc)

pub no_head : (k : Kept) (j : JournalData) (head : List ℕ) → AreKept k j → head ≡ j.header.head → pages_fit k.bounds.pages (head_of head) ≡ false → head_of j.header.head ≡ None
no_head k j head kept same e = go (head_of j.header.head) refl
  where
    pages : k.bounds.pages ≡ page_count_of j
    pages = ap (λ (b : Bounds). b.pages) kept.bounds

    go : (o : Option HeadData) → head_of j.header.head ≡ o → o ≡ None
    go None i = refl
    go (Some h) i =
        let count : page_count_of j ≡ h.front.pages = ap count_or_zero (head_count j.header.head h i) in
        let fits : pages_fit k.bounds.pages (Some h) ≡ true = eq-eqb h.front.pages k.bounds.pages (sym (pages ∙ count)) in
        let there : pages_fit k.bounds.pages (Some h) ≡ false = sym (ap (λ (o : Option HeadData). pages_fit k.bounds.pages o) (ap head_of same ∙ i)) ∙ e in
        absurd cc

-- ---- what is answered

in_as : (j : JournalData) (from to : ℕ) (s : State) (b : Bool) → in_range j from to (segment_bytes (segment_for j from to s)) ≡ b → cond (in_range j from to (segment_bytes (segment_for j from to s))) (exported (segment_bytes (segment_for j from to s))) range ≡ cond b (exported (segment_bytes (segment_for j from to s))) range
in_as j from to s b e = ap (λ (x : Bool). cond x (exported (segment_bytes (segment_for j from to s))) range) e

pub export_range : (j : JournalData) (from to : ℕ) (s : State) → IsStretch j from None → IsStateAt j from s → in_range j from to (segment_bytes (segment_for j from to s)) ≡ false → IsExport j from to range
export_range j from to s q o e = record { fault = None; stretch_is = q; answer_is = (s, o, sym (in_as j from to s false e)) }

pub export_done : (j : JournalData) (from to : ℕ) (s : State) → IsStretch j from None → IsStateAt j from s → in_range j from to (segment_bytes (segment_for j from to s)) ≡ true → IsExport j from to (exported (segment_bytes (segment_for j from to s)))
export_done j from to s q o e = record { fault = None; stretch_is = q; answer_is = (s, o, sym (in_as j from to s true e)) }

pub judged : (k : Kept) (j : JournalData) (from to last : ℕ) (r : Stretched) (v : Survey) (result : Result Snapshot ExportFault) → FitsJournal j → AreKept k j → last + 1 ≡ k.standing.next → HasHead j → IsStretched j from r → IsSurveyOf j from to v → Taken r v last result → Judges from to j result
judged k j from to last r v result fits kept next head read survey taken = go result taken
  where
    stretch_is : r.fault ≡ None → IsStretch j from None
    stretch_is none = subst (λ (o : Option ℕ). IsStretch j from o) none read.fault

    ranges : is_range v last r.machine.state ≡ in_range j from to (segment_bytes (segment_for j from to r.machine.state))
    ranges = range_is j from to last v r.machine.state fits.header.before (last_is k j last kept next) survey

    waits : r.fault ≡ None → is_range v last r.machine.state ≡ true → r.machine.state.devices.clock ≡ None
    waits none e = still j from r.machine.state fits (stretch_is none) (read.state none) (begins_in j from to _ (sym ranges ∙ e))

    before : (s : Snapshot) → s.before.0 ≡ v.hash.0 → s.before.0 ≡ (from_number from j.header.before (entries j)).before
    before s e = e ∙ survey.all.hash_is ∙ ap (λ (n : ℕ). (from_number n j.header.before (entries j)).before) survey.from_is

    go : (x : Result Snapshot ExportFault) → Taken r v last x → Judges from to j x
    go (Ok s) t = record {
      head = head;
      stretch_is = stretch_is t.0;
      state = subst (λ (x : State). IsStateAt j from x) (sym t.2) (read.state t.0);
      before_is = before s t.3;
      range_is = subst (λ (x : State). in_range j from to (segment_bytes (segment_for j from to x)) ≡ true) (sym t.2) (sym ranges ∙ t.1);
    }
    go (Err fault.NoMemory) t = absurd t
    go (Err fault.DiskFault) t = absurd t
    go (Err fault.FilesFault) t = absurd t
    go (Err fault.NoStore) t = absurd t
    go (Err (fault.Damaged p)) t = absurd t
    go (Err (fault.Unreplayed n)) t = (head, record { fault = Some n; stretch_is = subst (λ (o : Option ℕ). IsStretch j from o) t read.fault; answer_is = refl })
    go (Err fault.Range) t = (head, by t.1)
      where
        by : (is_range v last r.machine.state ≡ false) ⊎ ((is_range v last r.machine.state ≡ true) × (r.machine.state.devices.clock ≡ None → ⊥)) → IsExport j from to range
        by (inl e) = export_range j from to r.machine.state (stretch_is t.0) (read.state t.0) (sym ranges ∙ e)
        by (inr e) = absurd (e.1 (waits t.0 e.0))

pub read_judges : (from to : ℕ) (j : JournalData) (e : ReadFault) → Judges from to j (Err (read_fault e))
read_judges from to j read.NoMemory = tt
read_judges from to j read.DiskFault = tt

pub is_none : (o : Option ℕ) (b : Bool) → b ≡ is_some o → b ≡ false → o ≡ None
is_none None b e f = refl
is_none (Some x) b e f = absurd (let t : true ≡ false = sym e ∙ f in cc)

pub is_waiting : (o : Option ℕ) (b : Bool) → b ≡ is_some o → b ≡ true → o ≡ None → ⊥
is_waiting None b e f n = let t : false ≡ true = sym e ∙ f in cc
is_waiting (Some x) b e f n = cc

-- ---- the file

pub written_is : (j : JournalData) (from to : ℕ) (s : Snapshot) (top pages : List ℕ) (old new : Option (Option (List ℕ))) → IsSnapshot from to j s → top ≡ front_of s from → pages ≡ s.machine.state.ram → OfHead s.machine.state → Written (top ++ pages ++ flat_map frame_bytes (stretch j from to)) old new → IsWritten from to j old new
unfolding segment_bytes
written_is j from to s top pages old new o t p whole w =
    let front : top ≡ segment_front_bytes (segment_for j from to s.machine.state).front = t ∙ ap (λ (b : List ℕ). segment_front_bytes (record { start = from; before = b; head = head_bytes (data_of s.machine.state) })) o.before_is in
    let bytes : top ++ pages ++ flat_map frame_bytes (stretch j from to) ≡ segment_bytes (segment_for j from to s.machine.state) =
    ap (λ (l : List ℕ). l ++ pages ++ flat_map frame_bytes (stretch j from to)) front ∙ ap (λ (l : List ℕ). segment_front_bytes (segment_for j from to s.machine.state).front ++ l ++ flat_map frame_bytes (stretch j from to)) p in
    record {
      head = o.head;
      bytes = segment_bytes (segment_for j from to s.machine.state);
      export_is = export_done j from to s.machine.state o.stretch_is o.state o.range_is;
      written = subst (λ (l : List ℕ). Written l old new) bytes w;
      whole = λ x at. subst OfHead (state_one j from s.machine.state x o.state at) whole;
    }

pub judged_exports : (from to : ℕ) (j : JournalData) (old new : Option (Option (List ℕ))) (e : ExportFault) → Judges from to j (Err e) → Exports from to j old new (Err e)
judged_exports from to j old new fault.NoMemory h = tt
judged_exports from to j old new fault.DiskFault h = tt
judged_exports from to j old new fault.FilesFault h = tt
judged_exports from to j old new fault.NoStore h = h
judged_exports from to j old new (fault.Damaged p) h = absurd h
judged_exports from to j old new (fault.Unreplayed n) h = h
judged_exports from to j old new fault.Range h = h

pub writing_exports : (from to : ℕ) (j : JournalData) (old new : Option (Option (List ℕ))) (e : ExportFault) → IsOfWriting e → Exports from to j old new (Err e)
writing_exports from to j old new fault.NoMemory h = absurd h
writing_exports from to j old new fault.DiskFault h = tt
writing_exports from to j old new fault.FilesFault h = tt
writing_exports from to j old new fault.NoStore h = absurd h
writing_exports from to j old new (fault.Damaged p) h = absurd h
writing_exports from to j old new (fault.Unreplayed n) h = absurd h
writing_exports from to j old new fault.Range h = absurd h

-- ---- of a disk's bytes

exports_of : (from to : ℕ) (was : List ℕ) (old new : Option (Option (List ℕ))) (j : JournalData) (r : Result (Unit {0}) ExportFault) → journal_of was ≡ Is j → Exports from to j old new r → ExportAnswers from to was old new r
exports_of from to was old new j (Ok t) is h = (j, is, h)
exports_of from to was old new j (Err fault.NoMemory) is h = tt
exports_of from to was old new j (Err fault.DiskFault) is h = tt
exports_of from to was old new j (Err fault.FilesFault) is h = tt
exports_of from to was old new j (Err fault.NoStore) is h = inr (j, is, h)
exports_of from to was old new j (Err (fault.Damaged p)) is h = absurd h
exports_of from to was old new j (Err (fault.Unreplayed n)) is h = (j, is, h.0, h.1)
exports_of from to was old new j (Err fault.Range) is h = (j, is, h.0, h.1)

pub exports_told : (from to : ℕ) (v : Journal) (told mid : Option (List ℕ)) (images : List ℕ → Type 0) (old new : Option (Option (List ℕ))) (r : Result (Unit {0}) ExportFault) → mid ≡ told → IfSome told (λ was. JournalAnswers (Ok v) images was) → OfJournal mid (kept_of v) (λ j. Exports from to j old new r)
    → IfSome told (λ was. ExportAnswers from to was old new r)
exports_told from to v None mid images old new r same a o = tt
exports_told from to v (Some was) mid images old new r same a o =
    let exports : OfJournal (Some was) (kept_of v) (λ j. Exports from to j old new r) = subst (λ (t : Option (List ℕ)). OfJournal t (kept_of v) (λ j. Exports from to j old new r)) same o in
    exports_of from to was old new a.0 r a.1 (exports a.0 (own_at (kept_of v) images was a.0 a.2) a.2.begun)

pub journal_refused : (from to : ℕ) (e : ExportFault) (told : Option (List ℕ)) (images : List ℕ → Type 0) (old new : Option (Option (List ℕ))) → IfSome told (λ was. JournalAnswers (Err e) images was) → IfSome told (λ was. ExportAnswers from to was old new (Err e))
journal_refused from to e None images old new h = tt
journal_refused from to fault.NoMemory (Some was) images old new h = tt
journal_refused from to fault.DiskFault (Some was) images old new h = tt
journal_refused from to fault.FilesFault (Some was) images old new h = tt
journal_refused from to fault.NoStore (Some was) images old new h = inl h
journal_refused from to (fault.Damaged p) (Some was) images old new h = h
journal_refused from to (fault.Unreplayed n) (Some was) images old new h = absurd h
journal_refused from to fault.Range (Some was) images old new h = absurd h
