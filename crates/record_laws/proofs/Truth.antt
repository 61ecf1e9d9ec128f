-- The keep that is written behind a SNAP is true.
use Rattle.std.proofs.Common.{◌≡◌, ℕ, ◌+◌, ◌-◌, ◌*◌, ◌/◌, ◌≤◌, Bool, true, List, [], ◌∷◌, ◌++◌, length, Some, refl, sym, ap, subst, ◌∙◌, append_assoc, arith, length-append, inl, inr}
use Rattle.std.proofs.lemmas.List.{append-nil, length-map}
use Rattle.std.proofs.lemmas.Bool.{and_from, eq-eqb, le-leb, cases_Bool, eqb-true}
use Rattle.std.specs.Prelude.{if◌then◌else◌, ◌==◌, ◌&&◌}
use Rattle.avm_num.specs.Bytes.{kept}
use Rattle.avm_model.specs.Bell.{version_of}
use Rattle.avm_model.specs.Machine.{State}
use Rattle.avm_model.specs.Head.{HeadData, head_bytes}
use Rattle.avm_model.specs.HeadReading.{head_of}
use Rattle.avm_model.specs.HeadState.{state_of, data_of}
use Rattle.avm_model.specs.Frame.{FrameData}
use Rattle.avm_model.specs.Rerun.{Stands, start}
use Rattle.avm_model.specs.Reference.{Made, OutAt, SendAt, HaltAt, SnapAt, NothingAt, timed, entry_of_frame, entries_of}
use Rattle.avm_model.specs.Audit.{is_committed, behind_first}
use Rattle.avm_model.specs.Content.{snap}
use Rattle.avm_model.proofs.ReferenceLaws.{is_timed}
use Rattle.avm_model.proofs.ReplayTheorems.{judged-Stands}
use Rattle.avm_num.specs.Walk.{items_of}
use Rattle.honest_model.proofs.Keeping.{kept-append, with_pages_is}
use Rattle.honest_model.proofs.Logs.{keeps-append}
use Rattle.honest_model.proofs.Snaps.{WellMade}
use Rattle.honest_model.specs.Honest.{HasFirst, Leads, log_of}
use Rattle.honest_model.specs.KeepPages.{IsHeader, KeepsPages}
use Rattle.honest_model.specs.Keeps.{AreTrue, IsTrueKeep, first_count, keep_state, kept_ram, same_front, within_steps}
use Rattle.journal_model.proofs.Prefixes.{frames_append}
use Rattle.journal_model.specs.Header.{HeaderData}
use Rattle.journal_model.specs.Part.{KeepData, Part, entry, frames_in, keep, keeps_in, page_at, seal}
use Rattle.record_laws.proofs.Fronts.{Costs, SameFront, all_cost, faces_same}
use Rattle.record_model.specs.Recording.{frame_of, made_content, made_parts}
use Rattle.record_model.specs.Released.{again, read}

kept_true : {A : Type 0} (b : Bool) (x : A) → b ≡ true → kept b x ≡ Some x
kept_true b x e = rw e refl

front_true : (a : HeadData) (ram : List ℕ) (s : State) → length ram ≡ 4096 * a.front.pages → SameFront (state_of a ram) s → same_front a (data_of s) ≡ true
front_true a ram s size f =
    let pages : a.front.pages ≡ length s.ram / 4096 = (let r : length s.ram ≡ length ram = f.ram in omega (arith, size, r)) in
    and_from _ _ (and_from _ _ (and_from _ _ (and_from _ _ (eq-eqb (version_of a.bell) (version_of s.devices.bell) (sym f.version)) (eq-eqb a.front.snap s.snap (sym f.snap))) (eq-eqb a.front.pages (length s.ram / 4096) pages)) (eq-eqb a.front.own s.devices.own (sym f.own)))
    (faces_same a.front.peers s.devices.peers (sym f.peers))

within_true : (h : HeaderData) (a : HeadData) (s : State) (n len : ℕ) → (h.first ≡ 1 → a.hart.count ≡ 0) → n ≡ h.first + len → s.count ≤ a.hart.count + a.front.snap * len → within_steps h.first a n (data_of s) ≡ true
within_true h a s n len begins number most =
    let len_is : n - h.first ≡ len = omega (arith, number) in
    let low : a.hart.count ≤ first_count h.first a = first in
    le-leb s.count (first_count h.first a + a.front.snap * (n - h.first)) (rw len_is (omega (arith, most, low)))
  where
    first : a.hart.count ≤ (if h.first == 1 then 0 else a.hart.count)
    first =
        elim (cases_Bool (h.first == 1)) [
          | inl one ↦ let z : a.hart.count ≡ 0 = begins (eqb-true h.first 1 one) in rw (one, z) (omega arith)
          | inr other ↦ rw other (omega arith)
        ]

-- the keep of a machine that the entries in front of it lead to
pub keep_true : (h : HeaderData) (a : HeadData) (before : List Part) (s : State) (n : ℕ) (pages : List ℕ) → IsHeader h a → Leads (state_of a h.pages) before s → head_of (head_bytes (data_of s)) ≡ Some (data_of s) → state_of (data_of s) s.ram ≡ s → n ≡ h.first + length (log_of before) → KeepsPages h before s (items_of page_at pages)
    → IsTrueKeep h before (record { seq = n; head = head_bytes (data_of s); pages = pages })
keep_true h a before s n pages head leads read again number ram =
    let judged = judged-Stands timed is_timed (state_of a h.pages) (log_of before) (start s) leads.stands in
    let cost : Costs (state_of a h.pages) s (length (log_of before)) = all_cost (start (state_of a h.pages)) (start s) (log_of before) head.snap judged in
    let front = front_true a h.pages s head.pages cost.front in
    let within = within_true h a s n (length (log_of before)) head.begins number cost.most in
    let k : KeepData = record { seq = n; head = head_bytes (data_of s); pages = pages } in
    let ram_is : kept_ram h.pages (keeps_in before ++ k ∷ []) ≡ s.ram = kept-append h.pages (keeps_in before) k ∙ with_pages_is (items_of page_at pages) (kept_ram h.pages (keeps_in before)) s.ram ram.len ram.are ram.same in
    let state : keep_state h (keeps_in before) k ≡ Some s = rw (head.head, read) (kept_true (same_front a (data_of s) && within_steps h.first a n (data_of s)) (state_of (data_of s) (kept_ram h.pages (keeps_in before ++ k ∷ []))) (and_from _ _ front within)) ∙ ap (λ (x : State). Some x) (ap (λ (r : List ℕ). state_of (data_of s) r) ram_is ∙ again) in
    record { from = state_of a h.pages; to = s; header = rw head.head refl; state = state; stands = leads.stands }

-- ---- the parts of a step

same_entries : (from to : State) (a b : List Part) → frames_in a ≡ frames_in b → Leads from a to → Leads from b to
same_entries from to a b e l = record {
  committed = subst (λ (fs : List FrameData). is_committed from fs ≡ true) e l.committed;
  stands = subst (λ (fs : List FrameData). Stands timed from (entries_of (behind_first fs)) (start to)) e l.stands;
}

-- what the parts behind some parts are, where a machine made them
pub record Makes (h : HeaderData) (a : HeadData) (before : List Part) (s : State) (pages : List ℕ) : Type 0 where
  pub header : IsHeader h a
  pub first : HasFirst before
  pub read : head_of (head_bytes (data_of s)) ≡ Some (data_of s)
  pub again : state_of (data_of s) s.ram ≡ s
  pub ram : KeepsPages h before s (items_of page_at pages)

more_entries : (h : HeaderData) (a : HeadData) (before : List Part) (f : FrameData) (s : State) (pages : List ℕ) → Makes h a before s pages → Makes h a (before ++ entry f ∷ []) s pages
more_entries h a before f s pages m =
    let same : keeps_in (before ++ entry f ∷ []) ≡ keeps_in before = keeps-append before (entry f ∷ []) ∙ append-nil (keeps_in before) in
    record {
      header = m.header;
      first = record { frame = m.first.frame; frames = m.first.frames ++ f ∷ []; is = frames_append before (entry f ∷ []) ∙ rw m.first.is refl };
      read = m.read;
      again = m.again;
      ram = record { len = rw same m.ram.len; are = m.ram.are; same = rw same m.ram.same };
    }

log_length : (before : List Part) (f : FrameData) → HasFirst before → length (log_of (before ++ entry f ∷ [])) ≡ length (frames_in before)
log_length before f first =
    let e : frames_in (before ++ entry f ∷ []) ≡ first.frame ∷ (first.frames ++ f ∷ []) = frames_append before (entry f ∷ []) ∙ rw first.is refl in
    let l = length-append first.frames (f ∷ []) in
    let m = length-map (first.frames ++ f ∷ []) entry_of_frame in
    rw (e, first.is) (omega (arith, l, m))

entries_one : (before : List Part) (f : FrameData) → length (frames_in (before ++ entry f ∷ [])) ≡ length (frames_in before) + 1
entries_one before f = ap (λ (fs : List FrameData). length fs) (frames_append before (entry f ∷ [])) ∙ length-append (frames_in before) (f ∷ [])

pub made_true : (h : HeaderData) (a : HeadData) (os : List Made) (before : List Part) (s : State) (n : ℕ) (pages : List ℕ) → Makes h a before s pages → WellMade s os → n ≡ h.first + length (frames_in before) → Leads (state_of a h.pages) (before ++ made_parts n s pages os) s → AreTrue h before (made_parts n s pages os)
made_true h a [] before s n pages m well number leads = tt
made_true h a (o ∷ os) before s n pages m well number leads = by (λ f. made_true h a os (before ++ entry f ∷ []) s (n + 1) pages (more_entries h a before f s pages m)) o well leads
  where
    quiet : (f : FrameData) → (WellMade s os → n + 1 ≡ h.first + length (frames_in (before ++ entry f ∷ [])) → Leads (state_of a h.pages) ((before ++ entry f ∷ []) ++ made_parts (n + 1) s pages os) s → AreTrue h (before ++ entry f ∷ []) (made_parts (n + 1) s pages os)) → WellMade s os → Leads (state_of a h.pages) (before ++ (entry f ∷ made_parts (n + 1) s pages os)) s → AreTrue h before (entry f ∷ made_parts (n + 1) s pages os)
    quiet f ih w l =
        let one = entries_one before f in
        ih w (omega (arith, number, one)) (subst (λ (ps : List Part). Leads (state_of a h.pages) ps s) (sym (append_assoc before (entry f ∷ []) (made_parts (n + 1) s pages os))) l)

    loud : (f : FrameData) → Leads (state_of a h.pages) (before ++ (entry f ∷ keep (record { seq = n; head = head_bytes (data_of s); pages = pages }) ∷ [])) s → AreTrue h before (entry f ∷ keep (record { seq = n; head = head_bytes (data_of s); pages = pages }) ∷ [])
    loud f l =
        let same : frames_in (before ++ (entry f ∷ keep (record { seq = n; head = head_bytes (data_of s); pages = pages }) ∷ [])) ≡ frames_in (before ++ entry f ∷ []) = frames_append before (entry f ∷ keep (record { seq = n; head = head_bytes (data_of s); pages = pages }) ∷ []) ∙ sym (frames_append before (entry f ∷ [])) in
        let here : Leads (state_of a h.pages) (before ++ entry f ∷ []) s = same_entries (state_of a h.pages) s _ _ same l in
        let len = log_length before f m.first in
        (keep_true h a (before ++ entry f ∷ []) s n pages m.header here m.read m.again (omega (arith, number, len)) (more_entries h a before f s pages m).ram, tt)

    snap_only : (count : ℕ) (r : List ℕ) (xs : List Made) → xs ≡ [] → Leads (state_of a h.pages) (before ++ made_parts n s pages (SnapAt count r ∷ xs)) s → AreTrue h before (made_parts n s pages (SnapAt count r ∷ xs))
    snap_only count r [] e l = loud (frame_of n (snap count r)) l
    snap_only count r (x ∷ xs) e l = absurd cc

    by : ((f : FrameData) → WellMade s os → n + 1 ≡ h.first + length (frames_in (before ++ entry f ∷ [])) → Leads (state_of a h.pages) ((before ++ entry f ∷ []) ++ made_parts (n + 1) s pages os) s → AreTrue h (before ++ entry f ∷ []) (made_parts (n + 1) s pages os)) → (o : Made) → WellMade s (o ∷ os) → Leads (state_of a h.pages) (before ++ made_parts n s pages (o ∷ os)) s → AreTrue h before (made_parts n s pages (o ∷ os))
    by ih (OutAt count bytes) w l = let f : FrameData = frame_of n (made_content (OutAt count bytes)) in quiet f (ih f) w l
    by ih (SendAt count peer number payload) w l = let f : FrameData = frame_of n (made_content (SendAt count peer number payload)) in quiet f (ih f) w l
    by ih (HaltAt count cause value) w l = let f : FrameData = frame_of n (made_content (HaltAt count cause value)) in quiet f (ih f) w l
    by ih (SnapAt count r) w l = snap_only count r os w.2 l
    by ih (NothingAt count) w l = let f : FrameData = frame_of n (made_content (NothingAt count)) in quiet f (ih f) w l

-- ---- parts that are true, with more behind

pub true-append : (h : HeaderData) (before a b : List Part) → AreTrue h before a → AreTrue h (before ++ a) b → AreTrue h before (a ++ b)
true-append h before [] b t u = subst (λ (ps : List Part). AreTrue h ps b) (append-nil before) u
true-append h before (entry f ∷ a) b t u = true-append h (before ++ entry f ∷ []) a b t (subst (λ (ps : List Part). AreTrue h ps b) (sym (append_assoc before (entry f ∷ []) a)) u)
true-append h before (seal ∷ a) b t u = true-append h (before ++ seal ∷ []) a b t (subst (λ (ps : List Part). AreTrue h ps b) (sym (append_assoc before (seal ∷ []) a)) u)
true-append h before (keep k ∷ a) b t u = (t.0, true-append h (before ++ keep k ∷ []) a b t.1 (subst (λ (ps : List Part). AreTrue h ps b) (sym (append_assoc before (keep k ∷ []) a)) u))
