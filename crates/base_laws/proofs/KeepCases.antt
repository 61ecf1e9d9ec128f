-- From where the keeps behind the entry of a moved journal are true.
use Rattle.std.proofs.Common.{◌≡◌, ℕ, ◌+◌, ◌<◌, ◌==◌, ◌&&◌, Bool, true, false, cond, nat_lt, List, [], ◌∷◌, ◌++◌, length, Option, Some, None, refl, sym, ap, subst, ◌∙◌, arith, append_assoc, append-nil, ltb-true, inl, inr}
use Rattle.avm_num.proofs.Numbers.{and_true}
use Rattle.avm_model.specs.Entries.{numbered}
use Rattle.avm_model.specs.Frame.{FrameData}
use Rattle.avm_model.specs.Head.{HeadData}
use Rattle.avm_model.specs.HeadState.{state_of}
use Rattle.avm_model.specs.Machine.{State}
use Rattle.avm_model.specs.Reference.{Given, Made, timed, entries_of}
use Rattle.avm_model.specs.Timed.{Entry}
use Rattle.avm_model.specs.Rerun.{Stand, Stands, start}
use Rattle.avm_model.specs.Audit.{behind_first}
use Rattle.avm_model.proofs.ReferenceLaws.{is_timed}
use Rattle.avm_model.proofs.ReplayTheorems.{judged-Stands, Stands-judged}
use Rattle.journal_model.specs.Header.{HeaderData}
use Rattle.journal_model.specs.Part.{Part, KeepData, entry, seal, keep, frames_in, keeps_in, pages_of}
use Rattle.journal_model.specs.Journal.{JournalData, parts, entries, follows, may_stand, snap_of, is_number, pages_ascend, page_count_of}
use Rattle.journal_model.proofs.Fitting.{entries_numbered}
use Rattle.journal_model.proofs.Prefixes.{frames_append}
use Rattle.journal_spelling.specs.Spelled.{HasSpelling}
use Rattle.journal_spelling.proofs.Fronts.{follows_back, follows_front}
use Rattle.honest_model.specs.Honest.{log_of}
use Rattle.honest_model.specs.KeepPages.{IsHeader, WritesHead}
use Rattle.honest_model.specs.Keeps.{AreTrue, HasTrueKeeps, kept_ram}
use Rattle.honest_model.proofs.Logs.{keeps-append}
use Rattle.base_model.specs.Base.{Moves, from_entry, records_from, past_keep, without_keep, moved_at, moved, base_header}
use Rattle.base_model.proofs.Moves.{all_parts}
use Rattle.base_laws.specs.Moving.{BeginsKeep, MeetsAt, KeepsTell}
use Rattle.base_laws.proofs.Records.{from_is, or_none, records_parts}
use Rattle.base_laws.proofs.TrueKeeps.{AtEntry, told, same_some, meets_equal, true_behind}

-- the parts of a moved journal
parts_from : (j : JournalData) (n : ℕ) (before behind : List Part) (f : FrameData) → HasSpelling j → parts j ≡ before ++ entry f ∷ behind → f.seq ≡ n → (all_parts (records_from n j.records) ≡ entry f ∷ past_keep behind) × (n ≡ j.header.first + length (frames_in before))
unfolding parts entries
parts_from j n before behind f h split seq =
    let num : numbered j.header.first (frames_in (before ++ entry f ∷ behind)) ≡ true = subst (λ (ps : List Part). numbered j.header.first (frames_in ps) ≡ true) split (entries_numbered j h.journal) in
    let i = from_is n j.header.first before behind f num seq in
    (records_parts n j.records h.records ∙ ap (λ (o : Option (List Part)). without_keep (or_none o)) (ap (λ (ps : List Part). from_entry n ps) split ∙ i.0), i.1)

-- the keeps behind some parts
true_after : (h : HeaderData) (x a b : List Part) → AreTrue h x (a ++ b) → AreTrue h (x ++ a) b
true_after h x [] b t = subst (λ (ps : List Part). AreTrue h ps b) (sym (append-nil x)) t
true_after h x (entry f ∷ a) b t = subst (λ (ps : List Part). AreTrue h ps b) (append_assoc x (entry f ∷ []) a) (true_after h (x ++ entry f ∷ []) a b t)
true_after h x (seal ∷ a) b t = subst (λ (ps : List Part). AreTrue h ps b) (append_assoc x (seal ∷ []) a) (true_after h (x ++ seal ∷ []) a b t)
true_after h x (keep k ∷ a) b t = subst (λ (ps : List Part). AreTrue h ps b) (append_assoc x (keep k ∷ []) a) (true_after h (x ++ keep k ∷ []) a b t.1)

-- one log leads to one state
same_end : (from s t : State) (before : List Part) → Stands timed from (log_of before) (start s) → Stands timed from (log_of before) (start t) → s ≡ t
same_end from s t before a b =
    let x = judged-Stands timed is_timed from (log_of before) (start s) a in
    let y = judged-Stands timed is_timed from (log_of before) (start t) b in
    ap (λ (q : Stand State Made). q.state) (same_some (start s) (start t) (sym x ∙ y))

-- the entries up to the one where it is moved
entry_stands : (j : JournalData) (n : ℕ) (from to : State) (before : List Part) (f : FrameData) (m : Moves j n from to before f) → Stands timed from (log_of (before ++ entry f ∷ [])) (start m.at)
entry_stands j n from to before f m = elim m.reached [ inl e ↦ at_first e.0 e.1 | inr l ↦ l.stands ]
  where
    at_first : frames_in before ≡ [] → m.at ≡ from → Stands timed from (log_of (before ++ entry f ∷ [])) (start m.at)
    at_first none same =
        let log : log_of (before ++ entry f ∷ []) ≡ [] = ap (λ (fs : List FrameData). entries_of (behind_first fs)) (frames_append before (entry f ∷ []) ∙ ap (λ (fs : List FrameData). fs ++ f ∷ []) none) in
        let here : Stands timed from [] (start from) = Stands-judged timed is_timed from [] (start from) refl in
        subst (λ (l : List (Entry Given Made)). Stands timed from l (start m.at)) (sym log) (subst (λ (s : State). Stands timed from [] (start s)) (sym same) here)

-- no part stands before the first entry
none_before : (first pages n : ℕ) (ps : List Part) → first ≡ n → follows first pages n None ps ≡ true → frames_in ps ≡ [] → ps ≡ []
none_before first pages n [] is e none = refl
none_before first pages n (entry f ∷ ps) is e none = absurd cc
none_before first pages n (seal ∷ ps) is e none = absurd (let lt = ltb-true first n (and_true (nat_lt first n) (follows first pages n None ps) e).0 in omega (arith, is, lt))
none_before first pages n (keep k ∷ ps) is e none = absurd cc

no_frames : (fs : List FrameData) → length fs ≡ 0 → fs ≡ []
no_frames [] e = refl
no_frames (f ∷ fs) e = absurd (omega (arith, e))

abbrev front_of : List Part → FrameData → List Part
front_of before f = before ++ entry f ∷ []

pub moved_true : (j : JournalData) (a : HeadData) (n : ℕ) (to : State) (before behind : List Part) (f : FrameData) (m : Moves j n (state_of a j.header.pages) to before f) → HasSpelling j → IsHeader j.header a → HasTrueKeeps j → parts j ≡ before ++ entry f ∷ behind → f.seq ≡ n → 1 < n → WritesHead m.at
    → KeepsTell j n m.at before f behind → HasTrueKeeps (moved_at j n m.at)
unfolding moved base_header parts
moved_true j a n to before behind f m h head keeps split seq above writes tell =
    let p = parts_from j n before behind f h split seq in
    subst (λ (ps : List Part). AreTrue (moved_at j n m.at).header [] ps) (sym p.0) (go behind split tell)
  where
    setting : AtEntry j.header (moved_at j n m.at).header a n m.at before f
    setting = record { header = head; stands = entry_stands j n (state_of a j.header.pages) to before f m; writes = writes; first = refl; above = above; head = refl; pages = refl }

    whole : (rest : List Part) → parts j ≡ before ++ entry f ∷ rest → follows j.header.first (page_count_of j) j.header.first None (before ++ entry f ∷ rest) ≡ true
    whole rest e = subst (λ (ps : List Part). follows j.header.first (page_count_of j) j.header.first None ps ≡ true) e h.journal.whole

    number : (rest : List Part) → parts j ≡ before ++ entry f ∷ rest → n ≡ j.header.first + length (frames_in before)
    number rest e = (parts_from j n before rest f h e seq).1

    follow : (rest : List Part) → parts j ≡ before ++ entry f ∷ rest → follows j.header.first (page_count_of j) (n + 1) (snap_of f) rest ≡ true
    follow rest e =
        let back = follows_back j.header.first (page_count_of j) j.header.first None before (entry f ∷ rest) tt (whole rest e) in
        let here : follows j.header.first (page_count_of j) n None (entry f ∷ rest) ≡ true = subst (λ (k : ℕ). follows j.header.first (page_count_of j) k None (entry f ∷ rest) ≡ true) (sym (number rest e)) back in
        (and_true (f.seq == n && may_stand j.header.first n f.kind) (follows j.header.first (page_count_of j) (n + 1) (snap_of f) rest) here).1

    true_rest : (rest : List Part) → parts j ≡ before ++ entry f ∷ rest → AreTrue j.header (front_of before f) rest
    true_rest rest e = true_after j.header [] (front_of before f) rest (subst (λ (ps : List Part). AreTrue j.header [] ps) (e ∙ sym (append_assoc before (entry f ∷ []) rest)) keeps)

    snap_is : (b : Bool) (q : ℕ) → cond b (Some f.seq) None ≡ Some q → q ≡ n + 0
    snap_is true q is = let here : f.seq ≡ q = same_some f.seq q is in omega (arith, here, seq)
    snap_is false q is = absurd cc

    plain : (rest : List Part) → parts j ≡ before ++ entry f ∷ rest → MeetsAt m.at.ram (kept_ram j.header.pages (keeps_in (front_of before f))) rest → AreTrue (moved_at j n m.at).header (entry f ∷ []) rest
    plain rest e meets = true_behind j.header (moved_at j n m.at).header a n m.at before f setting j.header.first (page_count_of j) (n + 1) (snap_of f) rest [] [] (follow rest e) (omega arith) (λ q is. snap_is (f.kind == 2) q is) refl meets (true_rest rest e)

    -- the journal begins there
    at_start : (rest : List Part) → parts j ≡ before ++ entry f ∷ rest → n ≡ j.header.first → m.at.ram ≡ kept_ram j.header.pages (keeps_in (front_of before f))
    at_start rest e first =
        let count = number rest e in
        let none : frames_in before ≡ [] = no_frames (frames_in before) (omega (arith, count, first)) in
        let empty : before ≡ [] = none_before j.header.first (page_count_of j) j.header.first before refl (follows_front j.header.first (page_count_of j) j.header.first None before (entry f ∷ rest) (whole rest e)) none in
        let here : Stands timed (state_of a j.header.pages) (log_of (entry f ∷ [])) (start m.at) = subst (λ (ps : List Part). Stands timed (state_of a j.header.pages) (log_of (ps ++ entry f ∷ [])) (start m.at)) empty setting.stands in
        let same : m.at ≡ state_of a j.header.pages = same_end (state_of a j.header.pages) m.at (state_of a j.header.pages) (entry f ∷ []) here (Stands-judged timed is_timed (state_of a j.header.pages) [] (start (state_of a j.header.pages)) refl) in
        ap (λ (s : State). s.ram) same ∙ sym (ap (λ (ps : List Part). kept_ram j.header.pages (keeps_in (ps ++ entry f ∷ []))) empty)

    -- the entry has its keep
    behind_keep : (k : KeepData) (rest : List Part) → parts j ≡ before ++ entry f ∷ keep k ∷ rest → AreTrue (moved_at j n m.at).header (entry f ∷ []) rest
    behind_keep k rest e =
        let all = true_rest (keep k ∷ rest) e in
        let d = told j.header a (front_of before f) k head.head all.0 in
        let same = same_end (state_of a j.header.pages) m.at (state_of d.head (kept_ram j.header.pages (keeps_in (front_of before f) ++ k ∷ []))) (front_of before f) setting.stands d.stands in
        let moved_keep : front_of before f ++ keep k ∷ [] ≡ before ++ entry f ∷ keep k ∷ [] = append_assoc before (entry f ∷ []) (keep k ∷ []) in
        let ks : keeps_in (before ++ entry f ∷ keep k ∷ []) ≡ keeps_in (front_of before f) ++ k ∷ [] = ap keeps_in (sym moved_keep) ∙ keeps-append (front_of before f) (keep k ∷ []) in
        let ram : m.at.ram ≡ kept_ram j.header.pages (keeps_in (before ++ entry f ∷ keep k ∷ [])) = ap (λ (s : State). s.ram) same ∙ ap (kept_ram j.header.pages) (sym ks) in
        let next = (and_true (is_number (snap_of f) k.seq && pages_ascend 0 (page_count_of j) (pages_of k)) (follows j.header.first (page_count_of j) (n + 1) None rest) (follow (keep k ∷ rest) e)).1 in
        true_behind j.header (moved_at j n m.at).header a n m.at before f setting j.header.first (page_count_of j) (n + 1) None rest (keep k ∷ []) [] next (omega arith) (λ q is. absurd cc) refl (meets_equal _ _ rest ram) (subst (λ (ps : List Part). AreTrue j.header ps rest) moved_keep all.1)

    no_keep : (rest : List Part) → parts j ≡ before ++ entry f ∷ rest → (BeginsKeep rest → ⊥) → KeepsTell j n m.at before f rest → AreTrue (moved_at j n m.at).header (entry f ∷ []) rest
    no_keep rest e never (inl first) = plain rest e (meets_equal _ _ rest (at_start rest e first))
    no_keep rest e never (inr (inl begins)) = absurd (never begins)
    no_keep rest e never (inr (inr meets)) = plain rest e meets

    go : (rest : List Part) → parts j ≡ before ++ entry f ∷ rest → KeepsTell j n m.at before f rest → AreTrue (moved_at j n m.at).header (entry f ∷ []) (past_keep rest)
    go [] e t = tt
    go (entry x ∷ rest) e t = no_keep (entry x ∷ rest) e (λ b. b) t
    go (seal ∷ rest) e t = no_keep (seal ∷ rest) e (λ b. b) t
    go (keep k ∷ rest) e t = behind_keep k rest e
