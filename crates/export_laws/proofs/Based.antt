-- What stands in front of a base, and that no clock waits there.
use Rattle.std.proofs.Common.{◌≡◌, ℕ, ◌+◌, ◌≤◌, Bool, true, false, cond, nat_eq, nat_lt, ◌&&◌, List, [], ◌∷◌, ◌++◌, length, Option, Some, None, option_map, refl, sym, ap, subst, ◌∙◌, append_assoc, append-nil, arith, inl, inr, ◌⊎◌, eqb-true}
use Rattle.std.specs.Prelude.{◌==◌}
use Rattle.avm_num.specs.Bytes.{◌>>=◌, kept}
use Rattle.avm_num.proofs.Numbers.{and_true}
use Rattle.avm_model.specs.Audit.{behind_first}
use Rattle.avm_model.specs.Frame.{FrameData}
use Rattle.avm_model.specs.Head.{HeadData}
use Rattle.avm_model.specs.HeadReading.{head_of}
use Rattle.avm_model.specs.HeadState.{state_of}
use Rattle.avm_model.specs.Machine.{State}
use Rattle.honest_model.specs.Honest.{header_state}
use Rattle.honest_model.specs.Keeps.{IsBase, IsHeaderBase, IsKeepBase, frames_behind, keep_state, kept_ram, same_front, within_steps}
use Rattle.journal_model.specs.Fits.{FitsJournal}
use Rattle.journal_model.specs.Header.{HeaderData}
use Rattle.journal_model.specs.Journal.{JournalData, entries, follows, is_number, may_stand, page_count_of, pages_ascend, parts, snap_of}
use Rattle.journal_model.specs.Part.{KeepData, Part, entry, frames_in, keep, keeps_in, pages_of, seal}
use Rattle.journal_model.proofs.Fitting.{first_entry}
use Rattle.journal_model.proofs.Prefixes.{frames_append}

-- ---- clocks

abbrev clock_in : Option State → Option ℕ
clock_in None = None
clock_in (Some s) = s.devices.clock

header_free : (h : HeaderData) (s : State) → header_state h ≡ Some s → s.devices.clock ≡ None
header_free h s e = go (head_of h.head) e
  where
    go : (o : Option HeadData) → option_map (λ d. state_of d h.pages) o ≡ Some s → s.devices.clock ≡ None
    go None q = absurd cc
    go (Some d) q = sym (ap clock_in q)

keep_free : (h : HeaderData) (ks : List KeepData) (k : KeepData) (s : State) → keep_state h ks k ≡ Some s → s.devices.clock ≡ None
keep_free h ks k s e = first (head_of h.head) e
  where
    last : (b : HeadData) (c : Bool) → kept c (state_of b (kept_ram h.pages (ks ++ k ∷ []))) ≡ Some s → s.devices.clock ≡ None
    last b true q = sym (ap clock_in q)
    last b false q = absurd cc

    second : (a : HeadData) (o : Option HeadData) → (o >>= λ b. kept (same_front a b && within_steps h.first a k.seq b) (state_of b (kept_ram h.pages (ks ++ k ∷ [])))) ≡ Some s → s.devices.clock ≡ None
    second a None q = absurd cc
    second a (Some b) q = last b (same_front a b && within_steps h.first a k.seq b) q

    first : (o : Option HeadData) → (o >>= λ a. head_of k.head >>= λ b. kept (same_front a b && within_steps h.first a k.seq b) (state_of b (kept_ram h.pages (ks ++ k ∷ [])))) ≡ Some s → s.devices.clock ≡ None
    first None q = absurd cc
    first (Some a) q = second a (head_of k.head) q

pub free : (j : JournalData) (n : ℕ) (front : List Part) (s : State) → IsHeaderBase j front s ⊎ IsKeepBase j n front s → s.devices.clock ≡ None
free j n front s (inl b) = header_free j.header s b.state
free j n front s (inr b) = keep_free j.header (keeps_in b.before) b.last s b.good.state

-- ---- a keep has the number of its entry

abbrev IsSnap : Option ℕ → ℕ → Type 0
IsSnap None n = Unit {0}
IsSnap (Some m) n = m + 1 ≡ n

number_of : (snap : Option ℕ) (m n : ℕ) → IsSnap snap n → is_number snap m ≡ true → m + 1 ≡ n
number_of None m n s e = absurd cc
number_of (Some k) m n s e = let q = eqb-true m k e in omega (arith, q, s)

pub keep_number : (first pages n : ℕ) (snap : Option ℕ) (before behind : List Part) (k : KeepData) → IsSnap snap n → follows first pages n snap (before ++ keep k ∷ behind) ≡ true → k.seq + 1 ≡ n + length (frames_in before)
keep_number first pages n snap [] behind k s e =
    let p = and_true (is_number snap k.seq && pages_ascend 0 pages (pages_of k)) (follows first pages n None behind) e in
    let q = number_of snap k.seq n s (and_true (is_number snap k.seq) (pages_ascend 0 pages (pages_of k)) p.0).0 in
    omega (arith, q)
keep_number first pages n snap (entry f ∷ before) behind k s e =
    let p = and_true (f.seq == n && may_stand first n f.kind) (follows first pages (n + 1) (snap_of f) (before ++ keep k ∷ behind)) e in
    let q = eqb-true f.seq n (and_true (f.seq == n) (may_stand first n f.kind) p.0).0 in
    let r = keep_number first pages (n + 1) (snap_of f) before behind k (by (nat_eq f.kind 2) (omega (arith, q))) p.1 in
    omega (arith, r)
  where
    by : (b : Bool) → f.seq + 1 ≡ n + 1 → IsSnap (cond b (Some f.seq) None) (n + 1)
    by true i = i
    by false i = tt
keep_number first pages n snap (seal ∷ before) behind k s e = keep_number first pages n None before behind k tt (and_true (nat_lt first n) (follows first pages n None (before ++ keep k ∷ behind)) e).1
keep_number first pages n snap (keep l ∷ before) behind k s e = keep_number first pages n None before behind k tt (and_true (is_number snap l.seq && pages_ascend 0 pages (pages_of l)) (follows first pages n None (before ++ keep k ∷ behind)) e).1

-- ---- the entries in front of a base

pub record Based (j : JournalData) (n : ℕ) (front behind : List Part) : Type 0 where
  pub before : List FrameData
  pub all : entries j ≡ before ++ frames_behind front behind
  pub few : j.header.first ≤ n → j.header.first + length before ≤ n + 1
  pub header : front ≡ [] → length before ≡ 1
  pub keep_is : (ps : List Part) (k : KeepData) → front ≡ ps ++ keep k ∷ [] → before ≡ frames_in ps

entries_are : (j : JournalData) (ps : List Part) → parts j ≡ ps → entries j ≡ frames_in ps
unfolding entries
entries_are j ps e = ap frames_in e

behind_keep : (before : List Part) (last : KeepData) (behind : List Part) → frames_behind (before ++ keep last ∷ []) behind ≡ frames_in behind
behind_keep [] last behind = refl
behind_keep (x ∷ before) last behind = refl

no_front : (ps : List Part) (p : Part) → ps ++ p ∷ [] ≡ [] → ⊥
no_front [] p e = cc
no_front (x ∷ ps) p e = cc

last_entry : (before : List Part) (last : KeepData) → frames_in (before ++ keep last ∷ []) ≡ frames_in before
last_entry before last = frames_append before (keep last ∷ []) ∙ append-nil (frames_in before)

pub based : (j : JournalData) (n : ℕ) (front behind : List Part) (s : State) → FitsJournal j → IsBase j n front behind s → Based j n front behind
based j n front behind s fits base = go base.base
  where
    by_header : IsHeaderBase j front s → Based j n front behind
    by_header h =
        let split : parts j ≡ behind = base.split ∙ ap (λ (ps : List Part). ps ++ behind) h.front_is in
        let o = first_entry j fits in
        let same : behind ≡ entry o.0 ∷ o.1 = sym split ∙ o.2 in
        subst (λ (ps : List Part). Based j n ps behind) (sym h.front_is) (record {
          before = o.0 ∷ [];
          all = entries_are j (entry o.0 ∷ o.1) o.2 ∙ ap (λ (ps : List Part). o.0 ∷ behind_first (frames_in ps)) (sym same);
          few = λ le. omega (arith, le);
          header = λ e. refl;
          keep_is = λ ps k e. absurd (no_front ps (keep k) (sym e));
        })

    by_keep : IsKeepBase j n front s → Based j n front behind
    by_keep k =
        let split : parts j ≡ k.before ++ keep k.last ∷ behind = base.split ∙ ap (λ (ps : List Part). ps ++ behind) k.front_is ∙ append_assoc k.before (keep k.last ∷ []) behind in
        let number = keep_number j.header.first (page_count_of j) j.header.first None k.before behind k.last tt (subst (λ (ps : List Part). follows j.header.first (page_count_of j) j.header.first None ps ≡ true) split fits.whole) in
        let low = k.low in
        subst (λ (ps : List Part). Based j n ps behind) (sym k.front_is) (record {
          before = frames_in k.before;
          all = entries_are j (k.before ++ keep k.last ∷ behind) split ∙ frames_append k.before (keep k.last ∷ behind) ∙ ap (λ (fs : List FrameData). frames_in k.before ++ fs) (sym (behind_keep k.before k.last behind));
          few = λ le. omega (arith, number, low);
          header = λ e. absurd (no_front k.before (keep k.last) e);
          keep_is = λ ps l e. sym (last_entry k.before k.last) ∙ ap frames_in e ∙ last_entry ps l;
        })

    go : IsHeaderBase j front s ⊎ IsKeepBase j n front s → Based j n front behind
    go (inl h) = by_header h
    go (inr k) = by_keep k
