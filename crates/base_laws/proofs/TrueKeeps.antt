-- The keeps of a moved journal are true.
use Rattle.std.proofs.Common.{◌≡◌, ℕ, ◌+◌, ◌-◌, ◌*◌, ◌/◌, ◌≤◌, ◌<◌, ◌==◌, ◌&&◌, Bool, true, false, cond, nat_lt, List, [], ◌∷◌, ◌++◌, length, Option, Some, None, refl, sym, ap, subst, ◌∙◌, arith, append_assoc, append-nil, length-append, eqb-true, eq-eqb, ne_eqb, le-leb}
use Rattle.std.proofs.lemmas.Bool.{and_from}
use Rattle.std.proofs.lemmas.List.{length-map}
use Rattle.avm_num.proofs.Numbers.{bind_some, kept_some, and_true}
use Rattle.avm_model.specs.Bell.{version_of}
use Rattle.avm_model.specs.Frame.{FrameData}
use Rattle.avm_model.specs.Head.{HeadData, head_bytes}
use Rattle.avm_model.specs.HeadReading.{head_of}
use Rattle.avm_model.specs.HeadState.{state_of, data_of}
use Rattle.avm_model.specs.Machine.{State}
use Rattle.avm_model.specs.Reference.{Given, Made, timed, entries_of, entry_of_frame}
use Rattle.avm_model.specs.Timed.{Entry}
use Rattle.avm_model.specs.Rerun.{Stands, start}
use Rattle.avm_model.proofs.ReferenceLaws.{is_timed}
use Rattle.avm_model.proofs.ReplayTheorems.{judged-Stands}
use Rattle.journal_model.specs.Header.{HeaderData}
use Rattle.journal_model.specs.Part.{Part, KeepData, entry, seal, keep, frames_in, keeps_in, pages_of}
use Rattle.journal_model.specs.Journal.{follows, may_stand, snap_of, is_number, pages_ascend}
use Rattle.journal_model.proofs.Prefixes.{frames_append}
use Rattle.honest_model.specs.Honest.{HasFirst, header_state, log_of}
use Rattle.honest_model.specs.KeepPages.{IsHeader, WritesHead}
use Rattle.honest_model.specs.Keeps.{AreTrue, IsTrueKeep, kept_ram, keep_state, same_front, same_peers, within_steps}
use Rattle.honest_model.proofs.Joins.{stands_split}
use Rattle.honest_model.proofs.Keeping.{kept-append}
use Rattle.honest_model.proofs.Logs.{log-append, keeps-append}
use Rattle.record_laws.proofs.Fronts.{SameFront, Costs, all_cost, faces_same}
use Rattle.base_laws.specs.Moving.{MeetsAt}

-- the state at the entry, and the header of the base
pub record AtEntry (h g : HeaderData) (a : HeadData) (n : ℕ) (at : State) (before : List Part) (f : FrameData) : Type 0 where
  pub header : IsHeader h a
  pub stands : Stands timed (state_of a h.pages) (log_of (before ++ entry f ∷ [])) (start at)
  pub writes : WritesHead at
  pub first : g.first ≡ n
  pub above : 1 < n
  pub head : g.head ≡ head_bytes (data_of at)
  pub pages : g.pages ≡ at.ram

pub same_some : {A : Type 0} (x y : A) → Some x ≡ Some y → x ≡ y
same_some x y e = cc

has_entry : (before : List Part) (f : FrameData) → HasFirst (before ++ entry f ∷ [])
has_entry before f = go (frames_in before) refl
  where
    go : (fs : List FrameData) → frames_in before ≡ fs → HasFirst (before ++ entry f ∷ [])
    go [] e = record { frame = f; frames = []; is = frames_append before (entry f ∷ []) ∙ ap (λ (l : List FrameData). l ++ f ∷ []) e }
    go (g ∷ gs) e = record { frame = g; frames = gs ++ f ∷ []; is = frames_append before (entry f ∷ []) ∙ ap (λ (l : List FrameData). l ++ f ∷ []) e }

-- ---- one keep

-- a keep's head is of the machine at the entry
front_is : (at : State) (b : HeadData) (ram : List ℕ) → SameFront at (state_of b ram) → length at.ram / 4096 ≡ b.front.pages → same_front (data_of at) b ≡ true
front_is at b ram f pages =
    and_from _ _ (and_from _ _ (and_from _ _ (and_from _ _ (eq-eqb (version_of at.devices.bell) (version_of b.bell) (sym f.version)) (eq-eqb at.snap b.front.snap (sym f.snap))) (eq-eqb (length at.ram / 4096) b.front.pages pages)) (eq-eqb at.devices.own b.front.own (sym f.own)))
    (faces_same at.devices.peers b.front.peers (sym f.peers))

within_is : (n : ℕ) (at : State) (b : HeadData) (seq len : ℕ) → 1 < n → seq ≡ n + len → b.hart.count ≤ at.count + at.snap * len → within_steps n (data_of at) seq b ≡ true
within_is n at b seq len above number most =
    let len_is : seq - n ≡ len = omega (arith, number) in
    rw (ne_eqb n 1 (λ (q : n ≡ 1). omega (arith, q, above)), len_is) (le-leb b.hart.count (at.count + at.snap * len) most)

-- the pages of either header
pages_same : (a b : HeadData) → same_front a b ≡ true → a.front.pages ≡ b.front.pages
pages_same a b e =
    let t = and_true (version_of a.bell == version_of b.bell && a.front.snap == b.front.snap && a.front.pages == b.front.pages && a.front.own == b.front.own) (same_peers a.front.peers b.front.peers) e in
    let u = and_true (version_of a.bell == version_of b.bell && a.front.snap == b.front.snap && a.front.pages == b.front.pages) (a.front.own == b.front.own) t.0 in
    eqb-true a.front.pages b.front.pages (and_true (version_of a.bell == version_of b.bell && a.front.snap == b.front.snap) (a.front.pages == b.front.pages) u.0).1

-- what a true keep says
pub record Told (h : HeaderData) (a : HeadData) (before : List Part) (k : KeepData) (from : State) : Type 0 where
  pub head : HeadData
  pub read : head_of k.head ≡ Some head
  pub front : same_front a head ≡ true
  pub stands : Stands timed from (log_of before) (start (state_of head (kept_ram h.pages (keeps_in before ++ k ∷ []))))

pub told : (h : HeaderData) (a : HeadData) (before : List Part) (k : KeepData) → head_of h.head ≡ Some a → IsTrueKeep h before k → Told h a before k (state_of a h.pages)
told h a before k head t =
    let x = bind_some (head_of h.head) _ t.to t.state in
    let y = bind_some (head_of k.head) _ t.to x.2 in
    let q = kept_some (same_front x.0 y.0 && within_steps h.first x.0 k.seq y.0) (state_of y.0 (kept_ram h.pages (keeps_in before ++ k ∷ []))) t.to y.2 in
    let a_is : x.0 ≡ a = same_some x.0 a (sym x.1 ∙ head) in
    let is_head : header_state h ≡ Some (state_of a h.pages) = rw head refl in
    let from : t.from ≡ state_of a h.pages = same_some t.from (state_of a h.pages) (sym t.header ∙ is_head) in
    record {
      head = y.0;
      read = y.1;
      front = subst (λ (c : HeadData). same_front c y.0 ≡ true) a_is (and_true (same_front x.0 y.0) (within_steps h.first x.0 k.seq y.0) q.0).0;
      stands = subst (λ (s : State). Stands timed (state_of a h.pages) (log_of before) (start s)) (sym q.1) (subst (λ (s : State). Stands timed s (log_of before) (start t.to)) from t.stands);
    }

keep_moves : (h g : HeaderData) (a : HeadData) (n : ℕ) (at : State) (before : List Part) (f : FrameData) → AtEntry h g a n at before f → (mid new : List Part) (k : KeepData) → frames_in new ≡ frames_in mid → k.seq ≡ n + length (frames_in mid)
    → kept_ram at.ram (keeps_in new ++ k ∷ []) ≡ kept_ram h.pages (keeps_in (before ++ entry f ∷ mid) ++ k ∷ []) → IsTrueKeep h (before ++ entry f ∷ mid) k → IsTrueKeep g (entry f ∷ new) k
keep_moves h g a n at before f s mid new k same number ram t =
    let from : State = state_of a h.pages in
    let d = told h a (before ++ entry f ∷ mid) k s.header.head t in
    let to : State = state_of d.head (kept_ram h.pages (keeps_in (before ++ entry f ∷ mid) ++ k ∷ [])) in
    let log : log_of (before ++ entry f ∷ mid) ≡ log_of (before ++ entry f ∷ []) ++ entries_of (frames_in mid) = ap log_of (sym (append_assoc before (entry f ∷ []) mid)) ∙ log-append (before ++ entry f ∷ []) mid (has_entry before f) in
    let whole : Stands timed from (log_of (before ++ entry f ∷ []) ++ entries_of (frames_in mid)) (start to) = subst (λ (l : List (Entry Given Made)). Stands timed from l (start to)) log d.stands in
    let more : Stands timed at (entries_of (frames_in mid)) (start to) = stands_split timed is_timed from at (log_of (before ++ entry f ∷ [])) (entries_of (frames_in mid)) (start to) whole s.stands in
    let there : Costs from at (length (log_of (before ++ entry f ∷ []))) = all_cost (start from) (start at) (log_of (before ++ entry f ∷ [])) s.header.snap (judged-Stands timed is_timed from (log_of (before ++ entry f ∷ [])) (start at) s.stands) in
    let here : Costs at to (length (entries_of (frames_in mid))) = all_cost (start at) (start to) (entries_of (frames_in mid)) (rw there.front.snap s.header.snap) (judged-Stands timed is_timed at (entries_of (frames_in mid)) (start to) more) in
    let size : length at.ram ≡ length h.pages = there.front.ram in
    let many : length h.pages ≡ 4096 * a.front.pages = s.header.pages in
    let pages : length at.ram / 4096 ≡ d.head.front.pages = (let p = pages_same a d.head d.front in omega (arith, size, many, p)) in
    let len : length (entries_of (frames_in mid)) ≡ length (frames_in mid) = length-map (frames_in mid) entry_of_frame in
    let count : d.head.hart.count ≤ at.count + at.snap * length (frames_in mid) = subst (λ (l : ℕ). d.head.hart.count ≤ at.count + at.snap * l) len here.most in
    let front : same_front (data_of at) d.head ≡ true = front_is at d.head to.ram here.front pages in
    let within : within_steps n (data_of at) k.seq d.head ≡ true = within_is n at d.head k.seq (length (frames_in mid)) s.above number count in
    let state : keep_state g (keeps_in (entry f ∷ new)) k ≡ Some to =
    rw (s.head, s.writes.read, d.read, s.pages, s.first, front, within, ram) refl in
    record {
      from = at;
      to = to;
      header = rw (s.head, s.writes.read, s.pages) (ap (λ (x : State). Some x) s.writes.again);
      state = state;
      stands = subst (λ (fs : List FrameData). Stands timed at (entries_of fs) (start to)) (sym same) more;
    }

-- ---- all keeps behind the entry

meets_same : (x : List ℕ) (ps : List Part) → MeetsAt x x ps
meets_same x [] = tt
meets_same x (entry f ∷ ps) = meets_same x ps
meets_same x (seal ∷ ps) = meets_same x ps
meets_same x (keep k ∷ ps) = refl

pub meets_equal : (x y : List ℕ) (ps : List Part) → x ≡ y → MeetsAt x y ps
meets_equal x y ps e = subst (λ (z : List ℕ). MeetsAt x z ps) e (meets_same x ps)

keeps_entry : (ps : List Part) (f : FrameData) → keeps_in (ps ++ entry f ∷ []) ≡ keeps_in ps
keeps_entry ps f = keeps-append ps (entry f ∷ []) ∙ append-nil (keeps_in ps)

keeps_seal : (ps : List Part) → keeps_in (ps ++ seal ∷ []) ≡ keeps_in ps
keeps_seal ps = keeps-append ps (seal ∷ []) ∙ append-nil (keeps_in ps)

longer_by : (ps : List Part) (f : FrameData) → length (frames_in (ps ++ entry f ∷ [])) ≡ length (frames_in ps) + 1
longer_by ps f = ap length (frames_append ps (entry f ∷ [])) ∙ length-append (frames_in ps) (f ∷ [])

same_by : (ps qs : List Part) (p : Part) → frames_in ps ≡ frames_in qs → frames_in (ps ++ p ∷ []) ≡ frames_in (qs ++ p ∷ [])
same_by ps qs p e = frames_append ps (p ∷ []) ∙ ap (λ (l : List FrameData). l ++ frames_in (p ∷ [])) e ∙ sym (frames_append qs (p ∷ []))

number_is : (snap : Option ℕ) (k : ℕ) → is_number snap k ≡ true → snap ≡ Some k
number_is None k e = absurd cc
number_is (Some m) k e = ap (λ (n : ℕ). Some n) (sym (eqb-true k m e))

pub true_behind : (h g : HeaderData) (a : HeadData) (n : ℕ) (at : State) (before : List Part) (f : FrameData) → AtEntry h g a n at before f → (first pages m : ℕ) (snap : Option ℕ) (rest mid new : List Part) → follows first pages m snap rest ≡ true → m ≡ n + 1 + length (frames_in mid) → ((q : ℕ) → snap ≡ Some q → q ≡ n + length (frames_in mid))
    → frames_in new ≡ frames_in mid → MeetsAt (kept_ram at.ram (keeps_in new)) (kept_ram h.pages (keeps_in (before ++ entry f ∷ mid))) rest → AreTrue h (before ++ entry f ∷ mid) rest → AreTrue g (entry f ∷ new) rest
true_behind h g a n at before f s first pages m snap [] mid new e next number same meets t = tt
true_behind h g a n at before f s first pages m snap (entry x ∷ rest) mid new e next number same meets t =
    let u = and_true (x.seq == m && may_stand first m x.kind) (follows first pages (m + 1) (snap_of x) rest) e in
    let seq : x.seq ≡ m = eqb-true x.seq m (and_true (x.seq == m) (may_stand first m x.kind) u.0).0 in
    let one = longer_by mid x in
    let moved : (before ++ entry f ∷ mid) ++ entry x ∷ [] ≡ before ++ entry f ∷ (mid ++ entry x ∷ []) = append_assoc before (entry f ∷ mid) (entry x ∷ []) in
    let old_keeps : keeps_in (before ++ entry f ∷ (mid ++ entry x ∷ [])) ≡ keeps_in (before ++ entry f ∷ mid) = ap keeps_in (sym moved) ∙ keeps_entry (before ++ entry f ∷ mid) x in
    let meet = subst (λ (ks : List KeepData). MeetsAt (kept_ram at.ram ks) (kept_ram h.pages (keeps_in (before ++ entry f ∷ (mid ++ entry x ∷ [])))) rest) (sym (keeps_entry new x)) (subst (λ (ks : List KeepData). MeetsAt (kept_ram at.ram (keeps_in new)) (kept_ram h.pages ks) rest) (sym old_keeps) meets) in
    true_behind h g a n at before f s first pages (m + 1) (snap_of x) rest (mid ++ entry x ∷ []) (new ++ entry x ∷ []) u.1 (omega (arith, next, one)) (λ q is. snapped (x.kind == 2) q is seq next one) (same_by new mid (entry x) same) meet (subst (λ (ps : List Part). AreTrue h ps rest) moved t)
  where
    snapped : (b : Bool) (q : ℕ) → cond b (Some x.seq) None ≡ Some q → x.seq ≡ m → m ≡ n + 1 + length (frames_in mid) → length (frames_in (mid ++ entry x ∷ [])) ≡ length (frames_in mid) + 1 → q ≡ n + length (frames_in (mid ++ entry x ∷ []))
    snapped true q is seq next one = let here : x.seq ≡ q = same_some x.seq q is in omega (arith, here, seq, next, one)
    snapped false q is seq next one = absurd cc
true_behind h g a n at before f s first pages m snap (seal ∷ rest) mid new e next number same meets t =
    let u = and_true (nat_lt first m) (follows first pages m None rest) e in
    let none : length (frames_in (mid ++ seal ∷ [])) ≡ length (frames_in mid) = ap length (frames_append mid (seal ∷ []) ∙ append-nil (frames_in mid)) in
    let moved : (before ++ entry f ∷ mid) ++ seal ∷ [] ≡ before ++ entry f ∷ (mid ++ seal ∷ []) = append_assoc before (entry f ∷ mid) (seal ∷ []) in
    let old_keeps : keeps_in (before ++ entry f ∷ (mid ++ seal ∷ [])) ≡ keeps_in (before ++ entry f ∷ mid) = ap keeps_in (sym moved) ∙ keeps_seal (before ++ entry f ∷ mid) in
    let meet = subst (λ (ks : List KeepData). MeetsAt (kept_ram at.ram ks) (kept_ram h.pages (keeps_in (before ++ entry f ∷ (mid ++ seal ∷ [])))) rest) (sym (keeps_seal new)) (subst (λ (ks : List KeepData). MeetsAt (kept_ram at.ram (keeps_in new)) (kept_ram h.pages ks) rest) (sym old_keeps) meets) in
    true_behind h g a n at before f s first pages m None rest (mid ++ seal ∷ []) (new ++ seal ∷ []) u.1 (omega (arith, next, none)) (λ q is. absurd cc) (same_by new mid seal same) meet (subst (λ (ps : List Part). AreTrue h ps rest) moved t)
true_behind h g a n at before f s first pages m snap (keep k ∷ rest) mid new e next number same meets t =
    let u = and_true (is_number snap k.seq && pages_ascend 0 pages (pages_of k)) (follows first pages m None rest) e in
    let seq = number k.seq (number_is snap k.seq (and_true (is_number snap k.seq) (pages_ascend 0 pages (pages_of k)) u.0).0) in
    let ram : kept_ram at.ram (keeps_in new ++ k ∷ []) ≡ kept_ram h.pages (keeps_in (before ++ entry f ∷ mid) ++ k ∷ []) = kept-append at.ram (keeps_in new) k ∙ meets ∙ sym (kept-append h.pages (keeps_in (before ++ entry f ∷ mid)) k) in
    let none : length (frames_in (mid ++ keep k ∷ [])) ≡ length (frames_in mid) = ap length (frames_append mid (keep k ∷ []) ∙ append-nil (frames_in mid)) in
    let moved : (before ++ entry f ∷ mid) ++ keep k ∷ [] ≡ before ++ entry f ∷ (mid ++ keep k ∷ []) = append_assoc before (entry f ∷ mid) (keep k ∷ []) in
    let old_keeps : keeps_in (before ++ entry f ∷ (mid ++ keep k ∷ [])) ≡ keeps_in (before ++ entry f ∷ mid) ++ k ∷ [] = ap keeps_in (sym moved) ∙ keeps-append (before ++ entry f ∷ mid) (keep k ∷ []) in
    let both : kept_ram at.ram (keeps_in (new ++ keep k ∷ [])) ≡ kept_ram h.pages (keeps_in (before ++ entry f ∷ (mid ++ keep k ∷ []))) = ap (kept_ram at.ram) (keeps-append new (keep k ∷ [])) ∙ ram ∙ ap (kept_ram h.pages) (sym old_keeps) in (
      keep_moves h g a n at before f s mid new k same seq ram t.0,
      true_behind h g a n at before f s first pages m None rest (mid ++ keep k ∷ []) (new ++ keep k ∷ []) u.1 (omega (arith, next, none)) (λ q is. absurd cc) (same_by new mid (keep k) same) (meets_equal _ _ rest both) (subst (λ (ps : List Part). AreTrue h ps rest) moved t.1),
    )
