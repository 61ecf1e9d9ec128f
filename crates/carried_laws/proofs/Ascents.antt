-- The numbers and the leaves of the entries that a base carries ascend.
use Rattle.std.proofs.Common.{◌≡◌, ℕ, ◌+◌, ◌≤◌, ◌<◌, ◌⊎◌, inl, inr, Bool, true, false, cond, nat_lt, nat_le, ◌&&◌, List, [], ◌∷◌, ◌++◌, refl, sym, ap, subst, ◌∙◌, arith, leb-true, le-leb, lt-ltb, ltb-true, eqb-true, eq-eqb}
use Rattle.std.specs.Prelude.{◌==◌, filter, flat_map}
use Rattle.std.specs.List.{list_any}
use Rattle.std.proofs.lemmas.Bool.{and_from, cases_lt}
use Rattle.std.proofs.lemmas.List.Elements.{filter-append}
use Rattle.avm_num.proofs.Numbers.{and_true}
use Rattle.avm_model.specs.Basics.{flag}
use Rattle.avm_model.specs.Entries.{numbered}
use Rattle.avm_model.specs.Frame.{FrameData}
use Rattle.avm_model.specs.Machine.{State}
use Rattle.base_model.specs.Base.{before_entry, carried_of, earlier, row_numbers}
use Rattle.journal_model.specs.Header.{CarriedData, ascend}
use Rattle.journal_model.specs.Journal.{JournalData, entries, has_snap, parts}
use Rattle.journal_model.specs.Part.{Part, entry, frames_in, is_signed_kind, keep, seal, signing}
use Rattle.journal_model.specs.Standing.{StandingData, behind, start}
use Rattle.journal_model.proofs.Fitting.{entries_numbered}
use Rattle.journal_spelling.specs.Spelled.{HasSpelling}
use Rattle.record_model.specs.Released.{signed_frame, signed_frames}
use Rattle.carried_laws.proofs.SignedFit.{signing_entry, signing_keep, signing_seal}

-- ---- ascending entries

pub record IsNext (seq leaf first leaves : ℕ) (e : CarriedData) : Type 0 where
  pub low : seq ≤ e.frame.seq
  pub high : e.frame.seq < first
  pub leaf_low : leaf ≤ e.leaf
  pub leaf_high : e.leaf < leaves

abbrev pub Ascends : ℕ → ℕ → ℕ → ℕ → List CarriedData → Type 0
Ascends seq leaf first leaves [] = Unit {0}
Ascends seq leaf first leaves (e ∷ es) = IsNext seq leaf first leaves e × Ascends (e.frame.seq + 1) (e.leaf + 1) first leaves es

from_test : (seq leaf first leaves : ℕ) (es : List CarriedData) → ascend seq leaf first leaves es ≡ true → Ascends seq leaf first leaves es
from_test seq leaf first leaves [] h = tt
from_test seq leaf first leaves (e ∷ es) h =
    let a = and_true (nat_le seq e.frame.seq && nat_lt e.frame.seq first && nat_le leaf e.leaf && nat_lt e.leaf leaves) (ascend (e.frame.seq + 1) (e.leaf + 1) first leaves es) h in
    let b = and_true (nat_le seq e.frame.seq && nat_lt e.frame.seq first && nat_le leaf e.leaf) (nat_lt e.leaf leaves) a.0 in
    let c = and_true (nat_le seq e.frame.seq && nat_lt e.frame.seq first) (nat_le leaf e.leaf) b.0 in
    let d = and_true (nat_le seq e.frame.seq) (nat_lt e.frame.seq first) c.0 in
    (record { low = leb-true seq e.frame.seq d.0; high = ltb-true e.frame.seq first d.1; leaf_low = leb-true leaf e.leaf c.1; leaf_high = ltb-true e.leaf leaves b.1 }, from_test (e.frame.seq + 1) (e.leaf + 1) first leaves es a.1)

to_test : (seq leaf first leaves : ℕ) (es : List CarriedData) → Ascends seq leaf first leaves es → ascend seq leaf first leaves es ≡ true
to_test seq leaf first leaves [] h = refl
to_test seq leaf first leaves (e ∷ es) h =
    and_from _ _ (and_from _ _ (and_from _ _ (and_from _ _ (le-leb seq e.frame.seq h.0.low) (lt-ltb e.frame.seq first h.0.high)) (le-leb leaf e.leaf h.0.leaf_low)) (lt-ltb e.leaf leaves h.0.leaf_high))
    (to_test (e.frame.seq + 1) (e.leaf + 1) first leaves es h.1)

-- from lower bounds on
lower : (seq leaf low leaf_low first leaves : ℕ) (es : List CarriedData) → low ≤ seq → leaf_low ≤ leaf → Ascends seq leaf first leaves es → Ascends low leaf_low first leaves es
lower seq leaf low leaf_low first leaves [] a b h = tt
lower seq leaf low leaf_low first leaves (e ∷ es) a b h =
    let i = h.0 in
    let p = i.low in
    let q = i.leaf_low in
    (record { low = omega (arith, a, p); high = i.high; leaf_low = omega (arith, b, q); leaf_high = i.leaf_high }, h.1)

pub some_of : (p : CarriedData → Bool) (seq leaf first leaves : ℕ) (es : List CarriedData) → Ascends seq leaf first leaves es → Ascends seq leaf first leaves (filter p es)
some_of p seq leaf first leaves [] h = tt
some_of p seq leaf first leaves (e ∷ es) h = go (p e) (some_of p (e.frame.seq + 1) (e.leaf + 1) first leaves es h.1)
  where
    go : (b : Bool) → Ascends (e.frame.seq + 1) (e.leaf + 1) first leaves (filter p es) → Ascends seq leaf first leaves (cond b (e ∷ filter p es) (filter p es))
    go true k = (h.0, k)
    go false k =
        let i = h.0 in
        let x = i.low in
        let y = i.leaf_low in
        lower (e.frame.seq + 1) (e.leaf + 1) seq leaf first leaves (filter p es) (omega (arith, x)) (omega (arith, y)) k

both : (seq leaf mid leaf_mid first leaves : ℕ) (a b : List CarriedData) → seq ≤ mid → leaf ≤ leaf_mid → mid ≤ first → leaf_mid ≤ leaves → Ascends seq leaf mid leaf_mid a → Ascends mid leaf_mid first leaves b → Ascends seq leaf first leaves (a ++ b)
both seq leaf mid leaf_mid first leaves [] b s l m n h k = lower mid leaf_mid seq leaf first leaves b s l k
both seq leaf mid leaf_mid first leaves (e ∷ a) b s l m n h k =
    let i = h.0 in
    let x = i.high in
    let y = i.leaf_high in (
      record { low = i.low; high = omega (arith, x, m); leaf_low = i.leaf_low; leaf_high = omega (arith, y, n) },
      both (e.frame.seq + 1) (e.leaf + 1) mid leaf_mid first leaves a b (omega (arith, x)) (omega (arith, y)) m n h.1 k,
    )

-- ---- the journal's own entries before entry n

abbrev pub is_early : ℕ → CarriedData → Bool
is_early n e = nat_lt e.frame.seq n

not_lt : (a b : ℕ) → b ≤ a → nat_lt a b ≡ false
not_lt a b le = go (nat_lt a b) refl
  where
    go : (x : Bool) → nat_lt a b ≡ x → nat_lt a b ≡ false
    go true e = let lt = ltb-true a b e in absurd (omega (arith, lt, le))
    go false e = e

below : (a n : ℕ) → a ≤ n → (a == n) ≡ false → a < n
below a n le e = go (cases_lt a n)
  where
    go : (a < n) ⊎ (n ≤ a) → a < n
    go (inl lt) = lt
    go (inr ge) = let q = eq-eqb a n (omega (arith, le, ge)) in absurd cc

late_none : (n : ℕ) (s : StandingData) (ps : List Part) → n ≤ s.next → numbered s.next (frames_in ps) ≡ true → filter (is_early n) (signed_frames s ps) ≡ []
late_none n s [] le h = refl
late_none n s (entry f ∷ ps) le h =
    let p = and_true (f.seq == s.next) (numbered (s.next + 1) (frames_in ps)) h in
    let is = eqb-true f.seq s.next p.0 in
    let rest = late_none n (behind s (entry f)) ps (omega (arith, le)) p.1 in
    filter-append (is_early n) (signed_frame s (entry f)) (signed_frames (behind s (entry f)) ps) ∙ ap (λ (l : List CarriedData). filter (is_early n) (signed_frame s (entry f)) ++ l) rest ∙ go (is_signed_kind f.kind) (not_lt f.seq n (omega (arith, is, le)))
  where
    here : CarriedData
    here = record { leaf = s.used; before = s.hash; frame = f }

    go : (b : Bool) → nat_lt f.seq n ≡ false → filter (is_early n) (cond b (here ∷ []) []) ++ [] ≡ []
    go true e = rw e refl
    go false e = refl
late_none n s (seal ∷ ps) le h = late_none n (behind s seal) ps le h
late_none n s (keep k ∷ ps) le h = late_none n s ps le h

early_frames : (n : ℕ) (s : StandingData) (ps : List Part) → s.next ≤ n → numbered s.next (frames_in ps) ≡ true → Ascends s.next s.used n (s.used + signing (before_entry n ps)) (filter (is_early n) (signed_frames s ps))
early_frames n s [] le h = tt
early_frames n s (seal ∷ ps) le h =
    let e = signing_seal (before_entry n ps) in
    let sum : (s.used + 1) + signing (before_entry n ps) ≡ s.used + signing (seal ∷ before_entry n ps) = omega (arith, e) in
    let k = early_frames n (behind s seal) ps le h in
    lower s.next (s.used + 1) s.next s.used n (s.used + signing (seal ∷ before_entry n ps)) (filter (is_early n) (signed_frames (behind s seal) ps)) (omega arith) (omega arith)
    (subst (λ (m : ℕ). Ascends s.next (s.used + 1) n m (filter (is_early n) (signed_frames (behind s seal) ps))) sum k)
early_frames n s (keep k ∷ ps) le h =
    subst (λ (m : ℕ). Ascends s.next s.used n (s.used + m) (filter (is_early n) (signed_frames s ps))) (sym (signing_keep k (before_entry n ps))) (early_frames n s ps le h)
early_frames n s (entry f ∷ ps) le h =
    let p = and_true (f.seq == s.next) (numbered (s.next + 1) (frames_in ps)) h in
    let is = eqb-true f.seq s.next p.0 in
    subst (Ascends s.next s.used n (s.used + signing (cond (f.seq == n) [] (entry f ∷ before_entry n ps)))) (sym (filter-append (is_early n) (signed_frame s (entry f)) (signed_frames (behind s (entry f)) ps)))
    (go is p.1 (λ lt. early_frames n (behind s (entry f)) ps (omega (arith, lt)) p.1) (f.seq == n) refl)
  where
    here : CarriedData
    here = record { leaf = s.used; before = s.hash; frame = f }

    kept : (b : Bool) → is_signed_kind f.kind ≡ b → f.seq ≡ s.next → s.next < n → Ascends (s.next + 1) (s.used + flag b) n (s.used + flag b + signing (before_entry n ps)) (filter (is_early n) (signed_frames (behind s (entry f)) ps))
        → Ascends s.next s.used n (s.used + (flag b + signing (before_entry n ps))) (filter (is_early n) (cond b (here ∷ []) []) ++ filter (is_early n) (signed_frames (behind s (entry f)) ps))
    kept true e is lt k =
        let sum : s.used + 1 + signing (before_entry n ps) ≡ s.used + (1 + signing (before_entry n ps)) = omega arith in
        let early : nat_lt f.seq n ≡ true = lt-ltb f.seq n (omega (arith, is, lt)) in
        let head : IsNext s.next s.used n (s.used + (1 + signing (before_entry n ps))) here = record { low = omega (arith, is); high = omega (arith, is, lt); leaf_low = omega arith; leaf_high = omega arith } in
        let tail : Ascends (f.seq + 1) (s.used + 1) n (s.used + (1 + signing (before_entry n ps))) (filter (is_early n) (signed_frames (behind s (entry f)) ps)) =
        subst (λ (m : ℕ). Ascends (m + 1) (s.used + 1) n (s.used + (1 + signing (before_entry n ps))) (filter (is_early n) (signed_frames (behind s (entry f)) ps))) (sym is) (subst (λ (m : ℕ). Ascends (s.next + 1) (s.used + 1) n m (filter (is_early n) (signed_frames (behind s (entry f)) ps))) sum k) in
        subst (λ (b : Bool). Ascends s.next s.used n (s.used + (1 + signing (before_entry n ps))) (cond b (here ∷ []) [] ++ filter (is_early n) (signed_frames (behind s (entry f)) ps))) (sym early) (head, tail)
    kept false e is lt k =
        let sum : s.used + 0 + signing (before_entry n ps) ≡ s.used + (0 + signing (before_entry n ps)) = omega arith in
        lower (s.next + 1) (s.used + 0) s.next s.used n (s.used + (0 + signing (before_entry n ps))) (filter (is_early n) (signed_frames (behind s (entry f)) ps)) (omega arith) (omega arith)
        (subst (λ (m : ℕ). Ascends (s.next + 1) (s.used + 0) n m (filter (is_early n) (signed_frames (behind s (entry f)) ps))) sum k)

    by_kind : f.seq ≡ s.next → s.next < n → (b : Bool) → is_signed_kind f.kind ≡ b → Ascends (s.next + 1) (s.used + flag b) n (s.used + flag b + signing (before_entry n ps)) (filter (is_early n) (signed_frames (behind s (entry f)) ps))
        → Ascends s.next s.used n (s.used + signing (entry f ∷ before_entry n ps)) (filter (is_early n) (cond b (here ∷ []) []) ++ filter (is_early n) (signed_frames (behind s (entry f)) ps))
    by_kind is lt b e k =
        let all : flag b + signing (before_entry n ps) ≡ signing (entry f ∷ before_entry n ps) = ap (λ (c : Bool). flag c + signing (before_entry n ps)) (sym e) ∙ sym (signing_entry f (before_entry n ps)) in
        subst (λ (m : ℕ). Ascends s.next s.used n (s.used + m) (filter (is_early n) (cond b (here ∷ []) []) ++ filter (is_early n) (signed_frames (behind s (entry f)) ps))) all (kept b e is lt k)

    go : f.seq ≡ s.next → numbered (s.next + 1) (frames_in ps) ≡ true
        → (s.next < n → Ascends (s.next + 1) (s.used + flag (is_signed_kind f.kind)) n (s.used + flag (is_signed_kind f.kind) + signing (before_entry n ps)) (filter (is_early n) (signed_frames (behind s (entry f)) ps)))
        → (b : Bool) → (f.seq == n) ≡ b → Ascends s.next s.used n (s.used + signing (cond b [] (entry f ∷ before_entry n ps))) (filter (is_early n) (signed_frame s (entry f)) ++ filter (is_early n) (signed_frames (behind s (entry f)) ps))
    go is numbers more true e =
        let same = eqb-true f.seq n e in
        let nothing : filter (is_early n) (signed_frame s (entry f)) ++ filter (is_early n) (signed_frames (behind s (entry f)) ps) ≡ [] =
        sym (filter-append (is_early n) (signed_frame s (entry f)) (signed_frames (behind s (entry f)) ps)) ∙ late_none n s (entry f ∷ ps) (omega (arith, same, is)) (and_from (f.seq == s.next) (numbered (s.next + 1) (frames_in ps)) (eq-eqb f.seq s.next is) numbers) in
        subst (Ascends s.next s.used n (s.used + signing [])) (sym nothing) tt
    go is numbers more false e =
        let lt : s.next < n = below s.next n le (ap (λ (m : ℕ). m == n) (sym is) ∙ e) in
        by_kind is lt (is_signed_kind f.kind) refl (more lt)

-- ---- all of them

snap_above : (n m : ℕ) (fs : List FrameData) → numbered m fs ≡ true → has_snap n fs ≡ true → m ≤ n
snap_above n m [] h e = absurd cc
snap_above n m (f ∷ fs) h e =
    let p = and_true (f.seq == m) (numbered (m + 1) fs) h in
    go (eqb-true f.seq m p.0) (f.seq == n) refl e (snap_above n (m + 1) fs p.1)
  where
    go : f.seq ≡ m → (b : Bool) → (f.seq == n) ≡ b → cond b (f.kind == 2) (has_snap n fs) ≡ true → (has_snap n fs ≡ true → m + 1 ≤ n) → m ≤ n
    go is true same q more = let z = eqb-true f.seq n same in omega (arith, z, is)
    go is false other q more = let z = more q in omega (arith, z)

entries_are : (j : JournalData) → entries j ≡ frames_in (parts j)
unfolding entries
entries_are j = refl

pub earlier_ascend : (j : JournalData) (n : ℕ) → HasSpelling j → has_snap n (entries j) ≡ true → Ascends 0 0 n (j.header.leaves + signing (before_entry n (parts j))) (earlier n j)
earlier_ascend j n h snap =
    let numbers : numbered j.header.first (frames_in (parts j)) ≡ true = subst (λ (fs : List FrameData). numbered j.header.first fs ≡ true) (entries_are j) (entries_numbered j h.journal) in
    let above = snap_above n j.header.first (frames_in (parts j)) numbers (subst (λ (fs : List FrameData). has_snap n fs ≡ true) (entries_are j) snap) in
    let old = some_of (is_early n) 0 0 j.header.first j.header.leaves j.header.carried (from_test 0 0 j.header.first j.header.leaves j.header.carried h.fields.ascends) in
    let own = early_frames n (start j.header) (parts j) above numbers in
    subst (Ascends 0 0 n (j.header.leaves + signing (before_entry n (parts j)))) (sym (filter-append (is_early n) j.header.carried (signed_frames (start j.header) (parts j))))
    (both 0 0 j.header.first j.header.leaves n (j.header.leaves + signing (before_entry n (parts j))) (filter (is_early n) j.header.carried) (filter (is_early n) (signed_frames (start j.header) (parts j))) (omega arith) (omega arith) above (omega arith) old own)

pub carried_ascend : (j : JournalData) (n : ℕ) (s : State) → HasSpelling j → has_snap n (entries j) ≡ true → ascend 0 0 n (j.header.leaves + signing (before_entry n (parts j))) (carried_of j n s) ≡ true
unfolding carried_of
carried_ascend j n s h snap =
    to_test 0 0 n (j.header.leaves + signing (before_entry n (parts j))) (filter (λ e. list_any (λ m. m == e.frame.seq) (flat_map (row_numbers (earlier n j)) s.devices.peers)) (earlier n j))
    (some_of (λ e. list_any (λ m. m == e.frame.seq) (flat_map (row_numbers (earlier n j)) s.devices.peers)) 0 0 n (j.header.leaves + signing (before_entry n (parts j))) (earlier n j) (earlier_ascend j n h snap))
