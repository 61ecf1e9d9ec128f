-- Carried entries one after another.
use Rattle.std.proofs.Common.{◌≡◌, ℕ, zero, suc, ◌+◌, ◌<◌, ◌≤◌, Bool, true, false, ◌&&◌, nat_le, nat_lt, List, [], ◌∷◌, Option, Some, None, refl, sym, ap, subst, ◌∙◌, arith, le-leb, lt-ltb, leb-true, ltb-true, eqb-true, ne_eqb, ◌≢◌, ◌==◌, MatchBool, MatchOption, IsSomeAnd, length}
use Rattle.std.proofs.lemmas.Bool.{eqb-false}
use Rattle.avm_num.specs.Bytes.{◌>>=◌, byte_at, kept}
use Rattle.avm_num.specs.Lists.{list_at}
use Rattle.avm_num.proofs.Numbers.{bind_some, kept_some, and_true}
use Rattle.journal_model.specs.Header.{HeaderData, CarriedData, carried_at, few_carried_at, judged_carried, ascend, is_first, is_base, version_at, base_at, header_at, main_at, magic_at}
use Rattle.jrnl_part.specs.Views.{main_view}
use Rattle.jrnl_part.specs.Starts.{IsStart, IsHeader, IsLowStart}
use Rattle.jrnl_part.specs.declared.header.Start.{Start}
use Rattle.jrnl_part.specs.declared.header.Main.{Main}

pub record Fits (x : CarriedData) (seq leaf first leaves : ℕ) : Type 0 where
  pub seq_low : seq ≤ x.frame.seq
  pub seq_high : x.frame.seq < first
  pub leaf_low : leaf ≤ x.leaf
  pub leaf_high : x.leaf < leaves

pub more : (old : List ℕ) (n m : ℕ) (x : CarriedData) (new : List ℕ) (seq leaf first leaves : ℕ) → n ≡ suc m → carried_at old ≡ Some (x, new) → Fits x seq leaf first leaves → (cs : List CarriedData) (rest : List ℕ) → list_at carried_at m new ≡ Some (cs, rest) → ascend (x.frame.seq + 1) (x.leaf + 1) first leaves cs ≡ true
    → (list_at carried_at n old ≡ Some (x ∷ cs, rest)) × (ascend seq leaf first leaves (x ∷ cs) ≡ true)
unfolding list_at
more old n m x new seq leaf first leaves is e fits cs rest list up =
    let step : list_at carried_at (suc m) old ≡ Some (x ∷ cs, rest) = rw (e, list) refl in
    (ap (λ (k : ℕ). list_at carried_at k old) is ∙ step, rw (le-leb _ _ fits.seq_low, lt-ltb _ _ fits.seq_high, le-leb _ _ fits.leaf_low, lt-ltb _ _ fits.leaf_high, up) refl)

pub less : (old : List ℕ) (n m : ℕ) (x : CarriedData) (new : List ℕ) (seq leaf first leaves : ℕ) → n ≡ suc m → carried_at old ≡ Some (x, new) → (all : List CarriedData) (rest : List ℕ) → list_at carried_at n old ≡ Some (all, rest) → ascend seq leaf first leaves all ≡ true
    → (cs : List CarriedData) × (list_at carried_at m new ≡ Some (cs, rest)) × (ascend (x.frame.seq + 1) (x.leaf + 1) first leaves cs ≡ true) × Fits x seq leaf first leaves
unfolding list_at
less old n m x new seq leaf first leaves is e all rest list up =
    let chain : list_at carried_at (suc m) old ≡ (list_at carried_at m new >>= λ xs. Some (x ∷ xs.0, xs.1)) = rw e refl in
    let a = bind_some (list_at carried_at m new) (λ xs. Some (x ∷ xs.0, xs.1)) (all, rest) (sym chain ∙ ap (λ (k : ℕ). list_at carried_at k old) (sym is) ∙ list) in
    let pair : (x ∷ a.0.0, a.0.1) ≡ (all, rest) = cc (a.2) in
    let ups : ascend seq leaf first leaves (x ∷ a.0.0) ≡ true = ap (λ (q : List CarriedData × List ℕ). ascend seq leaf first leaves q.0) pair ∙ up in
    let behind : a.0.1 ≡ rest = ap (λ (q : List CarriedData × List ℕ). q.1) pair in
    let t = and_true (nat_le seq x.frame.seq && nat_lt x.frame.seq first && nat_le leaf x.leaf && nat_lt x.leaf leaves) _ ups in
    let u = and_true (nat_le seq x.frame.seq && nat_lt x.frame.seq first && nat_le leaf x.leaf) (nat_lt x.leaf leaves) t.0 in
    let v = and_true (nat_le seq x.frame.seq && nat_lt x.frame.seq first) (nat_le leaf x.leaf) u.0 in
    let w = and_true (nat_le seq x.frame.seq) (nat_lt x.frame.seq first) v.0 in
    (a.0.0, a.1 ∙ ap (λ (l : List ℕ). Some (a.0.0, l)) behind, t.1, record { seq_low = leb-true _ _ w.0; seq_high = ltb-true _ _ w.1; leaf_low = leb-true _ _ v.1; leaf_high = ltb-true _ _ u.1 })

pub stops : (old : List ℕ) (n : ℕ) (all : List CarriedData) (rest : List ℕ) → 0 < n → carried_at old ≡ None → list_at carried_at n old ≡ Some (all, rest) → ⊥
unfolding list_at
stops old zero all rest some e list = omega (arith, some)
stops old (suc n) all rest some e list = let none : list_at carried_at (suc n) old ≡ None = rw e refl in cc

pub ends : (old : List ℕ) (n : ℕ) → n ≡ 0 → list_at carried_at n old ≡ Some ([], old)
unfolding list_at
ends old n e = ap (λ (k : ℕ). list_at carried_at k old) e

-- ---- the loop's invariant, and what ends it

abbrev pub Found : ℕ → ℕ → ℕ → ℕ → ℕ → List ℕ → ℕ → List ℕ → Type 0
Found n seq leaf first leaves here count bytes = (cs : List CarriedData) (rest : List ℕ) → list_at carried_at n here ≡ Some (cs, rest) → ascend seq leaf first leaves cs ≡ true → (all : List CarriedData) × (list_at carried_at count bytes ≡ Some (all, rest)) × (ascend 0 0 first leaves all ≡ true)

abbrev pub Left : ℕ → ℕ → ℕ → ℕ → ℕ → List ℕ → ℕ → List ℕ → Type 0
Left n seq leaf first leaves here count bytes = (all : List CarriedData) (rest : List ℕ) → list_at carried_at count bytes ≡ Some (all, rest) → ascend 0 0 first leaves all ≡ true → (cs : List CarriedData) × (list_at carried_at n here ≡ Some (cs, rest)) × (ascend seq leaf first leaves cs ≡ true)

pub found_on : (n m seq leaf first leaves : ℕ) (old new : List ℕ) (count : ℕ) (bytes : List ℕ) (x : CarriedData) → n ≡ suc m → carried_at old ≡ Some (x, new) → Fits x seq leaf first leaves → Found n seq leaf first leaves old count bytes → Found m (x.frame.seq + 1) (x.leaf + 1) first leaves new count bytes
found_on n m seq leaf first leaves old new count bytes x is e fits found = λ cs rest list up. let a = more old n m x new seq leaf first leaves is e fits cs rest list up in found (x ∷ cs) rest a.0 a.1

pub left_on : (n m seq leaf first leaves : ℕ) (old new : List ℕ) (count : ℕ) (bytes : List ℕ) (x : CarriedData) → n ≡ suc m → carried_at old ≡ Some (x, new) → Left n seq leaf first leaves old count bytes → Left m (x.frame.seq + 1) (x.leaf + 1) first leaves new count bytes
left_on n m seq leaf first leaves old new count bytes x is e left = λ all rest list up.
    let l = left all rest list up in
    let b = less old n m x new seq leaf first leaves is e l.0 rest l.1 l.2 in
    (b.0, b.1, b.2)

-- an entry that doesn't fit, and none
pub misfit : (n m seq leaf first leaves : ℕ) (old new : List ℕ) (count : ℕ) (bytes : List ℕ) (x : CarriedData) → n ≡ suc m → carried_at old ≡ Some (x, new) → (Fits x seq leaf first leaves → ⊥) → Left n seq leaf first leaves old count bytes
    → (all : List CarriedData) (rest : List ℕ) → list_at carried_at count bytes ≡ Some (all, rest) → ascend 0 0 first leaves all ≡ true → ⊥
misfit n m seq leaf first leaves old new count bytes x is e never left all rest list up = let l = left all rest list up in never (less old n m x new seq leaf first leaves is e l.0 rest l.1 l.2).3

pub missing : (n seq leaf first leaves : ℕ) (old : List ℕ) (count : ℕ) (bytes : List ℕ) → 0 < n → carried_at old ≡ None → Left n seq leaf first leaves old count bytes
    → (all : List CarriedData) (rest : List ℕ) → list_at carried_at count bytes ≡ Some (all, rest) → ascend 0 0 first leaves all ≡ true → ⊥
missing n seq leaf first leaves old count bytes some e left all rest list up = let l = left all rest list up in stops old n l.0 rest some e l.1

pub done : (n seq leaf first leaves : ℕ) (here : List ℕ) (count : ℕ) (bytes : List ℕ) → n ≡ 0 → Found n seq leaf first leaves here count bytes → (all : List CarriedData) × (list_at carried_at count bytes ≡ Some (all, here)) × (ascend 0 0 first leaves all ≡ true)
done n seq leaf first leaves here count bytes is found = found [] here (ends here n is) refl

-- ---- with their count

pub few_none : (first leaves : ℕ) (bytes : List ℕ) → byte_at bytes ≡ None → judged_carried first leaves bytes ≡ None
unfolding judged_carried few_carried_at
few_none first leaves bytes e = rw e refl

none_if : {A : Type 0} (o : Option A) → ((x : A) → o ≡ Some x → ⊥) → o ≡ None
none_if None never = refl
none_if (Some x) never = absurd (never x refl)

pub few_never : (first leaves count : ℕ) (bytes here : List ℕ) → byte_at bytes ≡ Some (count, here) → ((cs : List CarriedData) (rest : List ℕ) → count ≤ 30 → list_at carried_at count here ≡ Some (cs, rest) → ascend 0 0 first leaves cs ≡ true → ⊥) → judged_carried first leaves bytes ≡ None
unfolding judged_carried few_carried_at
few_never first leaves count bytes here e never = none_if _ (λ p h.
    let chain : (byte_at bytes >>= λ count. list_at carried_at count.0 count.1 >>= λ carried. kept (nat_le count.0 30) carried) ≡ (list_at carried_at count here >>= λ carried. kept (nat_le count 30) carried) = rw e refl in
    let a = bind_some (byte_at bytes >>= λ count. list_at carried_at count.0 count.1 >>= λ carried. kept (nat_le count.0 30) carried) (λ carried. kept (ascend 0 0 first leaves carried.0) carried) p h in
    let k = kept_some (ascend 0 0 first leaves a.0.0) a.0 p a.2 in
    let b = bind_some (list_at carried_at count here) (λ carried. kept (nat_le count 30) carried) a.0 (sym chain ∙ a.1) in
    let m = kept_some (nat_le count 30) b.0 a.0 b.2 in
    let up : ascend 0 0 first leaves b.0.0 ≡ true = ap (λ (q : List CarriedData × List ℕ). ascend 0 0 first leaves q.0) m.1 ∙ k.0 in
    never b.0.0 b.0.1 (leb-true _ _ m.0) b.1 up)

pub few_some : (first leaves count : ℕ) (bytes here rest : List ℕ) (cs : List CarriedData) → byte_at bytes ≡ Some (count, here) → count ≤ 30 → list_at carried_at count here ≡ Some (cs, rest) → ascend 0 0 first leaves cs ≡ true → judged_carried first leaves bytes ≡ Some (cs, rest)
unfolding judged_carried few_carried_at
few_some first leaves count bytes here rest cs e le list up = rw (e, list, le-leb count 30 le, up) refl

-- ---- the versions

abbrev pub Versioned : Main → ℕ → List ℕ → List ℕ → Bool → Type 0
Versioned m version old new b = MatchBool b ((cs : List CarriedData) × (version_at version (main_view m) old ≡ Some (record (main_view m) { carried = cs }, new))) (version_at version (main_view m) old ≡ None)

one_case : (m : Main) (bytes : List ℕ) (b : Bool) → is_first (main_view m) ≡ b → Versioned m 1 bytes bytes b
unfolding version_at
one_case m bytes true e = ([], ap (λ (t : Bool). kept t (main_view m, bytes)) e)
one_case m bytes false e = ap (λ (t : Bool). kept t (main_view m, bytes)) e

pub version_one : (m : Main) (bytes : List ℕ) (version : ℕ) (b : Bool) → version ≡ 1 → b ≡ is_first (main_view m) → Versioned m version bytes bytes b
version_one m bytes version b is e = subst (λ (v : ℕ). Versioned m v bytes bytes b) (sym is) (one_case m bytes b (sym e))

pub version_other : (m : Main) (bytes : List ℕ) (version : ℕ) → version ≢ 1 → version ≢ 2 → version_at version (main_view m) bytes ≡ None
unfolding version_at
version_other m bytes version one two = rw (ne_eqb version 1 one, ne_eqb version 2 two) refl

base_none : (m : Main) (bytes : List ℕ) → is_base (main_view m) ≡ false → version_at 2 (main_view m) bytes ≡ None
unfolding version_at base_at
base_none m bytes e = none_if _ (λ p h.
    let a = bind_some (judged_carried m.first m.leaves bytes) _ p h in
    let k = kept_some (is_base (main_view m)) _ p a.2 in
    let no_base : true ≡ false = sym k.0 ∙ e in cc)

pub version_no_base : (m : Main) (bytes : List ℕ) (version : ℕ) → version ≢ 1 → is_base (main_view m) ≡ false → version_at version (main_view m) bytes ≡ None
version_no_base m bytes version one e = go (version == 2) refl
  where
    go : (t : Bool) → (version == 2) ≡ t → version_at version (main_view m) bytes ≡ None
    go true is = subst (λ (v : ℕ). version_at v (main_view m) bytes ≡ None) (sym (eqb-true version 2 is)) (base_none m bytes e)
    go false is = version_other m bytes version one (eqb-false version 2 is)

two_case : (m : Main) (old new : List ℕ) (b : Bool) → is_base (main_view m) ≡ true → MatchBool b ((cs : List CarriedData) × (judged_carried m.first m.leaves old ≡ Some (cs, new))) (judged_carried m.first m.leaves old ≡ None) → Versioned m 2 old new b
unfolding version_at base_at
two_case m old new true e h = (h.0, rw h.1 (ap (λ (t : Bool). kept t (record (main_view m) { carried = h.0 }, new)) e))
two_case m old new false e h = rw h refl

pub version_two : (m : Main) (old new : List ℕ) (version : ℕ) (b : Bool) → version ≡ 2 → is_base (main_view m) ≡ true → MatchBool b ((cs : List CarriedData) × (judged_carried m.first m.leaves old ≡ Some (cs, new))) (judged_carried m.first m.leaves old ≡ None) → Versioned m version old new b
version_two m old new version b is e h = subst (λ (v : ℕ). Versioned m v old new b) (sym is) (two_case m old new b e h)

-- ---- the whole header

pub no_magic : (bytes : List ℕ) → magic_at bytes ≡ None → header_at bytes ≡ None
unfolding header_at
no_magic bytes e = rw e refl

pub no_version : (bytes : List ℕ) (word : Unit {0} × List ℕ) → magic_at bytes ≡ Some word → byte_at word.1 ≡ None → header_at bytes ≡ None
unfolding header_at
no_version bytes word e none = rw (e, none) refl

pub no_main : (bytes behind : List ℕ) (version : ℕ) (word : Unit {0} × List ℕ) → magic_at bytes ≡ Some word → byte_at word.1 ≡ Some (version, behind) → main_at behind ≡ None → header_at bytes ≡ None
unfolding header_at
no_main bytes behind version word e v none = rw (e, v, none) refl

pub no_rest : (bytes behind left : List ℕ) (version : ℕ) (h : HeaderData) (word : Unit {0} × List ℕ) → magic_at bytes ≡ Some word → byte_at word.1 ≡ Some (version, behind) → main_at behind ≡ Some (h, left) → version_at version h left ≡ None → header_at bytes ≡ None
unfolding header_at
no_rest bytes behind left version h word e v m none = rw (e, v, m, none) refl

pub a_header : (bytes behind left new : List ℕ) (version : ℕ) (h x : HeaderData) (word : Unit {0} × List ℕ) → magic_at bytes ≡ Some word → byte_at word.1 ≡ Some (version, behind) → main_at behind ≡ Some (h, left) → version_at version h left ≡ Some (x, new) → header_at bytes ≡ Some (x, new)
unfolding header_at
a_header bytes behind left new version h x word e v m some = rw (e, v, m, some) refl

pub started : (r : Option Start) (bytes view left rest : List ℕ) (front : ℕ) (m : Main) → view ≡ bytes → IsHeader m view left → rest ≡ left → front + length rest ≡ length bytes → IsSomeAnd r (λ s. IsStart s (main_view m) × (s.front ≡ front) × IsLowStart s)
    → MatchOption r (header_at bytes ≡ None) (λ s. (h : HeaderData) × (rest : List ℕ) × (header_at bytes ≡ Some (h, rest)) × IsStart s h × (s.front + length rest ≡ length bytes))
started None bytes view left rest front m is h e place a = absurd a
started (Some s) bytes view left rest front m is h e place a =
    let f = a.0 in
    let n : length rest ≡ length left = ap length e in
    let at = a.1 in
    (record (main_view m) { carried = h.0 }, left, ap header_at (sym is) ∙ h.1, record { key = f.key; before = f.before; bounds = f.bounds; leaves = f.leaves; head_len = f.head_len }, omega (arith, at, place, n))
