-- What reading calls tell of a roll.
use Rattle.std.proofs.Common.{◌≡◌, inl, inr, ℕ, ◌+◌, ◌-◌, ◌*◌, ◌<◌, ◌≤◌, min, Bool, true, false, refl, sym, ◌∙◌, ap, subst, Option, None, Some, IfSome, List, [], ◌++◌, length, take, drop, get_or, arith, IsTrue, ◌↔◌, drop-drop, length-append, append_assoc}
use Rattle.std.proofs.lemmas.List.{take_at, drop_at, take_all, length-take-le, length-drop}
use Rattle.std.proofs.lemmas.Bool.{cases_lt}
use Rattle.std.specs.Str.{bytes_eq}
use Rattle.std.proofs.lemmas.Slice.Eq.{bytes_eq-Decides}
use Rattle.avm_num.specs.Lists.{list_bytes}
use Rattle.avm_outside.specs.Disk.{Elapses}
use Rattle.avm_outside.proofs.Runs.{started, goes_on, weaker, joined}
use Rattle.hss_model.specs.Roll.{RollData, roll_of, bound_bytes, roll_bytes, roll_mark}
use Rattle.hss_model.proofs.Rolls.{roll_front, key_at, key_long}
use Rattle.lms_hss.specs.Own.{OnlyReads, IsFound}

module _ {D : Type 0} (seen : D → Option (List ℕ)) (may_leave : D → List ℕ → Type 0) (moment : D → ℕ) (left_since : D → ℕ → List ℕ → Type 0)
    (only_now : (d : D) (c : List ℕ) → left_since d (moment d) c → may_leave d c) where
  pub read_none : (d : D) → OnlyReads seen may_leave moment left_since d d
  read_none d = record { same = refl; crash = λ c left. left; any_moment = started moment left_since d (may_leave d) (λ c left. only_now d c left) }

  pub read_once : (old new : D) → seen new ≡ seen old → ((c : List ℕ) → may_leave new c → may_leave old c) → Elapses (moment old) (moment new) (left_since old) (left_since new) (may_leave new)
      → OnlyReads seen may_leave moment left_since old new
  read_once old new same crash time = record { same = same; crash = crash; any_moment = goes_on moment left_since old old new (may_leave old) (may_leave new) (started moment left_since old (may_leave old) (λ c left. only_now old c left)) time crash }

module _ {D : Type 0} (seen : D → Option (List ℕ)) (may_leave : D → List ℕ → Type 0) (moment : D → ℕ) (left_since : D → ℕ → List ℕ → Type 0) where
  pub read_then : (old mid new : D) → OnlyReads seen may_leave moment left_since old mid → OnlyReads seen may_leave moment left_since mid new → OnlyReads seen may_leave moment left_since old new
  read_then old mid new a b = record {
    same = b.same ∙ a.same;
    crash = λ c left. a.crash c (b.crash c left);
    any_moment = joined moment left_since old mid new (may_leave old) a.any_moment (weaker moment left_since mid new (may_leave mid) (may_leave old) a.crash b.any_moment);
  }

-- bottom key i of a roll's bytes
pub key_there : (was : List ℕ) (r : RollData) (i : ℕ) → roll_of was ≡ Some r → i < length r.bottoms → take 56 (drop (66 + 57 * i) was) ≡ get_or r.bottoms i []
unfolding roll_bytes
key_there was r i e lt =
    let f = roll_front was r e in
    let h = f.1 in
    let ks = list_bytes bound_bytes r.bottoms in
    let n : length (roll_mark ++ r.key) ≡ 65 = omega (arith, length-append roll_mark r.key, key_long r.key h.fits.key) in
    let parts : was ≡ (roll_mark ++ r.key) ++ (ks ++ f.0) = h.spelled ∙ append_assoc roll_mark (r.key ++ ks) f.0 ∙ ap (λ (l : List ℕ). roll_mark ++ l) (append_assoc r.key ks f.0) ∙ sym (append_assoc roll_mark r.key (ks ++ f.0)) in
    let behind : drop 65 was ≡ ks ++ f.0 = ap (λ (l : List ℕ). drop 65 l) parts ∙ drop_at (roll_mark ++ r.key) (ks ++ f.0) 65 n in
    let k : 66 + 57 * i ≡ 65 + (57 * i + 1) = omega arith in
    let far : drop (66 + 57 * i) was ≡ drop (57 * i + 1) (ks ++ f.0) = ap (λ (m : ℕ). drop m was) k ∙ sym (drop-drop (57 * i + 1) 65 was) ∙ ap (λ (l : List ℕ). drop (57 * i + 1) l) behind in
    ap (λ (l : List ℕ). take 56 l) far ∙ key_at r.bottoms f.0 i h.fits.keys lt

-- what was read of a key's place
pub stands_told : (told : Option (List ℕ)) (leaf n at : ℕ) (old new bottom : List ℕ) (b : Bool) → at ≡ 66 + 57 * leaf
    → IfSome told (λ was. (n ≡ min 56 (length was - at)) × (new ≡ take n (drop at was) ++ old)) → b ≡ bytes_eq (take n new) bottom
    → IfSome told (λ was. IsTrue b ↔ (take 56 (drop (66 + 57 * leaf) was) ≡ bottom))
stands_told None leaf n at old new bottom b place read is = tt
stands_told (Some was) leaf n at old new bottom b place read is =
    let k : n ≤ length (drop at was) = omega (arith, read.0, length-drop at was) in
    let a : take n new ≡ take n (drop at was) = ap (λ (l : List ℕ). take n l) read.1 ∙ take_at (take n (drop at was)) old n (length-take-le n (drop at was) k) in
    let same : take n (drop at was) ≡ take 56 (drop at was) = elim (cases_lt n 56) [
      | inl few ↦ (take_all n (drop at was) (omega (arith, read.0, length-drop at was, few)) ∙ sym (take_all 56 (drop at was) (omega (arith, read.0, length-drop at was, few))))
      | inr all ↦ (let e : n ≡ 56 = omega (arith, all, read.0) in ap (λ (m : ℕ). take m (drop at was)) e)
    ] in
    let both : take 56 (drop (66 + 57 * leaf) was) ≡ take n new = sym (a ∙ same ∙ ap (λ (m : ℕ). take 56 (drop m was)) place) in
    (λ t. both ∙ (bytes_eq-Decides (take n new) bottom).0 (sym is ∙ t), λ e. is ∙ (bytes_eq-Decides (take n new) bottom).1 (sym both ∙ e))

bool_apart : (b : Bool) → b ≡ false → IsTrue b → ⊥
bool_apart true e t = absurd cc
bool_apart false e t = absurd cc

-- no key before this leaf is the one
abbrev pub IsNotBefore : List ℕ → ℕ → List ℕ → ℕ → Type 0
IsNotBefore was count bottom leaf = (r : RollData) → roll_of was ≡ Some r → length r.bottoms ≡ count → (i : ℕ) → i < leaf → get_or r.bottoms i [] ≡ bottom → ⊥

pub goes_past : (told told_now : Option (List ℕ)) (count leaf : ℕ) (bottom : List ℕ) (b : Bool) → told_now ≡ told → leaf < count → b ≡ false → IfSome told (λ was. IsNotBefore was count bottom leaf)
    → IfSome told_now (λ was. IsTrue b ↔ (take 56 (drop (66 + 57 * leaf) was) ≡ bottom)) → IfSome told (λ was. IsNotBefore was count bottom (leaf + 1))
goes_past None told_now count leaf bottom b same lt never before here = tt
goes_past (Some was) told_now count leaf bottom b same lt never before here = λ r e len i low is.
    let h = subst (λ (o : Option (List ℕ)). IfSome o (λ was. IsTrue b ↔ (take 56 (drop (66 + 57 * leaf) was) ≡ bottom))) same here in
    elim (cases_lt i leaf) [
      | inl less ↦ before r e len i less is
      | inr more ↦ (let at : i ≡ leaf = omega (arith, low, more) in
          absurd (bool_apart b never (h.1 (key_there was r leaf e (omega (arith, lt, len)) ∙ ap (λ (k : ℕ). get_or r.bottoms k []) (sym at) ∙ is))))
    ]

pub found_here : (told told_now : Option (List ℕ)) (count leaf : ℕ) (bottom : List ℕ) (b : Bool) → told_now ≡ told → leaf < count → IsTrue b → IfSome told (λ was. IsNotBefore was count bottom leaf)
    → IfSome told_now (λ was. IsTrue b ↔ (take 56 (drop (66 + 57 * leaf) was) ≡ bottom)) → IfSome told (λ was. (r : RollData) → roll_of was ≡ Some r → length r.bottoms ≡ count → IsFound (Some leaf) r.bottoms bottom)
found_here None told_now count leaf bottom b same lt found before here = tt
found_here (Some was) told_now count leaf bottom b same lt found before here = λ r e len.
    let h = subst (λ (o : Option (List ℕ)). IfSome o (λ was. IsTrue b ↔ (take 56 (drop (66 + 57 * leaf) was) ≡ bottom))) same here in
    record { within = omega (arith, lt, len); there = sym (key_there was r leaf e (omega (arith, lt, len))) ∙ h.0 found; first = before r e len }

pub found_none : (told : Option (List ℕ)) (count leaf : ℕ) (bottom : List ℕ) → count ≤ leaf → IfSome told (λ was. IsNotBefore was count bottom leaf)
    → IfSome told (λ was. (r : RollData) → roll_of was ≡ Some r → length r.bottoms ≡ count → IsFound None r.bottoms bottom)
found_none None count leaf bottom le before = tt
found_none (Some was) count leaf bottom le before = λ r e len i lt is. before r e len i (omega (arith, lt, len, le)) is
