-- A roll's header, read from a front of the disk, and the count of its bottom keys.
use Rattle.std.proofs.Common.{◌≡◌, ℕ, zero, suc, ◌+◌, ◌-◌, ◌*◌, ◌<◌, ◌&&◌, min, Bool, true, false, refl, sym, ◌∙◌, ap, ap₂, subst, Option, None, Some, IfSome, MatchOption, List, [], ◌∷◌, ◌++◌, length, take, drop, arith, inl, inr, is_some}
use Rattle.std.specs.Str.{bytes_eq}
use Rattle.std.proofs.lemmas.List.{take_at, drop_at, drop-drop, length-drop, length-take-le, take_all, length-take, take-take, drop-take}
use Rattle.std.proofs.lemmas.Bool.{cases_lt}
use Rattle.avm_num.specs.Lists.{be}
use Rattle.avm_num.specs.Walk.{walk, walked}
use Rattle.avm_num.proofs.Numbers.{and_true}
use Rattle.avm_model.specs.Keys.{public_file}
use Rattle.hss_model.specs.Hss.{is_hss_key}
use Rattle.hss_model.specs.Roll.{RollData, roll_of, most_of, roll_end, bound_at, roll_mark}
use Rattle.avm_num.specs.Bytes.{kept}
use Rattle.hss_model.proofs.Rolls.{key_long, bound_front}
use Rattle.lms_hss.specs.Opening.{has_header}
use Rattle.lms_hss.specs.Own.{RollState, IsOwn}
use Rattle.avm_outside.specs.Disk.{Only}

pub key_true : (key : List ℕ) (b : Bool) → bytes_eq (take 4 key) (0 ∷ 0 ∷ 0 ∷ 2 ∷ []) ≡ true → b ≡ public_file (drop 4 key) → b ≡ is_hss_key key
unfolding is_hss_key be
key_true key b mark is = is ∙ sym (ap (λ (t : Bool). t && public_file (drop 4 key)) mark)

pub key_false : (key : List ℕ) (b : Bool) → b ≡ bytes_eq (take 4 key) (0 ∷ 0 ∷ 0 ∷ 2 ∷ []) → b ≡ false → b ≡ is_hss_key key
unfolding is_hss_key be
key_false key b is e = e ∙ sym (ap (λ (t : Bool). t && public_file (drop 4 key)) (sym is ∙ e))

pub header_short : (c : List ℕ) → length c < 65 → has_header c ≡ false
unfolding has_header
header_short c lt = go (has_header c) refl
  where
    go : (b : Bool) → (bytes_eq (take 5 c) roll_mark && is_hss_key (take 60 (drop 5 c))) ≡ b → (bytes_eq (take 5 c) roll_mark && is_hss_key (take 60 (drop 5 c))) ≡ false
    go false e = e
    go true e =
        let t = and_true (bytes_eq (take 5 c) roll_mark) _ e in
        let n : length (take 60 (drop 5 c)) ≡ 60 = key_long (take 60 (drop 5 c)) t.1 in
        absurd (omega (arith, lt, n, length-take 60 (drop 5 c), length-drop 5 c))

pub header_mark : (c : List ℕ) → bytes_eq (take 5 c) (65 ∷ 86 ∷ 77 ∷ 82 ∷ 1 ∷ []) ≡ false → has_header c ≡ false
unfolding has_header
header_mark c e = ap (λ (t : Bool). t && is_hss_key (take 60 (drop 5 c))) e

pub header_key : (c key : List ℕ) (b : Bool) → bytes_eq (take 5 c) (65 ∷ 86 ∷ 77 ∷ 82 ∷ 1 ∷ []) ≡ true → key ≡ take 60 (drop 5 c) → is_hss_key key ≡ b → has_header c ≡ b
unfolding has_header
header_key c key b mark is e = ap (λ (t : Bool). t && is_hss_key (take 60 (drop 5 c))) mark ∙ ap is_hss_key (sym is) ∙ e

-- the front of a disk has its header
same_front : (was : List ℕ) (n : ℕ) → n ≡ min 65 (length was) → take n was ≡ take 65 was
same_front was n is = elim (cases_lt n 65) [
  | inl few ↦ (take_all n was (omega (arith, is, few)) ∙ sym (take_all 65 was (omega (arith, is, few))))
  | inr all ↦ (let e : n ≡ 65 = omega (arith, all, is) in ap (λ (m : ℕ). take m was) e)
]

front_mark : (was : List ℕ) → take 5 (take 65 was) ≡ take 5 was
front_mark was = take-take 5 65 was (omega arith)

front_key : (was : List ℕ) → take 60 (drop 5 (take 65 was)) ≡ take 60 (drop 5 was)
front_key was = ap (λ (l : List ℕ). take 60 l) (drop-take 5 60 was) ∙ take-take 60 60 (drop 5 was) (omega arith)

header_front : (was : List ℕ) → has_header (take 65 was) ≡ has_header was
unfolding has_header
header_front was = ap₂ (λ (a b : List ℕ). bytes_eq a roll_mark && is_hss_key b) (front_mark was) (front_key was)

abbrev pub IsHeader : Option (List ℕ) → List ℕ → Type 0
IsHeader o was = MatchOption o (has_header was ≡ false) (λ key. (has_header was ≡ true) × (key ≡ take 60 (drop 5 was)))

pub header_told : (told : Option (List ℕ)) (n : ℕ) (new old : List ℕ) (o : Option (List ℕ)) → IfSome told (λ was. (n ≡ min 65 (length was - 0)) × (new ≡ take n (drop 0 was) ++ old)) → IsHeader o (take n new) → IfSome told (IsHeader o)
header_told None n new old o read is = tt
header_told (Some was) n new old o read is =
    let k : n ≡ min 65 (length was) = omega (arith, read.0) in
    let a : take n new ≡ take 65 was = ap (λ (l : List ℕ). take n l) read.1 ∙ take_at (take n was) old n (length-take-le n was (omega (arith, k))) ∙ same_front was n k in
    go o (subst (λ (l : List ℕ). IsHeader o l) a is)
  where
    go : (o : Option (List ℕ)) → IsHeader o (take 65 was) → IsHeader o was
    go None e = sym (header_front was) ∙ e
    go (Some key) e = (sym (header_front was) ∙ e.0, e.1 ∙ front_key was)

-- the count of bottom keys
abbrev pub bound_behind : ℕ → ℕ → List ℕ → ℕ
bound_behind most leaf was = length (walk bound_at (most - leaf) (drop (65 + 57 * leaf) was)).0

abbrev pub IsCount : ℕ → ℕ → List ℕ → Type 0
IsCount most leaf was = leaf + bound_behind most leaf was ≡ length (walk bound_at most (drop 65 was)).0

walk_one : (n : ℕ) (bytes : List ℕ) (p : List ℕ × List ℕ) → bound_at bytes ≡ Some p → length (walk bound_at (suc n) bytes).0 ≡ 1 + length (walk bound_at n (drop 57 bytes)).0
walk_one n bytes p e =
    let f = bound_front bytes p e in
    let rest : drop 57 bytes ≡ p.1 = ap (λ (l : List ℕ). drop 57 l) f.0 ∙ drop_at p.0 p.1 56 f.1 in
    let a : length (walk bound_at (suc n) bytes).0 ≡ suc (length (walk bound_at n p.1).0) = ap (λ (o : Option (List ℕ × List ℕ)). length (walked o bytes (walk bound_at n)).0) e in
    let b : length (walk bound_at n p.1).0 ≡ length (walk bound_at n (drop 57 bytes)).0 = ap (λ (l : List ℕ). length (walk bound_at n l).0) (sym rest) in
    omega (arith, a, b)

walk_stop : (n : ℕ) (bytes : List ℕ) → bound_at bytes ≡ None → length (walk bound_at n bytes).0 ≡ 0
walk_stop zero bytes e = refl
walk_stop (suc n) bytes e = ap (λ (o : Option (List ℕ × List ℕ)). length (walked o bytes (walk bound_at n)).0) e

some_of : (o : Option (List ℕ × List ℕ)) → true ≡ is_some o → (p : List ℕ × List ℕ) × (o ≡ Some p)
some_of None e = absurd cc
some_of (Some p) e = (p, refl)

none_of : (o : Option (List ℕ × List ℕ)) → false ≡ is_some o → o ≡ None
none_of None e = refl
none_of (Some p) e = absurd cc

pub count_goes : (told now : Option (List ℕ)) (most leaf : ℕ) (b : Bool) → now ≡ told → leaf < most → b ≡ true → IfSome told (IsCount most leaf) → IfSome now (λ was. b ≡ is_some (bound_at (drop (65 + 57 * leaf) was))) → IfSome told (IsCount most (leaf + 1))
count_goes None now most leaf b same lt t before here = tt
count_goes (Some was) now most leaf b same lt t before here =
    let h = subst (λ (o : Option (List ℕ)). IfSome o (λ was. b ≡ is_some (bound_at (drop (65 + 57 * leaf) was)))) same here in
    let p = some_of (bound_at (drop (65 + 57 * leaf) was)) (sym t ∙ h) in
    let one = walk_one (most - (leaf + 1)) (drop (65 + 57 * leaf) was) p.0 p.1 in
    let fuel : suc (most - (leaf + 1)) ≡ most - leaf = omega (arith, lt) in
    let place : 65 + 57 * leaf + 57 ≡ 65 + 57 * (leaf + 1) = omega arith in
    let far : drop 57 (drop (65 + 57 * leaf) was) ≡ drop (65 + 57 * (leaf + 1)) was = drop-drop 57 (65 + 57 * leaf) was ∙ ap (λ (m : ℕ). drop m was) place in
    let a : length (walk bound_at (most - leaf) (drop (65 + 57 * leaf) was)).0 ≡ 1 + length (walk bound_at (most - (leaf + 1)) (drop (65 + 57 * (leaf + 1)) was)).0 =
    ap (λ (m : ℕ). length (walk bound_at m (drop (65 + 57 * leaf) was)).0) (sym fuel) ∙ one ∙ ap (λ (l : List ℕ). 1 + length (walk bound_at (most - (leaf + 1)) l).0) far in
    omega (arith, before, a)

pub count_stops : (told now : Option (List ℕ)) (most leaf : ℕ) (b : Bool) → now ≡ told → b ≡ false → IfSome told (IsCount most leaf) → IfSome now (λ was. b ≡ is_some (bound_at (drop (65 + 57 * leaf) was))) → IfSome told (λ was. leaf ≡ length (walk bound_at most (drop 65 was)).0)
count_stops None now most leaf b same t before here = tt
count_stops (Some was) now most leaf b same t before here =
    let h = subst (λ (o : Option (List ℕ)). IfSome o (λ was. b ≡ is_some (bound_at (drop (65 + 57 * leaf) was)))) same here in
    let z = walk_stop (most - leaf) (drop (65 + 57 * leaf) was) (none_of (bound_at (drop (65 + 57 * leaf) was)) (sym t ∙ h)) in
    omega (arith, before, z)

pub count_ends : (told : Option (List ℕ)) (most leaf : ℕ) → leaf ≡ most → IfSome told (IsCount most leaf) → IfSome told (λ was. most ≡ length (walk bound_at most (drop 65 was)).0)
count_ends None most leaf e before = tt
count_ends (Some was) most leaf e before =
    let z : most - leaf ≡ 0 = omega (arith, e) in
    let a : length (walk bound_at (most - leaf) (drop (65 + 57 * leaf) was)).0 ≡ 0 = ap (λ (m : ℕ). length (walk bound_at m (drop (65 + 57 * leaf) was)).0) z in
    omega (arith, before, a, e)

roll_here : List ℕ → RollData
roll_here was = record { key = take 60 (drop 5 was); bottoms = (walk bound_at (most_of (take 60 (drop 5 was))) (drop 65 was)).0 }

is_here : (was : List ℕ) → has_header was ≡ true → roll_of was ≡ Some (roll_here was)
unfolding has_header roll_of roll_here
is_here was e = ap (λ (t : Bool). kept t (roll_here was)) e

pub attach_none : (told mid : Option (List ℕ)) (o : Option (List ℕ)) → o ≡ None → mid ≡ told → IfSome mid (IsHeader o) → IfSome told (λ was. roll_of was ≡ None)
unfolding has_header roll_of roll_here
attach_none None mid o e same head = tt
attach_none (Some was) mid o e same head =
    let n = subst (λ (x : Option (List ℕ)). IfSome x (IsHeader o)) same head in
    let f = subst (λ (x : Option (List ℕ)). IsHeader x was) e n in
    ap (λ (t : Bool). kept t (roll_here was)) f

abbrev pub opened : List ℕ → ℕ → RollState
opened key count = record { key = key; count = count; is_ended = false }

pub attach_ok : (told mid last : Option (List ℕ)) (middle new : List ℕ → Type 0) (key : List ℕ) (o : Option (List ℕ)) (most count : ℕ) → o ≡ Some key → mid ≡ told → last ≡ mid → IfSome told (λ was. Only was middle) → ((c : List ℕ) → new c → middle c)
    → IfSome mid (IsHeader o) → most ≡ most_of key → IfSome last (λ was. count ≡ length (walk bound_at most (drop 65 was)).0)
    → IfSome told (λ was. (r : RollData) × (roll_of was ≡ Some r) × IsOwn (opened key count) new was r × (false ≡ false))
unfolding roll_here
attach_ok None mid last middle new key o most count e same same_2 only less head few counted = tt
attach_ok (Some was) mid last middle new key o most count e same same_2 only less head few counted =
    let h = subst (λ (x : Option (List ℕ)). IsHeader x was) e (subst (λ (x : Option (List ℕ)). IfSome x (IsHeader o)) same head) in
    let n = subst (λ (o : Option (List ℕ)). IfSome o (λ was. count ≡ length (walk bound_at most (drop 65 was)).0)) (same_2 ∙ same) counted in
    let r = roll_here was in
    let is = is_here was h.0 in
    let m : length r.bottoms ≡ count = ap (λ (k : ℕ). length (walk bound_at k (drop 65 was)).0) (ap most_of (sym h.1) ∙ sym few) ∙ sym n in (
      r,
      is,
      record {
        key = sym h.1;
        count = m;
        disk = record { read = is; left = λ c left. ap roll_of (only c (less c left)) ∙ is; same = λ c left. ap (λ (l : List ℕ). take 1 (drop (roll_end (length r.bottoms)) l)) (only c (less c left)) };
      },
      refl,
    )
