-- What a spare is.
use Rattle.std.proofs.Common.{◌≡◌, inl, inr, ℕ, zero, suc, ◌+◌, ◌-◌, ◌≤◌, ◌==◌, ◌^◌, min, Bool, true, false, refl, sym, ◌∙◌, ap, subst, Option, None, Some, IfSome, List, [], ◌∷◌, ◌++◌, length, take, drop, get_or, arith, eqb-true, IsTrue, ◌↔◌, take-append-drop}
use Rattle.std.proofs.lemmas.List.{take_at, length-drop, length-take-le}
use Rattle.avm_outside.specs.Disk.{Only}
use Rattle.base_model.specs.Spare.{first_byte, IsActive, IsFree, IsKind, IsPrepared, Active, Free, Other, Prepared}
use Rattle.spare_disk.specs.Activating.{Each}
use Rattle.spare_base.proofs.Pieces.{apart}
use Rattle.spare_base.specs.Kinds.{HasZeros}

-- ---- the first byte

pub free_short : (told : Option (List ℕ)) (n : ℕ) (new old : List ℕ) → n ≤ 1 → IfSome told (λ was. (n ≡ min 2 (length was - 0)) × (new ≡ take n (drop 0 was) ++ old)) → IfSome told (λ was. IsTrue true ↔ IsFree was)
free_short None n new old few read = tt
free_short (Some was) n new old few read = (λ t. inl (let e = read.0 in omega (arith, few, e)), λ free. refl)

pub free_by : (told : Option (List ℕ)) (n : ℕ) (new old : List ℕ) (b : Bool) → (n ≤ 1 → ⊥) → (IsTrue b → get_or new 0 0 ≡ first_byte → ⊥) → ((get_or new 0 0 ≡ first_byte → ⊥) → IsTrue b)
    → IfSome told (λ was. (n ≡ min 2 (length was - 0)) × (new ≡ take n (drop 0 was) ++ old)) → IfSome told (λ was. IsTrue b ↔ IsFree was)
free_by None n new old b many sure never read = tt
free_by (Some was) n new old b many sure never read = go was read.0 read.1
  where
    go : (was : List ℕ) → n ≡ min 2 (length was - 0) → new ≡ take n was ++ old → IsTrue b ↔ IsFree was
    go [] size is = absurd (many (omega (arith, size)))
    go (x ∷ rest) size is =
        let two : (k : ℕ) × (n ≡ suc k) = (n - 1, omega (arith, size)) in
        let first : get_or new 0 0 ≡ x = ap (λ (l : List ℕ). get_or l 0 0) (is ∙ ap (λ (m : ℕ). take m (x ∷ rest) ++ old) two.1) in
        (λ t. inr (x, rest, refl, shut x (λ e. sure t (first ∙ e))), λ free. never (λ e. absurd (closed (sym first ∙ e) free)))
      where
        shut : (g : ℕ) → (g ≡ first_byte → ⊥) → (g == first_byte) ≡ false
        shut g apart_from = step (g == first_byte) refl
          where
            step : (c : Bool) → (g == first_byte) ≡ c → (g == first_byte) ≡ false
            step true e = absurd (apart_from (eqb-true g first_byte e))
            step false e = e

        closed : x ≡ first_byte → IsFree (x ∷ rest) → ⊥
        closed e (inl short) = many (let s : length (x ∷ rest) ≡ suc (length rest) = refl in omega (arith, size, short))
        closed e (inr blank) =
            let same : x ≡ blank.0 = ap (λ (l : List ℕ). get_or l 0 0) blank.2 in
            let t : (first_byte == first_byte) ≡ false = ap (λ (g : ℕ). g == first_byte) (sym e ∙ same) ∙ blank.3 in
            absurd cc

-- ---- a prepared spare

pub prepared_free : (behind c : List ℕ) → IsPrepared behind c → IsFree c
prepared_free behind c p = inr (p.gate, behind ++ p.rest, p.bytes, p.shut)

prepared_has : (behind was : List ℕ) → IsPrepared behind was → (take (length behind) (drop 1 was) ≡ behind) × HasZeros (length behind + 1) (2 ^ 31) was
prepared_has behind was p = (
  ap (λ (l : List ℕ). take (length behind) (drop 1 l)) p.bytes ∙ take_at behind p.rest (length behind) refl,
  λ i low high inside. p.clear i low inside high,
)

has_prepared : (behind was : List ℕ) → 1 ≤ length behind → IsFree was → take (length behind) (drop 1 was) ≡ behind → HasZeros (length behind + 1) (2 ^ 31) was → IsPrepared behind was
has_prepared behind was some (inl short) there zeros =
    let n : length (take (length behind) (drop 1 was)) ≡ length behind = ap length there in
    let none : length (drop 1 was) ≡ 0 = omega (arith, short, length-drop 1 was) in
    let m : length (take (length behind) (drop 1 was)) ≡ 0 = (let e : take (length behind) (drop 1 was) ≡ take (length behind) [] = ap (λ (l : List ℕ). take (length behind) l) (no_bytes (drop 1 was) none) in ap length e ∙ empty (length behind)) in
    absurd (omega (arith, n, m, some))
  where
    no_bytes : (l : List ℕ) → length l ≡ 0 → l ≡ []
    no_bytes [] e = refl
    no_bytes (x ∷ l) e = absurd cc

    empty : (n : ℕ) → length {A = ℕ} (take n []) ≡ 0
    empty zero = refl
    empty (suc n) = refl
has_prepared behind was some (inr blank) there zeros = record {
  gate = blank.0;
  rest = drop (length behind) blank.1;
  bytes = blank.2 ∙ ap (λ (l : List ℕ). blank.0 ∷ l) (sym (take-append-drop (length behind) blank.1) ∙ ap (λ (l : List ℕ). l ++ drop (length behind) blank.1) front);
  shut = blank.3;
  clear = λ i low inside high. zeros i low high inside;
}
  where
    front : take (length behind) blank.1 ≡ behind
    front = sym (ap (λ (l : List ℕ). take (length behind) (drop 1 l)) blank.2) ∙ there

pub not_there : (told : Option (List ℕ)) (behind : List ℕ) (b : Bool) → b ≡ false → IfSome told (λ was. IsTrue b ↔ (take (length behind) (drop 1 was) ≡ behind)) → IfSome told (λ was. IsTrue false ↔ IsPrepared behind was)
not_there None behind b never there = tt
not_there (Some was) behind b never there = (λ t. absurd cc, λ p. absurd (apart b never (there.1 (prepared_has behind was p).0)))

pub is_there : (told mid : Option (List ℕ)) (behind : List ℕ) (end : ℕ) (a b : Bool) → mid ≡ told → 1 ≤ length behind → end ≡ length behind + 1 → a ≡ true → IfSome told IsFree → IfSome told (λ was. IsTrue a ↔ (take (length behind) (drop 1 was) ≡ behind))
    → IfSome mid (λ was. IsTrue b ↔ HasZeros end (2 ^ 31) was) → IfSome told (λ was. IsTrue b ↔ IsPrepared behind was)
is_there None mid behind end a b same some is sure free there clear = tt
is_there (Some was) mid behind end a b same some is sure free there clear =
    let c = subst (λ (o : Option (List ℕ)). IfSome o (λ was. IsTrue b ↔ HasZeros end (2 ^ 31) was)) same clear in (
      λ t. has_prepared behind was some free (there.0 sure) (subst (λ (n : ℕ). HasZeros n (2 ^ 31) was) is (c.0 t)),
      λ p. c.1 (subst (λ (n : ℕ). HasZeros n (2 ^ 31) was) (sym is) (prepared_has behind was p).1),
    )

-- ---- the kind

module _ (base : List ℕ) (header : ℕ) (gate : take (header + 1) base ≡ take header base ++ 1 ∷ []) (fits : header + 1 ≤ length base) where
  size : length (take (header + 1) base) ≡ header + 1
  size = length-take-le (header + 1) base fits

  -- the front that an active spare has
  active_is : (was : List ℕ) → take (length (take (header + 1) base)) was ≡ take (header + 1) base → IsActive (take header base) was
  active_is was there = (drop (length (take (header + 1) base)) was, sym (take-append-drop (length (take (header + 1) base)) was) ∙ ap (λ (l : List ℕ). l ++ drop (length (take (header + 1) base)) was) (there ∙ gate))

  is_active : (was : List ℕ) → IsActive (take header base) was → take (length (take (header + 1) base)) was ≡ take (header + 1) base
  is_active was active = ap (λ (l : List ℕ). take (length (take (header + 1) base)) l) active.1 ∙ take_at (take header base ++ 1 ∷ []) active.0 (length (take (header + 1) base)) (sym (ap length gate)) ∙ sym gate

  abbrev pub IsSeenActive : Bool → Option (List ℕ) → Type 0
  IsSeenActive b told = IfSome told (λ was. IsTrue b ↔ (take (length (take (header + 1) base)) (drop 0 was) ≡ take (header + 1) base))

  pub kind_active : (told mid : Option (List ℕ)) (b : Bool) → mid ≡ told → b ≡ true → IsSeenActive b mid → IfSome told (λ was. IsKind (take header base) (drop 1 base) Active was)
  kind_active None mid b same sure seen = tt
  kind_active (Some was) mid b same sure seen = active_is was ((subst (λ (o : Option (List ℕ)). IsSeenActive b o) same seen).0 sure)

  not_active : (was : List ℕ) (b : Bool) → b ≡ false → (IsTrue b ↔ (take (length (take (header + 1) base)) was ≡ take (header + 1) base)) → IsActive (take header base) was → ⊥
  not_active was b never seen active = apart b never (seen.1 (is_active was active))

  pub kind_other : (told mid next : Option (List ℕ)) (a b : Bool) → mid ≡ told → next ≡ told → a ≡ false → b ≡ false → IsSeenActive a mid → IfSome next (λ was. IsTrue b ↔ IsFree was) → IfSome told (λ was. IsKind (take header base) (drop 1 base) Other was)
  kind_other None mid next a b same same_2 never none seen free = tt
  kind_other (Some was) mid next a b same same_2 never none seen free =
      let s = subst (λ (o : Option (List ℕ)). IsSeenActive a o) same seen in
      let f = subst (λ (o : Option (List ℕ)). IfSome o (λ was. IsTrue b ↔ IsFree was)) same_2 free in
      (not_active was a never s, λ p. apart b none (f.1 (prepared_free (drop 1 base) was p)), λ is. apart b none (f.1 is))

  pub kind_prepared : (told mid next : Option (List ℕ)) (a b : Bool) → mid ≡ told → next ≡ told → a ≡ false → b ≡ true → IsSeenActive a mid → IfSome next (λ was. IsTrue b ↔ IsPrepared (drop 1 base) was) → IfSome told (λ was. IsKind (take header base) (drop 1 base) Prepared was)
  kind_prepared None mid next a b same same_2 never sure seen prepared = tt
  kind_prepared (Some was) mid next a b same same_2 never sure seen prepared =
      let s = subst (λ (o : Option (List ℕ)). IsSeenActive a o) same seen in
      let p = subst (λ (o : Option (List ℕ)). IfSome o (λ was. IsTrue b ↔ IsPrepared (drop 1 base) was)) same_2 prepared in
      (not_active was a never s, p.0 sure)

  pub kind_free : (told mid next last : Option (List ℕ)) (a b c : Bool) → mid ≡ told → next ≡ told → last ≡ told → a ≡ false → b ≡ true → c ≡ false → IsSeenActive a mid → IfSome next (λ was. IsTrue b ↔ IsFree was)
      → IfSome last (λ was. IsTrue c ↔ IsPrepared (drop 1 base) was) → IfSome told (λ was. IsKind (take header base) (drop 1 base) Free was)
  kind_free None mid next last a b c same same_2 same_3 never sure none seen free prepared = tt
  kind_free (Some was) mid next last a b c same same_2 same_3 never sure none seen free prepared =
      let s = subst (λ (o : Option (List ℕ)). IsSeenActive a o) same seen in
      let f = subst (λ (o : Option (List ℕ)). IfSome o (λ was. IsTrue b ↔ IsFree was)) same_2 free in
      let p = subst (λ (o : Option (List ℕ)). IfSome o (λ was. IsTrue c ↔ IsPrepared (drop 1 base) was)) same_3 prepared in
      (not_active was a never s, λ is. apart c none (p.1 is), f.0 sure)

-- and what a crash then leaves
pub with_images : (told : Option (List ℕ)) (images : List ℕ → Type 0) (K : List ℕ → Type 0) → IfSome told K → IfSome told (λ was. Only was images) → IfSome told (λ was. K was × Each images (λ c. c ≡ was))
with_images None images K k only = tt
with_images (Some was) images K k only = (k, only)

-- where only reads came behind the sync
pub still_only : (told : Option (List ℕ)) (old new : List ℕ → Type 0) → IfSome told (λ was. Only was old) → ((c : List ℕ) → new c → old c) → IfSome told (λ was. Only was new)
still_only None old new only crash = tt
still_only (Some was) old new only crash = λ c left. only c (crash c left)
