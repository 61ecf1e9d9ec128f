-- What was read, compared piece by piece.
use Rattle.std.proofs.Common.{◌≡◌, ℕ, ◌+◌, ◌-◌, ◌<◌, ◌≤◌, min, Bool, true, false, refl, sym, ◌∙◌, ap, ap₂, subst, inl, inr, Option, None, Some, IfSome, List, ◌++◌, length, take, drop, get_or, arith, IsTrue, ◌↔◌, drop-drop, take-append-drop}
use Rattle.std.specs.Prelude.{replicate}
use Rattle.std.proofs.lemmas.List.{take_all, take-take, take-append-le, take_min, drop-take, length-take-le, length-drop, length-replicate, get_or-take, get_or-drop, get_or-replicate, ext_get_or}
use Rattle.std.proofs.lemmas.Bool.{cases_lt}
use Rattle.std.specs.Str.{bytes_eq}
use Rattle.std.proofs.lemmas.Slice.Eq.{bytes_eq-Decides}
use Rattle.spare_base.specs.Kinds.{HasZeros}

-- what a read of up to 4096 bytes gives
abbrev pub IsRead : ℕ → ℕ → List ℕ → List ℕ → List ℕ → Type 0
IsRead at n new old was = (n ≡ min 4096 (length was - at)) × (new ≡ take n (drop at was) ++ old)

-- its front of a size
front_read : (at n m size : ℕ) (new old was : List ℕ) → size ≤ 4096 → m ≡ min n size → IsRead at n new old was → (take m new ≡ take size (drop at was)) × (m ≡ min size (length (drop at was)))
front_read at n m size new old was few cut read =
    let xs = drop at was in
    let long = length-drop at was in
    let k : n ≤ length xs = omega (arith, read.0, long) in
    let le : m ≤ n = omega (arith, cut) in
    let is : m ≡ min size (length xs) = omega (arith, cut, read.0, long, few) in (
      ap (λ (l : List ℕ). take m l) read.1 ∙ take-append-le m (take n xs) old (omega (arith, le, length-take-le n xs k)) ∙ take-take m n xs le ∙ ap (λ (i : ℕ). take i xs) is ∙ take_min size xs,
      is,
    )

pub there_told : (told : Option (List ℕ)) (at n m size : ℕ) (new old bytes : List ℕ) (b : Bool) → size ≤ 4096 → m ≡ min n size → IfSome told (IsRead at n new old) → b ≡ bytes_eq (take m new) bytes → IfSome told (λ was. IsTrue b ↔ (take size (drop at was) ≡ bytes))
there_told None at n m size new old bytes b few cut read is = tt
there_told (Some was) at n m size new old bytes b few cut read is =
    let f = (front_read at n m size new old was few cut read).0 in
    (λ t. sym f ∙ (bytes_eq-Decides (take m new) bytes).0 (sym is ∙ t), λ e. is ∙ (bytes_eq-Decides (take m new) bytes).1 (f ∙ e))

-- ---- only 00

zeros_front : (at m size : ℕ) (was : List ℕ) → size ≤ 4096 → m ≡ min size (length (drop at was)) → take size (drop at was) ≡ take {A = ℕ} m (replicate 4096 0) → HasZeros at (at + size) was
zeros_front at m size was few cut same p low high inside =
    let i = p - at in
    let place : at + i ≡ p = omega (arith, low) in
    let lt : i < size = omega (arith, low, high) in
    let less : i < m = omega (arith, cut, low, high, inside, length-drop at was) in
    sym (get_or-drop at was i 0 ∙ ap (λ (q : ℕ). get_or was q 0) place)
    ∙ sym (get_or-take size (drop at was) i 0 lt)
    ∙ ap (λ (l : List ℕ). get_or l i 0) same
    ∙ get_or-take {A = ℕ} m (replicate 4096 0) i 0 less
    ∙ get_or-replicate {A = ℕ} 4096 i 0 0 (omega (arith, lt, few))

front_zeros : (at m size : ℕ) (was : List ℕ) → size ≤ 4096 → m ≡ min size (length (drop at was)) → HasZeros at (at + size) was → take size (drop at was) ≡ take {A = ℕ} m (replicate 4096 0)
front_zeros at m size was few cut zeros =
    sym (take_min size (drop at was)) ∙ ap (λ (k : ℕ). take k (drop at was)) (sym cut) ∙ ext_get_or 0 _ _ (omega (arith, one, two)) (λ i lt.
    let less : i < m = omega (arith, lt, one) in
    get_or-take m (drop at was) i 0 less ∙ get_or-drop at was i 0 ∙ zeros (at + i) (omega arith) (omega (arith, less, cut)) (omega (arith, less, cut, length-drop at was))
    ∙ sym (get_or-take {A = ℕ} m (replicate 4096 0) i 0 less ∙ get_or-replicate {A = ℕ} 4096 i 0 0 (omega (arith, less, cut, few))))
  where
    one : length (take m (drop at was)) ≡ m
    one = length-take-le m (drop at was) (omega (arith, cut))

    two : length {A = ℕ} (take m (replicate 4096 0)) ≡ m
    two = length-take-le {A = ℕ} m (replicate 4096 0) (omega (arith, cut, few, length-replicate {A = ℕ} 4096 0))

pub clear_told : (told : Option (List ℕ)) (at n m size : ℕ) (new old : List ℕ) (b : Bool) → size ≤ 4096 → m ≡ min n size → IfSome told (IsRead at n new old) → b ≡ bytes_eq (take m new) (take {A = ℕ} m (replicate 4096 0)) → IfSome told (λ was. IsTrue b ↔ HasZeros at (at + size) was)
clear_told None at n m size new old b few cut read is = tt
clear_told (Some was) at n m size new old b few cut read is =
    let f = front_read at n m size new old was few cut read in (
      λ t. zeros_front at m size was few f.1 (sym f.0 ∙ (bytes_eq-Decides (take m new) (take {A = ℕ} m (replicate 4096 0))).0 (sym is ∙ t)),
      λ zeros. is ∙ (bytes_eq-Decides (take m new) (take {A = ℕ} m (replicate 4096 0))).1 (f.0 ∙ front_zeros at m size was few f.1 zeros),
    )

-- ---- one piece more

pub apart : (b : Bool) → b ≡ false → IsTrue b → ⊥
apart true e t = absurd cc
apart false e t = absurd cc

parted : (n m : ℕ) (l : List ℕ) → take (n + m) l ≡ take n l ++ take m (drop n l)
parted n m l = sym (take-append-drop n (take (n + m) l)) ∙ ap₂ (λ (a b : List ℕ). a ++ b) (take-take n (n + m) l (omega arith)) (drop-take n m l)

pub stands_more : (told told_now : Option (List ℕ)) (at place done size : ℕ) (bytes piece : List ℕ) (b : Bool) → told_now ≡ told → b ≡ true → place ≡ at + done → piece ≡ take size (drop done bytes) → length piece ≡ size
    → IfSome told (λ was. take done (drop at was) ≡ take done bytes) → IfSome told_now (λ was. IsTrue b ↔ (take (length piece) (drop place was) ≡ piece)) → IfSome told (λ was. take (done + size) (drop at was) ≡ take (done + size) bytes)
stands_more None told_now at place done size bytes piece b same sure is cut long so_far here = tt
stands_more (Some was) told_now at place done size bytes piece b same sure is cut long so_far here =
    let h = (subst (λ (o : Option (List ℕ)). IfSome o (λ was. IsTrue b ↔ (take (length piece) (drop place was) ≡ piece))) same here).0 sure in
    let there : take size (drop done (drop at was)) ≡ take size (drop done bytes) = ap (λ (l : List ℕ). take size l) (drop-drop done at was ∙ ap (λ (p : ℕ). drop p was) (sym is)) ∙ ap (λ (k : ℕ). take k (drop place was)) (sym long) ∙ h ∙ cut in
    parted done size (drop at was) ∙ ap₂ (λ (x y : List ℕ). x ++ y) so_far there ∙ sym (parted done size bytes)

pub stands_not : (told told_now : Option (List ℕ)) (at place done size : ℕ) (bytes piece : List ℕ) (b : Bool) → told_now ≡ told → b ≡ false → place ≡ at + done → piece ≡ take size (drop done bytes) → length piece ≡ size → done + size ≤ length bytes
    → IfSome told_now (λ was. IsTrue b ↔ (take (length piece) (drop place was) ≡ piece)) → IfSome told (λ was. IsTrue false ↔ (take (length bytes) (drop at was) ≡ bytes))
stands_not None told_now at place done size bytes piece b same never is cut long fits here = tt
stands_not (Some was) told_now at place done size bytes piece b same never is cut long fits here =
    let h = subst (λ (o : Option (List ℕ)). IfSome o (λ was. IsTrue b ↔ (take (length piece) (drop place was) ≡ piece))) same here in
    (λ t. absurd cc, λ e. absurd (apart b never (h.1 (same_piece e))))
  where
    same_piece : take (length bytes) (drop at was) ≡ bytes → take (length piece) (drop place was) ≡ piece
    same_piece e =
        let k = length bytes - done in
        let sum : done + k ≡ length bytes = omega (arith, fits) in
        let whole : drop done bytes ≡ take k (drop done (drop at was)) = ap (λ (l : List ℕ). drop done l) (sym e ∙ ap (λ (i : ℕ). take i (drop at was)) (sym sum)) ∙ drop-take done k (drop at was) in
        ap (λ (i : ℕ). take i (drop place was)) long ∙ ap (λ (p : ℕ). take size (drop p was)) is ∙ ap (λ (l : List ℕ). take size l) (sym (drop-drop done at was))
        ∙ sym (take-take size k (drop done (drop at was)) (omega (arith, sum, fits))) ∙ ap (λ (l : List ℕ). take size l) (sym whole) ∙ sym cut

pub stands_all : (told : Option (List ℕ)) (at done : ℕ) (bytes : List ℕ) → done ≡ length bytes → IfSome told (λ was. take done (drop at was) ≡ take done bytes) → IfSome told (λ was. IsTrue true ↔ (take (length bytes) (drop at was) ≡ bytes))
stands_all None at done bytes is so_far = tt
stands_all (Some was) at done bytes is so_far = (λ t. ap (λ (n : ℕ). take n (drop at was)) (sym is) ∙ so_far ∙ take_all done bytes (omega (arith, is)), λ e. refl)

pub clear_more : (told told_now : Option (List ℕ)) (from at size : ℕ) (b : Bool) → told_now ≡ told → b ≡ true → IfSome told (HasZeros from at) → IfSome told_now (λ was. IsTrue b ↔ HasZeros at (at + size) was) → IfSome told (HasZeros from (at + size))
clear_more None told_now from at size b same sure so_far here = tt
clear_more (Some was) told_now from at size b same sure so_far here =
    let h = (subst (λ (o : Option (List ℕ)). IfSome o (λ was. IsTrue b ↔ HasZeros at (at + size) was)) same here).0 sure in
    λ p low high inside. elim (cases_lt p at) [
      | inl lt ↦ so_far p low lt inside
      | inr ge ↦ h p ge high inside
    ]

pub clear_not : (told told_now : Option (List ℕ)) (from at size end : ℕ) (b : Bool) → told_now ≡ told → b ≡ false → from ≤ at → at + size ≤ end → IfSome told_now (λ was. IsTrue b ↔ HasZeros at (at + size) was) → IfSome told (λ was. IsTrue false ↔ HasZeros from end was)
clear_not None told_now from at size end b same never low high here = tt
clear_not (Some was) told_now from at size end b same never low high here =
    let h = subst (λ (o : Option (List ℕ)). IfSome o (λ was. IsTrue b ↔ HasZeros at (at + size) was)) same here in
    (λ t. absurd cc, λ zeros. absurd (apart b never (h.1 (λ p ge lt inside. zeros p (omega (arith, low, ge)) (omega (arith, lt, high)) inside))))

pub clear_all : (told : Option (List ℕ)) (from at end : ℕ) → end ≤ at → IfSome told (HasZeros from at) → IfSome told (λ was. IsTrue true ↔ HasZeros from end was)
clear_all None from at end le so_far = tt
clear_all (Some was) from at end le so_far = (λ t p low high inside. so_far p low (omega (arith, high, le)) inside, λ zeros. refl)

-- before the first piece
pub stands_none : (told : Option (List ℕ)) (at : ℕ) (bytes : List ℕ) → IfSome told (λ was. take 0 (drop at was) ≡ take 0 bytes)
stands_none None at bytes = tt
stands_none (Some was) at bytes = refl

pub clear_none : (told : Option (List ℕ)) (from : ℕ) → IfSome told (HasZeros from from)
clear_none None from = tt
clear_none (Some was) from = λ p low high inside. absurd (omega (arith, low, high))
