-- A loop that passes over items, and an iterator over them.
use Rattle.std.proofs.Common.{◌≡◌, ℕ, zero, suc, ◌+◌, ◌-◌, ◌<◌, List, [], ◌∷◌, ◌++◌, Option, Some, None, IsSome, MatchOption, refl, sym, ap, ◌∙◌, length, append-nil, arith, take, slice_set}
use Rattle.std.proofs.lemmas.List.{take_more_set, take_all}
use Rattle.std.specs.Iterator.{MakesProgress, YieldsFirstBy, item_count}
use Rattle.avm_num.specs.Bytes.{Takes}
use Rattle.avm_num.specs.Lists.{list_at, read_of, left_of, with_front}
use Rattle.avm_num.proofs.Fields.{left_suc, list_step, list_stops, list_zero, front_step, front_stops}

-- one item passed
pub left_goes : {A : Type 0} (at : List ℕ → Option (A × List ℕ)) (total : Option (List ℕ)) (n m : ℕ) (old new : List ℕ) (x : A) → left_of (list_at at n old) ≡ total → at old ≡ Some (x, new) → n ≡ m + 1 → left_of (list_at at m new) ≡ total
left_goes at total n m old new x inv e is =
    let s : n ≡ suc m = omega arith in
    let h = rw s at inv in
    let k = left_suc at m old in
    let j = rw e at k in
    sym j ∙ h

pub left_stops : {A : Type 0} (at : List ℕ → Option (A × List ℕ)) (total : Option (List ℕ)) (n : ℕ) (old : List ℕ) → left_of (list_at at n old) ≡ total → at old ≡ None → 0 < n → total ≡ None
left_stops at total zero old inv e pos = absurd (omega (arith, pos))
left_stops at total (suc n) old inv e pos = let j = rw e at (left_suc at n old) in sym inv ∙ j

pub left_ends : {A : Type 0} (at : List ℕ → Option (A × List ℕ)) (total : Option (List ℕ)) (n : ℕ) (old : List ℕ) → left_of (list_at at n old) ≡ total → n ≡ 0 → total ≡ Some old
left_ends at total n old inv z = sym (rw (z, list_zero at old) at inv)

-- one item joined
pub front_goes : {A : Type 0} (at : List ℕ → Option (A × List ℕ)) (total : Option (List A × List ℕ)) (n m : ℕ) (xs : List A) (old new : List ℕ) (x : A) → with_front xs (list_at at n old) ≡ total → at old ≡ Some (x, new) → n ≡ m + 1 → with_front (xs ++ x ∷ []) (list_at at m new) ≡ total
front_goes at total n m xs old new x inv e is =
    let s : n ≡ suc m = omega arith in
    let h = rw s at inv in
    sym (front_step at m xs old _ e) ∙ h

pub front_none : {A : Type 0} (at : List ℕ → Option (A × List ℕ)) (total : Option (List A × List ℕ)) (n : ℕ) (xs : List A) (old : List ℕ) → with_front xs (list_at at n old) ≡ total → at old ≡ None → 0 < n → total ≡ None
front_none at total zero xs old inv e pos = absurd (omega (arith, pos))
front_none at total (suc n) xs old inv e pos = sym inv ∙ front_stops at n xs old e

pub front_ends : {A : Type 0} (at : List ℕ → Option (A × List ℕ)) (total : Option (List A × List ℕ)) (n : ℕ) (xs : List A) (old : List ℕ) → with_front xs (list_at at n old) ≡ total → n ≡ 0 → total ≡ Some (xs, old)
front_ends at total n xs old inv z = sym (rw (z, list_zero at old) at inv) ∙ ap (λ ys. Some (ys, old)) (append-nil xs)

-- ---- an iterator over the items that are left

pub record Nexts {A X : Type 0} (at : List ℕ → Option (A × List ℕ)) (n : ℕ) (view : X → A) (r : Option X) (old new : List ℕ) : Type 0 where
  pub some : IsSome (list_at at (n - 1) new)
  pub gives : MatchOption r ((read_of (list_at at n old) ≡ []) × (read_of (list_at at (n - 1) new) ≡ [])) (λ x. read_of (list_at at n old) ≡ view x ∷ read_of (list_at at (n - 1) new))

pub list_next : {A X : Type 0} (at : List ℕ → Option (A × List ℕ)) (view : X → A) (n : ℕ) (r : Option X) (old new : List ℕ) → 0 < n → IsSome (list_at at n old) → Takes view r old new (at old) → Nexts at n view r old new
list_next at view zero r old new pos some t = absurd (omega (arith, pos))
list_next at view (suc n) None old new pos some t = absurd (list_stops at n old t.0 some)
list_next at view (suc n) (Some x) old new pos some t =
    let s = list_step at n old (view x, new) t some in
    let z : suc n - 1 ≡ n = omega arith in
    record { some = rw z s.1; gives = rw z s.0 }

pub progress : {A X : Type 0} (view : X → A) (can : List A → Type 0) → ((t : List A) → can t) → (r : Option X) (old new : List A) → YieldsFirstBy view (λ s. s) old r new → MakesProgress can (item_count (λ s. s)) old r new
progress view can all None old new y = record { on = λ _. tt; keeps = tt; rests = λ _. tt }
progress view can all (Some f) old new y =
    let n = ap length y in
    record { on = λ _. (all new, tt, omega arith); keeps = all new; rests = λ _. tt }

-- one more item put into an array
pub array_goes : {A : Type 0} (at : List ℕ → Option (A × List ℕ)) (total : Option (List A × List ℕ)) (n m i : ℕ) (xs : List A) (old new : List ℕ) (x : A) → with_front (take i xs) (list_at at n old) ≡ total → at old ≡ Some (x, new) → n ≡ m + 1 → i < length xs → with_front (take (i + 1) (slice_set xs i x)) (list_at at m new) ≡ total
array_goes at total n m i xs old new x inv e is lt = rw (take_more_set xs i x lt) (front_goes at total n m (take i xs) old new x inv e is)

pub array_ends : {A : Type 0} (at : List ℕ → Option (A × List ℕ)) (total : Option (List A × List ℕ)) (n i : ℕ) (xs : List A) (old : List ℕ) → with_front (take i xs) (list_at at n old) ≡ total → n ≡ 0 → i ≡ length xs → total ≡ Some (xs, old)
array_ends at total n i xs old inv z is = front_ends at total n (take i xs) old inv z ∙ ap (λ ys. Some (ys, old)) (take_all i xs (omega (arith, is)))

pub none_read : {A : Type 0} (at : List ℕ → Option (A × List ℕ)) (n : ℕ) (old : List ℕ) → n ≡ 0 → read_of (list_at at n old) ≡ []
none_read at n old z = rw (z, list_zero at old) refl

pub length_read : {A : Type 0} (at : List ℕ → Option (A × List ℕ)) (n : ℕ) (bytes : List ℕ) → IsSome (list_at at n bytes) → length (read_of (list_at at n bytes)) ≡ n
length_read at zero bytes some = rw (list_zero at bytes) refl
length_read {A = A} at (suc n) bytes some = go (λ rest. length_read at n rest) (at bytes) refl
  where
    go : ((rest : List ℕ) → IsSome (list_at at n rest) → length (read_of (list_at at n rest)) ≡ n) → (r : Option (A × List ℕ)) → at bytes ≡ r → length (read_of (list_at at (suc n) bytes)) ≡ suc n
    go ih None e = absurd (list_stops at n bytes e some)
    go ih (Some p) e = let s = list_step at n bytes p e some in ap length s.0 ∙ ap suc (ih p.1 s.1)
