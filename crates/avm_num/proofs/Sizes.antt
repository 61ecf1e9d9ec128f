-- The size of a part stands in its first bytes: so a part is whole, short, or none, whatever follows it.
use Rattle.std.proofs.Common.{◌≡◌, ℕ, ◌+◌, ◌^◌, ◌<◌, ◌≤◌, Bool, true, false, cond, ltb, List, [], ◌∷◌, ◌++◌, length, take, drop, Option, Some, None, refl, sym, ap, subst, ◌∙◌, append-nil, arith, option_map}
use Rattle.std.specs.Int.{w32, from_be_bytes}
use Rattle.std.proofs.lemmas.Bool.{ltb-true, ltb-false, le-ltb}
use Rattle.std.proofs.lemmas.List.{length-append, length-drop, take_at, drop_at, take-append-le, drop-append-le}
use Rattle.avm_num.specs.Bytes.{IsBytes, number_at}
use Rattle.avm_num.specs.Lists.{be}
use Rattle.avm_num.specs.Sizes.{number_there, IsShort}
use Rattle.avm_num.proofs.Numbers.{short_some}
use Rattle.avm_num.proofs.Fields.{Reads, reads_32}
use Rattle.avm_num.proofs.Lengths.{number_rest}

-- ---- a number at a place

number_grows : (d x : List ℕ) (q : ℕ × List ℕ) → number_at w32 d ≡ Some q → number_at w32 (d ++ x) ≡ Some (q.0, q.1 ++ x)
number_grows d x q e =
    let g = short_some (ltb (length d) 4) (from_be_bytes w32 (take 4 d), drop 4 d) q e in
    let long : 4 ≤ length d = ltb-false _ _ g.0 in
    let over : ltb (length (d ++ x)) 4 ≡ false = le-ltb _ _ (omega (arith, length-append d x)) in
    rw (over, take-append-le 4 d x long, drop-append-le 4 d x long) (ap (λ (r : ℕ × List ℕ). Some (r.0, r.1 ++ x)) g.1)

there_some : (k : ℕ) (p : List ℕ) (n : ℕ) → number_there k p ≡ Some n → (q : ℕ × List ℕ) × (number_at w32 (drop k p) ≡ Some q) × (q.0 ≡ n)
unfolding number_there
there_some k p n e = go (number_at w32 (drop k p)) refl e
  where
    go : (r : Option (ℕ × List ℕ)) → number_at w32 (drop k p) ≡ r → option_map (λ (q : ℕ × List ℕ). q.0) r ≡ Some n → (q : ℕ × List ℕ) × (number_at w32 (drop k p) ≡ Some q) × (q.0 ≡ n)
    go None i h = absurd cc
    go (Some q) i h = (q, i, cc)

pub there_long : (k : ℕ) (p : List ℕ) (n : ℕ) → number_there k p ≡ Some n → k + 4 ≤ length p
there_long k p n e =
    let s = there_some k p n e in
    let r = number_rest w32 (drop k p) s.0 s.1 in
    omega (arith, r, length-drop k p)

pub there_none : (k : ℕ) (p : List ℕ) → number_there k p ≡ None → length p < k + 4
unfolding number_there
there_none k p e = go (ltb (length (drop k p)) 4) refl e
  where
    go : (b : Bool) → ltb (length (drop k p)) 4 ≡ b → option_map (λ (q : ℕ × List ℕ). q.0) (cond b None (Some (from_be_bytes w32 (take 4 (drop k p)), drop 4 (drop k p)))) ≡ None → length p < k + 4
    go true i h = let s = ltb-true _ _ i in omega (arith, s, length-drop k p)
    go false i h = absurd cc

pub there_grows : (k : ℕ) (p x : List ℕ) (n : ℕ) → number_there k p ≡ Some n → number_there k (p ++ x) ≡ Some n
unfolding number_there
there_grows k p x n e =
    let s = there_some k p n e in
    let l = there_long k p n e in
    rw (drop-append-le k p x (omega arith), number_grows (drop k p) x s.0 s.1) (ap (λ (m : ℕ). Some m) s.2)

there_spelled : (k n : ℕ) (a rest : List ℕ) → length a ≡ k → n < 2 ^ 32 → number_there k (a ++ (be w32 n ++ rest)) ≡ Some n
unfolding number_there
there_spelled k n a rest len lt = rw (drop_at a (be w32 n ++ rest) k len, reads_32.again n rest lt) refl

-- ---- a size behind the number

pub map_some : (k n : ℕ) (o : Option ℕ) → o ≡ Some n → option_map (λ m. k + m) o ≡ Some (k + n)
map_some k n o e = rw e refl

pub map_back : (k n : ℕ) (o : Option ℕ) → option_map (λ m. k + m) o ≡ Some n → (m : ℕ) × (o ≡ Some m) × (k + m ≡ n)
map_back k n None e = absurd cc
map_back k n (Some m) e = (m, refl, cc)

pub map_grows : (k place : ℕ) (p x : List ℕ) (n : ℕ) → option_map (λ m. k + m) (number_there place p) ≡ Some n → option_map (λ m. k + m) (number_there place (p ++ x)) ≡ Some n
map_grows k place p x n e =
    let b = map_back k n (number_there place p) e in
    map_some k b.0 _ (there_grows place p x b.0 b.1) ∙ ap (λ (m : ℕ). Some m) b.2

-- ---- a part whose first bytes say its size

pub record Sized {A : Type 0} (at : List ℕ → Option (A × List ℕ)) (spell : A → List ℕ) (Fits : A → Type 0) (size : List ℕ → Option ℕ) : Type 0 where
  pub laws : Reads at spell Fits
  pub sized : (x : A) (rest : List ℕ) → Fits x → size (spell x ++ rest) ≡ Some (length (spell x))
  pub grows : (p x : List ℕ) (n : ℕ) → size p ≡ Some n → size (p ++ x) ≡ Some n

same_size : (m n : ℕ) → ◌≡◌ {A = Option ℕ} (Some m) (Some n) → m ≡ n
same_size m n e = cc

pub short_none : {A : Type 0} {at : List ℕ → Option (A × List ℕ)} {spell : A → List ℕ} {Fits : A → Type 0} {size : List ℕ → Option ℕ} → Sized at spell Fits size → (p : List ℕ) → IsBytes p → IsShort (size p) p → at p ≡ None
short_none {A = A} {at = at} {spell = spell} {size = size} s p fits short = go (at p) refl
  where
    go : (r : Option (A × List ℕ)) → at p ≡ r → at p ≡ None
    go None e = e
    go (Some q) e =
        let f = s.laws.front p q fits e in
        let n : size p ≡ Some (length (spell q.0)) = ap size f.0.parts ∙ s.sized q.0 q.1 f.1 in
        let lt : length p < length (spell q.0) = subst (λ (o : Option ℕ). IsShort o p) n short in
        let l : length p ≡ length (spell q.0 ++ q.1) = ap length f.0.parts in
        absurd (omega (arith, lt, l, length-append (spell q.0) q.1))

pub whole_some : {A : Type 0} {at : List ℕ → Option (A × List ℕ)} {spell : A → List ℕ} {Fits : A → Type 0} {size : List ℕ → Option ℕ} → Sized at spell Fits size → (p : List ℕ) (q : A × List ℕ) → IsBytes p → size p ≡ Some (length p) → at p ≡ Some q
    → (p ≡ spell q.0) × Fits q.0
whole_some {A = A} {at = at} {spell = spell} {size = size} s p q fits whole e =
    let f = s.laws.front p q fits e in
    let n : length (spell q.0) ≡ length p = same_size _ _ (sym (s.sized q.0 q.1 f.1) ∙ ap size (sym f.0.parts) ∙ whole) in
    let l : length p ≡ length (spell q.0 ++ q.1) = ap length f.0.parts in
    let none : q.1 ≡ [] = nil q.1 (omega (arith, n, l, length-append (spell q.0) q.1)) in
    (f.0.parts ∙ ap (λ (t : List ℕ). spell q.0 ++ t) none ∙ append-nil (spell q.0), f.1)
  where
    nil : (xs : List ℕ) → length xs ≡ 0 → xs ≡ []
    nil [] h = refl
    nil (x ∷ xs) h = absurd (omega (arith, h))

pub whole_none : {A : Type 0} {at : List ℕ → Option (A × List ℕ)} {spell : A → List ℕ} {Fits : A → Type 0} {size : List ℕ → Option ℕ} → Sized at spell Fits size → (p more : List ℕ) → IsBytes (p ++ more) → size p ≡ Some (length p) → at p ≡ None → at (p ++ more) ≡ None
whole_none {A = A} {at = at} {spell = spell} {size = size} s p more fits whole none = go (at (p ++ more)) refl
  where
    apart : (x : A × List ℕ) → None ≡ Some x → ⊥
    apart x h = cc

    go : (r : Option (A × List ℕ)) → at (p ++ more) ≡ r → at (p ++ more) ≡ None
    go None e = e
    go (Some q) e =
        let f = s.laws.front (p ++ more) q fits e in
        let n : length (spell q.0) ≡ length p = same_size _ _ (sym (s.sized q.0 q.1 f.1) ∙ ap size (sym f.0.parts) ∙ s.grows p more (length p) whole) in
        let is : p ≡ spell q.0 = sym (take_at p more (length p) refl) ∙ ap (take (length p)) f.0.parts ∙ take_at (spell q.0) q.1 (length p) n in
        let again : at (spell q.0 ++ []) ≡ Some (q.0, []) = s.laws.again q.0 [] f.1 in
        let here : at p ≡ Some (q.0, []) = ap at (is ∙ sym (append-nil (spell q.0))) ∙ again in
        absurd (apart (q.0, []) (sym none ∙ here))

pub long_none : {A : Type 0} {at : List ℕ → Option (A × List ℕ)} {spell : A → List ℕ} {Fits : A → Type 0} {size : List ℕ → Option ℕ} → Sized at spell Fits size → (p more : List ℕ) (n m : ℕ) → ((x : A) → Fits x → length (spell x) ≤ m) → IsBytes (p ++ more) → size p ≡ Some n → m < n → at (p ++ more) ≡ None
long_none {A = A} {at = at} {spell = spell} {size = size} s p more n m most fits long lt = go (at (p ++ more)) refl
  where
    go : (r : Option (A × List ℕ)) → at (p ++ more) ≡ r → at (p ++ more) ≡ None
    go None e = e
    go (Some q) e =
        let f = s.laws.front (p ++ more) q fits e in
        let k : length (spell q.0) ≡ n = same_size _ _ (sym (s.sized q.0 q.1 f.1) ∙ ap size (sym f.0.parts) ∙ s.grows p more n long) in
        let le = most q.0 f.1 in
        absurd (omega (arith, k, le, lt))
