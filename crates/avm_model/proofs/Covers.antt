-- What the walk over the marks finds.
use Rattle.std.proofs.Common.{◌≡◌, ℕ, zero, suc, ◌+◌, ◌<◌, ◌≤◌, Bool, true, false, cond, nat_lt, ◌&&◌, List, [], ◌∷◌, slice_get, Option, Some, None, refl, sym, ◌∙◌, ap, subst, arith, ◌⊎◌, inl, inr, ltb-true, ltb-false}
use Rattle.std.proofs.lemmas.Bool.{cases_lt}
use Rattle.avm_model.specs.declared.judged.Marked.{Marked}
use Rattle.avm_model.specs.Marks.{is_same, better, cover_from, cover}
use Rattle.avm_model.specs.Cover.{IsCover, NoneMatches}

-- the best after a mark that matches isn't below it
better_ge : (i : ℕ) (m : Marked) (o : Option (ℕ × ℕ)) → is_same m.mark ≡ true → (a : ℕ × ℕ) × (better i m o ≡ Some a) × (m.seq ≤ a.1)
better_ge i m None s = ((i, m.seq), rw s refl, omega arith)
better_ge i m (Some b) s = go (nat_lt b.1 m.seq) refl
  where
    go : (l : Bool) → nat_lt b.1 m.seq ≡ l → (a : ℕ × ℕ) × (better i m (Some b) ≡ Some a) × (m.seq ≤ a.1)
    go true q = ((i, m.seq), rw s (rw q refl), omega arith)
    go false q = let w = ltb-false b.1 m.seq q in (b, rw s (rw q refl), omega (arith, w))

-- and not below the best before
better_up : (i : ℕ) (m : Marked) (b : ℕ × ℕ) → (a : ℕ × ℕ) × (better i m (Some b) ≡ Some a) × (b.1 ≤ a.1)
better_up i m b = go (is_same m.mark) refl (nat_lt b.1 m.seq) refl
  where
    go : (s : Bool) → is_same m.mark ≡ s → (l : Bool) → nat_lt b.1 m.seq ≡ l → (a : ℕ × ℕ) × (better i m (Some b) ≡ Some a) × (b.1 ≤ a.1)
    go true p true q = let w = ltb-true b.1 m.seq q in ((i, m.seq), rw p (rw q refl), omega (arith, w))
    go true p false q = (b, rw p (rw q refl), omega arith)
    go false p l q = (b, rw p refl, omega arith)

-- where it comes from
better_from : (i : ℕ) (m : Marked) (o : Option (ℕ × ℕ)) (b : ℕ × ℕ) → better i m o ≡ Some b → (o ≡ Some b) ⊎ ((b ≡ (i, m.seq)) × (is_same m.mark ≡ true) × ((a : ℕ × ℕ) → o ≡ Some a → a.1 < m.seq))
better_from i m None b e = go (is_same m.mark) refl e
  where
    go : (s : Bool) → is_same m.mark ≡ s → cond s (Some (i, m.seq)) None ≡ Some b → (None ≡ Some b) ⊎ ((b ≡ (i, m.seq)) × (is_same m.mark ≡ true) × ((a : ℕ × ℕ) → None ≡ Some a → a.1 < m.seq))
    go true p h = inr (cc, p, λ a q. absurd cc)
    go false p h = absurd cc
better_from i m (Some c) b e = go (is_same m.mark) refl (nat_lt c.1 m.seq) refl e
  where
    go : (s : Bool) → is_same m.mark ≡ s → (l : Bool) → nat_lt c.1 m.seq ≡ l → cond (s && l) (Some (i, m.seq)) (Some c) ≡ Some b → (Some c ≡ Some b) ⊎ ((b ≡ (i, m.seq)) × (is_same m.mark ≡ true) × ((a : ℕ × ℕ) → Some c ≡ Some a → a.1 < m.seq))
    go true p true q h = inr (cc, p, λ a w. let x : c ≡ a = cc in subst (λ (y : ℕ × ℕ). y.1 < m.seq) x (ltb-true c.1 m.seq q))
    go true p false q h = inl h
    go false p l q h = inl h

-- none that matches is above the answer, and neither is the best before
pub greatest : (i : ℕ) (o : Option (ℕ × ℕ)) (ms : List Marked) (b : ℕ × ℕ) → cover_from i o ms ≡ Some b → ((k : ℕ) (m : Marked) → slice_get ms k ≡ Some m → is_same m.mark ≡ true → m.seq ≤ b.1) × ((a : ℕ × ℕ) → o ≡ Some a → a.1 ≤ b.1)
greatest i o [] b e = (λ k m h s. absurd cc, λ a h. let x : a ≡ b = cc in subst (λ (y : ℕ × ℕ). a.1 ≤ y.1) x (omega arith))
greatest i o (x ∷ ms) b e =
    let ih = greatest (i + 1) (better i x o) ms b e in
    (at ih, λ a h. let u = better_up i x a in let v : better i x o ≡ Some (u.0) = rw h u.1 in let p = u.2 in let q = ih.1 (u.0) v in omega (arith, p, q))
  where
    at : ((k : ℕ) (m : Marked) → slice_get ms k ≡ Some m → is_same m.mark ≡ true → m.seq ≤ b.1) × ((a : ℕ × ℕ) → better i x o ≡ Some a → a.1 ≤ b.1) → (k : ℕ) (m : Marked) → slice_get (x ∷ ms) k ≡ Some m → is_same m.mark ≡ true → m.seq ≤ b.1
    at ih zero m h s = let w : x ≡ m = cc in let sx : is_same x.mark ≡ true = subst (λ (y : Marked). is_same y.mark ≡ true) (sym w) s in let g = better_ge i x o sx in let p = g.2 in let q = ih.1 (g.0) g.1 in subst (λ (y : Marked). y.seq ≤ b.1) w (omega (arith, p, q))
    at ih (suc k) m h s = ih.0 k m h s

-- the answer is a mark at its place, and those that match before it, and the best before, are below it
pub record IsFirst (i : ℕ) (o : Option (ℕ × ℕ)) (ms : List Marked) (b : ℕ × ℕ) : Type 0 where
  pub place : ℕ
  pub mark : Marked
  pub there : slice_get ms place ≡ Some mark
  pub same : is_same mark.mark ≡ true
  pub is : b ≡ (place + i, mark.seq)
  pub below : (k : ℕ) (m : Marked) → slice_get ms k ≡ Some m → is_same m.mark ≡ true → k < place → m.seq < b.1
  pub past : (a : ℕ × ℕ) → o ≡ Some a → a.1 < b.1

below_on : (i : ℕ) (o : Option (ℕ × ℕ)) (x : Marked) (ms : List Marked) (b : ℕ × ℕ) (f : IsFirst (i + 1) (better i x o) ms b) (k : ℕ) (m : Marked) → slice_get (x ∷ ms) k ≡ Some m → is_same m.mark ≡ true → k < suc f.place → m.seq < b.1
below_on i o x ms b f zero m h s l = let w : x ≡ m = cc in let sx : is_same x.mark ≡ true = subst (λ (y : Marked). is_same y.mark ≡ true) (sym w) s in let g = better_ge i x o sx in let p = g.2 in let q = f.past (g.0) g.1 in subst (λ (y : Marked). y.seq < b.1) w (omega (arith, p, q))
below_on i o x ms b f (suc k) m h s l = let le : k < f.place = omega (arith, l) in f.below k m h s le

pub first : (i : ℕ) (o : Option (ℕ × ℕ)) (ms : List Marked) (b : ℕ × ℕ) → cover_from i o ms ≡ Some b → (o ≡ Some b) ⊎ IsFirst i o ms b
first i o [] b e = inl e
first i o (x ∷ ms) b e = elim (first (i + 1) (better i x o) ms b e) [ inl h ↦ here (better_from i x o b h) | inr f ↦ inr (later f) ]
  where
    here : (o ≡ Some b) ⊎ ((b ≡ (i, x.seq)) × (is_same x.mark ≡ true) × ((a : ℕ × ℕ) → o ≡ Some a → a.1 < x.seq)) → (o ≡ Some b) ⊎ IsFirst i o (x ∷ ms) b
    here (inl h) = inl h
    here (inr r) =
        let n : b.1 ≡ x.seq = ap (λ (y : ℕ × ℕ). y.1) r.0 in
        let zero_on : i ≡ 0 + i = omega arith in
        inr (record { place = 0; mark = x; there = refl; same = r.1; is = r.0 ∙ ap (λ (y : ℕ). (y, x.seq)) zero_on; below = λ k m h s l. absurd (omega (arith, l)); past = λ a h. let l = r.2 a h in omega (arith, l, n) })

    later : IsFirst (i + 1) (better i x o) ms b → IsFirst i o (x ∷ ms) b
    later f =
        let z : f.place + (i + 1) ≡ suc f.place + i = omega arith in
        record { place = suc f.place; mark = f.mark; there = f.there; same = f.same; is = f.is ∙ ap (λ (y : ℕ). (y, f.mark.seq)) z; below = below_on i o x ms b f; past = λ a h. let u = better_up i x a in let v : better i x o ≡ Some (u.0) = rw h u.1 in let p = u.2 in let q = f.past (u.0) v in omega (arith, p, q) }

-- what the cover is
pub cover_is : (ms : List Marked) (j n : ℕ) → cover ms ≡ Some (j, n) → IsCover ms j n
cover_is ms j n e = elim (first 0 None ms (j, n) e) [ inl h ↦ absurd cc | inr f ↦ found f ]
  where
    found : IsFirst 0 None ms (j, n) → IsCover ms j n
    found f =
        let p : j ≡ f.place + 0 = ap (λ (y : ℕ × ℕ). y.0) f.is in
        let q : j ≡ f.place = omega (arith, p) in
        let r : n ≡ f.mark.seq = ap (λ (y : ℕ × ℕ). y.1) f.is in
        record {
          mark = f.mark;
          there = subst (λ (y : ℕ). slice_get ms y ≡ Some f.mark) (sym q) f.there;
          number = sym r;
          same = f.same;
          greatest = (greatest 0 None ms (j, n) e).0;
          first = λ k m h s is. le k m h s is q;
        }
      where
        le : (k : ℕ) (m : Marked) → slice_get ms k ≡ Some m → is_same m.mark ≡ true → m.seq ≡ n → j ≡ f.place → j ≤ k
        le k m h s is q = elim (cases_lt k f.place) [ inl l ↦ (let b = f.below k m h s l in absurd (omega (arith, b, is))) | inr g ↦ omega (arith, g, q) ]

-- a best stays
stays : (i : ℕ) (b : ℕ × ℕ) (ms : List Marked) → cover_from i (Some b) ms ≡ None → ⊥
stays i b [] e = cc
stays i b (x ∷ ms) e = let u = better_up i x b in let w : cover_from (i + 1) (Some (u.0)) ms ≡ None = subst (λ (o : Option (ℕ × ℕ)). cover_from (i + 1) o ms ≡ None) u.1 e in stays (i + 1) (u.0) ms w

none_at : (x : Marked) (ms : List Marked) → is_same x.mark ≡ false → NoneMatches ms → NoneMatches (x ∷ ms)
none_at x ms p h zero m w = let y : x ≡ m = cc in subst (λ (z : Marked). is_same z.mark ≡ false) y p
none_at x ms p h (suc k) m w = h k m w

none_from : (i : ℕ) (ms : List Marked) → cover_from i None ms ≡ None → NoneMatches ms
none_from i [] e = λ k m h. absurd cc
none_from i (x ∷ ms) e = go (is_same x.mark) refl (λ h. none_from (i + 1) ms h) e
  where
    go : (s : Bool) → is_same x.mark ≡ s → (cover_from (i + 1) None ms ≡ None → NoneMatches ms) → cover_from (i + 1) (cond s (Some (i, x.seq)) None) ms ≡ None → NoneMatches (x ∷ ms)
    go true p ih h = absurd (stays (i + 1) (i, x.seq) ms h)
    go false p ih h = none_at x ms p (ih h)

pub cover_none : (ms : List Marked) → cover ms ≡ None → NoneMatches ms
cover_none ms e = none_from 0 ms e
