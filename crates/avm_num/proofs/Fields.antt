-- The two laws of a reading function against its spelling, as one record; fields, and a list of items.
use Rattle.std.proofs.Common.{◌≡◌, eqb-true, eq-eqb, ◌==◌, true, false, IsSome, ℕ, zero, suc, ◌^◌, ◌<◌, List, [], ◌∷◌, ◌++◌, length, Option, Some, None, refl, sym, subst, ◌∙◌, append_assoc, arith}
use Rattle.std.specs.List.{AllByRecursion}
use Rattle.std.specs.Int.{Width, w16, w32, w64}
use Rattle.std.proofs.lemmas.Nat.{be_bytes_2, from_be_bytes-to_be_bytes_2}
use Rattle.avm_num.specs.Bytes.{IsBytes, ◌>>=◌, number_at, piece_at, byte_at}
use Rattle.avm_num.proofs.Numbers.{Front, Front-then, bind_some, kept_some, IsWide, wide32, wide64, number_front, number_again, piece_front, piece_again, byte_front}
use Rattle.avm_num.specs.Lists.{list_at, list_bytes, read_of, left_of, be, exact_at, sized_at, sized_bytes, many_at, many_bytes, one, with_front}

pub record Reads {A : Type 0} (at : List ℕ → Option (A × List ℕ)) (spell : A → List ℕ) (Fits : A → Type 0) : Type 0 where
  pub front : (bytes : List ℕ) (p : A × List ℕ) → IsBytes bytes → at bytes ≡ Some p → Front bytes (spell p.0) p.1 × Fits p.0
  pub again : (x : A) (rest : List ℕ) → Fits x → at (spell x ++ rest) ≡ Some (x, rest)

pub start : (bytes : List ℕ) → IsBytes bytes → Front bytes [] bytes
start bytes fits = record { parts = refl; rest_fits = fits }

-- the next step of a chain that succeeds, behind what was read before it
pub next : {A B : Type 0} {at : List ℕ → Option (A × List ℕ)} {spell : A → List ℕ} {Fits : A → Type 0} → Reads at spell Fits → (bytes done here : List ℕ) → Front bytes done here → (k : A × List ℕ → Option B) (y : B) → (at here >>= k) ≡ Some y
    → (x : A × List ℕ) × Front bytes (done ++ spell x.0) x.1 × Fits x.0 × (k x ≡ Some y)
next {at = at} {spell = spell} r bytes done here before k y e =
    let a = bind_some (at here) k y e in
    let f = r.front here a.0 before.rest_fits a.1 in
    (a.0, Front-then bytes done here (spell a.0.0) a.0.1 before f.0, f.1, a.2)

-- the end of a chain
pub ends : {A : Type 0} (spell : A → List ℕ) (Fits : A → Type 0) (bytes : List ℕ) (x p : A × List ℕ) → Some x ≡ Some p → Front bytes (spell x.0) x.1 → Fits x.0 → Front bytes (spell p.0) p.1 × Fits p.0
ends {A = A} spell Fits bytes x p e front fits = let g : x ≡ p = cc in subst (λ (q : A × List ℕ). Front bytes (spell q.0) q.1 × Fits q.0) g (front, fits)

-- the first step of a chain over what is spelled
pub goes : {A B : Type 0} {at : List ℕ → Option (A × List ℕ)} {spell : A → List ℕ} {Fits : A → Type 0} → Reads at spell Fits → (x : A) (rest : List ℕ) (k : A × List ℕ → Option B) → Fits x → (at (spell x ++ rest) >>= k) ≡ k (x, rest)
goes {at = at} {spell = spell} r x rest k fits = rw (r.again x rest fits) refl

pub wide16 : IsWide w16 (2 ^ 16)
wide16 = record {
  len = λ n. refl;
  back = λ bytes len fits. be_bytes_2 bytes _ len fits refl;
  again = λ n lt. from_be_bytes-to_be_bytes_2 n lt;
  below = λ bytes fits. omega (arith, fits 0, fits 1);
}

reads_number : (w : Width) (limit : ℕ) → IsWide w limit → Reads (number_at w) (be w) (λ n. n < limit)
unfolding be
reads_number w limit wide = record {
  front = λ bytes p fits e. number_front w limit wide bytes p fits e;
  again = λ n rest lt. number_again w limit wide n rest lt;
}

pub reads_16 : Reads (number_at w16) (be w16) (λ n. n < 2 ^ 16)
reads_16 = reads_number w16 (2 ^ 16) wide16

pub reads_32 : Reads (number_at w32) (be w32) (λ n. n < 2 ^ 32)
reads_32 = reads_number w32 (2 ^ 32) wide32

pub reads_64 : Reads (number_at w64) (be w64) (λ n. n < 2 ^ 64)
reads_64 = reads_number w64 (2 ^ 64) wide64

pub reads_byte : Reads byte_at one (λ b. Unit {0})
unfolding one
reads_byte = record {
  front = λ bytes p fits e. (byte_front bytes p fits e, tt);
  again = λ b rest u. refl;
}

pub reads_piece : (n : ℕ) → Reads (piece_at n) (λ piece. piece) (λ piece. length piece ≡ n)
reads_piece n = record {
  front = λ bytes p fits e. let f = piece_front n bytes p fits e in (f.0, f.1);
  again = λ piece rest len. subst (λ (m : ℕ). piece_at m (piece ++ rest) ≡ Some (piece, rest)) len (piece_again piece rest);
}

abbrev pub AreItems : {A : Type 0} → (A → Type 0) → ℕ → List A → Type 0
AreItems Fits n xs = (length xs ≡ n) × AllByRecursion Fits xs

list_front : {A : Type 0} {at : List ℕ → Option (A × List ℕ)} {spell : A → List ℕ} {Fits : A → Type 0} → Reads at spell Fits → (n : ℕ) (bytes : List ℕ) (p : List A × List ℕ) → IsBytes bytes → list_at at n bytes ≡ Some p → Front bytes (list_bytes spell p.0) p.1 × (length p.0 ≡ n) × AllByRecursion Fits p.0
unfolding list_at
list_front {spell = spell} {Fits = Fits} r zero bytes p fits e =
    let g : ([], bytes) ≡ p = cc in
    subst (λ q. Front bytes (list_bytes spell q.0) q.1 × (length q.0 ≡ zero) × AllByRecursion Fits q.0) g (record { parts = refl; rest_fits = fits }, refl, tt)
list_front {at = at} {spell = spell} {Fits = Fits} r (suc n) bytes p fits e =
    let a = next r bytes [] bytes (start bytes fits) _ p e in
    let b = bind_some (list_at at n a.0.1) _ p a.3 in
    let t = list_front r n a.0.1 b.0 a.1.rest_fits b.1 in
    let g : (a.0.0 ∷ b.0.0, b.0.1) ≡ p = cc (b.2) in
    subst (λ q. Front bytes (list_bytes spell q.0) q.1 × (length q.0 ≡ suc n) × AllByRecursion Fits q.0) g
    (Front-then bytes _ a.0.1 _ b.0.1 a.1 t.0, omega (arith, t.1), (a.2, t.2))

list_again : {A : Type 0} {at : List ℕ → Option (A × List ℕ)} {spell : A → List ℕ} {Fits : A → Type 0} → Reads at spell Fits → (n : ℕ) (xs : List A) (rest : List ℕ) → length xs ≡ n → AllByRecursion Fits xs → list_at at n (list_bytes spell xs ++ rest) ≡ Some (xs, rest)
unfolding list_at
list_again r zero [] rest len fits = refl
list_again r zero (x ∷ xs) rest len fits = absurd (omega (arith, len))
list_again r (suc n) [] rest len fits = absurd (omega (arith, len))
list_again {at = at} {spell = spell} r (suc n) (x ∷ xs) rest len fits =
    rw (append_assoc (spell x) (list_bytes spell xs) rest)
    (goes r x (list_bytes spell xs ++ rest) _ fits.0 ∙ rw (list_again r n xs rest (omega (arith, len)) fits.1) refl)

pub reads_list : {A : Type 0} {at : List ℕ → Option (A × List ℕ)} {spell : A → List ℕ} {Fits : A → Type 0} → Reads at spell Fits → (n : ℕ) → Reads (list_at at n) (list_bytes spell) (AreItems Fits n)
reads_list r n = record {
  front = λ bytes p fits e. let f = list_front r n bytes p fits e in (f.0, (f.1, f.2));
  again = λ xs rest fits. list_again r n xs rest fits.0 fits.1;
}

pub reads_exact : {at : List ℕ → Option (ℕ × List ℕ)} {spell : ℕ → List ℕ} {Fits : ℕ → Type 0} → Reads at spell Fits → (n : ℕ) → Fits n → Reads (exact_at at n) (λ u. spell n) (λ u. Unit {0})
reads_exact {spell = spell} r n ok = record {
  front = λ bytes p fits e.
      let a = next r bytes [] bytes (start bytes fits) _ p e in
      let k = kept_some (a.0.0 == n) (tt, a.0.1) p a.3 in
      let front = subst (λ (m : ℕ). Front bytes (spell m) a.0.1) (eqb-true a.0.0 n k.0) a.1 in
      (subst (λ (q : Unit {0} × List ℕ). Front bytes (spell n) q.1) k.1 front, tt);
  again = λ u rest fits. goes r n rest _ ok ∙ rw (eq-eqb n n refl) refl;
}

pub reads_sized : {at : List ℕ → Option (ℕ × List ℕ)} {spell : ℕ → List ℕ} {Fits : ℕ → Type 0} → Reads at spell Fits → Reads (sized_at at) (sized_bytes spell) (λ x. Fits (length x))
reads_sized {spell = spell} {Fits = Fits} r = record {
  front = λ bytes p fits e.
      let a = next r bytes [] bytes (start bytes fits) _ p e in
      let f = (reads_piece a.0.0).front a.0.1 p a.1.rest_fits a.3 in
      let b = Front-then bytes _ a.0.1 _ p.1 a.1 f.0 in
      (subst (λ (m : ℕ). Front bytes (spell m ++ p.0) p.1) (sym f.1) b, subst Fits (sym f.1) a.2);
  again = λ x rest fits. rw (append_assoc (spell (length x)) x rest) (goes r (length x) (x ++ rest) _ fits ∙ (reads_piece (length x)).again x rest refl);
}

abbrev pub AreMany : {A : Type 0} → (ℕ → Type 0) → (A → Type 0) → List A → Type 0
AreMany Count Fits xs = Count (length xs) × AllByRecursion Fits xs

pub reads_many : {A : Type 0} {at : List ℕ → Option (ℕ × List ℕ)} {spell : ℕ → List ℕ} {Count : ℕ → Type 0} {item : List ℕ → Option (A × List ℕ)} {text : A → List ℕ} {Fits : A → Type 0} → Reads at spell Count → Reads item text Fits → Reads (many_at at item) (many_bytes spell text) (AreMany Count Fits)
reads_many {spell = spell} {Count = Count} {text = text} r i = record {
  front = λ bytes p fits e.
      let a = next r bytes [] bytes (start bytes fits) _ p e in
      let f = (reads_list i a.0.0).front a.0.1 p a.1.rest_fits a.3 in
      let b = Front-then bytes _ a.0.1 _ p.1 a.1 f.0 in
      (subst (λ (m : ℕ). Front bytes (spell m ++ list_bytes text p.0) p.1) (sym f.1.0) b, (subst Count (sym f.1.0) a.2, f.1.1));
  again = λ xs rest fits. rw (append_assoc (spell (length xs)) (list_bytes text xs) rest) (goes r (length xs) (list_bytes text xs ++ rest) _ fits.0 ∙ (reads_list i (length xs)).again xs rest (refl, fits.1));
}

-- ---- a loop over the items

pub left_suc : {A : Type 0} (at : List ℕ → Option (A × List ℕ)) (n : ℕ) (bytes : List ℕ) → left_of (list_at at (suc n) bytes) ≡ (at bytes >>= λ x. left_of (list_at at n x.1))
unfolding list_at
left_suc {A = A} at n bytes = go (at bytes)
  where
    tail : (x : A) (r : Option (List A × List ℕ)) → left_of (r >>= λ xs. Some (x ∷ xs.0, xs.1)) ≡ left_of r
    tail x None = refl
    tail x (Some p) = refl

    go : (r : Option (A × List ℕ)) → left_of (r >>= λ x. list_at at n x.1 >>= λ xs. Some (x.0 ∷ xs.0, xs.1)) ≡ (r >>= λ x. left_of (list_at at n x.1))
    go None = refl
    go (Some x) = tail x.0 (list_at at n x.1)

pub taken : {A : Type 0} (r : Option (List A × List ℕ)) (new : List ℕ) → left_of r ≡ Some new → r ≡ Some (read_of r, new)
taken None new e = absurd cc
taken (Some p) new e = let g : p.1 ≡ new = cc in rw (← g) refl

pub none_taken : {A : Type 0} (r : Option (List A × List ℕ)) → left_of r ≡ None → r ≡ None
none_taken None e = refl
none_taken (Some p) e = absurd cc

pub list_step : {A : Type 0} (at : List ℕ → Option (A × List ℕ)) (n : ℕ) (bytes : List ℕ) (p : A × List ℕ) → at bytes ≡ Some p → IsSome (list_at at (suc n) bytes) → (read_of (list_at at (suc n) bytes) ≡ p.0 ∷ read_of (list_at at n p.1)) × IsSome (list_at at n p.1)
unfolding list_at
list_step {A = A} at n bytes p e some =
    let i : list_at at (suc n) bytes ≡ (list_at at n p.1 >>= λ xs. Some (p.0 ∷ xs.0, xs.1)) = rw e refl in
    go (list_at at n p.1) (list_at at (suc n) bytes) i some
  where
    go : (r whole : Option (List A × List ℕ)) → whole ≡ (r >>= λ xs. Some (p.0 ∷ xs.0, xs.1)) → IsSome whole → (read_of whole ≡ p.0 ∷ read_of r) × IsSome r
    go None whole i some = let h : false ≡ true = rw i at some in absurd cc
    go (Some q) whole i some = (rw i refl, refl)

pub list_stops : {A : Type 0} (at : List ℕ → Option (A × List ℕ)) (n : ℕ) (bytes : List ℕ) → at bytes ≡ None → IsSome (list_at at (suc n) bytes) → ⊥
unfolding list_at
list_stops at n bytes e some = let i : list_at at (suc n) bytes ≡ None = rw e refl in let h : false ≡ true = rw i at some in cc

pub list_zero : {A : Type 0} (at : List ℕ → Option (A × List ℕ)) (bytes : List ℕ) → list_at at 0 bytes ≡ Some ([], bytes)
unfolding list_at
list_zero at bytes = refl

-- one more item joins those before it
pub front_step : {A : Type 0} (at : List ℕ → Option (A × List ℕ)) (n : ℕ) (xs : List A) (bytes : List ℕ) (p : A × List ℕ) → at bytes ≡ Some p → with_front xs (list_at at (suc n) bytes) ≡ with_front (xs ++ p.0 ∷ []) (list_at at n p.1)
unfolding list_at
front_step {A = A} at n xs bytes p e =
    let i : list_at at (suc n) bytes ≡ (list_at at n p.1 >>= λ q. Some (p.0 ∷ q.0, q.1)) = rw e refl in
    rw i (go (list_at at n p.1))
  where
    go : (r : Option (List A × List ℕ)) → with_front xs (r >>= λ q. Some (p.0 ∷ q.0, q.1)) ≡ with_front (xs ++ p.0 ∷ []) r
    go None = refl
    go (Some q) = rw (append_assoc xs (p.0 ∷ []) q.0) refl

pub front_stops : {A : Type 0} (at : List ℕ → Option (A × List ℕ)) (n : ℕ) (xs : List A) (bytes : List ℕ) → at bytes ≡ None → with_front xs (list_at at (suc n) bytes) ≡ None
unfolding list_at
front_stops at n xs bytes e = rw e refl
