-- Steps of chains, put together.
use Rattle.std.proofs.Common.{◌≡◌, ℕ, ◌+◌, ◌-◌, ◌≤◌, ◌<◌, List, ◌∷◌, [], ◌++◌, length, take, drop, slice_index, slice_set, zero, suc, sym, ap, ap₂, ◌∙◌, arith, append_assoc, inl, inr, refl}
use Rattle.std.proofs.lemmas.List.{take_at, drop_at, length-take, length-append, get_or-set_same, get_or-set_other}
use Rattle.std.proofs.lemmas.Bool.{cases_eq}
use Rattle.avm_model.specs.Hash.{hash_of}
use Rattle.avm_model.specs.LmsOts.{chain, joined, compressed}
use Rattle.avm_model.proofs.LmsChains.{chain_then}
use Rattle.avm_model.specs.LmsTypes.{chains_of}
use Rattle.lms_ots.specs.Chains.{text_at, IsAt, HasGone, HaveGone}

-- a text in which j stands, and then the hash of all of it as the value
pub step_is : (j b : ℕ) (old mid x new : List ℕ) → b ≡ j + 1 → length old ≡ 55 → mid ≡ take 22 old ++ (j ∷ drop 23 old) → x ≡ hash_of mid → new ≡ take 23 mid ++ x → HasGone old j b new
step_is j b old mid x new next len e f g =
    let front : length (take 22 old) ≡ 22 = omega (arith, length-take 22 old) in
    let both : length (take 22 old ++ (j ∷ [])) ≡ 23 = omega (arith, front, length-append (take 22 old) (j ∷ [])) in
    let mid_is : mid ≡ (take 22 old ++ (j ∷ [])) ++ drop 23 old = e ∙ sym (append_assoc (take 22 old) (j ∷ []) (drop 23 old)) in
    let whole : new ≡ (take 22 old ++ (j ∷ [])) ++ x = g ∙ ap (λ (l : List ℕ). l ++ x) (rw mid_is (take_at (take 22 old ++ (j ∷ [])) (drop 23 old) 23 both)) in
    let one : b - j ≡ 1 = omega arith in
    let same : j + 0 ≡ j = omega arith in
    record {
      order = omega arith;
      front = rw (whole, append_assoc) (take_at (take 22 old) (j ∷ x) 22 front);
      value = rw (one, same, whole) (drop_at (take 22 old ++ (j ∷ [])) x 23 both ∙ f ∙ ap hash_of e);
    }

pub stays : (text : List ℕ) (a : ℕ) → HasGone text a a text
stays text a =
    let none : a - a ≡ 0 = omega arith in
    record { order = omega arith; front = refl; value = rw none refl }

pub goes_on : (old mid new : List ℕ) (a b c : ℕ) → HasGone old a b mid → HasGone mid b c new → HasGone old a c new
goes_on old mid new a b c first second =
    let head = take 22 old in
    let here : a + (b - a) ≡ b = omega (arith, first.order) in
    let all : b - a + (c - b) ≡ c - a = omega (arith, first.order, second.order) in
    let last = rw (← here) at (rw (first.front, first.value) at second.value) in
    record {
      order = omega (arith, first.order, second.order);
      front = second.front ∙ first.front;
      value = second.value ∙ rw (first.front, first.value) (ap (λ (k : ℕ). chain head k (c - b) (chain head a (b - a) (drop 23 old))) (sym here) ∙ chain_then head a (b - a) (c - b) (drop 23 old) ∙ ap (λ (k : ℕ). chain head a k (drop 23 old)) all);
    }

-- no text has gone yet
pub all_stay : (texts : List (List ℕ)) (at to : List ℕ) → ((i : ℕ) → i < 265 → slice_index at i ≤ slice_index to i) → HaveGone texts at to texts at
all_stay texts at to within = record { each = λ i lt. stays (text_at texts i) (slice_index at i); within = within }

-- one text more has gone
pub put_gone : (old : List (List ℕ)) (from to : List ℕ) (new : List (List ℕ)) (at : List ℕ) (i b : ℕ) (x : List ℕ) → i < length new → i < length at → b ≤ slice_index to i
    → HasGone (text_at old i) (slice_index from i) b x → HaveGone old from to new at → HaveGone old from to (slice_set new i x) (slice_set at i b)
put_gone old from to new at i b x in_texts in_at last moved held = record {
  each = λ k lt. elim (cases_eq i k) [
    | inl same ↦ rw (← same, get_or-set_same new i x [] in_texts, get_or-set_same at i b 0 in_at) moved
    | inr other ↦ rw (get_or-set_other new i k x [] (λ (e : k ≡ i). other (sym e)), get_or-set_other at i k b 0 (λ (e : k ≡ i). other (sym e))) (held.each k lt)
  ];
  within = λ k lt. elim (cases_eq i k) [
    | inl same ↦ rw (← same, get_or-set_same at i b 0 in_at) last
    | inr other ↦ rw (get_or-set_other at i k b 0 (λ (e : k ≡ i). other (sym e))) (held.within k lt)
  ];
}

pub all_go_on : (old mid new : List (List ℕ)) (from to first second : List ℕ) → HaveGone old from to mid first → HaveGone mid first to new second → HaveGone old from to new second
all_go_on old mid new from to first second a b = record {
  each = λ i lt. goes_on (text_at old i) (text_at mid i) (text_at new i) (slice_index from i) (slice_index first i) (slice_index second i) (a.each i lt) (b.each i lt);
  within = b.within;
}

-- the value of a text that has gone
pub value_is : (head x old new : List ℕ) (a b from n : ℕ) → IsAt head x old → HasGone old a b new → a ≡ from → b - a ≡ n → drop 23 new ≡ chain head from n x
value_is head x old new a b from n start gone begins long = rw (start.front, start.value, long, begins) at gone.value

-- the same pieces
pub joined_same : (f g : ℕ → List ℕ) (n : ℕ) → ((i : ℕ) → i < n → f i ≡ g i) → joined f n ≡ joined g n
joined_same f g zero same = refl
joined_same f g (suc n) same = ap₂ (λ (x y : List ℕ). x ++ y) (joined_same f g n (λ i lt. same i (omega arith))) (same n (omega arith))

pub compressed_same : (ots : ℕ) (base : List ℕ) (f g : ℕ → List ℕ) → ((i : ℕ) → i < chains_of ots → f i ≡ g i) → compressed ots base f ≡ compressed ots base g
compressed_same ots base f g same = ap (λ (ys : List ℕ). hash_of (base ++ (128 ∷ 128 ∷ ys))) (joined_same f g (chains_of ots) same)
