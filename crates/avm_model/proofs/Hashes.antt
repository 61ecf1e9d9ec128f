-- Hashes at numbers, and at places of the chain.
use Rattle.std.proofs.Common.{◌≡◌, ℕ, suc, ◌+◌, ◌-◌, ◌<◌, ◌≤◌, Bool, true, false, nat_eq, List, [], ◌∷◌, length, slice_get, Some, None, refl, sym, ◌∙◌, arith, inl, inr, eqb-true}
use Rattle.std.proofs.lemmas.Bool.{cases_lt, eq-eqb}
use Rattle.avm_num.proofs.Numbers.{and_true}
use Rattle.avm_model.specs.Chain.{chain_of, top_of, next_hash}
use Rattle.avm_model.specs.Entries.{numbered}
use Rattle.avm_model.specs.Frame.{FrameData}
use Rattle.avm_model.specs.Marks.{hash_in}

-- the numbers of two that differ
apart : (a b : ℕ) → a < b → nat_eq a b ≡ false
apart a b l = go (nat_eq a b) refl
  where
    go : (t : Bool) → nat_eq a b ≡ t → nat_eq a b ≡ false
    go true e = let w = eqb-true a b e in absurd (omega (arith, w, l))
    go false e = e

above : (a b : ℕ) → b < a → nat_eq a b ≡ false
above a b l = go (nat_eq a b) refl
  where
    go : (t : Bool) → nat_eq a b ≡ t → nat_eq a b ≡ false
    go true e = let w = eqb-true a b e in absurd (omega (arith, w, l))
    go false e = e

same : (a b : ℕ) → a ≡ b → nat_eq a b ≡ true
same a b e = eq-eqb a b e

pub at_place : (start n : ℕ) (h : List ℕ) (fs : List FrameData) → numbered start fs ≡ true → start ≤ n → hash_in n h fs ≡ slice_get (chain_of h fs) (n - start)
at_place start n h [] p le = refl
at_place start n h (f ∷ fs) p le =
    let u = and_true (nat_eq f.seq start) (numbered (start + 1) fs) p in
    let s = eqb-true f.seq start u.0 in
    elim (cases_lt start n) [
      | inl l ↦ (let d = apart f.seq n (omega (arith, s, l)) in let z : n - start ≡ suc (n - (start + 1)) = omega (arith, l) in let g : start + 1 ≤ n = omega (arith, l) in rw d (rw z (at_place (start + 1) n (next_hash h f) fs u.1 g)))
      | inr g ↦ (let e : n ≡ start = omega (arith, g, le) in let q = same f.seq n (s ∙ sym e) in let z : n - start ≡ 0 = omega (arith, e) in rw q (rw z refl))
    ]

pub none_before : (start n : ℕ) (h : List ℕ) (fs : List FrameData) → numbered start fs ≡ true → n < start → hash_in n h fs ≡ None
none_before start n h [] p l = refl
none_before start n h (f ∷ fs) p l =
    let u = and_true (nat_eq f.seq start) (numbered (start + 1) fs) p in
    let s = eqb-true f.seq start u.0 in
    let d = above f.seq n (omega (arith, s, l)) in
    let g : n < start + 1 = omega (arith, l) in
    rw d (none_before (start + 1) n (next_hash h f) fs u.1 g)

pub last_is : (h : List ℕ) (f : FrameData) (fs : List FrameData) → slice_get (chain_of h (f ∷ fs)) (length fs) ≡ Some (top_of h (f ∷ fs))
last_is h f [] = refl
last_is h f (g ∷ fs) = last_is (next_hash h f) g fs
