-- Lists of pieces, and chains, one step on.
use Rattle.std.proofs.Common.{◌≡◌, ℕ, zero, suc, ◌+◌, ◌<◌, List, ◌++◌, refl, sym, ap, ap₂, ◌∙◌, append_assoc, add-one, arith}
use Rattle.std.proofs.lemmas.List.{append-nil}
use Rattle.avm_model.specs.LmsOts.{joined}

-- one more piece behind others
pub joined_more : (a x : List ℕ) (f : ℕ → List ℕ) (i : ℕ) → x ≡ f i → (a ++ joined f i) ++ x ≡ a ++ joined f (i + 1)
joined_more a x f i e = rw (add-one, append_assoc, e) refl

-- pieces in two groups
pub joined_group : (f g : ℕ → List ℕ) (n m : ℕ) → ((k : ℕ) → k < m → g k ≡ f (n + k)) → joined f n ++ joined g m ≡ joined f (n + m)
joined_group f g n zero h = append-nil (joined f n) ∙ (let e : n ≡ n + 0 = omega arith in ap (λ (k : ℕ). joined f k) e)
joined_group f g n (suc m) h =
    sym (append_assoc (joined f n) (joined g m) (g m))
    ∙ ap₂ (λ (x y : List ℕ). x ++ y) (joined_group f g n m (λ k lt. h k (omega arith))) (h m (omega arith))
    ∙ (let e : suc (n + m) ≡ n + suc m = omega arith in ap (λ (k : ℕ). joined f k) e)
