-- The texts of a tree that is kept as a list of nodes are those of its pages.
use Rattle.std.proofs.Common.{◌≡◌, ℕ, zero, suc, ◌+◌, ◌-◌, ◌*◌, ◌^◌, ◌<◌, ◌≤◌, IsTrue, Bool, true, false, cond, nat_lt, List, [], ◌∷◌, ◌++◌, map, Some, option_map, refl, sym, ap, ap₂, ◌∙◌, arith, lt-ltb}
use Rattle.std.proofs.lemmas.Bool.{le-ltb}
use Rattle.std.proofs.lemmas.List.{map-append}
use Rattle.std.proofs.lemmas.Nat.{pow_pos}
use Rattle.std.proofs.Math.Nat.{pow-succ', mul_assoc, le-mul_of_pos_right}
use Rattle.avm_model.specs.declared.Digest.{Digest}
use Rattle.avm_model.specs.Memory.{is_page_count}
use Rattle.avm_model.specs.Pages.{sha_hashes, root_from, page_of, depth_of}
use Rattle.avm_model.proofs.PageDepth.{power_is}
use Rattle.page_tree.specs.Nodes.{IsTree}
use Rattle.page_tree.proofs.Roots.{doubled, node_is}
use Rattle.rebut_model.specs.Texts.{Texts, texts, differ, first_of_all, tree_texts}
use Rattle.rebut_texts.specs.Places.{place_text, places, first_that}
use Rattle.rebut_texts.proofs.Walking.{next_doubled}

abbrev both : ℕ → List Digest → List ℕ → List Digest → List ℕ → ℕ → Texts
both n x a y b i = texts (place_text n x a i) (place_text n y b i)

leaf_text : (n : ℕ) (nodes : List Digest) (pages : List ℕ) (i f : ℕ) → i ≡ n + f → place_text n nodes pages i ≡ 0 ∷ page_of pages f
leaf_text n nodes pages i f e =
    let off : nat_lt i n ≡ false = le-ltb i n (omega arith) in
    let page : i - n ≡ f = omega arith in
    rw (off, page) refl

inner_text : (n : ℕ) (nodes : List Digest) (pages : List ℕ) (i d f : ℕ) → IsTree sha_hashes pages n nodes → 0 < i → i * 2 ^ suc d ≡ n + f → f + 2 ^ suc d ≤ n
    → place_text n nodes pages i ≡ 1 ∷ ((root_from sha_hashes pages d f).0 ++ (root_from sha_hashes pages d (f + 2 ^ d)).0)
inner_text n nodes pages i d f t pos e low =
    let p : 2 ^ suc d ≡ 2 * 2 ^ d = pow-succ' 2 d in
    let pow : 0 < 2 ^ d = pow_pos d in
    let some : i ≤ i * 2 ^ d = le-mul_of_pos_right i pow in
    let twice : (2 * i) * 2 ^ d ≡ n + f = doubled i d ∙ e in
    let half : (2 * i) * 2 ^ d ≡ 2 * (i * 2 ^ d) = mul_assoc 2 i (2 ^ d) in
    let inner : nat_lt i n ≡ true = lt-ltb i n (omega arith) in
    let right : (2 * i + 1) * 2 ^ d ≡ n + (f + 2 ^ d) = next_doubled i d ∙ omega arith in
    let a = node_is sha_hashes pages n nodes t d (2 * i) f (omega arith) twice (omega arith) in
    let b = node_is sha_hashes pages n nodes t d (2 * i + 1) (f + 2 ^ d) (omega arith) right (omega arith) in
    rw (inner, a, b) refl

mapped : (n : ℕ) (x : List Digest) (a : List ℕ) (y : List Digest) (b : List ℕ) (d i f : ℕ) → IsTree sha_hashes a n x → IsTree sha_hashes b n y → 0 < i → i * 2 ^ d ≡ n + f → f + 2 ^ d ≤ n → tree_texts a b d f ≡ map (both n x a y b) (places d i)
mapped n x a y b zero i f s t pos e low =
    let is : i ≡ n + f = omega (arith, e) in
    rw (leaf_text n x a i f is, leaf_text n y b i f is) refl
mapped n x a y b (suc d) i f s t pos e low =
    let p : 2 ^ suc d ≡ 2 * 2 ^ d = pow-succ' 2 d in
    let left = mapped n x a y b d (2 * i) f s t (omega arith) (doubled i d ∙ e) (omega arith) in
    let right = mapped n x a y b d (2 * i + 1) (f + 2 ^ d) s t (omega arith) (next_doubled i d ∙ omega arith) (omega arith) in
    ap₂ (λ (u : Texts) (ts : List Texts). u ∷ ts) (sym (ap₂ texts (inner_text n x a i d f s pos e low) (inner_text n y b i d f t pos e low))) (ap₂ (λ (u v : List Texts). u ++ v) left right ∙ sym (map-append (both n x a y b) (places d (2 * i)) (places d (2 * i + 1))))

first_map : (g : ℕ → Texts) (is : List ℕ) → first_of_all differ (map g is) ≡ option_map g (first_that (λ i. differ (g i)) is)
first_map g [] = refl
first_map g (i ∷ is) = go (differ (g i)) (first_map g is)
  where
    go : (c : Bool) → first_of_all differ (map g is) ≡ option_map g (first_that (λ i. differ (g i)) is) → cond c (Some (g i)) (first_of_all differ (map g is)) ≡ option_map g (cond c (Some i) (first_that (λ i. differ (g i)) is))
    go true h = refl
    go false h = h

pub trees_first : (n : ℕ) (x : List Digest) (a : List ℕ) (y : List Digest) (b : List ℕ) → IsTrue (is_page_count n) → IsTree sha_hashes a n x → IsTree sha_hashes b n y
    → first_of_all differ (tree_texts a b (depth_of n) 0) ≡ option_map (both n x a y b) (first_that (λ i. differ (both n x a y b i)) (places (depth_of n) 1))
trees_first n x a y b c s t =
    let power : n ≡ 2 ^ depth_of n = power_is n c in
    ap (first_of_all differ) (mapped n x a y b (depth_of n) 1 0 s t (omega arith) (omega (arith, power)) (omega (arith, power))) ∙ first_map (both n x a y b) (places (depth_of n) 1)
