-- The nodes of a tree, and the way up from a leaf.
use Rattle.std.proofs.Common.{◌≡◌, ℕ, zero, suc, ◌+◌, ◌-◌, ◌*◌, ◌/◌, ◌%◌, ◌^◌, ◌<◌, ◌≤◌, List, ◌++◌, length, take, drop, refl, sym, ap, ap₂, ◌∙◌, append_assoc, arith, inl, inr, le-leb, eq-eqb, ne_eqb}
use Rattle.std.proofs.lemmas.Bool.{cases_lt, cases_eq, lt-leb}
use Rattle.std.proofs.lemmas.List.{take_at, drop_at, drop-drop}
use Rattle.std.proofs.Math.Nat.{pow-suc}
use Rattle.std.proofs.lemmas.Nat.{pow_pos, mul-le}
use Rattle.avm_model.specs.LmsTypes.{height_of}
use Rattle.avm_model.specs.LmsOts.{ots_public}
use Rattle.avm_model.specs.LmsTree.{leaf, inner, node_from, node, beside, path, above, climb}

-- one level down
pub level_down : (count r n : ℕ) → count ≤ r * 2 ^ suc n → (count ≤ (2 * r) * 2 ^ n) × (count ≤ (2 * r + 1) * 2 ^ n)
level_down count r n h =
    let e : r * 2 ^ suc n ≡ (2 * r) * 2 ^ n = rw pow-suc (grind arith) in
    let a : count ≤ (2 * r) * 2 ^ n = omega arith in
    (a, grind arith)

pub node_from-leaf : (id : List ℕ) (count : ℕ) (k : ℕ → List ℕ) (n r : ℕ) → count ≤ r → node_from id count k n r ≡ leaf id r (k (r - count))
node_from-leaf id count k zero r h = refl
node_from-leaf id count k (suc n) r h = rw (le-leb count r h) refl

pub node_from-inner : (id : List ℕ) (count : ℕ) (k : ℕ → List ℕ) (n r : ℕ) → r < count
    → node_from id count k (suc n) r ≡ inner id r (node_from id count k n (2 * r)) (node_from id count k n (2 * r + 1))
node_from-inner id count k n r h = rw (lt-leb count r h) refl

-- more levels than are above the leaves change nothing
pub enough : (id : List ℕ) (count : ℕ) (k : ℕ → List ℕ) (n r : ℕ) → count ≤ r * 2 ^ n → node_from id count k (suc n) r ≡ node_from id count k n r
enough id count k zero r h = node_from-leaf id count k 1 r (omega arith)
enough id count k (suc n) r h =
    elim (cases_lt r count) [
      | inr le ↦ node_from-leaf id count k (suc (suc n)) r le ∙ sym (node_from-leaf id count k (suc n) r le)
      | inl lt ↦
          let down = level_down count r n h in
          node_from-inner id count k (suc n) r lt
          ∙ ap₂ (λ (x y : List ℕ). inner id r x y) (enough id count k n (2 * r) down.0) (enough id count k n (2 * r + 1) down.1)
          ∙ sym (node_from-inner id count k n r lt)
    ]

-- what has the equations of the nodes is the nodes
pub tree_is : (id : List ℕ) (count : ℕ) (k : ℕ → List ℕ) (t : ℕ → List ℕ)
    → ((r : ℕ) → count ≤ r → r < 2 * count → t r ≡ leaf id r (k (r - count)))
    → ((r : ℕ) → 1 ≤ r → r < count → t r ≡ inner id r (t (2 * r)) (t (2 * r + 1)))
    → (n r : ℕ) → 1 ≤ r → r < 2 * count → count ≤ r * 2 ^ n → t r ≡ node_from id count k n r
tree_is id count k t leaves inners zero r one lt h = leaves r (omega arith) lt
tree_is id count k t leaves inners (suc n) r one lt h =
    elim (cases_lt r count) [
      | inr le ↦ leaves r le lt ∙ sym (node_from-leaf id count k (suc n) r le)
      | inl below ↦
          let down = level_down count r n h in
          inners r one below
          ∙ ap₂ (λ (x y : List ℕ). inner id r x y)
          (tree_is id count k t leaves inners n (2 * r) (omega arith) (omega arith) down.0)
          (tree_is id count k t leaves inners n (2 * r + 1) (omega arith) (omega arith) down.1)
          ∙ sym (node_from-inner id count k n r below)
    ]

-- the node above a node and the one beside it
pub above_is : (id : List ℕ) (t : ℕ → List ℕ) (r : ℕ) → t (r / 2) ≡ inner id (r / 2) (t (2 * (r / 2))) (t (2 * (r / 2) + 1)) → above id r (t r) (t (beside r)) ≡ t (r / 2)
above_is id t r e =
    elim (cases_eq (r % 2) 1) [
      | inl odd ↦
          let a : r - 1 ≡ 2 * (r / 2) = omega arith in
          let b : r ≡ 2 * (r / 2) + 1 = omega arith in
          rw (eq-eqb (r % 2) 1 odd) (ap₂ (λ (x y : List ℕ). inner id (r / 2) x y) (ap t a) (ap t b) ∙ sym e)
      | inr even ↦
          let a : r ≡ 2 * (r / 2) = omega arith in
          let b : r + 1 ≡ 2 * (r / 2) + 1 = omega arith in
          rw (ne_eqb (r % 2) 1 even) (ap₂ (λ (x y : List ℕ). inner id (r / 2) x y) (ap t a) (ap t b) ∙ sym e)
    ]

-- the way up from a node by the nodes beside it ends at the root
pub climb_path : (id : List ℕ) (count : ℕ) (t : ℕ → List ℕ)
    → ((r : ℕ) → 1 ≤ r → r < count → t r ≡ inner id r (t (2 * r)) (t (2 * r + 1)))
    → ((r : ℕ) → length (t r) ≡ 32)
    → (n r : ℕ) → 2 ^ n ≤ r → r < 2 * 2 ^ n → r < 2 * count → climb id n r (t r) (path t n r) ≡ t 1
climb_path id count t inners long zero r le lt below = ap t (omega arith)
climb_path id count t inners long (suc n) r le lt below =
    let p : 2 ^ suc n ≡ 2 * 2 ^ n = rw pow-suc (omega arith) in
    let one : 1 ≤ 2 ^ n = omega (arith, pow_pos n) in
    let step : above id r (t r) (t (beside r)) ≡ t (r / 2) = above_is id t r (inners (r / 2) (omega arith) (omega arith)) in
    rw (take_at (t (beside r)) (path t n (r / 2)) 32 (long (beside r)), drop_at (t (beside r)) (path t n (r / 2)) 32 (long (beside r)), step)
    (climb_path id count t inners long n (r / 2) (omega arith) (omega arith) (omega arith))

-- one step of a loop that goes up
pub climb_more : (id : List ℕ) (h i r : ℕ) (x y b root : List ℕ) → i < h → climb id (h - i) r x (drop (32 * i) b) ≡ root
    → y ≡ above id r x (take 32 (drop (32 * i) b)) → climb id (h - (i + 1)) (r / 2) y (drop (32 * (i + 1)) b) ≡ root
climb_more id h i r x y b root lt e f =
    let n : h - i ≡ suc (h - (i + 1)) = omega arith in
    let d : drop (32 * (i + 1)) b ≡ drop 32 (drop (32 * i) b) = ap (λ (k : ℕ). drop k b) (omega arith) ∙ sym (drop-drop 32 (32 * i) b) in
    rw (d, f) (rw n at e)

pub high_enough : (r h : ℕ) → 1 ≤ r → 2 ^ h ≤ r * 2 ^ h
high_enough r h one = omega (arith, mul-le 1 (2 ^ h) r (2 ^ h) one (omega arith))

-- RFC 8554's equations of T[r]
pub node-leaf : (lms ots : ℕ) (id seed : List ℕ) (q : ℕ) → node lms ots id seed (2 ^ height_of lms + q) ≡ leaf id (2 ^ height_of lms + q) (ots_public ots id q seed)
unfolding node
node-leaf lms ots id seed q =
    let e : 2 ^ height_of lms + q - 2 ^ height_of lms ≡ q = omega arith in
    node_from-leaf id (2 ^ height_of lms) (λ q. ots_public ots id q seed) (height_of lms) (2 ^ height_of lms + q) (omega arith)
    ∙ ap (λ (n : ℕ). leaf id (2 ^ height_of lms + q) (ots_public ots id n seed)) e

pub node-inner : (lms ots : ℕ) (id seed : List ℕ) (r : ℕ) → 1 ≤ r → r < 2 ^ height_of lms
    → node lms ots id seed r ≡ inner id r (node lms ots id seed (2 * r)) (node lms ots id seed (2 * r + 1))
unfolding node
node-inner lms ots id seed r one lt =
    sym (enough id (2 ^ height_of lms) (λ q. ots_public ots id q seed) (height_of lms) r (high_enough r (height_of lms) one))
    ∙ node_from-inner id (2 ^ height_of lms) (λ q. ots_public ots id q seed) (height_of lms) r lt

-- what has these equations is T
pub nodes_are : (lms ots : ℕ) (id seed : List ℕ) (t : ℕ → List ℕ)
    → ((r : ℕ) → 2 ^ height_of lms ≤ r → r < 2 * 2 ^ height_of lms → t r ≡ leaf id r (ots_public ots id (r - 2 ^ height_of lms) seed))
    → ((r : ℕ) → 1 ≤ r → r < 2 ^ height_of lms → t r ≡ inner id r (t (2 * r)) (t (2 * r + 1)))
    → (r : ℕ) → 1 ≤ r → r < 2 * 2 ^ height_of lms → t r ≡ node lms ots id seed r
unfolding node
nodes_are lms ots id seed t leaves inners r one lt =
    tree_is id (2 ^ height_of lms) (λ q. ots_public ots id q seed) t leaves inners (height_of lms) r one lt (high_enough r (height_of lms) one)

-- one step of a loop that writes the way up
pub path_more : (a x : List ℕ) (t : ℕ → List ℕ) (h i r : ℕ) → i < h → x ≡ t (beside r)
    → (a ++ x) ++ path t (h - (i + 1)) (r / 2) ≡ a ++ path t (h - i) r
path_more a x t h i r lt e =
    let n : h - i ≡ suc (h - (i + 1)) = omega arith in
    rw (n, e) (append_assoc a (t (beside r)) (path t (h - (i + 1)) (r / 2)))

pub beside-within : (count r : ℕ) → 2 ≤ r → r < 2 * count → (1 ≤ beside r) × (beside r < 2 * count)
beside-within count r two lt =
    elim (cases_eq (r % 2) 1) [
      | inl odd ↦ rw (eq-eqb (r % 2) 1 odd) (omega arith, omega arith)
      | inr even ↦ rw (ne_eqb (r % 2) 1 even) (omega arith, omega arith)
    ]

-- the way up reads only nodes of the tree
pub path_same : (t u : ℕ → List ℕ) (count : ℕ) → ((r : ℕ) → 1 ≤ r → r < 2 * count → t r ≡ u r)
    → (n r : ℕ) → 2 ^ n ≤ r → r < 2 * count → path t n r ≡ path u n r
path_same t u count h zero r le lt = refl
path_same t u count h (suc n) r le lt =
    let p : 2 ^ suc n ≡ 2 * 2 ^ n = rw pow-suc (omega arith) in
    let one : 1 ≤ 2 ^ n = omega (arith, pow_pos n) in
    let in_tree = beside-within count r (omega arith) lt in
    ap₂ (λ (x y : List ℕ). x ++ y) (h (beside r) in_tree.0 in_tree.1) (path_same t u count h n (r / 2) (omega arith) (omega arith))
