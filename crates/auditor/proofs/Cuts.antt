-- Entries that are cut after a number.
use Rattle.std.proofs.Common.{◌≡◌, ℕ, ◌+◌, ◌<◌, ◌≤◌, Bool, true, false, not, cond, nat_eq, nat_le, ◌&&◌, List, [], ◌∷◌, ◌++◌, length, Some, None, refl, ap, subst, ◌∙◌, arith, eqb-true, ne_eqb, leb-true, le-leb, All}
use Rattle.std.specs.List.{AllByRecursion}
use Rattle.std.proofs.lemmas.List.{length-append}
use Rattle.std.proofs.lemmas.List.Elements.{All-from_recursion, recursion_from_All}
use Rattle.avm_num.proofs.Numbers.{and_true}
use Rattle.avm_num.specs.Lists.{list_bytes}
use Rattle.avm_model.specs.Frame.{FrameData, FitsFrame, frame_bytes}
use Rattle.avm_model.specs.Chain.{next_hash, top_of}
use Rattle.avm_model.specs.Basics.{flag}
use Rattle.avm_model.specs.Entries.{numbered, no_boot, snaps, begins, follow, opens}
use Rattle.avm_model.specs.Machine.{State}
use Rattle.avm_model.specs.Marks.{hash_in}
use Rattle.avm_model.specs.Audit.{last_number, behind_first, is_committed}
use Rattle.avm_model.specs.Holds.{upto}

some_is : {A : Type 0} (x y : A) → Some x ≡ Some y → x ≡ y
some_is x y e = cc

-- the chain's last hash is that of the number
pub top_upto : (m : ℕ) (h g : List ℕ) (fs : List FrameData) → hash_in m h fs ≡ Some g → top_of h (upto m fs) ≡ g
top_upto m h g [] e = absurd cc
top_upto m h g (f ∷ fs) e = go (nat_eq f.seq m) (λ i. top_upto m (next_hash h f) g fs i) e
  where
    go : (b : Bool) → (hash_in m (next_hash h f) fs ≡ Some g → top_of (next_hash h f) (upto m fs) ≡ g) → cond b (Some (next_hash h f)) (hash_in m (next_hash h f) fs) ≡ Some g → top_of h (cond b (f ∷ []) (f ∷ upto m fs)) ≡ g
    go true ih i = some_is _ _ i
    go false ih i = ih i

pub last_upto : (m n : ℕ) (h g : List ℕ) (fs : List FrameData) → hash_in m h fs ≡ Some g → last_number n (upto m fs) ≡ m
last_upto m n h g [] e = absurd cc
last_upto m n h g (f ∷ fs) e = go (nat_eq f.seq m) refl (λ i. last_upto m f.seq (next_hash h f) g fs i) e
  where
    go : (b : Bool) → nat_eq f.seq m ≡ b → (hash_in m (next_hash h f) fs ≡ Some g → last_number f.seq (upto m fs) ≡ m) → cond b (Some (next_hash h f)) (hash_in m (next_hash h f) fs) ≡ Some g → last_number n (cond b (f ∷ []) (f ∷ upto m fs)) ≡ m
    go true p ih i = eqb-true f.seq m p
    go false p ih i = ih i

pub numbered_upto : (m k : ℕ) (fs : List FrameData) → numbered k fs ≡ true → numbered k (upto m fs) ≡ true
numbered_upto m k [] e = refl
numbered_upto m k (f ∷ fs) e =
    let p = and_true (nat_eq f.seq k) (numbered (k + 1) fs) e in
    go (nat_eq f.seq m) p.0 (numbered_upto m (k + 1) fs p.1)
  where
    go : (b : Bool) → nat_eq f.seq k ≡ true → numbered (k + 1) (upto m fs) ≡ true → numbered k (cond b (f ∷ []) (f ∷ upto m fs)) ≡ true
    go true p q = rw p refl
    go false p q = rw (p, q) refl

-- numbers before the first have no hash
pub none_before : (q k : ℕ) (h : List ℕ) (fs : List FrameData) → q < k → numbered k fs ≡ true → hash_in q h fs ≡ None
none_before q k h [] lt e = refl
none_before q k h (f ∷ fs) lt e =
    let p = and_true (nat_eq f.seq k) (numbered (k + 1) fs) e in
    let is : f.seq ≡ k = eqb-true _ _ p.0 in
    rw (ne_eqb f.seq q (λ (s : f.seq ≡ q). omega arith), none_before q (k + 1) (next_hash h f) fs (omega arith) p.1) refl

-- what has a hash is from the first number on
pub from_first : (q k : ℕ) (h g : List ℕ) (fs : List FrameData) → numbered k fs ≡ true → hash_in q h fs ≡ Some g → k ≤ q
from_first q k h g [] e i = absurd cc
from_first q k h g (f ∷ fs) e i =
    let p = and_true (nat_eq f.seq k) (numbered (k + 1) fs) e in
    go (nat_eq f.seq q) refl (eqb-true _ _ p.0) (λ j. from_first q (k + 1) (next_hash h f) g fs p.1 j) i
  where
    go : (b : Bool) → nat_eq f.seq q ≡ b → f.seq ≡ k → (hash_in q (next_hash h f) fs ≡ Some g → k + 1 ≤ q) → cond b (Some (next_hash h f)) (hash_in q (next_hash h f) fs) ≡ Some g → k ≤ q
    go true s is ih j = let t : f.seq ≡ q = eqb-true _ _ s in omega arith
    go false s is ih j = let t = ih j in omega arith

-- up to the number the hashes stay
pub hash_upto : (q m k : ℕ) (h : List ℕ) (fs : List FrameData) → q ≤ m → numbered k fs ≡ true → hash_in q h (upto m fs) ≡ hash_in q h fs
hash_upto q m k h [] le e = refl
hash_upto q m k h (f ∷ fs) le e =
    let p = and_true (nat_eq f.seq k) (numbered (k + 1) fs) e in
    let is : f.seq ≡ k = eqb-true _ _ p.0 in
    go (nat_eq f.seq m) refl is (λ (lt : q < k + 1). none_before q (k + 1) (next_hash h f) fs lt p.1) (hash_upto q m (k + 1) (next_hash h f) fs le p.1)
  where
    go : (b : Bool) → nat_eq f.seq m ≡ b → f.seq ≡ k → (q < k + 1 → hash_in q (next_hash h f) fs ≡ None) → hash_in q (next_hash h f) (upto m fs) ≡ hash_in q (next_hash h f) fs
        → hash_in q h (cond b (f ∷ []) (f ∷ upto m fs)) ≡ cond (nat_eq f.seq q) (Some (next_hash h f)) (hash_in q (next_hash h f) fs)
    go true s is none ih = let t : f.seq ≡ m = eqb-true _ _ s in rw (none (omega arith)) refl
    go false s is none ih = rw ih refl

fits_upto : (m : ℕ) (fs : List FrameData) → AllByRecursion FitsFrame fs → AllByRecursion FitsFrame (upto m fs)
fits_upto m [] h = tt
fits_upto m (f ∷ fs) h = go (nat_eq f.seq m) h.0 (fits_upto m fs h.1)
  where
    go : (b : Bool) → FitsFrame f → AllByRecursion FitsFrame (upto m fs) → AllByRecursion FitsFrame (cond b (f ∷ []) (f ∷ upto m fs))
    go true p q = (p, tt)
    go false p q = (p, q)

pub all_upto : (m : ℕ) (fs : List FrameData) → All FitsFrame fs → All FitsFrame (upto m fs)
all_upto m fs h = All-from_recursion FitsFrame _ (fits_upto m fs (recursion_from_All FitsFrame fs h))

count_upto : (m : ℕ) (fs : List FrameData) → snaps (upto m fs) ≤ snaps fs
count_upto m [] = omega arith
count_upto m (f ∷ fs) = go (nat_eq f.seq m) (count_upto m fs)
  where
    go : (b : Bool) → snaps (upto m fs) ≤ snaps fs → snaps (cond b (f ∷ []) (f ∷ upto m fs)) ≤ flag (nat_eq f.kind 2) + snaps fs
    go true h = omega arith
    go false h = omega arith

pub spelled_upto : (m : ℕ) (fs : List FrameData) → length (list_bytes frame_bytes (upto m fs)) ≤ length (list_bytes frame_bytes fs)
spelled_upto m [] = omega arith
spelled_upto m (f ∷ fs) = go (nat_eq f.seq m) (spelled_upto m fs)
  where
    go : (b : Bool) → length (list_bytes frame_bytes (upto m fs)) ≤ length (list_bytes frame_bytes fs) → length (list_bytes frame_bytes (cond b (f ∷ []) (f ∷ upto m fs))) ≤ length (frame_bytes f ++ list_bytes frame_bytes fs)
    go true h = omega (arith, length-append (frame_bytes f) [], length-append (frame_bytes f) (list_bytes frame_bytes fs))
    go false h = omega (arith, length-append (frame_bytes f) (list_bytes frame_bytes (upto m fs)), length-append (frame_bytes f) (list_bytes frame_bytes fs))

some_upto : (m : ℕ) (fs : List FrameData) → 1 ≤ length fs → 1 ≤ length (upto m fs)
some_upto m [] h = h
some_upto m (f ∷ fs) h = go (nat_eq f.seq m)
  where
    go : (b : Bool) → 1 ≤ length (cond b (f ∷ []) (f ∷ upto m fs))
    go true = omega arith
    go false = omega arith

-- ---- a fault up to the number stays

pub seq_at : (k : ℕ) (before : List FrameData) (f : FrameData) (behind : List FrameData) → numbered k (before ++ f ∷ behind) ≡ true → f.seq ≡ k + length before
seq_at k [] f behind e = let p = and_true (nat_eq f.seq k) (numbered (k + 1) behind) e in let is : f.seq ≡ k = eqb-true _ _ p.0 in omega arith
seq_at k (b ∷ before) f behind e = let p = and_true (nat_eq b.seq k) (numbered (k + 1) (before ++ f ∷ behind)) e in let i = seq_at (k + 1) before f behind p.1 in omega arith

pub upto_split : (m k : ℕ) (before : List FrameData) (f : FrameData) (behind : List FrameData) → numbered k (before ++ f ∷ behind) ≡ true → f.seq ≤ m → (more : List FrameData) × (upto m (before ++ f ∷ behind) ≡ (before ++ f ∷ []) ++ more)
upto_split m k [] f behind e le = go (nat_eq f.seq m)
  where
    go : (b : Bool) → (more : List FrameData) × (cond b (f ∷ []) (f ∷ upto m behind) ≡ f ∷ more)
    go true = ([], refl)
    go false = (upto m behind, refl)
upto_split m k (b ∷ before) f behind e le =
    let p = and_true (nat_eq b.seq k) (numbered (k + 1) (before ++ f ∷ behind)) e in
    let is : b.seq ≡ k = eqb-true _ _ p.0 in
    let at = seq_at (k + 1) before f behind p.1 in
    let i = upto_split m (k + 1) before f behind p.1 le in
    (i.0, rw (ne_eqb b.seq m (λ (s : b.seq ≡ m). omega arith)) (ap (λ (l : List FrameData). b ∷ l) i.1))

-- ---- a cut segment is one

no_boot_upto : (m : ℕ) (fs : List FrameData) → no_boot fs ≡ true → no_boot (upto m fs) ≡ true
no_boot_upto m [] e = refl
no_boot_upto m (f ∷ fs) e =
    let p = and_true (not (nat_eq f.kind 1)) (no_boot fs) e in
    go (nat_eq f.seq m) p.0 (no_boot_upto m fs p.1)
  where
    go : (b : Bool) → not (nat_eq f.kind 1) ≡ true → no_boot (upto m fs) ≡ true → no_boot (cond b (f ∷ []) (f ∷ upto m fs)) ≡ true
    go true p q = rw p refl
    go false p q = rw (p, q) refl

follow_upto : (m n k : ℕ) (fs : List FrameData) → follow n k fs ≡ true → follow n k (upto m fs) ≡ true
follow_upto m n k fs e =
    let p = and_true (numbered n fs && no_boot fs) (nat_le (k + snaps fs) 64) e in
    let q = and_true (numbered n fs) (no_boot fs) p.0 in
    let less = count_upto m fs in
    let few : nat_le (k + snaps (upto m fs)) 64 ≡ true = (let l = leb-true _ _ p.1 in le-leb _ _ (omega arith)) in
    rw (numbered_upto m n fs q.0, no_boot_upto m fs q.1, few) refl

few_first : (n : ℕ) (b : Bool) → follow n (flag b) [] ≡ true
few_first n true = refl
few_first n false = refl

pub opens_upto : (m start : ℕ) (before : List ℕ) (fs : List FrameData) → opens start before fs ≡ true → opens start before (upto m fs) ≡ true
opens_upto m start before [] e = e
opens_upto m start before (f ∷ fs) e =
    let p = and_true (nat_eq f.seq start && begins start before f.kind) (follow (start + 1) (flag (nat_eq f.kind 2)) fs) e in
    go (nat_eq f.seq m) p.0 (follow_upto m (start + 1) (flag (nat_eq f.kind 2)) fs p.1)
  where
    go : (b : Bool) → (nat_eq f.seq start && begins start before f.kind) ≡ true → follow (start + 1) (flag (nat_eq f.kind 2)) (upto m fs) ≡ true → opens start before (cond b (f ∷ []) (f ∷ upto m fs)) ≡ true
    go true p q = rw (p, few_first (start + 1) (nat_eq f.kind 2)) refl
    go false p q = rw (p, q) refl

pub committed_upto : (s : State) (m : ℕ) (fs : List FrameData) → is_committed s (upto m fs) ≡ is_committed s fs
unfolding is_committed
committed_upto s m [] = refl
committed_upto s m (f ∷ fs) = go (nat_eq f.seq m)
  where
    go : (b : Bool) → is_committed s (cond b (f ∷ []) (f ∷ upto m fs)) ≡ is_committed s (f ∷ fs)
    go true = refl
    go false = refl

-- a fault up to the number is behind the first entry of what is left
pub cut_split : (m k : ℕ) (fs before : List FrameData) (f : FrameData) (behind : List FrameData) → numbered k fs ≡ true → behind_first fs ≡ before ++ f ∷ behind → f.seq ≤ m → (more : List FrameData) × (behind_first (upto m fs) ≡ (before ++ f ∷ []) ++ more)
cut_split m k [] before f behind e is le = absurd (nothing before f behind is)
  where
    nothing : (before : List FrameData) (f : FrameData) (behind : List FrameData) → [] ≡ before ++ f ∷ behind → ⊥
    nothing [] f behind q = cc
    nothing (b ∷ before) f behind q = cc
cut_split m k (g ∷ gs) before f behind e is le =
    let p = and_true (nat_eq g.seq k) (numbered (k + 1) gs) e in
    let g_is : g.seq ≡ k = eqb-true _ _ p.0 in
    let rest : numbered (k + 1) (before ++ f ∷ behind) ≡ true = subst (λ (l : List FrameData). numbered (k + 1) l ≡ true) is p.1 in
    let at = seq_at (k + 1) before f behind rest in
    let split = upto_split m (k + 1) before f behind rest le in
    let apart : nat_eq g.seq m ≡ false = ne_eqb g.seq m (λ (s : g.seq ≡ m). omega arith) in
    (split.0, rw apart (ap (upto m) is ∙ split.1))
