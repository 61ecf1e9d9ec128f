-- The entries from a number on.
use Rattle.std.proofs.Common.{◌≡◌, ℕ, ◌+◌, ◌<◌, ◌≤◌, Bool, true, false, cond, nat_eq, List, [], ◌∷◌, ◌++◌, length, Some, refl, sym, ap, ◌∙◌, arith, eqb-true, ne_eqb, eq-eqb, le-leb, inl, inr}
use Rattle.std.proofs.lemmas.Bool.{cases_lt, lt-leb}
use Rattle.avm_num.proofs.Numbers.{and_true}
use Rattle.avm_model.specs.Frame.{FrameData}
use Rattle.avm_model.specs.Entries.{numbered}
use Rattle.avm_model.specs.Chain.{link, next_hash}
use Rattle.avm_model.specs.Marks.{hash_in}
use Rattle.avm_model.specs.Audit.{last_number}
use Rattle.avm_model.proofs.LmsLaw.{length-hash}
use Rattle.rebut_model.specs.Texts.{Stretch, from_number}
use Rattle.rebut_model.proofs.Links.{along}
use Rattle.honest_model.specs.Keeps.{up_to}

later : (q k n : ℕ) → nat_eq q n ≡ false → q ≡ k → k ≤ n → k + 1 ≤ n
later q k n i is le = elim (cases_lt k n) [
  | inl lt ↦ omega arith
  | inr ge ↦ let t : nat_eq q n ≡ true = eq-eqb q n (omega arith) in absurd cc
]

-- what the entries from number n on have of all of them, which begin with number k behind h
pub record Splits (n k : ℕ) (h : List ℕ) (fs : List FrameData) (s : Stretch) : Type 0 where
  pub earlier : List FrameData
  pub frames : fs ≡ earlier ++ s.frames
  pub numbers : numbered n s.frames ≡ true
  pub low : numbered k earlier ≡ true
  pub count : k + length earlier ≤ n
  pub before : length s.before ≡ 32
  pub hashes : (m : ℕ) (g : List ℕ) → n ≤ m → hash_in m h fs ≡ Some g → hash_in m s.before s.frames ≡ Some g

pub splits : (n k : ℕ) (h : List ℕ) (fs : List FrameData) → length h ≡ 32 → k ≤ n → numbered k fs ≡ true → Splits n k h fs (from_number n h fs)
splits n k h [] lh le e = record { earlier = []; frames = refl; numbers = refl; low = refl; count = omega arith; before = lh; hashes = λ m g l i. i }
splits n k h (f ∷ fs) lh le e =
    let p = and_true (nat_eq f.seq k) (numbered (k + 1) fs) e in
    go (nat_eq f.seq n) refl (eqb-true _ _ p.0) p.1 (λ lt. splits n (k + 1) (next_hash h f) fs (length-hash (link h f)) lt p.1)
  where
    go : (b : Bool) → nat_eq f.seq n ≡ b → f.seq ≡ k → numbered (k + 1) fs ≡ true → (k + 1 ≤ n → Splits n (k + 1) (next_hash h f) fs (from_number n (next_hash h f) fs))
        → Splits n k h (f ∷ fs) (cond b (record { before = h; frames = f ∷ fs }) (from_number n (next_hash h f) fs))
    go true i is rest ih =
        let here : f.seq ≡ n = eqb-true _ _ i in
        let same : k ≡ n = omega arith in
        record { earlier = []; frames = refl; numbers = rw (eq-eqb f.seq n here, ← same, rest) refl; low = refl; count = omega arith; before = lh; hashes = λ m g l q. q }
    go false i is rest ih =
        let lt : k + 1 ≤ n = later f.seq k n i is le in
        let r = ih lt in
        record {
          earlier = f ∷ r.earlier;
          frames = ap (λ (gs : List FrameData). f ∷ gs) r.frames;
          numbers = r.numbers;
          low = rw (eq-eqb f.seq k is, r.low) refl;
          count = omega (arith, r.count);
          before = r.before;
          hashes = λ m g l q. r.hashes m g l (rw (ne_eqb f.seq m (λ (s : f.seq ≡ m). omega arith)) at q);
        }

pub last_low : (k : ℕ) (e : FrameData) (es : List FrameData) → numbered k (e ∷ es) ≡ true → k ≤ last_number e.seq es
last_low k e [] n = let p = and_true (nat_eq e.seq k) true n in let is : e.seq ≡ k = eqb-true _ _ p.0 in omega arith
last_low k e (d ∷ es) n =
    let p = and_true (nat_eq e.seq k) (numbered (k + 1) (d ∷ es)) n in
    let ih = last_low (k + 1) d es p.1 in
    omega arith

some_is : {A : Type 0} (x y : A) → Some x ≡ Some y → x ≡ y
some_is x y e = cc

-- the hash at the last number of theirs is that behind as many of ours
pub along_last : (k m : ℕ) (h g : List ℕ) (fs : List FrameData) (e : FrameData) (es : List FrameData) → numbered k fs ≡ true → numbered k (e ∷ es) ≡ true → last_number e.seq es ≡ m → hash_in m h fs ≡ Some g → along h fs (e ∷ es) ≡ Some g
along_last k m h g [] e es nf ne l i = absurd cc
along_last k m h g (f ∷ fs) e [] nf ne l i =
    let p = and_true (nat_eq f.seq k) (numbered (k + 1) fs) nf in
    let q = and_true (nat_eq e.seq k) true ne in
    let same : f.seq ≡ m = eqb-true _ _ p.0 ∙ sym (eqb-true _ _ q.0) ∙ l in
    rw (eq-eqb f.seq m same) at i
along_last k m h g (f ∷ fs) e (d ∷ es) nf ne l i =
    let p = and_true (nat_eq f.seq k) (numbered (k + 1) fs) nf in
    let q = and_true (nat_eq e.seq k) (numbered (k + 1) (d ∷ es)) ne in
    let is : f.seq ≡ k = eqb-true _ _ p.0 in
    let low = last_low (k + 1) d es q.1 in
    along_last (k + 1) m (next_hash h f) g fs d es p.1 q.1 l (rw (ne_eqb f.seq m (λ (s : f.seq ≡ m). omega arith)) at i)

-- no entry up to a number where the first is above it
pub up_to_none : (n q : ℕ) (fs : List FrameData) → n < q → numbered q fs ≡ true → up_to n fs ≡ []
up_to_none n q [] lt m = refl
up_to_none n q (f ∷ fs) lt m =
    let p = and_true (nat_eq f.seq q) (numbered (q + 1) fs) m in
    let is : f.seq ≡ q = eqb-true _ _ p.0 in
    rw (lt-leb f.seq n (omega arith)) refl

-- the number of an entry behind others
pub number_behind : (k : ℕ) (a : List FrameData) (e : FrameData) (b : List FrameData) → numbered k (a ++ e ∷ b) ≡ true → e.seq ≡ k + length a
number_behind k [] e b m = let p = and_true (nat_eq e.seq k) (numbered (k + 1) b) m in let is : e.seq ≡ k = eqb-true _ _ p.0 in omega arith
number_behind k (f ∷ a) e b m = let p = and_true (nat_eq f.seq k) (numbered (k + 1) (a ++ e ∷ b)) m in let i = number_behind (k + 1) a e b p.1 in omega arith

-- the entries up to a number, behind others
pub up_to_here : (n k : ℕ) (a : List FrameData) (e : FrameData) (b : List FrameData) → numbered k (a ++ e ∷ b) ≡ true → e.seq ≡ n → up_to n (a ++ e ∷ b) ≡ a ++ e ∷ []
up_to_here n k [] e b num is =
    let p = and_true (nat_eq e.seq k) (numbered (k + 1) b) num in
    let same : e.seq ≡ k = eqb-true _ _ p.0 in
    rw (le-leb e.seq n (omega arith)) (ap (λ (l : List FrameData). e ∷ l) (up_to_none n (k + 1) b (omega arith) p.1))
up_to_here n k (f ∷ a) e b num is =
    let p = and_true (nat_eq f.seq k) (numbered (k + 1) (a ++ e ∷ b)) num in
    let same : f.seq ≡ k = eqb-true _ _ p.0 in
    let at = number_behind (k + 1) a e b p.1 in
    rw (le-leb f.seq n (omega arith)) (ap (λ (l : List FrameData). f ∷ l) (up_to_here n (k + 1) a e b p.1 is))
