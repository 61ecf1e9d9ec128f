-- Where an entry stands in a list that is cut in two.
use Rattle.std.proofs.Common.{◌≡◌, ℕ, ◌+◌, ◌≤◌, Bool, true, false, cond, nat_eq, ◌||◌, List, [], ◌∷◌, ◌++◌, length, Some, refl, sym, ap, ◌∙◌, arith, eqb-true}
use Rattle.avm_num.proofs.Numbers.{and_true}
use Rattle.avm_model.specs.Entries.{numbered}
use Rattle.avm_model.specs.Frame.{FrameData}
use Rattle.export_model.specs.Exports.{begins_at}
use Rattle.honest_model.specs.Keeps.{last_frame}

head_is : (x y : FrameData) (xs ys : List FrameData) → x ∷ xs ≡ y ∷ ys → x ≡ y
head_is x y xs ys e = cc

tail_is : (x y : FrameData) (xs ys : List FrameData) → x ∷ xs ≡ y ∷ ys → xs ≡ ys
tail_is x y xs ys e = cc

-- in the second part
pub record Inside (front behind before later : List FrameData) (f : FrameData) : Type 0 where
  pub middle : List FrameData
  pub before_is : before ≡ front ++ middle
  pub behind_is : behind ≡ middle ++ f ∷ later

pub inside : (front behind before later : List FrameData) (f : FrameData) → front ++ behind ≡ before ++ f ∷ later → length front ≤ length before → Inside front behind before later f
inside [] behind before later f e le = record { middle = before; before_is = refl; behind_is = e }
inside (x ∷ front) behind [] later f e le = absurd (omega (arith, le))
inside (x ∷ front) behind (y ∷ before) later f e le =
    let r = inside front behind before later f (tail_is x y (front ++ behind) (before ++ f ∷ later) e) (omega (arith, le)) in
    record {
      middle = r.middle;
      before_is = ap (λ (l : List FrameData). y ∷ l) r.before_is ∙ ap (λ (z : FrameData). z ∷ (front ++ r.middle)) (sym (head_is x y (front ++ behind) (before ++ f ∷ later) e));
      behind_is = r.behind_is;
    }

-- at the end of the first
pub record Ending (front behind before later : List FrameData) (f : FrameData) : Type 0 where
  pub front_is : front ≡ before ++ f ∷ []
  pub behind_is : behind ≡ later

none_more : (l : List FrameData) → length l ≡ 0 → l ≡ []
none_more [] e = refl
none_more (x ∷ l) e = absurd (omega (arith, e))

pub ending : (front behind before later : List FrameData) (f : FrameData) → front ++ behind ≡ before ++ f ∷ later → length front ≡ length before + 1 → Ending front behind before later f
ending [] behind before later f e len = absurd (omega (arith, len))
ending (x ∷ front) behind [] later f e len =
    let none : front ≡ [] = none_more front (omega (arith, len)) in
    record {
      front_is = ap (λ (l : List FrameData). x ∷ l) none ∙ ap (λ (z : FrameData). z ∷ []) (head_is x f (front ++ behind) later e);
      behind_is = sym (ap (λ (l : List FrameData). l ++ behind) none) ∙ tail_is x f (front ++ behind) later e;
    }
ending (x ∷ front) behind (y ∷ before) later f e len =
    let r = ending front behind before later f (tail_is x y (front ++ behind) (before ++ f ∷ later) e) (omega (arith, len)) in
    record {
      front_is = ap (λ (l : List FrameData). x ∷ l) r.front_is ∙ ap (λ (z : FrameData). z ∷ (before ++ f ∷ [])) (head_is x y (front ++ behind) (before ++ f ∷ later) e);
      behind_is = r.behind_is;
    }

pub last_is : (fs : List FrameData) (f : FrameData) → last_frame (fs ++ f ∷ []) ≡ Some f
last_is [] f = refl
last_is (x ∷ []) f = refl
last_is (x ∷ y ∷ fs) f = last_is (y ∷ fs) f

-- ---- numbers

pub numbered_behind : (a b : List FrameData) (first : ℕ) → numbered first (a ++ b) ≡ true → numbered (first + length a) b ≡ true
numbered_behind [] b first h = let z : first + 0 ≡ first = omega arith in rw z h
numbered_behind (f ∷ a) b first h =
    let p = and_true (nat_eq f.seq first) (numbered (first + 1) (a ++ b)) h in
    let z : first + length (f ∷ a) ≡ (first + 1) + length a = omega arith in
    rw z (numbered_behind a b (first + 1) p.1)

-- the entry of a number that a segment may begin at
pub record Found (n : ℕ) (fs : List FrameData) : Type 0 where
  pub before : List FrameData
  pub frame : FrameData
  pub later : List FrameData
  pub split : fs ≡ before ++ frame ∷ later
  pub number : frame.seq ≡ n
  pub kind : (nat_eq frame.kind 1 || nat_eq frame.kind 2) ≡ true

pub found : (n : ℕ) (fs : List FrameData) → begins_at n fs ≡ true → Found n fs
found n [] e = absurd cc
found n (f ∷ fs) e = go (nat_eq f.seq n) refl e (λ q. found n fs q)
  where
    go : (b : Bool) → nat_eq f.seq n ≡ b → cond b (nat_eq f.kind 1 || nat_eq f.kind 2) (begins_at n fs) ≡ true → (begins_at n fs ≡ true → Found n fs) → Found n (f ∷ fs)
    go true i q ih = record { before = []; frame = f; later = fs; split = refl; number = eqb-true f.seq n i; kind = q }
    go false i q ih =
        let r = ih q in
        record { before = f ∷ r.before; frame = r.frame; later = r.later; split = ap (λ (l : List FrameData). f ∷ l) r.split; number = r.number; kind = r.kind }
