-- Logs that go on from where others stand.
use Rattle.std.proofs.Common.{◌≡◌, ℕ, zero, suc, ◌+◌, List, [], ◌∷◌, ◌++◌, Option, Some, None, refl, sym, ◌∙◌, arith}
use Rattle.std.specs.Option.{option_and_then}
use Rattle.avm_model.specs.Timed.{Timed, IsTimed, Entry}
use Rattle.avm_model.specs.Rerun.{Stand, Stands, start, moved, moved_by}
use Rattle.avm_model.specs.Judge.{judge_all}
use Rattle.avm_model.proofs.ReplayTheorems.{Stands-judged, judged-Stands, judge_all-append}

-- where a log leads without outputs lacking, another goes on
pub stands_join : {S I O : Type 0} (m : Timed S I O) → IsTimed m → (s t : S) (a b : List (Entry I O)) (j : Stand S O) → Stands m s a (start t) → Stands m t b j → Stands m s (a ++ b) j
stands_join m law s t a b j h k =
    Stands-judged m law s (a ++ b) j (judge_all-append m (start s) a b ∙ rw (judged-Stands m law s a (start t) h, judged-Stands m law t b j k) refl)

pub stands_split : {S I O : Type 0} (m : Timed S I O) → IsTimed m → (s t : S) (a b : List (Entry I O)) (j : Stand S O) → Stands m s (a ++ b) j → Stands m s a (start t) → Stands m t b j
stands_split {S} {I} {O} m law s t a b j h k =
    let all : judge_all m (start s) (a ++ b) ≡ Some j = judged-Stands m law s (a ++ b) j h in
    let front : judge_all m (start s) a ≡ Some (start t) = judged-Stands m law s a (start t) k in
    let seam : judge_all m (start s) (a ++ b) ≡ option_and_then (λ (q : Stand S O). judge_all m q b) (Some (start t)) = judge_all-append m (start s) a b ∙ rw front refl in
    Stands-judged m law t b j (sym seam ∙ all)

-- a front stands somewhere
pub stands_front : {S I O : Type 0} (m : Timed S I O) → IsTimed m → (s : S) (a b : List (Entry I O)) (j : Stand S O) → Stands m s (a ++ b) j → (k : Stand S O) × (judge_all m (start s) a ≡ Some k) × (judge_all m k b ≡ Some j)
stands_front {S} {I} {O} m law s a b j h =
    go (judge_all m (start s) a) refl (sym (judge_all-append m (start s) a b) ∙ judged-Stands m law s (a ++ b) j h)
  where
    go : (r : Option (Stand S O)) → judge_all m (start s) a ≡ r → option_and_then (λ (q : Stand S O). judge_all m q b) r ≡ Some j → (k : Stand S O) × (judge_all m (start s) a ≡ Some k) × (judge_all m k b ≡ Some j)
    go None e q = absurd cc
    go (Some k) e q = (k, e, q)

pub stands_nothing : {S I O : Type 0} (m : Timed S I O) → IsTimed m → (s : S) → Stands m s [] (start s)
stands_nothing m law s = Stands-judged m law s [] (start s) refl

-- a log leads to one place
pub stands_one : {S I O : Type 0} (m : Timed S I O) → IsTimed m → (s : S) (a : List (Entry I O)) (j k : Stand S O) → Stands m s a j → Stands m s a k → j ≡ k
stands_one m law s a j k h g = h.is ∙ sym g.is

-- ---- steps without outputs, one after another

pub moved_on : {S I O : Type 0} (m : Timed S I O) (k n : ℕ) (s t u : S) → moved m k s ≡ Some t → moved m n t ≡ Some u → moved m (k + n) s ≡ Some u
moved_on m zero n s t u e h = let q : s ≡ t = cc in let z : 0 + n ≡ n = omega arith in rw (z, q) h
moved_on {S} {I} {O} m (suc k) n s t u e h = let z : suc k + n ≡ suc (k + n) = omega arith in rw z (go (λ v q. moved_on m k n v t u q h) (m.step s) refl e)
  where
    go : ((v : S) → moved m k v ≡ Some t → moved m (k + n) v ≡ Some u) → (r : Option (S × List O)) → m.step s ≡ r → moved_by r (moved m k) ≡ Some t → moved_by (m.step s) (moved m (k + n)) ≡ Some u
    go ih None p q = absurd cc
    go ih (Some (v, [])) p q = rw p (ih v q)
    go ih (Some (v, o ∷ os)) p q = absurd cc
