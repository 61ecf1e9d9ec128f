-- Judging one entry at a time is comparing with the run.
use Rattle.std.proofs.Common.{◌≡◌, ℕ, zero, suc, ◌+◌, ◌-◌, ◌*◌, ◌/◌, ◌%◌, ◌≤◌, ◌<◌, Bool, true, false, cond, eqb, List, [], ◌∷◌, ◌++◌, Option, Some, None, refl, sym, ap, subst, arith, eqb-true, ne_eqb, ◌∙◌, ◌⊎◌, inl, inr}
use Rattle.std.proofs.Math.Nat.{mul-mod_left}
use Rattle.std.specs.List.{AllByRecursion}
use Rattle.avm_model.specs.Timed.{Timed, IsTimed, Entry, given, made, inputs, entry_count, last_count, takes}
use Rattle.avm_model.specs.Rerun.{Stand, reached, Moment, outputs, taking, taking_one, stepping, after_taking, run, IsFront}
use Rattle.std.specs.Option.{option_and_then}
use Rattle.avm_model.specs.Judge.{judge, settled, judge_all, quiet, quiet_out, quiet_step, settle, compare, accept, stand_of}

-- The outputs that no entry has matched carry the state's count.
abbrev pub Fresh : {S I O : Type 0} → Timed S I O → Stand S O → Type 0
Fresh m j = AllByRecursion (λ o. m.output_count o ≡ m.count j.state) j.pending

-- ---- what the pieces do

-- an input that is taken has the state's count, and leaves it
pub taken : {S I O : Type 0} (m : Timed S I O) → IsTimed m → (s t : S) (i : I) → takes m s i ≡ Some t → (m.input_count i ≡ m.count s) × (m.count t ≡ m.count s)
taken m law s t i e = go (eqb (m.input_count i) (m.count s)) refl e
  where
    go : (b : Bool) → eqb (m.input_count i) (m.count s) ≡ b → cond b (m.take s i) None ≡ Some t → (m.input_count i ≡ m.count s) × (m.count t ≡ m.count s)
    go true p h = (eqb-true _ _ p, law.takes s t i h)
    go false p h = absurd cc

-- quiet steps stay within their number, and what they leave is fresh
pub record Quiet {S I O : Type 0} (m : Timed S I O) (k : ℕ) (s : S) (j : Stand S O) : Type 0 where
  pub low : m.count s ≤ m.count j.state
  pub high : m.count j.state ≤ m.count s + k
  pub fresh : Fresh m j

pub quiet_law : {S I O : Type 0} (m : Timed S I O) → IsTimed m → (k : ℕ) (s : S) → Quiet m k s (quiet m k s)
quiet_law m law zero s = record { low = omega arith; high = omega arith; fresh = tt }
quiet_law m law (suc k) s = go (quiet_law m law k) (m.step s) refl
  where
    out : (t : _) (os : _) → m.step s ≡ Some (t, os) → Quiet m k t (quiet m k t) → Quiet m (suc k) s (quiet_out (quiet m k) t os)
    out t [] e ih = let c = law.steps s t [] e in record { low = omega (arith, ih.low); high = omega (arith, ih.high); fresh = ih.fresh }
    out t (o ∷ os) e ih = let c = law.steps s t (o ∷ os) e in record { low = omega arith; high = omega arith; fresh = law.stamps s t (o ∷ os) e }

    go : ((t : _) → Quiet m k t (quiet m k t)) → (r : _) → m.step s ≡ r → Quiet m (suc k) s (quiet_step (quiet m k) s r)
    go ih None e = record { low = omega arith; high = omega arith; fresh = tt }
    go ih (Some r) e = out r.0 r.1 e (ih r.0)

-- settling moves on from where the judge stands, and what it leaves is fresh
pub settle_law : {S I O : Type 0} (m : Timed S I O) → IsTimed m → (c : ℕ) (s : S) (os : List O) → Fresh m (record { state = s; pending = os }) → (m.count s ≤ m.count (settle m c s os).state) × Fresh m (settle m c s os)
settle_law m law c s [] f = let q = quiet_law m law (c - m.count s) s in (q.low, q.fresh)
settle_law m law c s (o ∷ os) f = (omega arith, f)

compare_is : {S I O : Type 0} (m : Timed S I O) → IsTimed m → (o : O) (t : S) (os : List O) (k : Stand S O) → compare m o t os ≡ Some k → (os ≡ o ∷ k.pending) × (t ≡ k.state)
compare_is m law o t [] k e = absurd cc
compare_is m law o t (q ∷ qs) k e = go (m.same o q) refl e
  where
    go : (b : Bool) → m.same o q ≡ b → cond b (Some (record { state = t; pending = qs })) None ≡ Some k → (q ∷ qs ≡ o ∷ k.pending) × (t ≡ k.state)
    go true p h = let e1 = law.same_is o q p in let e2 : record { state = t; pending = qs } ≡ k = cc in (rw (← e2, e1) refl, rw (← e2) refl)
    go false p h = absurd cc

accept_is : {S I O : Type 0} (m : Timed S I O) (i : I) (t : S) (os : List O) (k : Stand S O) → accept m i t os ≡ Some k → (os ≡ []) × (takes m t i ≡ Some k.state) × (k.pending ≡ [])
accept_is m i t (q ∷ qs) k e = absurd cc
accept_is m i t [] k e = let g = go (takes m t i) refl e in (refl, g.0, g.1)
  where
    go : (r : _) → takes m t i ≡ r → stand_of r ≡ Some k → (takes m t i ≡ Some k.state) × (k.pending ≡ [])
    go None p h = absurd cc
    go (Some u) p h = let e2 : record { state = u; pending = [] } ≡ k = cc in (rw (← e2) p, rw (← e2) refl)

-- what one judged entry leaves
record Judged {S I O : Type 0} (m : Timed S I O) (j : Stand S O) (e : Entry I O) (k : Stand S O) : Type 0 where
  low : m.count j.state ≤ entry_count m e
  is : m.count k.state ≡ entry_count m e
  fresh : Fresh m k

settled_law : {S I O : Type 0} (m : Timed S I O) → IsTimed m → (e : Entry I O) (q k : Stand S O) → Fresh m q → settled m e q ≡ Some k → (m.count q.state ≡ entry_count m e) × (m.count k.state ≡ entry_count m e) × Fresh m k
settled_law {O} m law (made o) q k f h =
    let c = compare_is m law o q.state q.pending k h in
    let f2 : AllByRecursion (λ p. m.output_count p ≡ m.count q.state) (o ∷ k.pending) = subst (λ (ps : List O). AllByRecursion (λ p. m.output_count p ≡ m.count q.state) ps) c.0 f in
    let n : m.count q.state ≡ m.count k.state = ap m.count c.1 in
    (sym f2.0, sym n ∙ sym f2.0, rw (← n) f2.1)
settled_law m law (given i) q k f h =
    let a = accept_is m i q.state q.pending k h in
    let t = taken m law q.state k.state i a.1 in
    (sym t.0, t.1 ∙ sym t.0, rw a.2 tt)

judge_law : {S I O : Type 0} (m : Timed S I O) → IsTimed m → (j : Stand S O) (e : Entry I O) (k : Stand S O) → Fresh m j → judge m j e ≡ Some k → Judged m j e k
judge_law m law j e k f h =
    let s = settle_law m law (entry_count m e) j.state j.pending f in
    let d = settled_law m law e (settle m (entry_count m e) j.state j.pending) k s.1 h in
    record { low = omega (arith, s.0, d.0); is = d.1; fresh = d.2 }

-- the first step of judging a list that isn't empty
and_then_is : {A B : Type 0} (r : Option A) (f : A → Option B) (y : B) → option_and_then f r ≡ Some y → (x : A) × (r ≡ Some x) × (f x ≡ Some y)
and_then_is None f y e = absurd cc
and_then_is (Some x) f y e = (x, refl, e)

-- ---- judged entries have counts that don't fall

counts_rise : {S I O : Type 0} (m : Timed S I O) → IsTimed m → (es : List (Entry I O)) (j k : Stand S O) (n : ℕ) → Fresh m j → judge_all m j es ≡ Some k → n ≤ m.count j.state → n ≤ last_count m n es
counts_rise m law [] j k n f h le = omega arith
counts_rise m law (e ∷ es) j k n f h le =
    let b = and_then_is (judge m j e) (λ q. judge_all m q es) k h in
    let one = judge_law m law j e b.0 f b.1 in
    let more = counts_rise m law es b.0 k (entry_count m e) one.fresh b.2 (omega (arith, one.is)) in
    omega (arith, more, one.low)

-- no input comes before c
abbrev pub NoneBefore : {S I O : Type 0} → Timed S I O → ℕ → List I → Type 0
NoneBefore m c [] = Unit {0}
NoneBefore m c (i ∷ is) = c ≤ m.input_count i

NoneBefore-le : {S I O : Type 0} (m : Timed S I O) (c d : ℕ) (is : List I) → c ≤ d → NoneBefore m d is → NoneBefore m c is
NoneBefore-le m c d [] le h = tt
NoneBefore-le m c d (i ∷ is) le h = omega (arith, h)

inputs_rise : {S I O : Type 0} (m : Timed S I O) → IsTimed m → (es : List (Entry I O)) (j k : Stand S O) → Fresh m j → judge_all m j es ≡ Some k → NoneBefore m (m.count j.state) (inputs es)
inputs_rise m law [] j k f h = tt
inputs_rise m law (given i ∷ es) j k f h =
    let b = and_then_is (judge m j (given i)) (λ q. judge_all m q es) k h in
    (judge_law m law j (given i) b.0 f b.1).low
inputs_rise m law (made o ∷ es) j k f h =
    let b = and_then_is (judge m j (made o)) (λ q. judge_all m q es) k h in
    let one = judge_law m law j (made o) b.0 f b.1 in
    NoneBefore-le m (m.count j.state) (m.count b.0.state) (inputs es) (omega (arith, one.low, one.is)) (inputs_rise m law es b.0 k one.fresh b.2)

-- ---- quiet steps are the run's

not_yet : {S I O : Type 0} (m : Timed S I O) (s : S) (is : List I) (f : S → List I → List (Moment S I O)) → NoneBefore m (suc (m.count s)) is → taking m s is f ≡ f s is
not_yet m s [] f h = refl
not_yet m s (i ∷ is) f h =
    let e : eqb (m.input_count i) (m.count s) ≡ false = ne_eqb _ _ (λ (p : m.input_count i ≡ m.count s). omega (arith, h)) in
    rw e refl

-- Where no input comes before c, the run passes through where quiet steps end.
record Passes {S I O : Type 0} (m : Timed S I O) (d : ℕ) (from to : Stand S O) (is : List I) : Type 0 where
  left : ℕ
  counts : m.count to.state + left ≡ m.count from.state + d
  same : outputs from.state from.pending ++ run m d from.state is ≡ outputs to.state to.pending ++ run m left to.state is

quiet_run : {S I O : Type 0} (m : Timed S I O) → IsTimed m → (k d c : ℕ) (s : S) (is : List I) → k ≤ d → (0 < k → m.count s + k ≤ c) → NoneBefore m c is → Passes m d (record { state = s; pending = [] }) (quiet m k s) is
quiet_run m law zero d c s is le below h = record { left = d; counts = refl; same = refl }
quiet_run m law (suc k) zero c s is le below h = absurd (omega arith)
quiet_run m law (suc k) (suc d) c s is le below h =
    let yet = not_yet m s is (after_taking m (suc d)) (NoneBefore-le m (suc (m.count s)) c is (omega (arith, below (omega arith))) h) in
    go (λ t e. quiet_run m law k d c t is (omega arith) e h) yet (m.step s) refl
  where
    out : ((t : _) → (0 < k → m.count t + k ≤ c) → Passes m d (record { state = t; pending = [] }) (quiet m k t) is) → (t : _) (os : _) → m.step s ≡ Some (t, os) → run m (suc d) s is ≡ outputs t os ++ run m d t is → Passes m (suc d) (record { state = s; pending = [] }) (quiet_out (quiet m k) t os) is
    out ih t [] e y =
        let n = law.steps s t [] e in
        let p = ih t (λ (lt : 0 < k). omega (arith, below (omega arith))) in
        record { left = p.left; counts = omega (arith, p.counts); same = y ∙ p.same }
    out ih t (o ∷ os) e y =
        let n = law.steps s t (o ∷ os) e in
        record { left = d; counts = omega arith; same = y }

    go : ((t : _) → (0 < k → m.count t + k ≤ c) → Passes m d (record { state = t; pending = [] }) (quiet m k t) is) → run m (suc d) s is ≡ after_taking m (suc d) s is → (r : _) → m.step s ≡ r → Passes m (suc d) (record { state = s; pending = [] }) (quiet_step (quiet m k) s r) is
    go ih yet None e = record { left = suc d; counts = refl; same = refl }
    go ih yet (Some r) e = out ih r.0 r.1 e (yet ∙ rw e refl)

settle_run : {S I O : Type 0} (m : Timed S I O) → IsTimed m → (d c : ℕ) (s : S) (os : List O) (is : List I) → c ≤ m.count s + d → NoneBefore m c is → Passes m d (record { state = s; pending = os }) (settle m c s os) is
settle_run m law d c s [] is le h = quiet_run m law (c - m.count s) d c s is (omega arith) (λ (lt : 0 < c - m.count s). omega arith) h
settle_run m law d c s (o ∷ os) is le h = record { left = d; counts = refl; same = refl }

-- ---- what is judged well is a front of the run

-- the front, where the judge has settled
front_settled : {S I O : Type 0} (m : Timed S I O) → IsTimed m → (e : Entry I O) (es : List (Entry I O)) (q k : Stand S O) (d : ℕ) → settled m e q ≡ Some k
    → IsFront es (outputs k.state k.pending ++ run m d k.state (inputs es)) → IsFront (e ∷ es) (outputs q.state q.pending ++ run m d q.state (inputs (e ∷ es)))
front_settled {S} {I} {O} m law (made o) es q k d h more =
    let c = compare_is m law o q.state q.pending k h in
    subst (λ (ps : List O). IsFront (made o ∷ es) (outputs q.state ps ++ run m d q.state (inputs es))) (sym c.0)
    (refl, subst (λ (t : S). IsFront es (outputs t k.pending ++ run m d t (inputs es))) (sym c.1) more)
front_settled {S} {O} m law (given i) es q k d h more =
    let a = accept_is m i q.state q.pending k h in
    let more2 : IsFront es (run m d k.state (inputs es)) = subst (λ (ps : List O). IsFront es (outputs k.state ps ++ run m d k.state (inputs es))) a.2 more in
    subst (λ (ps : List O). IsFront (given i ∷ es) (outputs q.state ps ++ run m d q.state (i ∷ inputs es))) (sym a.0)
    (subst (λ (r : Option S). IsFront (given i ∷ es) (taking_one r i (after_taking m d q.state (i ∷ inputs es)) (λ t. run m d t (inputs es)))) (sym a.1) (refl, more2))

inputs_after : {S I O : Type 0} (m : Timed S I O) → IsTimed m → (e : Entry I O) (es : List (Entry I O)) (k f : Stand S O) → Fresh m k → m.count k.state ≡ entry_count m e → judge_all m k es ≡ Some f → NoneBefore m (entry_count m e) (inputs (e ∷ es))
inputs_after m law (given i) es k f fresh is h = omega arith
inputs_after m law (made o) es k f fresh is h = rw (← is) (inputs_rise m law es k f fresh h)

pub front_of_judged : {S I O : Type 0} (m : Timed S I O) → IsTimed m → (es : List (Entry I O)) (j f : Stand S O) (d n : ℕ) → Fresh m j → judge_all m j es ≡ Some f → last_count m n es ≤ m.count j.state + d
    → IsFront es (outputs j.state j.pending ++ run m d j.state (inputs es))
front_of_judged m law [] j f d n fresh h le = tt
front_of_judged m law (e ∷ es) j f d n fresh h le =
    let b = and_then_is (judge m j e) (λ q. judge_all m q es) f h in
    let one = judge_law m law j e b.0 fresh b.1 in
    let rises = counts_rise m law es b.0 f (entry_count m e) one.fresh b.2 (omega (arith, one.is)) in
    let none = inputs_after m law e es b.0 f one.fresh one.is b.2 in
    let q = settle m (entry_count m e) j.state j.pending in
    let p = settle_run m law d (entry_count m e) j.state j.pending (inputs (e ∷ es)) (omega (arith, rises)) none in
    let q_is = settled_law m law e q b.0 (settle_law m law (entry_count m e) j.state j.pending fresh).1 b.1 in
    let more = front_of_judged m law es b.0 f p.left (entry_count m e) one.fresh b.2 (omega (arith, p.counts, q_is.0, q_is.1, le)) in
    rw p.same (front_settled m law e es q b.0 p.left b.1 more)

-- ---- a front of the run is judged well

-- judging goes on in the same way after a step
pub settle_past : {S I O : Type 0} (m : Timed S I O) → (c : ℕ) (s t : S) (os : List O) → m.step s ≡ Some (t, os) → m.count t ≡ m.count s + 1 → m.count t ≤ c → settle m c s [] ≡ settle m c t os
settle_past m c s t [] e n le =
    let k : c - m.count s ≡ suc (c - m.count t) = omega arith in
    rw (k, e) refl
settle_past m c s t (o ∷ os) e n le =
    let k : c - m.count s ≡ suc (c - m.count t) = omega arith in
    rw (k, e) refl

-- what the run begins with, where an entry is the first of it
record Taken {S I O : Type 0} (m : Timed S I O) (s : S) (d : ℕ) (e : Entry I O) (es : List (Entry I O)) : Type 0 where
  input : I
  state : S
  entry : e ≡ given input
  took : takes m s input ≡ Some state
  more : IsFront es (run m d state (inputs es))

reached_any : {S I O : Type 0} (e : Entry I O) (es : List (Entry I O)) (ms : List (Moment S I O)) (a b : Stand S O) → IsFront (e ∷ es) ms → reached (e ∷ es) ms a ≡ reached (e ∷ es) ms b
reached_any e es [] a b h = absurd h
reached_any e es (m ∷ ms) a b h = refl

-- what the run is, where rule 1 doesn't apply
record Stepped {S I O : Type 0} (m : Timed S I O) (s : S) (d : ℕ) (e : Entry I O) (es : List (Entry I O)) (is : List I) : Type 0 where
  same : run m d s is ≡ after_taking m d s is
  more : IsFront (e ∷ es) (after_taking m d s is)

-- rule 1, or rules 2 and 3
peel : {S I O : Type 0} (m : Timed S I O) (s : S) (d : ℕ) (e : Entry I O) (es : List (Entry I O)) → IsFront (e ∷ es) (run m d s (inputs (e ∷ es))) → Taken m s d e es ⊎ Stepped m s d e es (inputs (e ∷ es))
peel {S} {I} {O} m s d (given i) es h = go (takes m s i) refl h
  where
    go : (r : Option S) → takes m s i ≡ r → IsFront (given i ∷ es) (taking_one r i (after_taking m d s (i ∷ inputs es)) (λ t. run m d t (inputs es))) → Taken m s d (given i) es ⊎ Stepped m s d (given i) es (i ∷ inputs es)
    go None p f = inr (record { same = rw p refl; more = f })
    go (Some t) p f = inl (record { input = i; state = t; entry = refl; took = p; more = f.1 })
peel {S} {I} {O} m s d (made o) es h = over (inputs es) h
  where
    go : (is : List I) (i : I) (r : Option S) → takes m s i ≡ r → IsFront (made o ∷ es) (taking_one r i (after_taking m d s (i ∷ is)) (λ t. run m d t is)) → Taken m s d (made o) es ⊎ Stepped m s d (made o) es (i ∷ is)
    go is i None p f = inr (record { same = rw p refl; more = f })
    go is i (Some t) p f = absurd (let e : made o ≡ given i = f.0 in cc)

    over : (is : List I) → IsFront (made o ∷ es) (run m d s is) → Taken m s d (made o) es ⊎ Stepped m s d (made o) es is
    over [] f = inr (record { same = refl; more = f })
    over (i ∷ is) f = go is i (takes m s i) refl f

-- the entries are judged well from j on, and the judge then stands where the run has its last
abbrev pub JudgedWell : {S I O : Type 0} → Timed S I O → ℕ → Stand S O → List (Entry I O) → Type 0
JudgedWell m d j es = judge_all m j es ≡ Some (reached es (outputs j.state j.pending ++ run m d j.state (inputs es)) j)

take_one : {S I O : Type 0} (m : Timed S I O) → IsTimed m → (s : S) (d : ℕ) (e : Entry I O) (es : List (Entry I O)) (t : Taken m s d e es) → JudgedWell m d (record { state = t.state; pending = [] }) es → JudgedWell m d (record { state = s; pending = [] }) (e ∷ es)
take_one {S} {I} {O} m law s d e es t h =
    let same = taken m law s t.state t.input t.took in
    let zero_is : m.input_count t.input - m.count s ≡ 0 = omega (arith, same.0) in
    let one : judge m (record { state = s; pending = [] }) (given t.input) ≡ Some (record { state = t.state; pending = [] }) = rw (zero_is, t.took) refl in
    let at_given : JudgedWell m d (record { state = s; pending = [] }) (given t.input ∷ es) = rw (one, t.took) h in
    subst (λ (x : Entry I O). JudgedWell m d (record { state = s; pending = [] }) (x ∷ es)) (sym t.entry) at_given

match_one : {S I O : Type 0} (m : Timed S I O) → IsTimed m → (s : S) (d : ℕ) (o : O) (os : List O) (e : Entry I O) (es : List (Entry I O)) → IsFront (e ∷ es) (outputs s (o ∷ os) ++ run m d s (inputs (e ∷ es)))
    → (IsFront es (outputs s os ++ run m d s (inputs es)) → JudgedWell m d (record { state = s; pending = os }) es) → JudgedWell m d (record { state = s; pending = o ∷ os }) (e ∷ es)
match_one m law s d o os (given i) es h ih = absurd (let e : given i ≡ made o = h.0 in cc)
match_one m law s d o os (made p) es h ih =
    let e : made p ≡ made o = h.0 in
    let p_is : o ≡ p = cc in
    let same : m.same p o ≡ true = rw p_is (law.same_refl p) in
    let one : judge m (record { state = s; pending = o ∷ os }) (made p) ≡ Some (record { state = s; pending = os }) = rw same refl in
    rw one (ih h.1)

step_one : {S I O : Type 0} (m : Timed S I O) → IsTimed m → (s t : S) (os : List O) (d : ℕ) (e : Entry I O) (es : List (Entry I O)) → m.step s ≡ Some (t, os)
    → run m (suc d) s (inputs (e ∷ es)) ≡ outputs t os ++ run m d t (inputs (e ∷ es)) → IsFront (e ∷ es) (outputs t os ++ run m d t (inputs (e ∷ es)))
    → JudgedWell m d (record { state = t; pending = os }) (e ∷ es) → JudgedWell m (suc d) (record { state = s; pending = [] }) (e ∷ es)
step_one {S} {I} {O} m law s t os d e es st same front h =
    let b = and_then_is (judge m (record { state = t; pending = os }) e) (λ q. judge_all m q es) _ h in
    let one = judge_law m law (record { state = t; pending = os }) e b.0 (law.stamps s t os st) b.1 in
    let past = settle_past m (entry_count m e) s t os st (law.steps s t os st) one.low in
    let judged : judge_all m (record { state = s; pending = [] }) (e ∷ es) ≡ judge_all m (record { state = t; pending = os }) (e ∷ es) = ap (λ (q : Stand S O). option_and_then (λ k. judge_all m k es) (settled m e q)) past in
    let r = reached_any e es (outputs t os ++ run m d t (inputs (e ∷ es))) (record { state = t; pending = os }) (record { state = s; pending = [] }) front in
    judged ∙ h ∙ ap (λ (x : Stand S O). Some x) (r ∙ ap (λ (ms : List (Moment S I O)). reached (e ∷ es) ms (record { state = s; pending = [] })) (sym same))

unmatched : {S I O : Type 0} (m : Timed S I O) → IsTimed m → (e : Entry I O) (es : List (Entry I O)) → ((j : Stand S O) (d : ℕ) → IsFront es (outputs j.state j.pending ++ run m d j.state (inputs es)) → JudgedWell m d j es)
    → (d : ℕ) (s : S) → IsFront (e ∷ es) (run m d s (inputs (e ∷ es))) → JudgedWell m d (record { state = s; pending = [] }) (e ∷ es)
unmatched m law e es ih zero s h =
    elim (peel m s zero e es h) [
      | inl t ↦ take_one m law s zero e es t (ih (record { state = t.state; pending = [] }) zero t.more)
      | inr p ↦ absurd p.more
    ]
unmatched {S} {I} {O} m law e es ih (suc d) s h = by_rule (unmatched m law e es ih d) (peel m s (suc d) e es h)
  where
    out : ((t : S) → IsFront (e ∷ es) (run m d t (inputs (e ∷ es))) → JudgedWell m d (record { state = t; pending = [] }) (e ∷ es)) → (t : S) (os : List O) → m.step s ≡ Some (t, os) → run m (suc d) s (inputs (e ∷ es)) ≡ outputs t os ++ run m d t (inputs (e ∷ es)) → IsFront (e ∷ es) (outputs t os ++ run m d t (inputs (e ∷ es))) → JudgedWell m (suc d) (record { state = s; pending = [] }) (e ∷ es)
    out inner t [] st same front = step_one m law s t [] d e es st same front (inner t front)
    out inner t (o ∷ os) st same front = step_one m law s t (o ∷ os) d e es st same front (match_one m law t d o os e es front (ih (record { state = t; pending = os }) d))

    go : ((t : S) → IsFront (e ∷ es) (run m d t (inputs (e ∷ es))) → JudgedWell m d (record { state = t; pending = [] }) (e ∷ es)) → (r : Option (S × List O)) → m.step s ≡ r → run m (suc d) s (inputs (e ∷ es)) ≡ after_taking m (suc d) s (inputs (e ∷ es)) → IsFront (e ∷ es) (stepping r (λ t. run m d t (inputs (e ∷ es)))) → JudgedWell m (suc d) (record { state = s; pending = [] }) (e ∷ es)
    go inner None st same front = absurd front
    go inner (Some r) st same front = out inner r.0 r.1 st (same ∙ rw st refl) front

    by_rule : ((t : S) → IsFront (e ∷ es) (run m d t (inputs (e ∷ es))) → JudgedWell m d (record { state = t; pending = [] }) (e ∷ es)) → Taken m s (suc d) e es ⊎ Stepped m s (suc d) e es (inputs (e ∷ es)) → JudgedWell m (suc d) (record { state = s; pending = [] }) (e ∷ es)
    by_rule inner (inl t) = take_one m law s (suc d) e es t (ih (record { state = t.state; pending = [] }) (suc d) t.more)
    by_rule inner (inr p) = go inner (m.step s) refl p.same p.more

pub judged_of_front : {S I O : Type 0} (m : Timed S I O) → IsTimed m → (es : List (Entry I O)) (j : Stand S O) (d : ℕ) → IsFront es (outputs j.state j.pending ++ run m d j.state (inputs es)) → JudgedWell m d j es
judged_of_front m law [] j d h = refl
judged_of_front {S} {I} {O} m law (e ∷ es) j d h = by_pending (judged_of_front m law es) j.pending h
  where
    by_pending : ((j : Stand S O) (d : ℕ) → IsFront es (outputs j.state j.pending ++ run m d j.state (inputs es)) → JudgedWell m d j es) → (os : List O) → IsFront (e ∷ es) (outputs j.state os ++ run m d j.state (inputs (e ∷ es))) → JudgedWell m d (record { state = j.state; pending = os }) (e ∷ es)
    by_pending ih [] f = unmatched m law e es ih d j.state f
    by_pending ih (o ∷ os) f = match_one m law j.state d o os e es f (ih (record { state = j.state; pending = os }) d)

-- Quiet steps from states with a property that steps keep don't pass a count b at which each step from such a state has outputs.
pub quiet_short : {S I O : Type 0} (m : Timed S I O) → IsTimed m → (P : S → Type 0) → ((s t : S) (os : List O) → P s → m.step s ≡ Some (t, os) → P t) → (b : ℕ) → ((s t : S) → P s → m.step s ≡ Some (t, []) → m.count t ≡ b → ⊥) → (k : ℕ) (s : S) → P s → m.count s < b → m.count (quiet m k s).state ≤ b
quiet_short m law P keeps b loud zero s p lt = omega arith
quiet_short {S} {I} {O} m law P keeps b loud (suc k) s p lt = go (λ t. quiet_short m law P keeps b loud k t) (m.step s) refl
  where
    out : ((t : S) → P t → m.count t < b → m.count (quiet m k t).state ≤ b) → (t : S) (os : List O) → m.step s ≡ Some (t, os) → m.count (quiet_out (quiet m k) t os).state ≤ b
    out ih t [] e =
        let n = law.steps s t [] e in
        let other : m.count t ≡ b → ⊥ = loud s t p e in
        ih t (keeps s t [] p e) (omega arith)
    out ih t (o ∷ os) e = let n = law.steps s t (o ∷ os) e in omega arith

    go : ((t : S) → P t → m.count t < b → m.count (quiet m k t).state ≤ b) → (r : Option (S × List O)) → m.step s ≡ r → m.count (quiet_step (quiet m k) s r).state ≤ b
    go ih None e = omega arith
    go ih (Some r) e = out ih r.0 r.1 e

-- One entry costs at most k steps, where each step to a multiple of k has outputs.
pub settle_short : {S I O : Type 0} (m : Timed S I O) → IsTimed m → (P : S → Type 0) → ((s t : S) (os : List O) → P s → m.step s ≡ Some (t, os) → P t) → (k : ℕ) → 0 < k → ((s t : S) → P s → m.step s ≡ Some (t, []) → m.count t % k ≡ 0 → ⊥) → (c : ℕ) (s : S) (os : List O) → P s → m.count (settle m c s os).state ≤ m.count s + k
settle_short m law P keeps k pos loud c s (o ∷ os) p = omega arith
settle_short m law P keeps k pos loud c s [] p =
    let low : k * (m.count s / k) + m.count s % k ≡ m.count s = omega arith in
    let small : m.count s % k < k = omega arith in
    let b : ℕ = (m.count s / k + 1) * k in
    let b_is : b ≡ k * (m.count s / k) + k = omega arith in
    let zero_is : b % k ≡ 0 = mul-mod_left (m.count s / k + 1) k in
    let h = quiet_short m law P keeps b (λ s t r e q. loud s t r e (rw q zero_is)) (c - m.count s) s p (omega arith) in
    omega (arith, h, b_is)

-- The same with a number of the state in place of k, which steps keep.
pub settle_within : {S I O : Type 0} (m : Timed S I O) → IsTimed m → (k : S → ℕ) → ((s t : S) (os : List O) → m.step s ≡ Some (t, os) → k t ≡ k s) → ((s t : S) → m.step s ≡ Some (t, []) → m.count t % k t ≡ 0 → ⊥) → (c : ℕ) (s : S) (os : List O) → 0 < k s → m.count (settle m c s os).state ≤ m.count s + k s
settle_within {S} {I} {O} m law k keeps loud c s os pos =
    settle_short m law (λ (t : S). k t ≡ k s) (λ t u ps p e. keeps t u ps e ∙ p) (k s) pos
    (λ t u p e z. loud t u e (rw (keeps t u [] e ∙ p) z)) c s os refl
