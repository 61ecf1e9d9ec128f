-- The run goes on from where the replay of its first entries stands.
use Rattle.std.proofs.Common.{◌≡◌, ℕ, zero, suc, ◌+◌, ◌-◌, ◌≤◌, ◌<◌, Bool, true, false, cond, eqb, List, [], ◌∷◌, ◌++◌, Option, Some, None, refl, sym, ap, subst, ◌∙◌, arith, ne_eqb}
use Rattle.std.specs.List.{AllByRecursion}
use Rattle.std.specs.Option.{option_and_then}
use Rattle.avm_model.specs.Timed.{Timed, IsTimed, Entry, given, made, inputs, entry_count, last_count, takes}
use Rattle.avm_model.specs.Rerun.{Stand, Stands, Replays, start, after}
use Rattle.avm_model.specs.Judge.{judge, judge_all, settled, settle, quiet, quiet_out, quiet_step, compare, accept, stand_of}
use Rattle.avm_model.proofs.ReplayLaws as laws
use Rattle.avm_model.proofs.ReplayLaws.{Fresh, NoneBefore, settle_law}
use Rattle.avm_model.proofs.ReplayTheorems.{judged_of_replays, judged-Stands, judge_all-append}
use Rattle.view_model.specs.Points.{Point, point, taken, taking_on, stepped_to, next, walked, IsAt}
use Rattle.view_model.proofs.Walks.{next_count, walked_count, walked_next, viewed}

-- ---- what one judged entry leaves

compare_is : {S I O : Type 0} (m : Timed S I O) → IsTimed m → (o : O) (t : S) (os : List O) (k : Stand S O) → compare m o t os ≡ Some k → (os ≡ o ∷ k.pending) × (t ≡ k.state)
compare_is m law o t [] k e = absurd cc
compare_is m law o t (q ∷ qs) k e = go (m.same o q) refl e
  where
    go : (b : Bool) → m.same o q ≡ b → cond b (Some (record { state = t; pending = qs })) None ≡ Some k → (q ∷ qs ≡ o ∷ k.pending) × (t ≡ k.state)
    go true p h = let e1 = law.same_is o q p in let e2 : record { state = t; pending = qs } ≡ k = cc in (rw (← e2, e1) refl, rw (← e2) refl)
    go false p h = absurd cc

accept_is : {S I O : Type 0} (m : Timed S I O) (i : I) (t : S) (os : List O) (k : Stand S O) → accept m i t os ≡ Some k → (takes m t i ≡ Some k.state) × (k.pending ≡ [])
accept_is m i t (q ∷ qs) k e = absurd cc
accept_is m i t [] k e = go (takes m t i) refl e
  where
    go : (r : _) → takes m t i ≡ r → stand_of r ≡ Some k → (takes m t i ≡ Some k.state) × (k.pending ≡ [])
    go None p h = absurd cc
    go (Some u) p h = let e2 : record { state = u; pending = [] } ≡ k = cc in (rw (← e2) p, rw (← e2) refl)

record Judged {S I O : Type 0} (m : Timed S I O) (j : Stand S O) (e : Entry I O) (k : Stand S O) : Type 0 where
  low : m.count j.state ≤ entry_count m e
  is : m.count k.state ≡ entry_count m e
  fresh : Fresh m k

settled_law : {S I O : Type 0} (m : Timed S I O) → IsTimed m → (e : Entry I O) (q k : Stand S O) → Fresh m q → settled m e q ≡ Some k → (m.count q.state ≡ entry_count m e) × (m.count k.state ≡ entry_count m e) × Fresh m k
settled_law {O} m law (made o) q k f h =
    let c = compare_is m law o q.state q.pending k h in
    let f2 : AllByRecursion (λ p. m.output_count p ≡ m.count q.state) (o ∷ k.pending) = subst (λ (ps : List O). AllByRecursion (λ p. m.output_count p ≡ m.count q.state) ps) c.0 f in
    let n : m.count q.state ≡ m.count k.state = ap m.count c.1 in
    (sym f2.0, sym n ∙ sym f2.0, rw (← n) f2.1)
settled_law m law (given i) q k f h =
    let a = accept_is m i q.state q.pending k h in
    let t = laws.taken m law q.state k.state i a.0 in
    (sym t.0, t.1 ∙ sym t.0, rw a.1 tt)

judge_law : {S I O : Type 0} (m : Timed S I O) → IsTimed m → (j : Stand S O) (e : Entry I O) (k : Stand S O) → Fresh m j → judge m j e ≡ Some k → Judged m j e k
judge_law m law j e k f h =
    let s = settle_law m law (entry_count m e) j.state j.pending f in
    let d = settled_law m law e (settle m (entry_count m e) j.state j.pending) k s.1 h in
    record { low = omega (arith, s.0, d.0); is = d.1; fresh = d.2 }

and_then_is : {A B : Type 0} (r : Option A) (f : A → Option B) (y : B) → option_and_then f r ≡ Some y → (x : A) × (r ≡ Some x) × (f x ≡ Some y)
and_then_is None f y e = absurd cc
and_then_is (Some x) f y e = (x, refl, e)

-- ---- no input of what is judged comes before

less_before : {S I O : Type 0} (m : Timed S I O) (c d : ℕ) (is : List I) → c ≤ d → NoneBefore m d is → NoneBefore m c is
less_before m c d [] le h = tt
less_before m c d (i ∷ is) le h = omega (arith, h)

inputs_rise : {S I O : Type 0} (m : Timed S I O) → IsTimed m → (es : List (Entry I O)) (j k : Stand S O) → Fresh m j → judge_all m j es ≡ Some k → NoneBefore m (m.count j.state) (inputs es)
inputs_rise m law [] j k f h = tt
inputs_rise m law (given i ∷ es) j k f h =
    let b = and_then_is (judge m j (given i)) (λ q. judge_all m q es) k h in
    (judge_law m law j (given i) b.0 f b.1).low
inputs_rise m law (made o ∷ es) j k f h =
    let b = and_then_is (judge m j (made o)) (λ q. judge_all m q es) k h in
    let one = judge_law m law j (made o) b.0 f b.1 in
    less_before m (m.count j.state) (m.count b.0.state) (inputs es) (omega (arith, one.low, one.is)) (inputs_rise m law es b.0 k one.fresh b.2)

inputs_after : {S I O : Type 0} (m : Timed S I O) → IsTimed m → (e : Entry I O) (es : List (Entry I O)) (k f : Stand S O) → Fresh m k → m.count k.state ≡ entry_count m e → judge_all m k es ≡ Some f → NoneBefore m (entry_count m e) (inputs (e ∷ es))
inputs_after m law (given i) es k f fresh is h = omega arith
inputs_after m law (made o) es k f fresh is h = rw (← is) (inputs_rise m law es k f fresh h)

not_taken : {S I O : Type 0} (m : Timed S I O) (s : S) (is : List I) → NoneBefore m (suc (m.count s)) is → taken m s is ≡ point s is
not_taken m s [] h = refl
not_taken m s (i ∷ is) h =
    let e : eqb (m.input_count i) (m.count s) ≡ false = ne_eqb _ _ (λ (p : m.input_count i ≡ m.count s). omega (arith, h)) in
    rw e refl

-- ---- where a replay stands, the run is at a point from which the same inputs are taken

record IsOn {S I O : Type 0} (m : Timed S I O) (s : S) (all : List I) (t : S) (is : List I) : Type 0 where
  at : Point S I
  steps : ℕ
  on : walked m steps (point s all) ≡ Some at
  count : m.count at.state ≡ m.count t
  same : taken m at.state at.left ≡ taken m t is

-- one step
on_next : {S I O : Type 0} (m : Timed S I O) (s : S) (all : List I) (t u : S) (os : List O) (is : List I) → IsOn m s all t is → taken m t is ≡ point t is → m.step t ≡ Some (u, os) → IsOn m s all u is
on_next {S} {I} {O} m s all t u os is h free e =
    let there : next m h.at ≡ Some (point u is) = ap (λ (p : Point S I). stepped_to p.left (m.step p.state)) (h.same ∙ free) ∙ ap (stepped_to is) e in
    record { at = point u is; steps = suc h.steps; on = walked_next m h.steps (point s all) h.at h.on ∙ there; count = refl; same = refl }

on_quiet : {S I O : Type 0} (m : Timed S I O) → IsTimed m → (s : S) (all : List I) (k c : ℕ) (t : S) (is : List I) → (0 < k → m.count t + k ≤ c) → NoneBefore m c is → IsOn m s all t is → IsOn m s all (quiet m k t).state is
on_quiet m law s all zero c t is below none h = h
on_quiet {S} {I} {O} m law s all (suc k) c t is below none h =
    let free : taken m t is ≡ point t is = not_taken m t is (less_before m (suc (m.count t)) c is (omega (arith, below (omega arith))) none) in
    go (λ (u : S). on_quiet m law s all k c u is) free (m.step t) refl
  where
    out : ((u : S) → (0 < k → m.count u + k ≤ c) → NoneBefore m c is → IsOn m s all u is → IsOn m s all (quiet m k u).state is) → (u : S) (os : List O) → m.count u ≡ m.count t + 1 → IsOn m s all u is → IsOn m s all (quiet_out (quiet m k) u os).state is
    out ih u [] n on = ih u (λ (lt : 0 < k). omega (arith, n, below (omega arith))) none on
    out ih u (o ∷ os) n on = on

    go : ((u : S) → (0 < k → m.count u + k ≤ c) → NoneBefore m c is → IsOn m s all u is → IsOn m s all (quiet m k u).state is) → taken m t is ≡ point t is → (r : Option (S × List O)) → m.step t ≡ r → IsOn m s all (quiet_step (quiet m k) t r).state is
    go ih free None e = h
    go ih free (Some r) e = out ih r.0 r.1 (law.steps t r.0 r.1 e) (on_next m s all t r.0 r.1 is h free e)

on_settled : {S I O : Type 0} (m : Timed S I O) → IsTimed m → (s : S) (all : List I) (c : ℕ) (t : S) (os : List O) (is : List I) → NoneBefore m c is → IsOn m s all t is → IsOn m s all (settle m c t os).state is
on_settled m law s all c t [] is none h = on_quiet m law s all (c - m.count t) c t is (λ (lt : 0 < c - m.count t). omega arith) none h
on_settled m law s all c t (o ∷ os) is none h = h

-- one entry
on_entry : {S I O : Type 0} (m : Timed S I O) → IsTimed m → (s : S) (all : List I) (e : Entry I O) (q k : Stand S O) (es : List (Entry I O)) → settled m e q ≡ Some k → IsOn m s all q.state (inputs (e ∷ es)) → IsOn m s all k.state (inputs es)
on_entry {S} m law s all (made o) q k es e h = subst (λ (t : S). IsOn m s all t (inputs es)) (compare_is m law o q.state q.pending k e).1 h
on_entry {S} {I} {O} m law s all (given i) q k es e h =
    let a : takes m q.state i ≡ Some k.state = (accept_is m i q.state q.pending k e).0 in
    let n = laws.taken m law q.state k.state i a in
    let more : taken m q.state (i ∷ inputs es) ≡ taken m k.state (inputs es) = ap (λ (r : Option S). taking_on r (point q.state (i ∷ inputs es)) (λ t. taken m t (inputs es))) a in
    record { at = h.at; steps = h.steps; on = h.on; count = h.count ∙ sym n.1; same = h.same ∙ more }

on_all : {S I O : Type 0} (m : Timed S I O) → IsTimed m → (s : S) (all : List I) (es rest : List (Entry I O)) (j k f : Stand S O) → Fresh m j → judge_all m j es ≡ Some k → judge_all m k rest ≡ Some f → IsOn m s all j.state (inputs (es ++ rest)) → IsOn m s all k.state (inputs rest)
on_all {S} {I} {O} m law s all [] rest j k f fresh e g h = let same : j ≡ k = cc in subst (λ (x : Stand S O). IsOn m s all x.state (inputs rest)) same h
on_all {S} {I} {O} m law s all (e ∷ es) rest j k f fresh is g h =
    let b = and_then_is (judge m j e) (λ q. judge_all m q es) k is in
    let one = judge_law m law j e b.0 fresh b.1 in
    let whole : judge_all m b.0 (es ++ rest) ≡ Some f = judge_all-append m b.0 es rest ∙ ap (option_and_then (λ (x : Stand S O). judge_all m x rest)) b.2 ∙ g in
    let none = inputs_after m law e (es ++ rest) b.0 f one.fresh one.is whole in
    let q = settle m (entry_count m e) j.state j.pending in
    let there = on_settled m law s all (entry_count m e) j.state j.pending (inputs (e ∷ es ++ rest)) none h in
    on_all m law s all es rest b.0 k f one.fresh b.2 g (on_entry m law s all e q b.0 (es ++ rest) b.1 there)

-- ---- the run goes on from where the first entries' replay stands

pub record Resumes {S I O : Type 0} (m : Timed S I O) (s : S) (all : List I) (last : ℕ) (p : Point S I) : Type 0 where
  -- the next point is one of the run's
  pub next_is : (q : Point S I) → next m p ≡ Some q → IsAt m s all (m.count q.state) q
  -- the run goes on to its last count
  pub low : m.count s ≤ m.count p.state
  pub on : m.count p.state ≤ last → (q : Point S I) × (walked m (last - m.count p.state) p ≡ Some q)

next_same : {S I O : Type 0} (m : Timed S I O) (p q : Point S I) → taken m p.state p.left ≡ taken m q.state q.left → next m p ≡ next m q
next_same {S} {I} m p q e = ap (λ (x : Point S I). stepped_to x.left (m.step x.state)) e

goes : {S I O : Type 0} (m : Timed S I O) (k : ℕ) (p q x : Point S I) → next m p ≡ next m q → walked m k p ≡ Some x → (y : Point S I) × (walked m k q ≡ Some y)
goes m zero p q x e h = (q, refl)
goes {S} {I} m (suc k) p q x e h = (x, ap (option_and_then (walked m k)) (sym e) ∙ h)

-- walks one after another
walked_on : {S I O : Type 0} (m : Timed S I O) (n k t : ℕ) (p q x : Point S I) → t ≡ n + k → walked m n p ≡ Some q → walked m t p ≡ Some x → walked m k q ≡ Some x
walked_on {S} {I} m zero k t p q x sum e h =
    let is : p ≡ q = cc in
    let long : t ≡ k = omega (arith, sum) in
    subst (λ (y : Point S I). walked m k y ≡ Some x) is (subst (λ (d : ℕ). walked m d p ≡ Some x) long h)
walked_on {S} {I} m (suc n) k t p q x sum e h = go (λ (y : Point S I). walked_on m n k (n + k) y q x refl) (next m p) e (subst (λ (d : ℕ). walked m d p ≡ Some x) long h)
  where
    long : t ≡ suc (n + k)
    long = omega (arith, sum)

    go : ((y : Point S I) → walked m n y ≡ Some q → walked m (n + k) y ≡ Some x → walked m k q ≡ Some x) → (r : Option (Point S I)) → option_and_then (walked m n) r ≡ Some q → option_and_then (walked m (n + k)) r ≡ Some x → walked m k q ≡ Some x
    go ih None a b = absurd cc
    go ih (Some y) a b = ih y a b

pub resumes : {S I O : Type 0} (m : Timed S I O) → IsTimed m → (s : S) (es rest : List (Entry I O)) (here : Stand S O) → Stands m s es here → Replays m s (es ++ rest) → Resumes m s (inputs (es ++ rest)) (last_count m (m.count s) (es ++ rest)) (point here.state (inputs rest))
resumes {S} {I} {O} m law s es rest here stands replays =
    let all = inputs (es ++ rest) in
    let front : judge_all m (start s) es ≡ Some here = judged-Stands m law s es here stands in
    let whole = judged_of_replays m law s (es ++ rest) replays in
    let behind : judge_all m here rest ≡ Some (after m s (es ++ rest)) = ap (option_and_then (λ (x : Stand S O). judge_all m x rest)) (sym front) ∙ sym (judge_all-append m (start s) es rest) ∙ whole in
    let h : IsOn m s all here.state (inputs rest) = on_all m law s all es rest (start s) here (after m s (es ++ rest)) tt front behind (record { at = point s all; steps = 0; on = refl; count = refl; same = refl }) in
    let n = walked_count m law h.steps (point s all) h.at h.on in
    let same : next m h.at ≡ next m (point here.state (inputs rest)) = next_same m h.at (point here.state (inputs rest)) h.same in
    let v = viewed m law s (es ++ rest) replays in
    record {
      next_is = λ q e.
          let there : next m h.at ≡ Some q = same ∙ e in
          let c = next_count m law h.at q there in
          let k : m.count q.state - m.count s ≡ suc h.steps = omega (arith, c, n) in
          record { low = omega (arith, c, n); on = rw k (walked_next m h.steps (point s all) h.at h.on ∙ there) };
      low = omega (arith, n, h.count);
      on = λ le.
          let k : last_count m (m.count s) (es ++ rest) - m.count s ≡ h.steps + (last_count m (m.count s) (es ++ rest) - m.count here.state) = omega (arith, n, h.count, le) in
          let far = walked_on m h.steps (last_count m (m.count s) (es ++ rest) - m.count here.state) (last_count m (m.count s) (es ++ rest) - m.count s) (point s all) h.at v.on.0 k h.on v.on.1 in
          goes m (last_count m (m.count s) (es ++ rest) - m.count here.state) h.at (point here.state (inputs rest)) v.on.0 same far;
    }
