-- The points of a run.
use Rattle.std.proofs.Common.{◌≡◌, ℕ, zero, suc, ◌+◌, ◌-◌, ◌≤◌, ◌<◌, List, [], ◌∷◌, ◌++◌, Option, Some, None, refl, sym, ap, subst, ◌∙◌, arith, append_assoc}
use Rattle.std.specs.List.{AllByRecursion}
use Rattle.std.specs.Option.{option_and_then}
use Rattle.avm_model.specs.Timed.{Timed, IsTimed, Entry, given, inputs, entry_count, last_count, takes}
use Rattle.avm_model.specs.Rerun.{Moment, outputs, taking, taking_one, stepping, after_taking, run, rerun, IsFront, Replays}
use Rattle.avm_model.proofs.ReplayLaws as laws
use Rattle.view_model.specs.Points.{Point, point, taking_on, taken, stepped_to, next, walked, IsAt, ComesBefore, AllBefore}

-- ---- what is taken

pub taken_count : {S I O : Type 0} (m : Timed S I O) → IsTimed m → (s : S) (is : List I) → m.count (taken m s is).state ≡ m.count s
taken_count m law s [] = refl
taken_count {S} m law s (i ∷ is) = go (λ (t : S). taken_count m law t is) (takes m s i) refl
  where
    go : ((t : S) → m.count (taken m t is).state ≡ m.count t) → (r : Option S) → takes m s i ≡ r → m.count (taking_on r (point s (i ∷ is)) (λ t. taken m t is)).state ≡ m.count s
    go ih None e = refl
    go ih (Some t) e = ih t ∙ (laws.taken m law s t i e).1

-- the next point's count is the next
pub next_count : {S I O : Type 0} (m : Timed S I O) → IsTimed m → (p q : Point S I) → next m p ≡ Some q → m.count q.state ≡ m.count p.state + 1
next_count {S} {I} {O} m law p q e = go (m.step (taken m p.state p.left).state) refl e
  where
    go : (r : Option (S × List O)) → m.step (taken m p.state p.left).state ≡ r → stepped_to (taken m p.state p.left).left r ≡ Some q → m.count q.state ≡ m.count p.state + 1
    go None s h = absurd cc
    go (Some r) s h =
        let is : point r.0 (taken m p.state p.left).left ≡ q = cc in
        let n = law.steps (taken m p.state p.left).state r.0 r.1 s in
        let k = taken_count m law p.state p.left in
        ap (λ (x : Point S I). m.count x.state) (sym is) ∙ omega (arith, n, k)

pub walked_count : {S I O : Type 0} (m : Timed S I O) → IsTimed m → (k : ℕ) (p q : Point S I) → walked m k p ≡ Some q → m.count q.state ≡ m.count p.state + k
walked_count {S} {I} m law zero p q e = let is : p ≡ q = cc in ap (λ (x : Point S I). m.count x.state) (sym is) ∙ omega arith
walked_count {S} {I} m law (suc k) p q e = go (λ (x : Point S I). walked_count m law k x q) (next m p) refl e
  where
    go : ((x : Point S I) → walked m k x ≡ Some q → m.count q.state ≡ m.count x.state + k) → (r : Option (Point S I)) → next m p ≡ r → option_and_then (walked m k) r ≡ Some q → m.count q.state ≡ m.count p.state + suc k
    go ih None n h = absurd cc
    go ih (Some x) n h = omega (arith, ih x h, next_count m law p x n)

-- one count further
pub walked_next : {S I O : Type 0} (m : Timed S I O) (k : ℕ) (p q : Point S I) → walked m k p ≡ Some q → walked m (suc k) p ≡ next m q
walked_next {S} {I} m zero p q e =
    let is : p ≡ q = cc in
    ends (next m p) ∙ ap (next m) is
  where
    ends : (r : Option (Point S I)) → option_and_then (λ (x : Point S I). Some x) r ≡ r
    ends None = refl
    ends (Some x) = refl
walked_next {S} {I} m (suc k) p q e = go (λ (x : Point S I). walked_next m k x q) (next m p) refl e
  where
    go : ((x : Point S I) → walked m k x ≡ Some q → walked m (suc k) x ≡ next m q) → (r : Option (Point S I)) → next m p ≡ r → option_and_then (walked m k) r ≡ Some q → option_and_then (walked m (suc k)) r ≡ next m q
    go ih None n h = absurd cc
    go ih (Some x) n h = ih x h

-- ---- a run that replays reaches each count up to its last entry's

-- the run reaches a count
abbrev Reaches : {S I O : Type 0} → Timed S I O → Point S I → ℕ → Type 0
Reaches {S} {I} m p c = (q : Point S I) × (walked m (c - m.count p.state) p ≡ Some q)

reaches_low : {S I O : Type 0} (m : Timed S I O) (p : Point S I) (c : ℕ) → c ≤ m.count p.state → Reaches m p c
reaches_low m p c le = let none : c - m.count p.state ≡ 0 = omega arith in (p, rw none refl)

reaches_next : {S I O : Type 0} (m : Timed S I O) → IsTimed m → (p q : Point S I) (c : ℕ) → next m p ≡ Some q → Reaches m q c → Reaches m p c
reaches_next {S} {I} m law p q c e h = go (c - m.count p.state) refl
  where
    go : (d : ℕ) → c - m.count p.state ≡ d → Reaches m p c
    go zero d = (p, rw d refl)
    go (suc d) is =
        let n = next_count m law p q e in
        let less : c - m.count q.state ≡ d = omega (arith, n, is) in
        (h.0, rw (is, e, ← less) h.1)

-- the entries that are left of a front, and the count of the last one before them
record Rest {S I O : Type 0} (m : Timed S I O) (s : S) (n : ℕ) (es : List (Entry I O)) (ms : List (Moment S I O)) : Type 0 where
  entries : List (Entry I O)
  count : ℕ
  low : count ≤ m.count s
  high : (c : ℕ) → c ≤ n → c ≤ m.count s → c ≤ count
  front : IsFront entries ms
  last : last_count m n es ≡ last_count m count entries

-- behind the inputs that are taken
past_taken : {S I O : Type 0} (m : Timed S I O) → IsTimed m → (f : S → List I → List (Moment S I O)) (s : S) (is : List I) (n : ℕ) (es : List (Entry I O)) → n ≤ m.count s → IsFront es (taking m s is f) → Rest m s n es (f (taken m s is).state (taken m s is).left)
past_taken m law f s [] n es le h = record { entries = es; count = n; low = le; high = λ c a b. a; front = h; last = refl }
past_taken {S} {I} {O} m law f s (i ∷ is) n es le h = go (λ (t : S). λ k es. past_taken m law f t is k es) (takes m s i) refl h
  where
    on : (t : S) → takes m s i ≡ Some t → (es : List (Entry I O)) → IsFront es (record { entry = given i; state = t; lacking = [] } ∷ taking m t is f) → ((k : ℕ) (es : List (Entry I O)) → k ≤ m.count t → IsFront es (taking m t is f) → Rest m t k es (f (taken m t is).state (taken m t is).left)) → Rest m s n es (f (taken m t is).state (taken m t is).left)
    on t e [] h ih = record { entries = []; count = n; low = le; high = λ c a b. a; front = tt; last = refl }
    on t e (x ∷ es) h ih =
        let c = laws.taken m law s t i e in
        let k : entry_count m x ≡ m.count s = ap (entry_count m) h.0 ∙ c.0 in
        let r = ih (entry_count m x) es (omega (arith, k, c.1)) h.1 in
        record { entries = r.entries; count = r.count; low = omega (arith, r.low, c.1); high = λ d a b. r.high d (omega (arith, b, k)) (omega (arith, b, c.1)); front = r.front; last = r.last }

    go : ((t : S) (k : ℕ) (es : List (Entry I O)) → k ≤ m.count t → IsFront es (taking m t is f) → Rest m t k es (f (taken m t is).state (taken m t is).left)) → (r : Option S) → takes m s i ≡ r → IsFront es (taking_one r i (f s (i ∷ is)) (λ t. taking m t is f)) → Rest m s n es (f (taking_on r (point s (i ∷ is)) (λ t. taken m t is)).state (taking_on r (point s (i ∷ is)) (λ t. taken m t is)).left)
    go ih None e h = record { entries = es; count = n; low = le; high = λ c a b. a; front = h; last = refl }
    go ih (Some t) e h = on t e es h (ih t)

-- behind the outputs of a step
past_outputs : {S I O : Type 0} (m : Timed S I O) (t : S) (ms : List (Moment S I O)) (os : List O) (n : ℕ) (es : List (Entry I O)) → AllByRecursion (λ o. m.output_count o ≡ m.count t) os → n ≤ m.count t → IsFront es (outputs t os ++ ms) → Rest m t n es ms
past_outputs m t ms [] n es stamps le h = record { entries = es; count = n; low = le; high = λ c a b. a; front = h; last = refl }
past_outputs m t ms (o ∷ os) n [] stamps le h = record { entries = []; count = n; low = le; high = λ c a b. a; front = tt; last = refl }
past_outputs m t ms (o ∷ os) n (x ∷ es) stamps le h =
    let k : entry_count m x ≡ m.count t = ap (entry_count m) h.0 ∙ stamps.0 in
    let r = past_outputs m t ms os (entry_count m x) es stamps.1 (omega (arith, k)) h.1 in
    record { entries = r.entries; count = r.count; low = r.low; high = λ c a b. r.high c (omega (arith, b, k)) b; front = r.front; last = r.last }

no_more : {S I O : Type 0} (m : Timed S I O) (n : ℕ) (es : List (Entry I O)) → IsFront {S = S} es [] → last_count m n es ≡ n
no_more m n [] h = refl
no_more m n (e ∷ es) h = absurd h

reaches_last : {S I O : Type 0} (m : Timed S I O) → IsTimed m → (d : ℕ) (s : S) (is : List I) (n : ℕ) (es : List (Entry I O)) → n ≤ m.count s → IsFront es (run m d s is) → Reaches m (point s is) (last_count m n es)
reaches_last {S} {I} {O} m law zero s is n es le h =
    let r = past_taken m law (after_taking m 0) s is n es le h in
    reaches_low m (point s is) (last_count m n es) (omega (arith, r.last, r.low, no_more m r.count r.entries r.front))
reaches_last {S} {I} {O} m law (suc d) s is n es le h = go (λ (t : S). λ is n es. reaches_last m law d t is n es) (m.step q.state) refl r.front
  where
    q : Point S I
    q = taken m s is

    r : Rest m s n es (after_taking m (suc d) q.state q.left)
    r = past_taken m law (after_taking m (suc d)) s is n es le h

    go : ((t : S) (is : List I) (n : ℕ) (es : List (Entry I O)) → n ≤ m.count t → IsFront es (run m d t is) → Reaches m (point t is) (last_count m n es)) → (x : Option (S × List O)) → m.step q.state ≡ x → IsFront r.entries (stepping x (λ t. run m d t q.left)) → Reaches m (point s is) (last_count m n es)
    go ih None e f = reaches_low m (point s is) (last_count m n es) (omega (arith, r.last, r.low, no_more m r.count r.entries f))
    go ih (Some x) e f =
        let c = law.steps q.state x.0 x.1 e in
        let k = taken_count m law s is in
        let b = past_outputs m x.0 (run m d x.0 q.left) x.1 r.count r.entries (law.stamps q.state x.0 x.1 e) (omega (arith, c, k, r.low)) f in
        let on = ih x.0 q.left b.count b.entries b.low b.front in
        let there : next m (point s is) ≡ Some (point x.0 q.left) = ap (stepped_to q.left) e in
        let last : last_count m n es ≡ last_count m b.count b.entries = r.last ∙ b.last in
        subst (λ (c : ℕ). Reaches m (point s is) c) (sym last) (reaches_next m law (point s is) (point x.0 q.left) (last_count m b.count b.entries) there on)

-- fewer counts on
pub walked_less : {S I O : Type 0} (m : Timed S I O) (n k : ℕ) (p q : Point S I) → k ≤ n → walked m n p ≡ Some q → (x : Point S I) × (walked m k p ≡ Some x)
walked_less m n zero p q le e = (p, refl)
walked_less m zero (suc k) p q le e = absurd (omega arith)
walked_less {S} {I} m (suc n) (suc k) p q le e = go (λ (x : Point S I). walked_less m n k x q (omega arith)) (next m p) e
  where
    go : ((x : Point S I) → walked m n x ≡ Some q → (y : Point S I) × (walked m k x ≡ Some y)) → (r : Option (Point S I)) → option_and_then (walked m n) r ≡ Some q → (y : Point S I) × (option_and_then (walked m k) r ≡ Some y)
    go ih None h = absurd cc
    go ih (Some x) h = ih x h

-- the last count is not below one that neither the start nor the count before the entries is below
last_high : {S I O : Type 0} (m : Timed S I O) → IsTimed m → (d : ℕ) (s : S) (is : List I) (n : ℕ) (es : List (Entry I O)) → n ≤ m.count s → IsFront es (run m d s is) → (c : ℕ) → c ≤ n → c ≤ m.count s → c ≤ last_count m n es
last_high {S} {I} {O} m law zero s is n es le h c a b =
    let r = past_taken m law (after_taking m 0) s is n es le h in
    omega (arith, r.high c a b, r.last, no_more m r.count r.entries r.front)
last_high {S} {I} {O} m law (suc d) s is n es le h c a b = go (λ (t : S). λ is n es. last_high m law d t is n es) (m.step q.state) refl r.front
  where
    q : Point S I
    q = taken m s is

    r : Rest m s n es (after_taking m (suc d) q.state q.left)
    r = past_taken m law (after_taking m (suc d)) s is n es le h

    go : ((t : S) (is : List I) (n : ℕ) (es : List (Entry I O)) → n ≤ m.count t → IsFront es (run m d t is) → (c : ℕ) → c ≤ n → c ≤ m.count t → c ≤ last_count m n es) → (x : Option (S × List O)) → m.step q.state ≡ x → IsFront r.entries (stepping x (λ t. run m d t q.left)) → c ≤ last_count m n es
    go ih None e f = omega (arith, r.high c a b, r.last, no_more m r.count r.entries f)
    go ih (Some x) e f =
        let k = law.steps q.state x.0 x.1 e in
        let same = taken_count m law s is in
        let o = past_outputs m x.0 (run m d x.0 q.left) x.1 r.count r.entries (law.stamps q.state x.0 x.1 e) (omega (arith, k, same, r.low)) f in
        let less : c ≤ m.count x.0 = omega (arith, k, same, b) in
        let on : c ≤ last_count m o.count o.entries = ih x.0 q.left o.count o.entries o.low o.front c (o.high c (r.high c a b) less) less in
        omega (arith, on, o.last, r.last)

pub whole_run : {S I O : Type 0} (m : Timed S I O) → IsTimed m → (s : S) (es : List (Entry I O)) → Replays m s es → (q : Point S I) × (walked m (last_count m 0 es - m.count s) (point s (inputs es)) ≡ Some q)
whole_run m law s es h = reaches_last m law (last_count m 0 es - m.count s) s (inputs es) 0 es (omega arith) h

pub every_count : {S I O : Type 0} (m : Timed S I O) → IsTimed m → (s : S) (es : List (Entry I O)) (c : ℕ) → Replays m s es → m.count s ≤ c → c ≤ last_count m 0 es → (p : Point S I) × IsAt m s (inputs es) c p
every_count m law s es c h low high =
    let w = whole_run m law s es h in
    let k = walked_less m (last_count m 0 es - m.count s) (c - m.count s) (point s (inputs es)) w.0 (omega arith) w.1 in
    (k.0, record { low = low; on = k.1 })

pub at_count : {S I O : Type 0} (m : Timed S I O) → IsTimed m → (s : S) (is : List I) (c : ℕ) (p : Point S I) → IsAt m s is c p → m.count p.state ≡ c
at_count m law s is c p a = let n = walked_count m law (c - m.count s) (point s is) p a.on in omega (arith, n, a.low)

-- ---- the run goes on from each of its points

all_join : {A : Type 0} (P : A → Type 0) (xs ys : List A) → AllByRecursion P xs → AllByRecursion P ys → AllByRecursion P (xs ++ ys)
all_join P [] ys a b = b
all_join P (x ∷ xs) ys a b = (a.0, all_join P xs ys a.1 b)

-- moments before a count, and those behind them
abbrev Cuts : {S I O : Type 0} → Timed S I O → ℕ → List (Moment S I O) → List (Moment S I O) → Type 0
Cuts {S} {I} {O} m c all rest = (before : List (Moment S I O)) × AllBefore m c before × (all ≡ before ++ rest)

cuts_on : {S I O : Type 0} (m : Timed S I O) (c : ℕ) (a b d : List (Moment S I O)) → Cuts m c a b → Cuts m c b d → Cuts m c a d
cuts_on {S} {I} {O} m c a b d x y = (
  x.0 ++ y.0,
  all_join (λ (z : Moment S I O). ComesBefore m c z.entry) x.0 y.0 x.1 y.1,
  x.2 ∙ ap (λ (l : List (Moment S I O)). x.0 ++ l) y.2 ∙ sym (append_assoc x.0 y.0 d),
)

cuts_taken : {S I O : Type 0} (m : Timed S I O) → IsTimed m → (c : ℕ) (f : S → List I → List (Moment S I O)) (s : S) (is : List I) → m.count s < c → Cuts m c (taking m s is f) (f (taken m s is).state (taken m s is).left)
cuts_taken m law c f s [] lt = ([], tt, refl)
cuts_taken {S} {I} {O} m law c f s (i ∷ is) lt = go (λ (t : S). cuts_taken m law c f t is) (takes m s i) refl
  where
    go : ((t : S) → m.count t < c → Cuts m c (taking m t is f) (f (taken m t is).state (taken m t is).left)) → (r : Option S) → takes m s i ≡ r → Cuts m c (taking_one r i (f s (i ∷ is)) (λ t. taking m t is f)) (f (taking_on r (point s (i ∷ is)) (λ t. taken m t is)).state (taking_on r (point s (i ∷ is)) (λ t. taken m t is)).left)
    go ih None e = ([], tt, refl)
    go ih (Some t) e =
        let k = laws.taken m law s t i e in
        let r = ih t (omega (arith, k.1, lt)) in
        let first : m.input_count i < c = omega (arith, k.0, lt) in
        (record { entry = given i; state = t; lacking = [] } ∷ r.0, (first, r.1), ap (λ (l : List (Moment S I O)). record { entry = given i; state = t; lacking = [] } ∷ l) r.2)

outputs_before : {S I O : Type 0} (m : Timed S I O) (c : ℕ) (t : S) (os : List O) → m.count t ≤ c → AllByRecursion (λ o. m.output_count o ≡ m.count t) os → AllBefore m c (outputs t os)
outputs_before m c t [] le h = tt
outputs_before m c t (o ∷ os) le h = (omega (arith, h.0, le), outputs_before m c t os le h.1)

cuts_next : {S I O : Type 0} (m : Timed S I O) → IsTimed m → (c n : ℕ) (p q : Point S I) → next m p ≡ Some q → m.count q.state ≤ c → c ≤ n → Cuts m c (rerun m p.state p.left n) (rerun m q.state q.left n)
cuts_next {S} {I} {O} m law c n p q e le high = go (m.step t.state) refl e
  where
    t : Point S I
    t = taken m p.state p.left

    count : m.count q.state ≡ m.count p.state + 1
    count = next_count m law p q e

    go : (r : Option (S × List O)) → m.step t.state ≡ r → stepped_to t.left r ≡ Some q → Cuts m c (rerun m p.state p.left n) (rerun m q.state q.left n)
    go None s h = absurd cc
    go (Some r) s h =
        let is : point r.0 t.left ≡ q = cc in
        let state : r.0 ≡ q.state = ap (λ (x : Point S I). x.state) is in
        let left : t.left ≡ q.left = ap (λ (x : Point S I). x.left) is in
        let d : n - m.count p.state ≡ suc (n - m.count q.state) = omega (arith, count, le, high) in
        let first = cuts_taken m law c (after_taking m (suc (n - m.count q.state))) p.state p.left (omega (arith, count, le)) in
        let step : after_taking m (suc (n - m.count q.state)) t.state t.left ≡ outputs r.0 r.1 ++ run m (n - m.count q.state) r.0 t.left = ap (λ (x : Option (S × List O)). stepping x (λ u. run m (n - m.count q.state) u t.left)) s in
        let same : run m (n - m.count q.state) r.0 t.left ≡ rerun m q.state q.left n = rw (state, left) refl in
        let stamps = law.stamps t.state r.0 r.1 s in
        let second : Cuts m c (after_taking m (suc (n - m.count q.state)) t.state t.left) (rerun m q.state q.left n) = (outputs r.0 r.1, outputs_before m c r.0 r.1 (rw state le) stamps, step ∙ ap (λ (l : List (Moment S I O)). outputs r.0 r.1 ++ l) same) in
        let both = cuts_on m c _ _ _ first second in
        rw d both

runs_on : {S I O : Type 0} (m : Timed S I O) → IsTimed m → (c n k : ℕ) (p q : Point S I) → walked m k p ≡ Some q → m.count p.state + k ≤ c → c ≤ n → Cuts m c (rerun m p.state p.left n) (rerun m q.state q.left n)
runs_on {S} {I} {O} m law c n zero p q e le high =
    let is : p ≡ q = cc in
    ([], tt, ap (λ (x : Point S I). rerun m x.state x.left n) is)
runs_on {S} {I} {O} m law c n (suc k) p q e le high = go (λ (x : Point S I). runs_on m law c n k x q) (next m p) refl e
  where
    go : ((x : Point S I) → walked m k x ≡ Some q → m.count x.state + k ≤ c → c ≤ n → Cuts m c (rerun m x.state x.left n) (rerun m q.state q.left n)) → (r : Option (Point S I)) → next m p ≡ r → option_and_then (walked m k) r ≡ Some q → Cuts m c (rerun m p.state p.left n) (rerun m q.state q.left n)
    go ih None s h = absurd cc
    go ih (Some x) s h =
        let count = next_count m law p x s in
        cuts_on m c _ _ _ (cuts_next m law c n p x s (omega (arith, count, le)) high) (ih x h (omega (arith, count, le)) high)

pub run_from : {S I O : Type 0} (m : Timed S I O) → IsTimed m → (s : S) (is : List I) (c n : ℕ) (p : Point S I) → IsAt m s is c p → c ≤ n → (before : List (Moment S I O)) × AllBefore m c before × (rerun m s is n ≡ before ++ rerun m p.state p.left n)
run_from m law s is c n p a le = runs_on m law c n (c - m.count s) (point s is) p a.on (omega (arith, a.low)) le

-- ---- entries behind one that has the start's count

same_last : {S I O : Type 0} (m : Timed S I O) (s : S) (es : List (Entry I O)) → last_count m 0 es - m.count s ≡ last_count m (m.count s) es - m.count s
same_last m s [] = omega arith
same_last m s (e ∷ es) = refl

-- the run reaches the last entry's count, which is not below the start's
pub record Viewed {S I O : Type 0} (m : Timed S I O) (s : S) (es : List (Entry I O)) : Type 0 where
  pub low : m.count s ≤ last_count m (m.count s) es
  pub on : (q : Point S I) × (walked m (last_count m (m.count s) es - m.count s) (point s (inputs es)) ≡ Some q)

pub viewed : {S I O : Type 0} (m : Timed S I O) → IsTimed m → (s : S) (es : List (Entry I O)) → Replays m s es → Viewed m s es
viewed {S} {I} {O} m law s es h =
    let same = same_last m s es in
    let k : IsFront es (run m (last_count m (m.count s) es - m.count s) s (inputs es)) = subst (λ (d : ℕ). IsFront es (run m d s (inputs es))) same h in
    record {
      low = last_high m law (last_count m (m.count s) es - m.count s) s (inputs es) (m.count s) es (omega arith) k (m.count s) (omega arith) (omega arith);
      on = reaches_last m law (last_count m (m.count s) es - m.count s) s (inputs es) (m.count s) es (omega arith) k;
    }
