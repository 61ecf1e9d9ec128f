-- The cover in one pass of the chain: at each entry the first authenticator that matches there takes the best one's place.
use Rattle.std.proofs.Common.{◌≡◌, ℕ, ◌+◌, ◌<◌, Bool, true, false, cond, nat_eq, nat_lt, ◌&&◌, List, [], ◌∷◌, map, Option, Some, None, option_map, refl, sym, ap, ◌∙◌, arith, eqb-true, lt-ltb, subst}
use Rattle.std.specs.Bool.{⊤}
use Rattle.std.proofs.lemmas.Bool.{le-ltb}
use Rattle.std.specs.Str.{bytes_eq}
use Rattle.avm_num.proofs.Numbers.{and_true}
use Rattle.avm_model.specs.Auth.{AuthData}
use Rattle.avm_model.specs.Basics.{first_at, or_else}
use Rattle.avm_model.specs.Chain.{next_hash}
use Rattle.avm_model.specs.Entries.{numbered}
use Rattle.avm_model.specs.Frame.{FrameData}
use Rattle.avm_model.specs.Marks.{hash_in, mark_at, marked, is_same, better, cover_from, cover}
use Rattle.avm_model.specs.declared.judged.Marked.{Marked}
use Rattle.audit_stream.specs.Numbers.{least_above, Ahead}
use Rattle.audit_stream.proofs.Aheads.{least_ahead, ahead_more, ahead_first}
use Rattle.auditor.specs.Covering.{is_at}
use Rattle.auditor.proofs.Cuts.{none_before, from_first}
use Rattle.audit_stream.proofs.MarkLaws.{mark_same}

-- what is taken at a number, and what is taken behind it
abbrev At : ℕ → Option (ℕ × ℕ) → Type 0
At q None = ⊤
At q (Some p) = p.1 ≡ q

abbrev Behind : ℕ → Option (ℕ × ℕ) → Type 0
Behind q None = ⊤
Behind q (Some p) = q < p.1

else_none : {A : Type 0} (o : Option A) → or_else o None ≡ o
else_none None = refl
else_none (Some x) = refl

else_some : {A : Type 0} (o : Option A) (x : A) (more : Option A) → or_else (or_else o (Some x)) more ≡ or_else o (Some x)
else_some None x more = refl
else_some (Some y) x more = refl

else_assoc : {A : Type 0} (a b c : Option A) → or_else a (or_else b c) ≡ or_else (or_else a b) c
else_assoc None b c = refl
else_assoc (Some x) b c = refl

at_else : (q i : ℕ) (o : Option (ℕ × ℕ)) → At q o → At q (or_else o (Some (i, q)))
at_else q i None h = refl
at_else q i (Some p) h = h

better_not : (i : ℕ) (m : Marked) (o : Option (ℕ × ℕ)) → is_same m.mark ≡ false → better i m o ≡ o
better_not i m None e = rw e refl
better_not i m (Some b) e = rw e refl

-- a match at the number is taken where nothing is taken there or behind it
better_here : (i q : ℕ) (m : Marked) (here later : Option (ℕ × ℕ)) → is_same m.mark ≡ true → m.seq ≡ q → At q here → Behind q later → better i m (or_else later here) ≡ or_else later (or_else here (Some (i, q)))
better_here i q m None None e s l h = rw (e, s) refl
better_here i q m (Some p) None e s l h = rw (e, le-ltb p.1 m.seq (omega arith)) refl
better_here i q m here (Some p) e s l h = rw (e, le-ltb p.1 m.seq (omega arith)) refl

-- a match behind the number is taken whatever is taken there
better_later : (i q : ℕ) (m : Marked) (here later : Option (ℕ × ℕ)) → At q here → (is_same m.mark ≡ true → q < m.seq) → better i m (or_else later here) ≡ or_else (better i m later) here
better_later i q m here later l above = go (is_same m.mark) refl here later l
  where
    either : (b : Bool) (x y : ℕ × ℕ) (o : Option (ℕ × ℕ)) → cond b (Some x) (Some y) ≡ or_else (cond b (Some x) (Some y)) o
    either true x y o = refl
    either false x y o = refl

    go : (b : Bool) → is_same m.mark ≡ b → (here later : Option (ℕ × ℕ)) → At q here → better i m (or_else later here) ≡ or_else (better i m later) here
    go false e here later l = rw (better_not i m (or_else later here) e, better_not i m later e) refl
    go true e None None l = rw e refl
    go true e (Some p) None l = let a = above e in rw (e, lt-ltb p.1 m.seq (omega arith)) refl
    go true e here (Some p) l = rw e (either (nat_lt p.1 m.seq) (i, m.seq) p here)

behind_better : (i q : ℕ) (m : Marked) (later : Option (ℕ × ℕ)) → Behind q later → (is_same m.mark ≡ true → q < m.seq) → Behind q (better i m later)
behind_better i q m None h above = go (is_same m.mark) refl
  where
    go : (b : Bool) → is_same m.mark ≡ b → Behind q (cond b (Some (i, m.seq)) None)
    go true e = above e
    go false e = tt
behind_better i q m (Some p) h above = go (is_same m.mark) refl (nat_lt p.1 m.seq)
  where
    go : (b : Bool) → is_same m.mark ≡ b → (c : Bool) → Behind q (cond (b && c) (Some (i, m.seq)) (Some p))
    go true e true = above e
    go true e false = h
    go false e c = h

-- the matches at the first entry and those behind it
joined : (h : List ℕ) (f : FrameData) (fs : List FrameData) (auths : List AuthData) (i : ℕ) (here later : Option (ℕ × ℕ)) → numbered (f.seq + 1) fs ≡ true → At f.seq here → Behind f.seq later
    → cover_from i (or_else later here) (map (marked h (f ∷ fs)) auths)
    ≡ or_else (cover_from i later (map (marked (next_hash h f) fs) auths)) (or_else here (option_map (λ (x : ℕ). (x, f.seq)) (first_at (is_at f.seq (next_hash h f)) i auths)))
joined h f fs [] i here later n l u = rw (else_none here) refl
joined h f fs (a ∷ auths) i here later n l u = go (nat_eq f.seq a.seq) refl (bytes_eq a.hash (next_hash h f)) refl (λ o p at be. joined h f fs auths (i + 1) o p n at be)
  where
    rest : Option (ℕ × ℕ) → Option (ℕ × ℕ)
    rest o = cover_from (i + 1) o (map (marked h (f ∷ fs)) auths)

    behind : Option (ℕ × ℕ) → Option (ℕ × ℕ)
    behind o = cover_from (i + 1) o (map (marked (next_hash h f) fs) auths)

    found : Option (ℕ × ℕ)
    found = option_map (λ (x : ℕ). (x, f.seq)) (first_at (is_at f.seq (next_hash h f)) (i + 1) auths)

    one : Bool → Marked
    one b = record { seq = a.seq; mark = mark_at a.hash (cond b (Some (next_hash h f)) (hash_in a.seq (next_hash h f) fs)) }

    none : nat_eq f.seq a.seq ≡ true → hash_in a.seq (next_hash h f) fs ≡ None
    none p = let s : f.seq ≡ a.seq = eqb-true _ _ p in none_before a.seq (f.seq + 1) (next_hash h f) fs (omega arith) n

    passed : nat_eq f.seq a.seq ≡ true → better i (marked (next_hash h f) fs a) later ≡ later
    passed p = better_not i (marked (next_hash h f) fs a) later (rw (none p) refl)

    above : is_same (marked (next_hash h f) fs a).mark ≡ true → f.seq < a.seq
    above t = let x = from_first a.seq (f.seq + 1) (next_hash h f) a.hash fs n (mark_same a.hash _ t) in omega arith

    go : (b : Bool) → nat_eq f.seq a.seq ≡ b → (c : Bool) → bytes_eq a.hash (next_hash h f) ≡ c
        → ((o p : Option (ℕ × ℕ)) → At f.seq o → Behind f.seq p → rest (or_else p o) ≡ or_else (behind p) (or_else o found))
        → rest (better i (one b) (or_else later here))
        ≡ or_else (behind (better i (marked (next_hash h f) fs a) later)) (or_else here (option_map (λ (x : ℕ). (x, f.seq)) (cond (b && c) (Some i) (first_at (is_at f.seq (next_hash h f)) (i + 1) auths))))
    go true p true r ih =
        ap rest (better_here i f.seq (one true) here later (rw r refl) (sym (eqb-true _ _ p)) l u)
        ∙ ih (or_else here (Some (i, f.seq))) later (at_else f.seq i here l) u
        ∙ rw (passed p) (ap (or_else (behind later)) (else_some here (i, f.seq) found))
    go true p false r ih = ap rest (better_not i (one true) (or_else later here) (rw r refl)) ∙ ih here later l u ∙ rw (passed p) refl
    go false p c r ih =
        ap rest (better_later i f.seq (marked (next_hash h f) fs a) here later l above)
        ∙ ih here (better i (marked (next_hash h f) fs a) later) l (behind_better i f.seq (marked (next_hash h f) fs a) later u above)

-- ---- the pass

abbrev pub taken : List AuthData → List ℕ → ℕ → Option (ℕ × ℕ) → Option (ℕ × ℕ)
taken auths hash seq best = or_else (option_map (λ (i : ℕ). (i, seq)) (first_at (is_at seq hash) 0 auths)) best

abbrev pub pass : List AuthData → List ℕ → Option (ℕ × ℕ) → List FrameData → Option (ℕ × ℕ)
pass auths h best [] = best
pass auths h best (f ∷ fs) = pass auths (next_hash h f) (taken auths (next_hash h f) f.seq best) fs

no_cover : (h : List ℕ) (i : ℕ) (auths : List AuthData) → cover_from i None (map (marked h []) auths) ≡ None
no_cover h i [] = refl
no_cover h i (a ∷ auths) = no_cover h (i + 1) auths

passed_is : (auths : List AuthData) (h : List ℕ) (best : Option (ℕ × ℕ)) (k : ℕ) (fs : List FrameData) → numbered k fs ≡ true → pass auths h best fs ≡ or_else (cover (map (marked h fs) auths)) best
passed_is auths h best k [] n = rw (no_cover h 0 auths) refl
passed_is auths h best k (f ∷ fs) n =
    let p = and_true (nat_eq f.seq k) (numbered (k + 1) fs) n in
    let s : f.seq ≡ k = eqb-true _ _ p.0 in
    let m : numbered (f.seq + 1) fs ≡ true = rw s p.1 in
    passed_is auths (next_hash h f) (taken auths (next_hash h f) f.seq best) (k + 1) fs p.1
    ∙ else_assoc (cover (map (marked (next_hash h f) fs) auths)) (option_map (λ (i : ℕ). (i, f.seq)) (first_at (is_at f.seq (next_hash h f)) 0 auths)) best
    ∙ ap (λ (o : Option (ℕ × ℕ)). or_else o best) (sym (joined h f fs auths 0 None None m tt tt))

pub pass_is : (auths : List AuthData) (h : List ℕ) (k : ℕ) (fs : List FrameData) → numbered k fs ≡ true → pass auths h None fs ≡ cover (map (marked h fs) auths)
pass_is auths h k fs n = passed_is auths h None k fs n ∙ else_none (cover (map (marked h fs) auths))

-- ---- the next number

abbrev auth_number : AuthData → ℕ
auth_number a = a.seq

abbrev pub Next : ℕ → ℕ → List AuthData → Type 0
Next n wanted auths = Ahead auth_number n wanted auths

pub next_first : (n : ℕ) (auths : List AuthData) → Next n 0 auths
next_first n auths = ahead_first auth_number n auths

none_at : (i n wanted : ℕ) (hash : List ℕ) (auths : List AuthData) → Next n wanted auths → n < wanted → first_at (is_at n hash) i auths ≡ None
none_at i n wanted hash [] h lt = refl
none_at i n wanted hash (a ∷ auths) h lt = go (nat_eq n a.seq) refl (none_at (i + 1) n wanted hash auths h.1 lt)
  where
    go : (b : Bool) → nat_eq n a.seq ≡ b → first_at (is_at n hash) (i + 1) auths ≡ None → cond (b && bytes_eq a.hash hash) (Some i) (first_at (is_at n hash) (i + 1) auths) ≡ None
    go true p ih = let s : n ≡ a.seq = eqb-true _ _ p in let t = h.0 (omega arith) in absurd (omega arith)
    go false p ih = ih

pub not_taken : (auths : List AuthData) (hash : List ℕ) (n wanted : ℕ) (best : Option (ℕ × ℕ)) → Next n wanted auths → n < wanted → taken auths hash n best ≡ best
not_taken auths hash n wanted best h lt = rw (none_at 0 n wanted hash auths h lt) refl

-- ---- the pass with the next number

abbrev pub Passing : List AuthData → List ℕ → List FrameData → List ℕ → Option (ℕ × ℕ) → ℕ → List FrameData → Type 0
Passing auths before all h best wanted left = (n : ℕ) → numbered n all ≡ true → (k : ℕ) × (numbered k left ≡ true) × (pass auths h best left ≡ pass auths before None all) × Next k wanted auths

pub passing_taken : (auths : List AuthData) (before : List ℕ) (all : List FrameData) (h g : List ℕ) (best new : Option (ℕ × ℕ)) (wanted next most : ℕ) (left : List FrameData) (f : FrameData) (rest : List FrameData)
    → left ≡ f ∷ rest → g ≡ next_hash h f → new ≡ taken auths g f.seq best → next ≡ least_above auth_number f.seq most auths → Passing auths before all h best wanted left → Passing auths before all g new next rest
passing_taken auths before all h g best new wanted next most left f rest e gh nb nx p = λ n num.
    let t = p n num in
    let m = and_true (nat_eq f.seq t.0) (numbered (t.0 + 1) rest) (subst (λ (l : List FrameData). numbered t.0 l ≡ true) e t.1) in
    let s : f.seq ≡ t.0 = eqb-true _ _ m.0 in
    let q : pass auths h best (f ∷ rest) ≡ pass auths before None all = subst (λ (l : List FrameData). pass auths h best l ≡ pass auths before None all) e t.2 in
    (t.0 + 1, m.1, rw (nb, gh) q, rw (nx, ← s) (least_ahead auth_number f.seq most auths))

pub passing_not : (auths : List AuthData) (before : List ℕ) (all : List FrameData) (h g : List ℕ) (best : Option (ℕ × ℕ)) (wanted : ℕ) (left : List FrameData) (f : FrameData) (rest : List FrameData)
    → left ≡ f ∷ rest → g ≡ next_hash h f → f.seq < wanted → Passing auths before all h best wanted left → Passing auths before all g best wanted rest
passing_not auths before all h g best wanted left f rest e gh lt p = λ n num.
    let t = p n num in
    let m = and_true (nat_eq f.seq t.0) (numbered (t.0 + 1) rest) (subst (λ (l : List FrameData). numbered t.0 l ≡ true) e t.1) in
    let s : f.seq ≡ t.0 = eqb-true _ _ m.0 in
    let q : pass auths h best (f ∷ rest) ≡ pass auths before None all = subst (λ (l : List FrameData). pass auths h best l ≡ pass auths before None all) e t.2 in
    let none : taken auths (next_hash h f) f.seq best ≡ best = not_taken auths (next_hash h f) f.seq wanted best (subst (λ (k : ℕ). Next k wanted auths) (sym s) t.3) lt in
    (t.0 + 1, m.1, rw (gh, ← none) q, ahead_more auth_number t.0 wanted auths t.3)

pub passing_end : (auths : List AuthData) (before : List ℕ) (all : List FrameData) (h : List ℕ) (best : Option (ℕ × ℕ)) (wanted : ℕ) (left : List FrameData) → left ≡ [] → Passing auths before all h best wanted left
    → (n : ℕ) → numbered n all ≡ true → best ≡ cover (map (marked before all) auths)
passing_end auths before all h best wanted left e p n num =
    let t = p n num in
    let q : best ≡ pass auths before None all = subst (λ (l : List FrameData). pass auths h best l ≡ pass auths before None all) e t.2 in
    q ∙ pass_is auths before n all num
