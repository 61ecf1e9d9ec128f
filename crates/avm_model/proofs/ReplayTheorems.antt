-- What the definitions of replay say of judging one entry at a time.
use Rattle.std.proofs.Common.{◌≡◌, ℕ, zero, suc, ◌+◌, ◌-◌, ◌≤◌, ◌<◌, List, [], ◌∷◌, ◌++◌, length, map, ap₂, take, drop, get_or, take-suc, take-take, take-append-drop, Option, Some, None, refl, sym, ap, subst, ◌∙◌, ◌⊎◌, inl, inr, arith}
use Rattle.std.proofs.lemmas.Bool.{cases_lt}
use Rattle.std.proofs.Math.Seq.{take-append-add}
use Rattle.std.proofs.lemmas.List.{length-append, take-append-le, take-map, length-map, get_or-map}
use Rattle.avm_model.specs.Timed.{Timed, IsTimed, Entry, given, last_count, takes}
use Rattle.avm_model.specs.Rerun.{IsFault, NotTaken, after_taking, Stand, rerun, outputs, after, start, Stands, Replays, IsFirstFault}
use Rattle.std.specs.Option.{option_and_then}
use Rattle.avm_model.specs.Judge.{judge, judge_all}
use Rattle.avm_model.proofs.ReplayLaws.{taken, front_of_judged, judged_of_front}

pub judged_of_replays : {S I O : Type 0} (m : Timed S I O) → IsTimed m → (s : S) (es : List (Entry I O)) → Replays m s es → judge_all m (start s) es ≡ Some (after m s es)
judged_of_replays m law s es h = judged_of_front m law es (start s) (last_count m 0 es - m.count s) h

pub replays_of_judged : {S I O : Type 0} (m : Timed S I O) → IsTimed m → (s : S) (es : List (Entry I O)) (j : Stand S O) → judge_all m (start s) es ≡ Some j → Replays m s es
replays_of_judged m law s es j h = front_of_judged m law es (start s) j (last_count m 0 es - m.count s) 0 tt h (omega arith)

pub Stands-judged : {S I O : Type 0} (m : Timed S I O) → IsTimed m → (s : S) (es : List (Entry I O)) (j : Stand S O) → judge_all m (start s) es ≡ Some j → Stands m s es j
Stands-judged m law s es j h =
    let r = replays_of_judged m law s es j h in
    let e = judged_of_replays m law s es r in
    record { replays = r; is = cc }

pub judged-Stands : {S I O : Type 0} (m : Timed S I O) → IsTimed m → (s : S) (es : List (Entry I O)) (j : Stand S O) → Stands m s es j → judge_all m (start s) es ≡ Some j
judged-Stands m law s es j h = rw h.is (judged_of_replays m law s es h.replays)

pub judge_all-append : {S I O : Type 0} (m : Timed S I O) (j : Stand S O) (a b : List (Entry I O)) → judge_all m j (a ++ b) ≡ option_and_then (λ k. judge_all m k b) (judge_all m j a)
judge_all-append m j [] b = refl
judge_all-append {S} {I} {O} m j (e ∷ a) b = go (λ (k : Stand S O). judge_all-append m k a b) (judge m j e)
  where
    go : ((k : Stand S O) → judge_all m k (a ++ b) ≡ option_and_then (λ k. judge_all m k b) (judge_all m k a)) → (r : Option (Stand S O)) → option_and_then (λ k. judge_all m k (a ++ b)) r ≡ option_and_then (λ k. judge_all m k b) (option_and_then (λ k. judge_all m k a) r)
    go ih None = refl
    go ih (Some k) = ih k

-- A front of what replays replays.
pub front_replays : {S I O : Type 0} (m : Timed S I O) → IsTimed m → (s : S) (a b : List (Entry I O)) → Replays m s (a ++ b) → Replays m s a
front_replays {S} {I} {O} m law s a b h = go (judge_all m (start s) a) refl (sym (judge_all-append m (start s) a b) ∙ judged_of_replays m law s (a ++ b) h)
  where
    go : (r : Option (Stand S O)) → judge_all m (start s) a ≡ r → option_and_then (λ k. judge_all m k b) r ≡ Some (after m s (a ++ b)) → Replays m s a
    go None p e = absurd cc
    go (Some k) p e = replays_of_judged m law s a k p

-- an entry that is judged well goes on
pub goes_on : {S I O : Type 0} (m : Timed S I O) → IsTimed m → (s : S) (es : List (Entry I O)) (j k : Stand S O) (e : Entry I O) → Stands m s es j → judge m j e ≡ Some k → Stands m s (es ++ e ∷ []) k
goes_on m law s es j k e h g =
    Stands-judged m law s (es ++ e ∷ []) k (judge_all-append m (start s) es (e ∷ []) ∙ rw (judged-Stands m law s es j h, g) refl)

-- an entry that isn't is a fault
pub faults : {S I O : Type 0} (m : Timed S I O) → IsTimed m → (s : S) (es : List (Entry I O)) (j : Stand S O) (e : Entry I O) → Stands m s es j → judge m j e ≡ None → Replays m s (es ++ e ∷ []) → ⊥
faults {S} {I} {O} m law s es j e h g r =
    let was : judge_all m (start s) (es ++ e ∷ []) ≡ None = judge_all-append m (start s) es (e ∷ []) ∙ rw (judged-Stands m law s es j h, g) refl in
    let is = judged_of_replays m law s (es ++ e ∷ []) r in
    cc

-- Where the entries before x replay, and no longer with x, x is the first fault.
pub first_fault : {S I O X : Type 0} (m : Timed S I O) → IsTimed m → (s : S) (f : X → Entry I O) (xs : List X) (i : ℕ) (d : X) → i < length xs → Replays m s (map f (take i xs)) → (Replays m s (map f (take i xs) ++ f (get_or xs i d) ∷ []) → ⊥) → IsFirstFault m s (map f xs) i
first_fault {S} {I} {O} m law s f xs i d lt before fault =
    let seam : take (suc i) (map f xs) ≡ map f (take i xs) ++ f (get_or xs i d) ∷ [] =
    take-suc (map f xs) i (f d) (omega (arith, length-map xs f)) ∙ ap₂ (λ (a : List (Entry I O)) (b : Entry I O). a ++ b ∷ []) (take-map f i xs) (get_or-map f xs i d (f d) lt) in
    record {
      within = omega (arith, length-map xs f);
      fault = λ r. fault (subst (λ (es : List (Entry I O)). Replays m s es) seam r);
      first = λ n le. front_replays m law s (take n (map f xs)) (drop n (take i (map f xs))) (subst (λ (es : List (Entry I O)). Replays m s es) (sym (take-map f i xs) ∙ sym (take-append-drop n (take i (map f xs))) ∙ ap (λ (es : List (Entry I O)). es ++ drop n (take i (map f xs))) (take-take n i (map f xs) le)) before);
    }

-- Where there is a first fault, the whole doesn't replay.
pub fault_whole : {S I O : Type 0} (m : Timed S I O) → IsTimed m → (s : S) (es : List (Entry I O)) (i : ℕ) → IsFirstFault m s es i → Replays m s es → ⊥
fault_whole {S} {I} {O} m law s es i f r =
    f.fault (front_replays m law s (take (suc i) es) (drop (suc i) es) (subst (λ (xs : List (Entry I O)). Replays m s xs) (sym (take-append-drop (suc i) es)) r))

-- ---- the three rules of a run, as they are read

pub rule_one : {S I O : Type 0} (m : Timed S I O) → IsTimed m → (s t : S) (i : I) (is : List I) (n : ℕ) → takes m s i ≡ Some t → rerun m s (i ∷ is) n ≡ record { entry = given i; state = t; lacking = [] } ∷ rerun m t is n
rule_one m law s t i is n e = let c = taken m law s t i e in rw (e, c.1) refl

pub rule_two : {S I O : Type 0} (m : Timed S I O) → IsTimed m → (s t : S) (os : List O) (is : List I) (n : ℕ) → NotTaken m s is → m.count s < n → m.step s ≡ Some (t, os) → rerun m s is n ≡ outputs t os ++ rerun m t is n
rule_two m law s t os [] n free lt e =
    let c = law.steps s t os e in
    let d : n - m.count s ≡ suc (n - m.count t) = omega arith in
    rw (d, e) refl
rule_two m law s t os (i ∷ is) n free lt e =
    let c = law.steps s t os e in
    let d : n - m.count s ≡ suc (n - m.count t) = omega arith in
    rw (free, d, e) refl

pub rule_three : {S I O : Type 0} (m : Timed S I O) → (s : S) (is : List I) (n : ℕ) → NotTaken m s is → ((n ≤ m.count s) ⊎ (m.step s ≡ None)) → rerun m s is n ≡ []
rule_three {S} {I} {O} m s is n free ends = taking_none is free ∙ go (n - m.count s) refl ends
  where
    taking_none : (is : List I) → NotTaken m s is → rerun m s is n ≡ after_taking m (n - m.count s) s is
    taking_none [] free = refl
    taking_none (i ∷ is) free = rw free refl

    go : (d : ℕ) → n - m.count s ≡ d → ((n ≤ m.count s) ⊎ (m.step s ≡ None)) → after_taking m d s is ≡ []
    go zero e ends = refl
    go (suc d) e (inl le) = absurd (omega arith)
    go (suc d) e (inr none) = rw none refl

-- There is one answer.
pub fault_unique : {S I O : Type 0} (m : Timed S I O) → IsTimed m → (s : S) (es : List (Entry I O)) (a b : Option ℕ) → IsFault m s es a → IsFault m s es b → a ≡ b
fault_unique m law s es None None p q = refl
fault_unique m law s es None (Some k) p q = absurd (fault_whole m law s es k q p)
fault_unique m law s es (Some k) None p q = absurd (fault_whole m law s es k p q)
fault_unique m law s es (Some k) (Some n) p q = go (cases_lt k n) (cases_lt n k)
  where
    go : (k < n) ⊎ (n ≤ k) → (n < k) ⊎ (k ≤ n) → Some k ≡ Some n
    go (inl lt) c = absurd (p.fault (q.first (suc k) (omega arith)))
    go (inr le) (inl lt) = absurd (q.fault (p.first (suc n) (omega arith)))
    go (inr le) (inr le2) = let e : k ≡ n = omega arith in cc

-- The same where the list is split at the fault, as a loop over what is left has it.
pub first_fault_at : {S I O : Type 0} (m : Timed S I O) → IsTimed m → (s : S) (before : List (Entry I O)) (e : Entry I O) (behind : List (Entry I O)) → Replays m s before → (Replays m s (before ++ e ∷ []) → ⊥) → IsFirstFault m s (before ++ e ∷ behind) (length before)
first_fault_at {S} {I} {O} m law s before e behind h fault =
    let n_is : suc (length before) ≡ length before + 1 = omega arith in
    let seam : take (suc (length before)) (before ++ e ∷ behind) ≡ before ++ e ∷ [] = ap (λ (n : ℕ). take n (before ++ e ∷ behind)) n_is ∙ take-append-add before (e ∷ behind) 1 in
    record {
      within = omega (arith, length-append before (e ∷ behind));
      fault = λ r. fault (subst (λ (es : List (Entry I O)). Replays m s es) seam r);
      first = λ n le. front_replays m law s (take n (before ++ e ∷ behind)) (drop n before) (subst (λ (es : List (Entry I O)). Replays m s es) (sym (ap (λ (es : List (Entry I O)). es ++ drop n before) (take-append-le n before (e ∷ behind) le) ∙ take-append-drop n before)) h);
    }

-- The same of an entry that is judged as a fault.
pub judged_fault : {S I O : Type 0} (m : Timed S I O) → IsTimed m → (s : S) (before : List (Entry I O)) (e : Entry I O) (behind : List (Entry I O)) (j : Stand S O) → Stands m s before j → judge m j e ≡ None → IsFirstFault m s (before ++ e ∷ behind) (length before)
judged_fault m law s before e behind j h none = first_fault_at m law s before e behind h.replays (faults m law s before j e h none)
