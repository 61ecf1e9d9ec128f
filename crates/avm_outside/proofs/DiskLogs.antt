-- What the kept calls of a disk in memory come to.
use Rattle.std.proofs.Common.{◌≡◌, inl, inr, ℕ, suc, ◌+◌, ◌≤◌, ◌<◌, max, true, nat_le, List, [], ◌∷◌, ◌++◌, length, take, drop, refl, sym, ◌∙◌, ap, subst, arith, length-append, le-leb, leb-true, Result, Ok, Err, OnOk, OnErr}
use Rattle.std.proofs.lemmas.List.{length-take-le, length-drop}
use Rattle.std.proofs.lemmas.List.Sums.{fold-append}
use Rattle.std.proofs.lemmas.Bool.{cases_lt, lt-leb}
use Rattle.avm_outside.specs.Disk.{Elapses, overwritten}
use Rattle.avm_outside.specs.DiskLog.{Change, wrote, missed, synced, KeptCall, IsQuiet, read_after, ranges_after, Extent, settled, extent_after, upto_step, upto, DiskState, state_after, state_upto, IsImage, LeftSince, are_counted, IsRun}
use Rattle.avm_num.proofs.Numbers.{and_true}

pub upto_in : {A : Type 0} (step : A → Change → A) (n : ℕ) (a : A) (log : List KeptCall) (e : KeptCall) → e.call ≤ n → upto step n a (log ++ e ∷ []) ≡ step (upto step n a log) e.change
unfolding upto
upto_in step n a log e le = fold-append (upto_step step n) a log (e ∷ []) ∙ rw (le-leb e.call n le) refl

pub upto_out : {A : Type 0} (step : A → Change → A) (n : ℕ) (a : A) (log : List KeptCall) (e : KeptCall) → n < e.call → upto step n a (log ++ e ∷ []) ≡ upto step n a log
unfolding upto
upto_out step n a log e lt = fold-append (upto_step step n) a log (e ∷ []) ∙ rw (lt-leb e.call n lt) refl

abbrev pub AreCounted : ℕ → List KeptCall → Type 0
AreCounted calls [] = Unit {0}
AreCounted calls (e ∷ log) = (e.call ≤ calls) × AreCounted calls log

pub counted_of : (n : ℕ) (log : List KeptCall) → are_counted n log ≡ true → AreCounted n log
counted_of n [] e = tt
counted_of n (x ∷ log) e = let t = and_true (nat_le x.call n) (are_counted n log) e in (leb-true x.call n t.0, counted_of n log t.1)

counted_is : (n : ℕ) (log : List KeptCall) → AreCounted n log → are_counted n log ≡ true
counted_is n [] counted = refl
counted_is n (x ∷ log) counted = rw (le-leb x.call n counted.0, counted_is n log counted.1) refl

-- calls that weren't made change nothing
pub upto_more : {A : Type 0} (step : A → Change → A) (n m : ℕ) (a : A) (log : List KeptCall) → AreCounted n log → n ≤ m → upto step m a log ≡ upto step n a log
unfolding upto
upto_more step n m a [] counted le = refl
upto_more step n m a (e ∷ log) counted le =
    rw (le-leb e.call n counted.0, le-leb e.call m (omega (arith, le, counted.0))) (upto_more step n m (step a e.change) log counted.1 le)

pub counted_more : (n m : ℕ) (log : List KeptCall) → AreCounted n log → n ≤ m → AreCounted m log
counted_more n m [] counted le = tt
counted_more n m (e ∷ log) counted le = (omega (arith, le, counted.0), counted_more n m log counted.1 le)

counted_push : (n : ℕ) (log : List KeptCall) (e : KeptCall) → AreCounted n log → e.call ≤ n → AreCounted n (log ++ e ∷ [])
counted_push n [] e counted le = (le, tt)
counted_push n (x ∷ log) e counted le = (counted.0, counted_push n log e counted.1 le)

pub state_in : (base : List ℕ) (n : ℕ) (log : List KeptCall) (e : KeptCall) → e.call ≤ n → state_upto base n (log ++ e ∷ []) ≡ state_after (state_upto base n log) e.change
state_in base n log e le = rw (upto_in read_after n base log e le, upto_in ranges_after n [] log e le, upto_in extent_after n (settled (length base)) log e le) refl

pub state_out : (base : List ℕ) (n : ℕ) (log : List KeptCall) (e : KeptCall) → n < e.call → state_upto base n (log ++ e ∷ []) ≡ state_upto base n log
state_out base n log e lt = rw (upto_out read_after n base log e lt, upto_out ranges_after n [] log e lt, upto_out extent_after n (settled (length base)) log e lt) refl

pub state_more : (base : List ℕ) (n m : ℕ) (log : List KeptCall) → AreCounted n log → n ≤ m → state_upto base m log ≡ state_upto base n log
state_more base n m log counted le = rw (upto_more read_after n m base log counted le, upto_more ranges_after n m [] log counted le, upto_more extent_after n m (settled (length base)) log counted le) refl

-- ---- the run

pub length-overwritten : (at : ℕ) (new was : List ℕ) → at ≤ length was → length (overwritten at new was) ≡ max (length was) (at + length new)
length-overwritten at new was within = omega (arith, length-take-le at was within, length-append (take at was) new, length-append (take at was ++ new) (drop (at + length new) was), length-drop (at + length new) was)

-- a change to bytes that are there
abbrev pub IsWithin : Change → List ℕ → Type 0
IsWithin (wrote at new) bytes = at ≤ length bytes
IsWithin (missed at n) bytes = Unit {0}
IsWithin synced bytes = Unit {0}

abbrev ExtentStands : Extent → List ℕ → Type 0
ExtentStands x bytes = (x.now ≡ length bytes) × (x.least ≤ length bytes) × (length bytes ≤ x.most)

extent_stands : (x : Extent) (bytes : List ℕ) (e : Change) → IsWithin e bytes → ExtentStands x bytes → ExtentStands (extent_after x e) (read_after bytes e)
extent_stands x bytes (wrote at new) within stands =
    let len = length-overwritten at new bytes within in
    (omega (arith, len, stands.0), omega (arith, len, stands.1), omega (arith, len, stands.2))
extent_stands x bytes (missed at n) within stands = (stands.0, stands.1, omega (arith, stands.2))
extent_stands x bytes synced within stands = (stands.0, omega (arith, stands.0), omega (arith, stands.0))

pub run_push : (base : List ℕ) (n : ℕ) (log : List KeptCall) (bytes : List ℕ) (e : KeptCall) → IsRun base n log bytes → e.call ≤ n → IsWithin e.change bytes → IsRun base n (log ++ e ∷ []) (read_after bytes e.change)
run_push base n log bytes e run le within =
    let x = upto_in extent_after n (settled (length base)) log e le in
    let s = extent_stands (upto extent_after n (settled (length base)) log) bytes e.change within (run.long, run.low, run.high) in
    let t = subst (λ (y : Extent). ExtentStands y (read_after bytes e.change)) (sym x) s in
    record {
      counted = counted_is n (log ++ e ∷ []) (counted_push n log e (counted_of n log run.counted) le);
      replays = upto_in read_after n base log e le ∙ ap (λ (b : List ℕ). read_after b e.change) run.replays;
      long = t.0;
      low = t.1;
      high = t.2;
    }

quiet_within : (e : Change) (bytes : List ℕ) → IsQuiet e → IsWithin e bytes × (read_after bytes e ≡ bytes)
quiet_within (wrote at new) bytes quiet = absurd quiet
quiet_within (missed at n) bytes quiet = (tt, refl)
quiet_within synced bytes quiet = (tt, refl)

-- a call that is kept and changes no byte
pub run_keeps : (base : List ℕ) (n : ℕ) (log later : List KeptCall) (bytes : List ℕ) (e : KeptCall) → IsRun base n log bytes → e.call ≡ n → IsQuiet e.change → later ≡ log ++ e ∷ [] → IsRun base n later bytes
run_keeps base n log later bytes e run number quiet is =
    let q = quiet_within e.change bytes quiet in
    subst (λ (l : List KeptCall). IsRun base n l bytes) (sym is)
    (subst (λ (b : List ℕ). IsRun base n (log ++ e ∷ []) b) q.1 (run_push base n log bytes e run (omega (arith, number)) q.0))

-- a write that is kept
pub run_writes : (base : List ℕ) (n at : ℕ) (log later : List KeptCall) (bytes new next : List ℕ) → IsRun base n log bytes → at ≤ length bytes → later ≡ log ++ record { call = n; change = wrote at new } ∷ [] → next ≡ overwritten at new bytes → IsRun base n later next
run_writes base n at log later bytes new next run within is now =
    subst (λ (l : List KeptCall). IsRun base n l next) (sym is)
    (subst (λ (b : List ℕ). IsRun base n (log ++ record { call = n; change = wrote at new } ∷ []) b) (sym now) (run_push base n log bytes (record { call = n; change = wrote at new }) run (omega arith) within))

-- the same where want of memory may have stopped it
pub run_kept : {T E : Type 0} (r : Result T E) (base : List ℕ) (n : ℕ) (log later : List KeptCall) (bytes : List ℕ) (e : KeptCall) → IsRun base n log bytes → e.call ≡ n → IsQuiet e.change → OnOk r (later ≡ log ++ e ∷ []) → OnErr r (later ≡ log) → IsRun base n later bytes
run_kept (Ok x) base n log later bytes e run number quiet is same = run_keeps base n log later bytes e run number quiet is
run_kept (Err x) base n log later bytes e run number quiet is same = subst (λ (l : List KeptCall). IsRun base n l bytes) (sym same) run

pub run_changed : {T E : Type 0} (r : Result T E) (base : List ℕ) (n at : ℕ) (log later : List KeptCall) (bytes old new next : List ℕ) (e : KeptCall) → IsRun base n log bytes → at ≤ length bytes → e ≡ record { call = n; change = wrote at new } → old ≡ bytes
    → OnOk r (next ≡ overwritten at new old) → OnOk r (later ≡ log ++ e ∷ []) → OnErr r (next ≡ old) → OnErr r (later ≡ log) → IsRun base n later next
run_changed (Ok x) base n at log later bytes old new next e run within entry was now is same same_log =
    run_writes base n at log later bytes new next run within (is ∙ ap (λ (k : KeptCall). log ++ k ∷ []) entry) (now ∙ ap (overwritten at new) was)
run_changed (Err x) base n at log later bytes old new next e run within entry was now is same same_log =
    subst (λ (l : List KeptCall). IsRun base n l next) (sym same_log) (subst (λ (b : List ℕ). IsRun base n log b) (sym (same ∙ was)) run)

pub run_more : (base : List ℕ) (n m : ℕ) (log : List KeptCall) (bytes : List ℕ) → IsRun base n log bytes → n ≤ m → IsRun base m log bytes
run_more base n m log bytes run le =
    let x = upto_more extent_after n m (settled (length base)) log (counted_of n log run.counted) le in
    let t = subst (λ (y : Extent). ExtentStands y bytes) (sym x) (run.long, run.low, run.high) in
    record {
      counted = counted_is m log (counted_more n m log (counted_of n log run.counted) le);
      replays = upto_more read_after n m base log (counted_of n log run.counted) le ∙ run.replays;
      long = t.0;
      low = t.1;
      high = t.2;
    }

pub run_starts : (base : List ℕ) (n : ℕ) → IsRun base n [] base
unfolding upto
run_starts base n = record { counted = refl; replays = refl; long = refl; low = omega arith; high = omega arith }

-- ---- time

pub elapses_quiet : (base : List ℕ) (log : List KeptCall) (n m : ℕ) → AreCounted n log → n ≤ m → Elapses n m (LeftSince base n log) (LeftSince base m log) (λ c. IsImage (state_upto base m log) c)
elapses_quiet base log n m counted le = record {
  later = le;
  nothing_else = λ t c low left. elim (cases_lt n left.0) [
    | inl past ↦ inr (subst (λ (s : DiskState). IsImage s c) (state_more base n left.0 log counted (omega (arith, past)) ∙ sym (state_more base n m log counted le)) left.3)
    | inr within ↦ inl (left.0, left.1, within, left.3)
  ];
  keeps = λ t c low left. (left.0, left.1, omega (arith, left.2, le), left.3);
}

pub elapses_kept : (base : List ℕ) (log : List KeptCall) (e : KeptCall) (n : ℕ) → e.call ≡ suc n → Elapses n (suc n) (LeftSince base n log) (LeftSince base (suc n) (log ++ e ∷ [])) (λ c. IsImage (state_upto base (suc n) (log ++ e ∷ [])) c)
elapses_kept base log e n number = record {
  later = omega arith;
  nothing_else = λ t c low left. elim (cases_lt n left.0) [
    | inl past ↦ (let is : left.0 ≡ suc n = omega (arith, past, left.2) in
        inr (subst (λ (k : ℕ). IsImage (state_upto base k (log ++ e ∷ [])) c) is left.3))
    | inr within ↦ inl (left.0, left.1, within, subst (λ (s : DiskState). IsImage s c) (state_out base left.0 log e (omega (arith, within, number))) left.3)
  ];
  keeps = λ t c low left. (left.0, left.1, omega (arith, left.2), subst (λ (s : DiskState). IsImage s c) (sym (state_out base left.0 log e (omega (arith, left.2, number)))) left.3);
}
