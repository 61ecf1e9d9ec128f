-- Clock values, one for each exchange.
use Rattle.std.proofs.Common.{◌≡◌, ℕ, zero, suc, ◌+◌, ◌-◌, ◌*◌, ◌^◌, ◌<◌, ◌≤◌, Bool, true, false, ltb, ltb-true, ltb-false, List, [], ◌∷◌, ◌++◌, length, refl, sym, ap, subst, ◌∙◌, length-append, arith}
use Rattle.std.specs.Prelude.{is_some, min, slice_index}
use Rattle.std.proofs.Math.Nat.{min-eq_left, min-le_left}
use Rattle.avm_outside.specs.Feed.{Agenda, Timed, with_asked}
use Rattle.record_laws.specs.Turns.{IsTurn}
use Rattle.record_model.specs.Recorded.{Run}
use Rattle.record_model.specs.Recording.{Act, AnswerClock, SendAgain, StepOn, TakeIn}
use Rattle.record_model.specs.Turn.{Comes, Gift, Later, Over, behind_turn, gift_of, without_first}
use Rattle.record_model.specs.Released.{Sender}
use Rattle.sample_model.specs.Talk.{TellsTime, joined}
use Rattle.sample_talk.specs.Talking.{Times, thousands}

thousands_long : (k : ℕ) → length (thousands k) ≡ k
unfolding thousands
thousands_long zero = refl
thousands_long (suc k) = omega (arith, length-append (thousands k) (1000 * suc k ∷ []), thousands_long k)

index_front : (xs ys : List ℕ) (i : ℕ) → i < length xs → slice_index (xs ++ ys) i ≡ slice_index xs i
index_front [] ys i lt = absurd (omega (arith, lt))
index_front (x ∷ xs) ys zero lt = refl
index_front (x ∷ xs) ys (suc i) lt = index_front xs ys i (omega (arith, lt))

index_last : (xs : List ℕ) (y : ℕ) → slice_index (xs ++ y ∷ []) (length xs) ≡ y
index_last [] y = refl
index_last (x ∷ xs) y = index_last xs y

thousands_at : (k i : ℕ) → i < k → slice_index (thousands k) i ≡ 1000 * suc i
unfolding thousands
thousands_at zero i lt = absurd (omega (arith, lt))
thousands_at (suc k) i lt = go (λ j low. thousands_at k j low) (ltb i k) refl
  where
    go : ((j : ℕ) → j < k → slice_index (thousands k) j ≡ 1000 * suc j) → (b : Bool) → ltb i k ≡ b → slice_index (thousands k ++ 1000 * suc k ∷ []) i ≡ 1000 * suc i
    go ih true e = let low : i < k = ltb-true i k e in index_front (thousands k) (1000 * suc k ∷ []) i (subst (λ (n : ℕ). i < n) (sym (thousands_long k)) low) ∙ ih i low
    go ih false e =
        let high = ltb-false i k e in
        let same : i ≡ k = omega (arith, lt, high) in
        subst (λ (n : ℕ). slice_index (thousands k ++ 1000 * suc k ∷ []) n ≡ 1000 * suc n) (sym same)
        (subst (λ (n : ℕ). slice_index (thousands k ++ 1000 * suc k ∷ []) n ≡ 1000 * suc k) (thousands_long k) (index_last (thousands k) (1000 * suc k)))

-- the next clock request gets its value
pub time_told : (k : ℕ) (p : Agenda) → Times k p → TellsTime p
time_told k p t =
    let long : length p.clocks ≡ k = ap length t.values ∙ thousands_long k in
    let place : min p.asked (length p.clocks - 1) ≡ p.asked = min-eq_left (omega (arith, long, t.left)) in
    let value : slice_index p.clocks (min p.asked (length p.clocks - 1)) ≡ slice_index (thousands k) p.asked = ap (slice_index p.clocks) place ∙ ap (λ (xs : List ℕ). slice_index xs p.asked) t.values in
    value ∙ thousands_at k p.asked t.left ∙ omega arith

-- ---- a turn asks for one value at most

asked_one : (p : Agenda) → (with_asked p).asked ≤ p.asked + 1
asked_one p = min-le_left (p.asked + 1) (2 ^ 64 - 1)

record AsksOne (p q : Agenda) : Type 0 where
  clocks : q.clocks ≡ p.clocks
  asked : q.asked ≤ p.asked + 1

nothing_asked : (p : Agenda) → AsksOne p p
nothing_asked p = record { clocks = refl; asked = omega arith }

event_gone : (p : Agenda) (es : List Timed) → AsksOne p (without_first p es)
event_gone p [] = nothing_asked p
event_gone p (e ∷ es) = record { clocks = refl; asked = omega arith }

behind_asks : (pending : Bool) (g : Gift) (act : Act) (p : Agenda) → AsksOne p (behind_turn pending g act p)
behind_asks true g act p = nothing_asked p
behind_asks false (Comes what) act p = event_gone p p.events
behind_asks false Over act p = nothing_asked p
behind_asks false (Later c) (AnswerClock value) p = record { clocks = refl; asked = asked_one p }
behind_asks false (Later c) StepOn p = nothing_asked p
behind_asks false (Later c) (TakeIn offer) p = nothing_asked p
behind_asks false (Later c) (SendAgain peer) p = nothing_asked p

-- behind a turn, with one value more, there are values left
pub times_on : (who : Sender) (k next : ℕ) (r u : Run) (events : List Timed) → next ≡ k + 1 → IsTurn who r u → Times k r.script → Times next (joined u.script events (u.script.clocks ++ 1000 * next ∷ []))
unfolding thousands
times_on who k next r u events n t h =
    let a = behind_asks (is_some r.recording.machine.devices.clock) (gift_of r.recording.machine r.script) t.act r.script in
    let script : u.script ≡ behind_turn (is_some r.recording.machine.devices.clock) (gift_of r.recording.machine r.script) t.act r.script = ap (λ (x : Run). x.script) t.behind in
    let clocks : u.script.clocks ≡ thousands k = ap (λ (x : Agenda). x.clocks) script ∙ a.clocks ∙ h.values in
    let asked : u.script.asked ≤ r.script.asked + 1 = subst (λ (x : Agenda). x.asked ≤ r.script.asked + 1) (sym script) a.asked in
    let suc_is : next ≡ suc k = omega (arith, n) in
    record {
      values = subst (λ (m : ℕ). u.script.clocks ++ 1000 * m ∷ [] ≡ thousands m) (sym suc_is) (ap (λ (xs : List ℕ). xs ++ 1000 * suc k ∷ []) clocks);
      left = omega (arith, asked, h.left, n);
    }
