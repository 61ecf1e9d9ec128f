-- The rows that give Double, Fork and Replay.
use Rattle.std.proofs.Common.{◌≡◌, ℕ, Bool, true, false, not, cond, List, [], ◌∷◌, Option, Some, None, refl, ap, ap₂}
use Rattle.std.specs.List.{AllByRecursion}
use Rattle.avm_model.specs.declared.judged.Marked.{Marked}
use Rattle.avm_model.specs.declared.judged.Verdict.{Verdict}
use Rattle.avm_model.specs.declared.judged.Verdict.TheVariants.{BadAuth, Double, Uncommitted, Fork, Replay, Uncovered, Unmatched, Accepted}
use Rattle.avm_model.specs.Marks.{verifies, cover, cover_number}
use Rattle.avm_model.specs.Basics.{first_at}
use Rattle.std.specs.Option.{option_map}
use Rattle.avm_model.specs.Verdict.{Case, marks, first_some, first_pair, doubles, unmatched_mark, fork_by, replay_by, uncommitted, uncovered, unmatched_by, verdict}
use Rattle.audit_stream.proofs.RowLaws.{with_some, then_some, cond_some}

-- ---- rows that don't give a verdict

with_not : {A : Type 0} (f : A → Verdict) (o : Option A) (u : Verdict) → ((x : A) → f x ≡ u → ⊥) → option_map f o ≡ Some u → ⊥
with_not f o u h e = let w = with_some f o u e in h w.0 w.2

pub fork_not : (ms : List Marked) (top : Option (ℕ × ℕ)) (u : Verdict) → ((i j : ℕ) → Fork i j ≡ u → ⊥) → fork_by ms top ≡ Some u → ⊥
fork_not ms top u h e = let t = then_some _ top u e in let w = with_some _ _ u t.2 in h w.0 t.0.0 w.2

pub replay_not : (fault : Option ℕ) (top : Option (ℕ × ℕ)) (u : Verdict) → ((n : ℕ) → Replay n ≡ u → ⊥) → replay_by fault top ≡ Some u → ⊥
replay_not fault top u h e = let n = then_some _ fault u e in let j = then_some _ top u n.2 in let k = cond_some _ _ u j.2 in h n.0 k.1

uncommitted_not : (b : Bool) (u : Verdict) → (Uncommitted ≡ u → ⊥) → cond b None (Some Uncommitted) ≡ Some u → ⊥
uncommitted_not true u h e = cc
uncommitted_not false u h e = h cc

-- no stage and no default is it
none_of : {V : Type 0} (stages : List (Option V)) (d u : V) → AllByRecursion (λ o. o ≡ Some u → ⊥) stages → (d ≡ u → ⊥) → first_some stages d ≡ u → ⊥
none_of [] d u h last e = last e
none_of (None ∷ stages) d u h last e = none_of stages d u h.1 last e
none_of (Some v ∷ stages) d u h last e = h.0 (ap (λ (x : _). Some x) e)

-- ---- verdicts apart

badauth_double : (x i j : ℕ) → BadAuth x ≡ Double i j → ⊥
badauth_double x i j e = cc

uncommitted_double : (i j : ℕ) → Uncommitted ≡ Double i j → ⊥
uncommitted_double i j e = cc

fork_double : (x y i j : ℕ) → Fork x y ≡ Double i j → ⊥
fork_double x y i j e = cc

replay_double : (x i j : ℕ) → Replay x ≡ Double i j → ⊥
replay_double x i j e = cc

uncovered_double : (x i j : ℕ) → Uncovered x ≡ Double i j → ⊥
uncovered_double x i j e = cc

unmatched_double : (x i j : ℕ) → Unmatched x ≡ Double i j → ⊥
unmatched_double x i j e = cc

accepted_double : (x y z i j : ℕ) → Accepted x y z ≡ Double i j → ⊥
accepted_double x y z i j e = cc

badauth_fork : (x i j : ℕ) → BadAuth x ≡ Fork i j → ⊥
badauth_fork x i j e = cc

double_fork : (x y i j : ℕ) → Double x y ≡ Fork i j → ⊥
double_fork x y i j e = cc

uncommitted_fork : (i j : ℕ) → Uncommitted ≡ Fork i j → ⊥
uncommitted_fork i j e = cc

replay_fork : (x i j : ℕ) → Replay x ≡ Fork i j → ⊥
replay_fork x i j e = cc

uncovered_fork : (x i j : ℕ) → Uncovered x ≡ Fork i j → ⊥
uncovered_fork x i j e = cc

unmatched_fork : (x i j : ℕ) → Unmatched x ≡ Fork i j → ⊥
unmatched_fork x i j e = cc

accepted_fork : (x y z i j : ℕ) → Accepted x y z ≡ Fork i j → ⊥
accepted_fork x y z i j e = cc

badauth_replay : (x n : ℕ) → BadAuth x ≡ Replay n → ⊥
badauth_replay x n e = cc

double_replay : (x y n : ℕ) → Double x y ≡ Replay n → ⊥
double_replay x y n e = cc

uncommitted_replay : (n : ℕ) → Uncommitted ≡ Replay n → ⊥
uncommitted_replay n e = cc

fork_replay : (x y n : ℕ) → Fork x y ≡ Replay n → ⊥
fork_replay x y n e = cc

uncovered_replay : (x n : ℕ) → Uncovered x ≡ Replay n → ⊥
uncovered_replay x n e = cc

unmatched_replay : (x n : ℕ) → Unmatched x ≡ Replay n → ⊥
unmatched_replay x n e = cc

accepted_replay : (x y z n : ℕ) → Accepted x y z ≡ Replay n → ⊥
accepted_replay x y z n e = cc

-- the rows behind Double, Fork and Replay
double_last : (commit : Bool) (ms : List Marked) (top : Option (ℕ × ℕ)) (fault un : Option ℕ) (a b n i j : ℕ) → first_some (cond commit None (Some Uncommitted) ∷ fork_by ms top ∷ replay_by fault top ∷ option_map Uncovered fault ∷ option_map Unmatched un ∷ []) (Accepted a b n) ≡ Double i j → ⊥
double_last commit ms top fault un a b n i j = none_of (cond commit None (Some Uncommitted) ∷ fork_by ms top ∷ replay_by fault top ∷ option_map Uncovered fault ∷ option_map Unmatched un ∷ []) (Accepted a b n) (Double i j) (uncommitted_not commit _ (uncommitted_double i j), (fork_not ms top _ (λ x y. fork_double x y i j), (replay_not fault top _ (λ x. replay_double x i j), (with_not Uncovered fault _ (λ x. uncovered_double x i j), (with_not Unmatched un _ (λ x. unmatched_double x i j), tt))))) (accepted_double a b n i j)

fork_last : (ms : List Marked) (top : Option (ℕ × ℕ)) (fault un : Option ℕ) (a b n i j : ℕ) → first_some (replay_by fault top ∷ option_map Uncovered fault ∷ option_map Unmatched un ∷ []) (Accepted a b n) ≡ Fork i j → ⊥
fork_last ms top fault un a b n i j = none_of (replay_by fault top ∷ option_map Uncovered fault ∷ option_map Unmatched un ∷ []) (Accepted a b n) (Fork i j) (replay_not fault top _ (λ x. replay_fork x i j), (with_not Uncovered fault _ (λ x. uncovered_fork x i j), (with_not Unmatched un _ (λ x. unmatched_fork x i j), tt))) (accepted_fork a b n i j)

replay_last : (fault un : Option ℕ) (a b n m : ℕ) → first_some (option_map Uncovered fault ∷ option_map Unmatched un ∷ []) (Accepted a b n) ≡ Replay m → ⊥
replay_last fault un a b n m = none_of (option_map Uncovered fault ∷ option_map Unmatched un ∷ []) (Accepted a b n) (Replay m) (with_not Uncovered fault _ (λ x. uncovered_replay x m), (with_not Unmatched un _ (λ x. unmatched_replay x m), tt)) (accepted_replay a b n m)

pair_double : (x : ℕ × ℕ) (i j : ℕ) → Double x.0 x.1 ≡ Double i j → x ≡ (i, j)
pair_double x i j e = let p : x.0 ≡ i = cc in let q : x.1 ≡ j = cc in ap₂ (λ (a b : ℕ). (a, b)) p q

abbrev pub double_of : ℕ × ℕ → Verdict
double_of x = Double x.0 x.1

double_row : (bad : Option ℕ) (pair : Option (ℕ × ℕ)) (stages : List (Option Verdict)) (d : Verdict) (i j : ℕ) → (first_some stages d ≡ Double i j → ⊥) → first_some (option_map BadAuth bad ∷ option_map double_of pair ∷ stages) d ≡ Double i j → (bad ≡ None) × (pair ≡ Some (i, j))
double_row (Some k) pair stages d i j never e = absurd (badauth_double k i j e)
double_row None (Some x) stages d i j never e = (refl, ap (λ (y : ℕ × ℕ). Some y) (pair_double x i j e))
double_row None None stages d i j never e = absurd (never e)

fork_row : (bad : Option ℕ) (pair : Option (ℕ × ℕ)) (commit : Bool) (fo : Option Verdict) (stages : List (Option Verdict)) (d : Verdict) (i j : ℕ) → (first_some stages d ≡ Fork i j → ⊥)
    → first_some (option_map BadAuth bad ∷ option_map double_of pair ∷ cond commit None (Some Uncommitted) ∷ fo ∷ stages) d ≡ Fork i j → (bad ≡ None) × (fo ≡ Some (Fork i j))
fork_row (Some k) pair commit fo stages d i j never e = absurd (badauth_fork k i j e)
fork_row None (Some x) commit fo stages d i j never e = absurd (double_fork x.0 x.1 i j e)
fork_row None None false fo stages d i j never e = absurd (uncommitted_fork i j e)
fork_row None None true None stages d i j never e = absurd (never e)
fork_row None None true (Some v) stages d i j never e = (refl, ap (λ (x : Verdict). Some x) e)

replay_row : (bad : Option ℕ) (pair : Option (ℕ × ℕ)) (commit : Bool) (fo rp : Option Verdict) (stages : List (Option Verdict)) (d : Verdict) (n : ℕ) → (fo ≡ Some (Replay n) → ⊥) → (first_some stages d ≡ Replay n → ⊥)
    → first_some (option_map BadAuth bad ∷ option_map double_of pair ∷ cond commit None (Some Uncommitted) ∷ fo ∷ rp ∷ stages) d ≡ Replay n → (bad ≡ None) × (commit ≡ true) × (rp ≡ Some (Replay n))
replay_row (Some k) pair commit fo rp stages d n nf never e = absurd (badauth_replay k n e)
replay_row None (Some x) commit fo rp stages d n nf never e = absurd (double_replay x.0 x.1 n e)
replay_row None None false fo rp stages d n nf never e = absurd (uncommitted_replay n e)
replay_row None None true (Some v) rp stages d n nf never e = absurd (nf (ap (λ (x : Verdict). Some x) e))
replay_row None None true None None stages d n nf never e = absurd (never e)
replay_row None None true None (Some v) stages d n nf never e = (refl, refl, ap (λ (x : Verdict). Some x) e)

abbrev pub bad_of : Case → Option ℕ
bad_of c = first_at (λ a. not (verifies c.key a)) 0 c.auths

abbrev accepted_of : Case → Verdict
accepted_of c = Accepted c.first c.last (cover_number (cover (marks c)))

pub double_case : (c : Case) (i j : ℕ) → verdict c ≡ Double i j → (bad_of c ≡ None) × (first_pair doubles 0 c.auths ≡ Some (i, j))
unfolding verdict
double_case c i j e = double_row (bad_of c) (first_pair doubles 0 c.auths) (uncommitted c ∷ fork_by (marks c) (cover (marks c)) ∷ replay_by c.fault (cover (marks c)) ∷ uncovered c ∷ unmatched_by (marks c) ∷ []) (accepted_of c) i j
    (double_last c.committed (marks c) (cover (marks c)) c.fault (first_at unmatched_mark 0 (marks c)) c.first c.last (cover_number (cover (marks c))) i j) e

pub fork_case : (c : Case) (i j : ℕ) → verdict c ≡ Fork i j → (bad_of c ≡ None) × (fork_by (marks c) (cover (marks c)) ≡ Some (Fork i j))
unfolding verdict
fork_case c i j e = fork_row (bad_of c) (first_pair doubles 0 c.auths) c.committed (fork_by (marks c) (cover (marks c))) (replay_by c.fault (cover (marks c)) ∷ uncovered c ∷ unmatched_by (marks c) ∷ []) (accepted_of c) i j
    (fork_last (marks c) (cover (marks c)) c.fault (first_at unmatched_mark 0 (marks c)) c.first c.last (cover_number (cover (marks c))) i j) e

pub replay_case : (c : Case) (n : ℕ) → verdict c ≡ Replay n → (bad_of c ≡ None) × (c.committed ≡ true) × (replay_by c.fault (cover (marks c)) ≡ Some (Replay n))
unfolding verdict
replay_case c n e = replay_row (bad_of c) (first_pair doubles 0 c.auths) c.committed (fork_by (marks c) (cover (marks c))) (replay_by c.fault (cover (marks c))) (uncovered c ∷ unmatched_by (marks c) ∷ []) (accepted_of c) n
    (fork_not (marks c) (cover (marks c)) (Replay n) (λ x y. fork_replay x y n)) (replay_last c.fault (first_at unmatched_mark 0 (marks c)) c.first c.last (cover_number (cover (marks c))) n) e
