-- The run of a machine over its inputs.
use Rattle.std.specs.Prelude.{◌≡◌, ℕ, zero, suc, ◌-◌, ◌<◌, ◌≤◌, length, take, List, [], ◌∷◌, ◌++◌, Option, Some, None}
use Rattle.avm_model.specs.Timed.{Timed, Entry, given, made, inputs, last_count, takes}

-- a state, and outputs of its last step
pub record Stand (S O : Type 0) : Type 0 where
  pub state : S
  pub pending : List O

-- An entry of a run, the state when it has been made, its step completed, and the later outputs of that step.
pub record Moment (S I O : Type 0) : Type 0 where
  pub entry : Entry I O
  pub state : S
  pub lacking : List O

-- the moments of a step's outputs
abbrev pub outputs : {S I O : Type 0} → S → List O → List (Moment S I O)
outputs t [] = []
outputs t (o ∷ os) = record { entry = made o; state = t; lacking = os } ∷ outputs t os

abbrev pub taking_one : {S I O : Type 0} → Option S → I → List (Moment S I O) → (S → List (Moment S I O)) → List (Moment S I O)
taking_one None i other f = other
taking_one (Some t) i other f = record { entry = given i; state = t; lacking = [] } ∷ f t

-- Rule 1, as often as it applies: the next input that has the state's count and isn't refused is taken. Then the run goes on by next.
abbrev pub taking : {S I O : Type 0} → Timed S I O → S → List I → (S → List I → List (Moment S I O)) → List (Moment S I O)
taking m s [] next = next s []
taking m s (i ∷ is) next = taking_one (takes m s i) i (next s (i ∷ is)) (λ t. taking m t is next)

abbrev pub stepping : {S I O : Type 0} → Option (S × List O) → (S → List (Moment S I O)) → List (Moment S I O)
stepping None f = []
stepping (Some r) f = outputs r.0 r.1 ++ f r.0

-- Rules 2 and 3: where d more steps are allowed and the state can step, one step is made, its outputs come next, and rule 1 follows. Else the run ends.
abbrev pub after_taking : {S I O : Type 0} → Timed S I O → ℕ → S → List I → List (Moment S I O)
after_taking m zero s is = []
after_taking m (suc d) s is = stepping (m.step s) (λ t. taking m t is (after_taking m d))

-- the run from s, of at most d steps
abbrev pub run : {S I O : Type 0} → Timed S I O → ℕ → S → List I → List (Moment S I O)
run m d s is = taking m s is (after_taking m d)

-- the run from s while the count is below n
abbrev pub rerun : {S I O : Type 0} → Timed S I O → S → List I → ℕ → List (Moment S I O)
rerun m s is n = run m (n - m.count s) s is

-- rule 1 doesn't apply
abbrev pub NotTaken : {S I O : Type 0} → Timed S I O → S → List I → Type 0
NotTaken m s [] = Unit {0}
NotTaken m s (i ∷ is) = takes m s i ≡ None

-- the entries are the first of the run's
abbrev pub IsFront : {S I O : Type 0} → List (Entry I O) → List (Moment S I O) → Type 0
IsFront [] ms = Unit {0}
IsFront (e ∷ es) [] = ⊥
IsFront (e ∷ es) (m ∷ ms) = (e ≡ m.entry) × IsFront es ms

-- Replays(s, E)
abbrev pub Replays : {S I O : Type 0} → Timed S I O → S → List (Entry I O) → Type 0
Replays m s es = IsFront es (rerun m s (inputs es) (last_count m 0 es))

-- where a log stands after its last entry, as the run has it
abbrev pub reached : {S I O : Type 0} → List (Entry I O) → List (Moment S I O) → Stand S O → Stand S O
reached [] ms here = here
reached (e ∷ es) [] here = here
reached (e ∷ es) (m ∷ ms) here = reached es ms (record { state = m.state; pending = m.lacking })

-- After(s, E) and what E lacks of its last step's outputs
abbrev pub after : {S I O : Type 0} → Timed S I O → S → List (Entry I O) → Stand S O
after m s es = reached es (rerun m s (inputs es) (last_count m 0 es)) (record { state = s; pending = [] })

-- where a replay begins
abbrev pub start : {S O : Type 0} → S → Stand S O
start s = record { state = s; pending = [] }

-- The entries replay from s, and here is where they leave the run.
pub record Stands {S I O : Type 0} (m : Timed S I O) (s : S) (es : List (Entry I O)) (here : Stand S O) : Type 0 where
  pub replays : Replays m s es
  pub is : here ≡ after m s es

-- Entry k is the last of the shortest front that doesn't replay.
pub record IsFirstFault {S I O : Type 0} (m : Timed S I O) (s : S) (es : List (Entry I O)) (k : ℕ) : Type 0 where
  pub within : k < length es
  pub fault : Replays m s (take (suc k) es) → ⊥
  pub first : (n : ℕ) → n ≤ k → Replays m s (take n es)

-- only where there are no outputs
abbrev pub moved_out : {S O : Type 0} → List O → Option S → Option S
moved_out [] r = r
moved_out (o ∷ os) r = None

-- k steps without outputs
abbrev pub moved_by : {S O : Type 0} → Option (S × List O) → (S → Option S) → Option S
moved_by None f = None
moved_by (Some r) f = moved_out r.1 (f r.0)

abbrev pub moved : {S I O : Type 0} → Timed S I O → ℕ → S → Option S
moved m zero s = Some s
moved m (suc k) s = moved_by (m.step s) (moved m k)

-- the first fault, or none where all replays
abbrev pub IsFault : {S I O : Type 0} → Timed S I O → S → List (Entry I O) → Option ℕ → Type 0
IsFault m s es None = Replays m s es
IsFault m s es (Some k) = IsFirstFault m s es k
