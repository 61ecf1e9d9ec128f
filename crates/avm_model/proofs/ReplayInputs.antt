-- Which inputs don't replay.
use Rattle.std.proofs.Common.{◌≡◌, ℕ, ◌-◌, ◌≤◌, ◌<◌, Bool, true, false, cond, eqb, List, [], ◌∷◌, ◌++◌, Option, Some, None, refl, ap, ◌∙◌, arith, ne_eqb}
use Rattle.avm_model.specs.Timed.{Timed, IsTimed, Entry, given, takes}
use Rattle.avm_model.specs.Rerun.{Stand, Stands, Replays, moved}
use Rattle.avm_model.specs.Judge.{judge, settle, settled}
use Rattle.avm_model.proofs.ReplayLaws.{settle_past}
use Rattle.avm_model.proofs.ReplayRecording.{past_all}
use Rattle.avm_model.proofs.ReplayTheorems.{faults}

-- not at the state's count
other_count : {S I O : Type 0} (m : Timed S I O) (s : S) (i : I) → (m.input_count i ≡ m.count s → ⊥) → takes m s i ≡ None
other_count m s i h =
    let e : eqb (m.input_count i) (m.count s) ≡ false = ne_eqb _ _ h in
    rw e refl

refused_here : {S I O : Type 0} (m : Timed S I O) (s : S) (i : I) → m.take s i ≡ None → takes m s i ≡ None
refused_here {S} m s i e = go (eqb (m.input_count i) (m.count s))
  where
    go : (b : Bool) → cond {A = Option S} b (m.take s i) None ≡ None
    go true = e
    go false = refl

-- outputs of the same step are pending
pub pending_input : {S I O : Type 0} (m : Timed S I O) → IsTimed m → (s : S) (es : List (Entry I O)) (j : Stand S O) (i : I) (o : O) (os : List O) → Stands m s es j → j.pending ≡ o ∷ os → Replays m s (es ++ given i ∷ []) → ⊥
pending_input m law s es j i o os h e =
    faults m law s es j (given i) h (rw e refl)

-- the count is past
pub late_input : {S I O : Type 0} (m : Timed S I O) → IsTimed m → (s : S) (es : List (Entry I O)) (j : Stand S O) (i : I) → Stands m s es j → m.input_count i < m.count j.state → Replays m s (es ++ given i ∷ []) → ⊥
late_input {S} {I} {O} m law s es j i h lt = faults m law s es j (given i) h (go j.pending refl)
  where
    go : (os : List O) → j.pending ≡ os → judge m j (given i) ≡ None
    go [] e =
        let zero_is : m.input_count i - m.count j.state ≡ 0 = omega arith in
        let none : takes m j.state i ≡ None = other_count m j.state i (λ q. omega arith) in
        rw (e, zero_is, none) refl
    go (o ∷ os) e = rw e refl

-- the machine gives an output no later than the input's count
pub early_input : {S I O : Type 0} (m : Timed S I O) → IsTimed m → (s : S) (es : List (Entry I O)) (j : Stand S O) (k : ℕ) (u v : S) (o : O) (os : List O) (i : I) → Stands m s es j → j.pending ≡ [] → moved m k j.state ≡ Some u → m.step u ≡ Some (v, o ∷ os) → m.count v ≤ m.input_count i → Replays m s (es ++ given i ∷ []) → ⊥
early_input {S} {I} {O} m law s es j k u v o os i h empty e st le =
    let n = law.steps u v (o ∷ os) st in
    let past = past_all m law k j.state u (m.input_count i) e (omega arith) in
    let last = settle_past m (m.input_count i) u v (o ∷ os) st n le in
    let all : settle m (m.input_count i) j.state j.pending ≡ record { state = v; pending = o ∷ os } = rw empty (past.1 ∙ last) in
    let none : judge m j (given i) ≡ None = ap (settled m (given i)) all in
    faults m law s es j (given i) h none

-- the machine refuses it
pub refused_input : {S I O : Type 0} (m : Timed S I O) → IsTimed m → (s : S) (es : List (Entry I O)) (j : Stand S O) (k : ℕ) (u : S) (i : I) → Stands m s es j → j.pending ≡ [] → moved m k j.state ≡ Some u → m.count u ≡ m.input_count i → m.take u i ≡ None → Replays m s (es ++ given i ∷ []) → ⊥
refused_input {S} {I} {O} m law s es j k u i h empty e same refused =
    let past = past_all m law k j.state u (m.input_count i) e (omega arith) in
    let zero_is : m.input_count i - m.count u ≡ 0 = omega arith in
    let none : takes m u i ≡ None = refused_here m u i refused in
    let at : settle m (m.input_count i) u [] ≡ record { state = u; pending = [] } = rw zero_is refl in
    let all : settle m (m.input_count i) j.state j.pending ≡ record { state = u; pending = [] } = rw empty (past.1 ∙ at) in
    faults m law s es j (given i) h (ap (settled m (given i)) all ∙ rw none refl)
