-- What a recorder makes replays.
use Rattle.std.proofs.Common.{◌≡◌, ℕ, zero, suc, ◌-◌, ◌≤◌, List, [], ◌∷◌, ◌++◌, map, Option, Some, None, refl, ap, ◌∙◌, arith}
use Rattle.avm_model.specs.Timed.{Timed, IsTimed, Entry, given, made, takes}
use Rattle.avm_model.specs.Rerun.{start, Stands, moved, moved_by, moved_out}
use Rattle.avm_model.specs.Judge.{judge, judge_all, settle, settled}
use Rattle.avm_model.proofs.ReplayLaws.{taken, settle_past}
use Rattle.avm_model.proofs.ReplayTheorems.{Stands-judged, judged-Stands, judge_all-append}

-- settling goes on in the same way after steps without outputs
pub past_all : {S I O : Type 0} (m : Timed S I O) → IsTimed m → (k : ℕ) (t u : S) (c : ℕ) → moved m k t ≡ Some u → m.count u ≤ c → (m.count t ≤ m.count u) × (settle m c t [] ≡ settle m c u [])
past_all m law zero t u c e le = let q : t ≡ u = cc in (rw q (omega arith), rw q refl)
past_all {S} {I} {O} m law (suc k) t u c e le = go (λ v e. past_all m law k v u c e le) (m.step t) refl e
  where
    out : ((v : S) → moved m k v ≡ Some u → (m.count v ≤ m.count u) × (settle m c v [] ≡ settle m c u [])) → (v : S) (os : List O) → m.step t ≡ Some (v, os) → moved_out os (moved m k v) ≡ Some u → (m.count t ≤ m.count u) × (settle m c t [] ≡ settle m c u [])
    out ih v [] s h =
        let n = law.steps t v [] s in
        let r = ih v h in
        (omega (arith, r.0), settle_past m c t v [] s n (omega (arith, r.0)) ∙ r.1)
    out ih v (o ∷ os) s h = absurd cc

    go : ((v : S) → moved m k v ≡ Some u → (m.count v ≤ m.count u) × (settle m c v [] ≡ settle m c u [])) → (r : Option (S × List O)) → m.step t ≡ r → moved_by r (moved m k) ≡ Some u → (m.count t ≤ m.count u) × (settle m c t [] ≡ settle m c u [])
    go ih None s h = absurd cc
    go ih (Some r) s h = out ih r.0 r.1 s h

-- outputs that are pending are judged well, one after another
pending_all : {S I O : Type 0} (m : Timed S I O) → IsTimed m → (v : S) (os : List O) → judge_all m (record { state = v; pending = os }) (map made os) ≡ Some (start v)
pending_all m law v [] = refl
pending_all m law v (o ∷ os) = rw (law.same_refl o) (pending_all m law v os)

-- A step's outputs go on a log that replays, also after steps without outputs.
pub step_recorded : {S I O : Type 0} (m : Timed S I O) → IsTimed m → (s t u v : S) (es : List (Entry I O)) (k : ℕ) (o : O) (os : List O) → Stands m s es (start t) → moved m k t ≡ Some u → m.step u ≡ Some (v, o ∷ os) → Stands m s (es ++ map made (o ∷ os)) (start v)
step_recorded {S} {I} {O} m law s t u v es k o os h e st =
    let stamps = law.stamps u v (o ∷ os) st in
    let n = law.steps u v (o ∷ os) st in
    let past = past_all m law k t u (m.output_count o) e (omega (arith, stamps.0)) in
    let last = settle_past m (m.output_count o) u v (o ∷ os) st n (omega (arith, stamps.0)) in
    let one : judge m (start t) (made o) ≡ Some (record { state = v; pending = os }) =
    ap (settled m (made o)) (past.1 ∙ last) ∙ rw (law.same_refl o) refl in
    let all : judge_all m (start t) (map made (o ∷ os)) ≡ Some (start v) = rw one (pending_all m law v os) in
    Stands-judged m law s (es ++ map made (o ∷ os)) (start v) (judge_all-append m (start s) es (map made (o ∷ os)) ∙ rw (judged-Stands m law s es (start t) h) all)

-- So does a taken input.
pub take_recorded : {S I O : Type 0} (m : Timed S I O) → IsTimed m → (s t u v : S) (es : List (Entry I O)) (k : ℕ) (i : I) → Stands m s es (start t) → moved m k t ≡ Some u → takes m u i ≡ Some v → Stands m s (es ++ given i ∷ []) (start v)
take_recorded {S} {I} {O} m law s t u v es k i h e tk =
    let same = taken m law u v i tk in
    let past = past_all m law k t u (m.input_count i) e (omega (arith, same.0)) in
    let none : m.input_count i - m.count u ≡ 0 = omega (arith, same.0) in
    let at : settle m (m.input_count i) u [] ≡ start u = rw none refl in
    let one : judge m (start t) (given i) ≡ Some (start v) = ap (settled m (given i)) (past.1 ∙ at) ∙ rw tk refl in
    Stands-judged m law s (es ++ given i ∷ []) (start v) (judge_all-append m (start s) es (given i ∷ []) ∙ rw (judged-Stands m law s es (start t) h, one) refl)
