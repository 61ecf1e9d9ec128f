-- What steps and inputs keep, from the state of a base on.
use Rattle.std.proofs.Common.{◌≡◌, ℕ, zero, suc, Bool, true, false, List, [], ◌∷◌, ◌++◌, Option, Some, None, refl, sym, ap, subst, ◌⊎◌, inl, inr}
use Rattle.std.specs.Prelude.{◌&&◌, cond, eqb}
use Rattle.std.specs.Option.{option_map}
use Rattle.avm_num.specs.Bytes.{◌>>=◌, kept}
use Rattle.avm_model.specs.Head.{HeadData}
use Rattle.avm_model.specs.HeadReading.{head_of}
use Rattle.avm_model.specs.HeadState.{state_of}
use Rattle.avm_model.specs.Machine.{State}
use Rattle.avm_model.specs.Reference.{Given, Made, entries_of, step_of, take_of, timed}
use Rattle.avm_model.specs.Rerun.{Moment, Stand, after, after_taking, outputs, reached, rerun, stepping, taking, taking_one}
use Rattle.avm_model.specs.Timed.{Entry, inputs, last_count, takes}
use Rattle.honest_model.specs.Honest.{header_state}
use Rattle.honest_model.specs.Keeps.{IsHeaderBase, IsKeepBase, IsOpened, frames_behind, keep_state, kept_ram, last_of, same_front, within_steps}
use Rattle.journal_model.specs.Header.{HeaderData}
use Rattle.journal_model.specs.Journal.{JournalData}
use Rattle.journal_model.specs.Part.{KeepData, keeps_in}
use Rattle.rebut_model.proofs.Snapshots.{Kept}
use Rattle.snapshot_laws.proofs.Clocks.{Wanted, none_wanted, wanted}

-- ---- every state of a run

abbrev AllAt : (State → Type 0) → List (Moment State Given Made) → Type 0
AllAt P [] = Unit {0}
AllAt P (m ∷ ms) = P m.state × AllAt P ms

takes_is : (s : State) (i : Given) (t : State) → takes timed s i ≡ Some t → take_of s i ≡ Some t
takes_is s i t e = go (eqb i.count s.count) e
  where
    go : (b : Bool) → cond b (take_of s i) None ≡ Some t → take_of s i ≡ Some t
    go true q = q
    go false q = absurd cc

module _ (P : State → Type 0) (keeps : Kept P) where
  taking_all : (s : State) (is : List Given) (next : State → List Given → List (Moment State Given Made)) → P s → ((t : State) (js : List Given) → P t → AllAt P (next t js)) → AllAt P (taking timed s is next)
  taking_all s [] next p h = h s [] p
  taking_all s (i ∷ is) next p h = go (takes timed s i) refl (λ t q. taking_all t is next q h)
    where
      go : (r : Option State) → takes timed s i ≡ r → ((t : State) → P t → AllAt P (taking timed t is next)) → AllAt P (taking_one r i (next s (i ∷ is)) (λ t. taking timed t is next))
      go None e more = h s (i ∷ is) p
      go (Some t) e more = let q : P t = keeps.take s t i (takes_is s i t e) p in (q, more t q)

  outputs_all : (t : State) (os : List Made) (ms : List (Moment State Given Made)) → P t → AllAt P ms → AllAt P (outputs t os ++ ms)
  outputs_all t [] ms p h = h
  outputs_all t (o ∷ os) ms p h = (p, outputs_all t os ms p h)

  steps_all : (d : ℕ) (s : State) (is : List Given) → P s → AllAt P (after_taking timed d s is)
  steps_all zero s is p = tt
  steps_all (suc d) s is p = go (step_of s) refl (λ t js q. steps_all d t js q)
    where
      go : (r : Option (State × List Made)) → step_of s ≡ r → ((t : State) (js : List Given) → P t → AllAt P (after_taking timed d t js)) → AllAt P (stepping r (λ t. taking timed t is (after_taking timed d)))
      go None e more = tt
      go (Some r) e more = let q : P r.0 = keeps.step s r.0 r.1 e p in outputs_all r.0 r.1 (taking timed r.0 is (after_taking timed d)) q (taking_all r.0 is (after_taking timed d) q more)

  reached_all : (es : List (Entry Given Made)) (ms : List (Moment State Given Made)) (here : Stand State Made) → P here.state → AllAt P ms → P (reached es ms here).state
  reached_all [] ms here p h = p
  reached_all (e ∷ es) [] here p h = p
  reached_all (e ∷ es) (m ∷ ms) here p h = reached_all es ms (record { state = m.state; pending = m.lacking }) h.0 h.1

  pub after_all : (s : State) (es : List (Entry Given Made)) → P s → P (after timed s es).state
  after_all s es p = reached_all es (rerun timed s (inputs es) (last_count timed 0 es)) (record { state = s; pending = [] }) p (taking_all s (inputs es) _ p (λ t js q. steps_all _ t js q))

-- ---- the state of a base

abbrev clock_in : Option State → Option ℕ
clock_in None = None
clock_in (Some s) = s.devices.clock

header_free : (h : HeaderData) (s : State) → header_state h ≡ Some s → s.devices.clock ≡ None
header_free h s e = go (head_of h.head) e
  where
    go : (o : Option HeadData) → option_map (λ d. state_of d h.pages) o ≡ Some s → s.devices.clock ≡ None
    go None q = absurd cc
    go (Some d) q = sym (ap clock_in q)

keep_free : (h : HeaderData) (ks : List KeepData) (k : KeepData) (s : State) → keep_state h ks k ≡ Some s → s.devices.clock ≡ None
keep_free h ks k s e = first (head_of h.head) e
  where
    last : (b : HeadData) (c : Bool) → kept c (state_of b (kept_ram h.pages (ks ++ k ∷ []))) ≡ Some s → s.devices.clock ≡ None
    last b true q = sym (ap clock_in q)
    last b false q = absurd cc

    second : (a : HeadData) (o : Option HeadData) → (o >>= λ b. kept (same_front a b && within_steps h.first a k.seq b) (state_of b (kept_ram h.pages (ks ++ k ∷ [])))) ≡ Some s → s.devices.clock ≡ None
    second a None q = absurd cc
    second a (Some b) q = last b (same_front a b && within_steps h.first a k.seq b) q

    first : (o : Option HeadData) → (o >>= λ a. head_of k.head >>= λ b. kept (same_front a b && within_steps h.first a k.seq b) (state_of b (kept_ram h.pages (ks ++ k ∷ [])))) ≡ Some s → s.devices.clock ≡ None
    first None q = absurd cc
    first (Some a) q = second a (head_of k.head) q

pub opened_wanted : (j : JournalData) (s : State) → IsOpened j s → Wanted s
opened_wanted j s o = subst Wanted (sym o.after_is) (after_all Wanted wanted o.state (entries_of (frames_behind o.front o.behind)) (none_wanted o.state (free o.base.base)))
  where
    free : IsHeaderBase j o.front o.state ⊎ IsKeepBase j (last_of j) o.front o.state → o.state.devices.clock ≡ None
    free (inl b) = header_free j.header o.state b.state
    free (inr b) = keep_free j.header (keeps_in b.before) b.last o.state b.good.state
