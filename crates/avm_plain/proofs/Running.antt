-- The rules of a run, as the plain program goes by them.
use Rattle.std.proofs.Common.{◌≡◌, ℕ, ◌+◌, ◌<◌, ◌≤◌, true, false, List, [], ◌∷◌, ◌++◌, map, drop, Bool, IsTrue, ◌↔◌, append_assoc, Some, None, ◌⊎◌, inl, inr, refl, sym, ap, subst, ◌∙◌, arith}
use Rattle.std.proofs.lemmas.List.{map-append, drop-map}
use Rattle.avm_model.specs.Machine.{State, Step, can_step}
use Rattle.avm_model.specs.Timed.{Entry as EntryOf, given, made, takes, inputs, last_count}
use Rattle.avm_model.specs.Rerun.{Moment, rerun, outputs, NotTaken, IsFront, Replays}
use Rattle.avm_model.proofs.ReplayLaws.{taken}
use Rattle.avm_model.proofs.ReplayTheorems.{rule_one, rule_two, rule_three}
use Rattle.avm_plain.specs.Part.{Advances, Opens}
use Rattle.avm_plain.specs.Replay.{GivenOf, MadeOf, plain, step_of, made_by, given_of, entry_of, entries_in, stamped}
use Rattle.avm_plain.specs.declared.entries.Given.{Given}
use Rattle.avm_plain.specs.declared.entries.Entry.{Entry}
use Rattle.avm_plain.specs.declared.replaying.Part.{Part}
use Rattle.avm_plain.proofs.TimedLaws.{is_timed, step_adds, steps_to, steps_not}

-- the entries of a step's outputs
outputs_in : (t : State) (os : List MadeOf) → entries_in (outputs t os) ≡ map made os
outputs_in t [] = refl
outputs_in t (o ∷ os) = ap (λ (es : List (EntryOf GivenOf MadeOf)). made o ∷ es) (outputs_in t os)

by_step : (s : State) (is : List GivenOf) (n : ℕ) → NotTaken plain s is → s.count < n → can_step s ≡ true → entries_in (rerun plain s is n) ≡ stamped (Step s).state.count (Step s).outs ++ entries_in (rerun plain (Step s).state is n)
by_step s is n free low can =
    let t : State = (Step s).state in
    let os : List MadeOf = (made_by (Step s)).1 in
    ap entries_in (rule_two plain is_timed s t os is n free low (steps_to s can))
    ∙ map-append (λ m. m.entry) (outputs t os) (rerun plain t is n)
    ∙ ap (λ (es : List (EntryOf GivenOf MadeOf)). es ++ entries_in (rerun plain t is n)) (outputs_in t os)

pub advances_by_step : (s : State) (is : List GivenOf) (n : ℕ) (p : Part) → NotTaken plain s is → s.count < n → can_step s ≡ true → p.state ≡ (Step s).state → map entry_of p.entries.items ≡ stamped p.state.count (Step s).outs → p.took ≡ 0 → Advances s is n p
advances_by_step s is n p free low can state entries took =
    let adds = step_adds s can in
    let count : p.state.count ≡ s.count + 1 = ap (λ (x : State). x.count) state ∙ adds in
    record {
      run = by_step s is n free low can ∙ rw (entries, took, state) refl;
      took = omega arith;
      few = omega arith;
      less = omega arith;
    }

pub advances_by_input : (s : State) (i : GivenOf) (is : List GivenOf) (n : ℕ) (p : Part) → takes plain s i ≡ Some p.state → map entry_of p.entries.items ≡ given i ∷ [] → p.took ≡ 1 → Advances s (i ∷ is) n p
advances_by_input s i is n p takes entries took =
    let count = taken plain is_timed s p.state i takes in
    record {
      run = ap entries_in (rule_one plain is_timed s p.state i is n takes) ∙ rw (entries, took) refl;
      took = omega arith;
      few = omega arith;
      less = omega arith;
    }

pub ends : (s : State) (is : List GivenOf) (n : ℕ) → NotTaken plain s is → ((n ≤ s.count) ⊎ (can_step s ≡ false)) → entries_in (rerun plain s is n) ≡ []
ends s is n free why = ap entries_in (rule_three plain s is n free (go why))
  where
    go : ((n ≤ s.count) ⊎ (can_step s ≡ false)) → ((n ≤ s.count) ⊎ (step_of s ≡ None))
    go (inl past) = inl past
    go (inr stays) = inr (steps_not s stays)

-- ---- a front of a run

pub front_opens : (es : List (EntryOf GivenOf MadeOf)) (ms : List (Moment State GivenOf MadeOf)) → IsFront es ms → Opens es (entries_in ms)
front_opens [] ms h = tt
front_opens (e ∷ es) [] h = h
front_opens (e ∷ es) (m ∷ ms) h = (h.0, front_opens es ms h.1)

pub opens_front : (es : List (EntryOf GivenOf MadeOf)) (ms : List (Moment State GivenOf MadeOf)) → Opens es (entries_in ms) → IsFront es ms
opens_front [] ms h = tt
opens_front (e ∷ es) [] h = h
opens_front (e ∷ es) (m ∷ ms) h = (h.0, opens_front es ms h.1)

-- the program's answer is the definition's
pub told : (b : Bool) (s : State) (es run : List (EntryOf GivenOf MadeOf)) (is : List GivenOf) (n : ℕ) → (IsTrue b ↔ Opens es run) → run ≡ entries_in (rerun plain s is n) → is ≡ inputs es → n ≡ last_count plain 0 es → IsTrue b ↔ Replays plain s es
told b s es run is n h e i l =
    let f : run ≡ entries_in (rerun plain s (inputs es) (last_count plain 0 es)) = rw (← i, ← l) e in
    (λ t. opens_front es _ (subst (λ (r : List (EntryOf GivenOf MadeOf)). Opens es r) f (h.0 t)), λ r. h.1 (subst (λ (r : List (EntryOf GivenOf MadeOf)). Opens es r) (sym f) (front_opens es _ r)))

-- ---- the loop over the parts

pub goes_on : (entries more all : List Entry) (s t : State) (rest later : List Given) (took n : ℕ) (whole : List (EntryOf GivenOf MadeOf)) → all ≡ entries ++ more → later ≡ drop took rest → entries_in (rerun plain s (map given_of rest) n) ≡ map entry_of more ++ entries_in (rerun plain t (drop took (map given_of rest)) n) → map entry_of entries ++ entries_in (rerun plain s (map given_of rest) n) ≡ whole → map entry_of all ++ entries_in (rerun plain t (map given_of later) n) ≡ whole
goes_on entries more all s t rest later took n whole joined left run h =
    let is : map given_of later ≡ drop took (map given_of rest) = ap (map given_of) left ∙ sym (drop-map given_of took rest) in
    let after : List (EntryOf GivenOf MadeOf) = entries_in (rerun plain t (drop took (map given_of rest)) n) in
    rw (joined, is)
    (ap (λ (es : List (EntryOf GivenOf MadeOf)). es ++ after) (map-append entry_of entries more)
    ∙ append_assoc (map entry_of entries) (map entry_of more) after
    ∙ ap (λ (es : List (EntryOf GivenOf MadeOf)). map entry_of entries ++ es) (sym run) ∙ h)
