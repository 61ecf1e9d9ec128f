-- The reference machine is a machine with a count.
use Rattle.std.proofs.Common.{◌≡◌, ℕ, ◌+◌, Bool, true, false, Option, Some, None, List, [], ◌∷◌, map, refl, sym, ap, subst, ◌∙◌, eqb-true, eq-eqb}
use Rattle.std.specs.Prelude.{if◌then◌else◌, ◌&&◌}
use Rattle.std.specs.List.{AllByRecursion}
use Rattle.std.specs.Str.{bytes_eq}
use Rattle.std.proofs.lemmas.Slice.Eq.{bytes_eq-Decides}
use Rattle.avm_model.specs.Timed.{IsTimed}
use Rattle.avm_model.specs.Exec.{Outcome, Goes, Waits, Stops}
use Rattle.avm_model.specs.Machine.{State, Board, Output, Out, Send, Halt, Snap, Step, stepped, can_step, exec_flat, board_of}
use Rattle.avm_model.specs.Input.{InputState, Console, Clock, Message, Acked, Take}
use Rattle.avm_model.specs.Offer.{Offer, OfferConsole, OfferClock, OfferData, OfferAck, DataIn, AckIn, data_in, ack_in, take_data, take_ack, refused, taken}
use Rattle.avm_model.specs.Reference.{Given, Made, OutAt, SendAt, HaltAt, SnapAt, NothingAt, made_count, made_of, made_by, step_of, take_of, unless, same_made, timed}
use Rattle.avm_model.specs.declared.NotTaken.{NotTaken}
use Rattle.avm_model.proofs.StepLaws.{can_go}

-- ---- steps

-- what a step gives is what the definition says, and it adds 1 to the count
pub step_is : (s t : State) (os : List Made) → step_of s ≡ Some (t, os) → (can_step s ≡ true) × (t ≡ (Step s).state) × (os ≡ map (made_of t) (Step s).outs)
unfolding step_of
step_is s t os e = go (can_step s) e
  where
    go : (b : Bool) → (if b then Some (made_by (Step s)) else None) ≡ Some (t, os) → (b ≡ true) × (t ≡ (Step s).state) × (os ≡ map (made_of t) (Step s).outs)
    go false h = absurd cc
    go true h =
        let p : made_by (Step s) ≡ (t, os) = cc in
        let state : (Step s).state ≡ t = ap (λ (x : State × List Made). x.0) p in
        let outs : map (made_of (Step s).state) (Step s).outs ≡ os = ap (λ (x : State × List Made). x.1) p in
        (refl, sym state, sym outs ∙ ap (λ (x : State). map (made_of x) (Step s).outs) state)

step_adds : (s : State) → can_step s ≡ true → (Step s).state.count ≡ s.count + 1
step_adds s can = go (exec_flat s.hart (board_of s)) (can_go s can)
  where
    go : (o : Outcome Board) → (o ≡ Waits → ⊥) → (stepped s o).state.count ≡ s.count + 1
    go (Goes h b) f = refl
    go Waits f = absurd (f refl)
    go (Stops cause value) f = refl

pub step_counts : (s t : State) (os : List Made) → step_of s ≡ Some (t, os) → t.count ≡ s.count + 1
step_counts s t os e = let k = step_is s t os e in ap (λ (x : State). x.count) k.1 ∙ step_adds s k.0

made_stamps : (t : State) (os : List Output) → AllByRecursion (λ o. made_count o ≡ t.count) (map (made_of t) os)
made_stamps t [] = tt
made_stamps t (Out bytes ∷ os) = (refl, made_stamps t os)
made_stamps t (Send peer number payload ∷ os) = (refl, made_stamps t os)
made_stamps t (Halt cause value ∷ os) = (refl, made_stamps t os)
made_stamps t (Snap ∷ os) = (refl, made_stamps t os)

step_stamps : (s t : State) (os : List Made) → step_of s ≡ Some (t, os) → AllByRecursion (λ o. made_count o ≡ t.count) os
step_stamps s t os e = let k = step_is s t os e in subst (λ (x : List Made). AllByRecursion (λ o. made_count o ≡ t.count) x) (sym k.2) (made_stamps t (Step s).outs)

-- ---- inputs

take_keeps : (s : State) (i : InputState) → (Take s i).count ≡ s.count
take_keeps s (Console bytes) = refl
take_keeps s (Clock value) = refl
take_keeps s (Message peer number payload) = refl
take_keeps s (Acked peer number) = refl

data_keeps : (s : State) (d : Option DataIn) → (take_data s d).count ≡ s.count
data_keeps s None = refl
data_keeps s (Some d) = refl

ack_keeps : (s : State) (a : Option AckIn) → (take_ack s a).count ≡ s.count
ack_keeps s None = refl
ack_keeps s (Some a) = refl

taken_keeps : (s : State) (o : Offer) → (taken s o).count ≡ s.count
unfolding taken
taken_keeps s (OfferConsole bytes) = refl
taken_keeps s (OfferClock value) = refl
taken_keeps s (OfferData bytes) = data_keeps s (data_in bytes)
taken_keeps s (OfferAck bytes) = ack_keeps s (ack_in bytes)

take_counts : (s t : State) (i : Given) → take_of s i ≡ Some t → t.count ≡ s.count
unfolding take_of
take_counts s t i e = go (refused s i.offer) e
  where
    go : (r : Option NotTaken) → unless r (taken s i.offer) ≡ Some t → t.count ≡ s.count
    go None h = let p : taken s i.offer ≡ t = cc in rw (← p) (taken_keeps s i.offer)
    go (Some why) h = absurd cc

-- ---- outputs are compared

and_true : (a b : Bool) → (a && b) ≡ true → (a ≡ true) × (b ≡ true)
and_true true true h = (refl, refl)
and_true true false h = absurd cc
and_true false b h = absurd cc

bytes_same : (a b : List ℕ) → bytes_eq a b ≡ true → a ≡ b
bytes_same a b h = (bytes_eq-Decides a b).0 h

bytes_refl : (a : List ℕ) → bytes_eq a a ≡ true
bytes_refl a = (bytes_eq-Decides a a).1 refl

same_refl : (a : Made) → same_made a a ≡ true
same_refl (OutAt n a) = rw (eq-eqb n n refl, bytes_refl a) refl
same_refl (SendAt n p k a) = rw (eq-eqb n n refl, eq-eqb p p refl, eq-eqb k k refl, bytes_refl a) refl
same_refl (HaltAt n c v) = rw (eq-eqb n n refl, eq-eqb c c refl, eq-eqb v v refl) refl
same_refl (SnapAt n a) = rw (eq-eqb n n refl, bytes_refl a) refl
same_refl (NothingAt n) = rw (eq-eqb n n refl) refl

same_is : (a b : Made) → same_made a b ≡ true → a ≡ b
same_is (OutAt n a) (OutAt m b) h =
    let p = and_true _ _ h in
    let q : n ≡ m = eqb-true _ _ p.0 in
    let r = bytes_same a b p.1 in
    cc
same_is (SendAt n p k a) (SendAt m q l b) h =
    let x = and_true _ _ h in
    let y = and_true _ _ x.0 in
    let z = and_true _ _ y.0 in
    let e : n ≡ m = eqb-true _ _ z.0 in
    let f : p ≡ q = eqb-true _ _ z.1 in
    let g : k ≡ l = eqb-true _ _ y.1 in
    let r = bytes_same a b x.1 in
    cc
same_is (HaltAt n c v) (HaltAt m d w) h =
    let x = and_true _ _ h in
    let y = and_true _ _ x.0 in
    let e : n ≡ m = eqb-true _ _ y.0 in
    let f : c ≡ d = eqb-true _ _ y.1 in
    let g : v ≡ w = eqb-true _ _ x.1 in
    cc
same_is (SnapAt n a) (SnapAt m b) h =
    let p = and_true _ _ h in
    let q : n ≡ m = eqb-true _ _ p.0 in
    let r = bytes_same a b p.1 in
    cc
same_is (NothingAt n) (NothingAt m) h = let q : n ≡ m = eqb-true _ _ h in cc
same_is (OutAt n a) (SendAt m q l b) h = absurd cc
same_is (OutAt n a) (HaltAt m d w) h = absurd cc
same_is (OutAt n a) (SnapAt m b) h = absurd cc
same_is (OutAt n a) (NothingAt m) h = absurd cc
same_is (SendAt n p k a) (OutAt m b) h = absurd cc
same_is (SendAt n p k a) (HaltAt m d w) h = absurd cc
same_is (SendAt n p k a) (SnapAt m b) h = absurd cc
same_is (SendAt n p k a) (NothingAt m) h = absurd cc
same_is (HaltAt n c v) (OutAt m b) h = absurd cc
same_is (HaltAt n c v) (SendAt m q l b) h = absurd cc
same_is (HaltAt n c v) (SnapAt m b) h = absurd cc
same_is (HaltAt n c v) (NothingAt m) h = absurd cc
same_is (SnapAt n a) (OutAt m b) h = absurd cc
same_is (SnapAt n a) (SendAt m q l b) h = absurd cc
same_is (SnapAt n a) (HaltAt m d w) h = absurd cc
same_is (SnapAt n a) (NothingAt m) h = absurd cc
same_is (NothingAt n) (OutAt m b) h = absurd cc
same_is (NothingAt n) (SendAt m q l b) h = absurd cc
same_is (NothingAt n) (HaltAt m d w) h = absurd cc
same_is (NothingAt n) (SnapAt m b) h = absurd cc

pub is_timed : IsTimed timed
is_timed = record { steps = step_counts; stamps = step_stamps; takes = take_counts; same_refl = same_refl; same_is = same_is }
