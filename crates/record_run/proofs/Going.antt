-- A run of turns: how it begins, goes on by a turn, and ends.
use Rattle.std.proofs.Common.{◌≡◌, inl, inr, ℕ, ◌+◌, ◌≤◌, List, [], ◌∷◌, ◌++◌, length, Option, None, Some, refl, sym, ap, subst, ◌∙◌, append-nil, arith}
use Rattle.std.specs.Prelude.{Result, Ok, Err}
use Rattle.avm_model.specs.declared.NotTaken.{NotTaken}
use Rattle.avm_outside.proofs.Runs.{joined, weaker}
use Rattle.avm_outside.specs.Feed.{Agenda}
use Rattle.avm_outside.specs.Moments.{LeavesOnly}
use Rattle.avm_outside.specs.Outlet.{Piece, all_added}
use Rattle.journal_model.specs.Part.{Part}
use Rattle.journal_model.specs.Saving.{CommitRefusal, NoLeaf, NoRoom}
use Rattle.record_laws.specs.Turns.{AreTurns, IsTurn}
use Rattle.record_model.specs.Recorded.{Drop, HasEnded, IsLast, Run, drops_of, seal_run}
use Rattle.record_model.specs.Recording.{Recording, sealed, with_seal}
use Rattle.record_model.specs.Released.{Sender}
use Rattle.record_parts.specs.Ends.{CutsAmong}
use Rattle.record_run.proofs.Advancing.{turn_passes}
use Rattle.record_run.proofs.SealLeft.{sealed_none}
use Rattle.record_run.specs.Runs.{InFlight, RunEnds, RunsOut, StandsIn, Torn, Unprinted, Unsaved}
use Rattle.record_run.specs.Turned.{CantSave, DiskFailed, Going, HasGone, HasMade, IsOver, OutletFailed, SealEnds, TurnEnds, WentOn}
use Rattle.record_run.specs.declared.stops.RunStop.{RunStop}
use Rattle.record_run.specs.declared.stops.RunStop.TheVariants.{LeavesSpent, Full, DiskFault, OutletFault, SinkFault}
use Rattle.record_store.specs.Saving.{StandsWith}

-- ---- lists

added_more : {H : Type 0} (adding : Piece → H → H) (xs ys : List Piece) (h : H) → all_added adding (xs ++ ys) h ≡ all_added adding ys (all_added adding xs h)
added_more adding [] ys h = refl
added_more adding (x ∷ xs) ys h = added_more adding xs ys (adding x h)

-- what the outlet holds behind a turn
held_on : {H : Type 0} (adding : Piece → H → H) (all before more : List Piece) (old mid new : H) → all ≡ before ++ more → mid ≡ all_added adding before old → new ≡ all_added adding more mid → new ≡ all_added adding all old
held_on adding all before more old mid new whole first now =
    now ∙ ap (all_added adding more) first ∙ sym (added_more adding before more old) ∙ ap (λ (ps : List Piece). all_added adding ps old) (sym whole)

pub turns_more : (who : Sender) (r : Run) (ts : List Run) (m t : Run) → AreTurns who r ts m → IsTurn who m t → AreTurns who r (ts ++ t ∷ []) t
turns_more who r [] m t same turn = (subst (λ (x : Run). IsTurn who x t) (sym same) turn, refl)
turns_more who r (x ∷ ts) m t turns turn = (turns.0, turns_more who x ts m t turns.1 turn)

-- a run that was stopped stays as it is
stopped_last : (who : Sender) (r : Run) (why : CommitRefusal) → r.stop ≡ Some why → IsLast who r r
stopped_last who r why e =
    let is : record r { stop = Some why } ≡ r = ap (λ (o : Option CommitRefusal). record r { stop = o }) (sym e) in
    let same : IsLast who (record r { stop = Some why }) (record r { stop = Some why }) = refl in
    subst (λ (x : Run). IsLast who x x) is same

-- one that has ended is sealed
sealed_last : (who : Sender) (r last : Run) → HasEnded r → last ≡ seal_run who r → IsLast who r last
sealed_last who r last ended e =
    let is : record r { stop = None } ≡ r = ap (λ (o : Option CommitRefusal). record r { stop = o }) (sym ended.stop) in
    let same : HasEnded r × (last ≡ seal_run who r) = (ended, e) in
    let there : IsLast who (record r { stop = None }) last = subst (λ (x : Run). HasEnded x × (last ≡ seal_run who x)) (sym is) same in
    subst (λ (x : Run). IsLast who x last) is there

no_drops : (all before drops : List Drop) → all ≡ before → drops ≡ [] → all ≡ before ++ drops
no_drops all before drops same none = same ∙ sym (append-nil before) ∙ ap (λ (ds : List Drop). before ++ ds) (sym none)

module _ {D H : Type 0} (moment : D → ℕ) (left_since : D → ℕ → List ℕ → Type 0) (adding : Piece → H → H) (tearing : Piece → H → H → Type 0) (who : Sender) (r : Run) where
  -- ---- images

  stands_in : (ts : List Run) (m : Run) (flight : List Part) → AreTurns who r ts m → InFlight who m flight → (c : List ℕ) → StandsWith m.recording.journal flight c → StandsIn who r c
  stands_in ts m flight turns f c s = record { turns = ts; reached = m; are_turns = turns; flight = flight; in_flight = f; stands = s }

  pub moments_on : (old mid new : D) (ts : List Run) (m : Run) (flight : List Part) → AreTurns who r ts m → InFlight who m flight → LeavesOnly moment left_since old mid (StandsIn who r) → LeavesOnly moment left_since mid new (StandsWith m.recording.journal flight) → LeavesOnly moment left_since old new (StandsIn who r)
  moments_on old mid new ts m flight turns f a b = joined moment left_since old mid new (StandsIn who r) a (weaker moment left_since mid new (StandsWith m.recording.journal flight) (StandsIn who r) (stands_in ts m flight turns f) b)

  -- ---- a turn more

  module _ (old mid new : D) (before drops : List Drop) (was held got : H) (x y : Recording) (a b : Agenda) where
    pub going_on : (i : ℕ) → (g : Going adding who r before was held x a) → HasMade i r x a → WentOn adding who g.end drops held got y b → Going adding who r (before ++ drops) was got y b × HasMade (i + 1) r y b
    going_on i g m w =
        let p = turn_passes who g.end w.run w.turn_is in
        let own : y.machine.devices.own ≡ x.machine.devices.own = ap (λ (z : Recording). z.machine.devices.own) (sym w.recording) ∙ p.own ∙ ap (λ (z : Recording). z.machine.devices.own) g.recording in
        let made : x.machine.count + length b.events + 1 ≤ y.machine.count + length a.events = counted g w p.made in (
          record {
            turns = g.turns ++ w.run ∷ [];
            end = w.run;
            are_turns = turns_more who r g.turns g.end w.run g.are_turns w.turn_is;
            goes_on = w.goes_on;
            recording = w.recording;
            script_is = w.script_is;
            held = held_on adding w.run.released g.end.released w.pieces was held got w.released g.held w.held;
            drops_are = w.drops_are ∙ ap (λ (ds : List Drop). ds ++ drops) g.drops_are;
            own = own ∙ g.own;
          },
          record { made = omega (arith, m.made, made) },
        )
      where
        counted : (g : Going adding who r before was held x a) → (w : WentOn adding who g.end drops held got y b) → g.end.recording.machine.count + length w.run.script.events + 1 ≤ w.run.recording.machine.count + length g.end.script.events → x.machine.count + length b.events + 1 ≤ y.machine.count + length a.events
        counted g w h =
            let c : g.end.recording.machine.count ≡ x.machine.count = ap (λ (z : Recording). z.machine.count) g.recording in
            let d : w.run.recording.machine.count ≡ y.machine.count = ap (λ (z : Recording). z.machine.count) w.recording in
            let e : length g.end.script.events ≡ length a.events = ap (λ (p : Agenda). length p.events) g.script_is in
            let f : length w.run.script.events ≡ length b.events = ap (λ (p : Agenda). length p.events) w.script_is in
            omega (arith, h, c, d, e, f)

    -- the script is over
    pub goes_over : (g : Going adding who r before was held x a) → IsOver g.end held got y b → drops ≡ [] → HasGone adding who r (before ++ drops) was got y
    goes_over g o none = record {
      turns = g.turns;
      end = g.end;
      are_turns = g.are_turns;
      ended = o.ended;
      recording = o.recording;
      held = o.held ∙ g.held;
      drops_are = no_drops g.end.drops before drops g.drops_are none;
      own = ap (λ (z : Recording). z.machine.devices.own) (sym o.recording ∙ g.recording) ∙ g.own;
    }

    -- a batch can't be saved
    goes_out : (why : CommitRefusal) → (g : Going adding who r before was held x a) → CantSave who g.end why held got y b → drops ≡ [] → RunsOut adding who r (Some why) (before ++ drops) was got y
    goes_out why g c none = record {
      turns = g.turns ++ c.run ∷ [];
      end = c.run;
      are_turns = turns_more who r g.turns g.end c.run g.are_turns c.turn_is;
      last = c.run;
      last_is = stopped_last who c.run why c.stop;
      stop_is = c.stop;
      recording = c.recording;
      held = c.held ∙ g.held ∙ ap (λ (ps : List Piece). all_added adding ps was) (sym c.released);
      drops_are = no_drops c.run.drops before drops (c.drops ∙ g.drops_are) none;
    }

    goes_unsaved : (g : Going adding who r before was held x a) → DiskFailed who g.end held got y → drops ≡ [] → Unsaved adding who r (before ++ drops) was got y
    goes_unsaved g f none = record {
      turns = g.turns;
      end = g.end;
      are_turns = g.are_turns;
      journal = f.journal;
      in_flight = inr (inl f.writes);
      held = f.held ∙ g.held;
      drops_are = no_drops g.end.drops before drops g.drops_are none;
    }

    goes_torn : (g : Going adding who r before was held x a) → OutletFailed adding tearing who g.end held got y → drops ≡ [] → Torn adding tearing who r (before ++ drops) was got y
    goes_torn g f none = record {
      turns = g.turns;
      end = g.end;
      are_turns = g.are_turns;
      last = f.run;
      last_is = inl f.turn_is;
      goes_on = f.goes_on;
      recording = f.recording;
      pieces = f.pieces;
      released = f.released;
      held = subst (λ (h : H). CutsAmong adding tearing f.pieces h got) g.held f.held;
      drops_are = no_drops g.end.drops before drops g.drops_are none;
    }

    goes_unprinted : (g : Going adding who r before was held x a) → WentOn adding who g.end drops held got y b → Unprinted adding who r (before ++ drops) was got y
    goes_unprinted g w = record {
      turns = g.turns ++ w.run ∷ [];
      end = w.run;
      are_turns = turns_more who r g.turns g.end w.run g.are_turns w.turn_is;
      goes_on = w.goes_on;
      recording = w.recording;
      held = held_on adding w.run.released g.end.released w.pieces was held got w.released g.held w.held;
      drops_are = w.drops_are ∙ ap (λ (ds : List Drop). ds ++ drops) g.drops_are;
    }

    -- how a turn ends a run of them
    pub stops : (s : RunStop) → (g : Going adding who r before was held x a) → TurnEnds adding tearing who g.end drops (Err s) held got y b → ((s ≡ SinkFault → ⊥) → drops ≡ []) → RunEnds {T = ℕ} adding tearing who r (before ++ drops) was got y (Err s)
    stops LeavesSpent g h none = goes_out NoLeaf g h (none (λ e. absurd cc))
    stops Full g h none = goes_out NoRoom g h (none (λ e. absurd cc))
    stops DiskFault g h none = goes_unsaved g h (none (λ e. absurd cc))
    stops OutletFault g h none = goes_torn g h (none (λ e. absurd cc))
    stops SinkFault g h none = goes_unprinted g h

    -- ---- the seal

    -- the seal of a run that has ended
    sealed_out : (why : Option CommitRefusal) (g : HasGone adding who r before was held x) (ps : List Piece) → (sealed who g.end.recording).pieces ≡ ps → (seal_run who g.end).stop ≡ why → (seal_run who g.end).recording ≡ y → got ≡ all_added adding ps held → RunsOut adding who r why before was got y
    sealed_out why g ps pieces stop rec h = record {
      turns = g.turns;
      end = g.end;
      are_turns = g.are_turns;
      last = seal_run who g.end;
      last_is = sealed_last who g.end (seal_run who g.end) g.ended refl;
      stop_is = stop;
      recording = rec;
      held = held_on adding (seal_run who g.end).released g.end.released ps was held got (ap (λ (qs : List Piece). g.end.released ++ qs) pieces) g.held h;
      drops_are = ap (λ (d : Option NotTaken). g.end.drops ++ drops_of g.end.recording.machine d) (sealed_none who g.end.recording) ∙ append-nil g.end.drops ∙ g.drops_are;
    }

    unsealed_out : (g : HasGone adding who r before was held x) → (y ≡ with_seal g.end.recording) × (got ≡ held) → Unsaved adding who r before was got y
    unsealed_out g h = record {
      turns = g.turns;
      end = g.end;
      are_turns = g.are_turns;
      journal = ap (λ (z : Recording). z.journal) h.0;
      in_flight = inr (inr (g.ended, ap (λ (z : Recording). z.batch) h.0));
      held = h.1 ∙ g.held;
      drops_are = g.drops_are;
    }

    sealed_torn : (g : HasGone adding who r before was held x) → ((seal_run who g.end).stop ≡ None) × ((seal_run who g.end).recording ≡ y) × CutsAmong adding tearing (sealed who g.end.recording).pieces held got → Torn adding tearing who r before was got y
    sealed_torn g h = record {
      turns = g.turns;
      end = g.end;
      are_turns = g.are_turns;
      last = seal_run who g.end;
      last_is = inr (g.ended, refl);
      goes_on = h.0;
      recording = h.1;
      pieces = (sealed who g.end.recording).pieces;
      released = refl;
      held = subst (λ (z : H). CutsAmong adding tearing (sealed who g.end.recording).pieces z got) g.held h.2;
      drops_are = g.drops_are;
    }

    pub seals : (result : Result ℕ RunStop) (g : HasGone adding who r before was held x) → SealEnds adding tearing who g.end held got y result → RunEnds adding tearing who r before was got y result
    seals (Ok n) g h = sealed_out None g (sealed who g.end.recording).pieces refl h.0 h.1 h.2
    seals (Err LeavesSpent) g h = sealed_out (Some NoLeaf) g [] h.2 h.0 h.1 h.3
    seals (Err Full) g h = sealed_out (Some NoRoom) g [] h.2 h.0 h.1 h.3
    seals (Err DiskFault) g h = unsealed_out g h
    seals (Err OutletFault) g h = sealed_torn g h
    seals (Err SinkFault) g h = absurd h
