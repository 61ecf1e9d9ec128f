-- What a turn of the recorder makes of a run.
use Rattle.std.proofs.Common.{◌≡◌, ◌⊎◌, inl, inr, ℕ, Bool, true, false, List, [], ◌∷◌, ◌++◌, Option, None, Some, refl, sym, ap, subst, ◌∙◌, arith}
use Rattle.std.specs.Prelude.{is_some, Result, Ok, Err}
use Rattle.std.specs.Option.{option_map}
use Rattle.avm_model.specs.Keys.{KeyData}
use Rattle.avm_model.specs.Machine.{State}
use Rattle.avm_model.specs.declared.NotTaken.{NotTaken}
use Rattle.avm_outside.specs.Feed.{Agenda, answer_of}
use Rattle.avm_outside.specs.Outlet.{Piece}
use Rattle.avm_outside.specs.Outside.{BothTold}
use Rattle.journal_model.specs.Journal.{JournalData}
use Rattle.journal_model.specs.Part.{Part}
use Rattle.journal_model.specs.Saving.{NoLeaf, NoRoom}
use Rattle.jrnl_store.specs.Kept.{Kept}
use Rattle.jrnl_store.specs.declared.fault.Stop.{Stop}
use Rattle.jrnl_store.specs.declared.fault.Stop.TheVariants as stop
use Rattle.record_kept.specs.Tickets.{AreKeptOf}
use Rattle.record_laws.specs.Turns.{at_machine}
use Rattle.record_model.specs.Recorded.{Drop, Run, ran}
use Rattle.record_model.specs.Recording.{Act, AnswerClock, Effect, Recording, SendAgain, StepOn, TakeIn, finished, is_large}
use Rattle.record_model.specs.Released.{Sender}
use Rattle.record_model.specs.Turn.{Answer, Gift, answer_for, behind_turn, gift_of}
use Rattle.record_parts.specs.Ends.{EndsAs, Faults, turn_of}
use Rattle.record_parts.specs.declared.answers.Turn.{Turn}
use Rattle.record_parts.specs.declared.answers.Turn.TheVariants as turn
use Rattle.record_ready.specs.Ready.{IsDeskOf}
use Rattle.record_run.proofs.Advancing.{effect_advances, finished_machine, moved_comes}
use Rattle.record_run.specs.Runs.{InFlight}
use Rattle.record_run.specs.Turned.{DiskFailed, IsOver, LeftByOne, OutletFailed, TurnEnds, WentOn, drops_by, turned_by}
use Rattle.record_run.specs.declared.stops.RunStop.{RunStop}
use Rattle.record_run.specs.declared.turning.Turned.{Turned}
use Rattle.record_turn.specs.Keeping.{Aside}
use Rattle.record_turn.specs.Leaves.{Leaves}
use Rattle.recorder.proofs.Feeding.{both_map}
use Rattle.recorder.specs.Turns.{Does, FeedStops, Feeds, Planned, UnlessFeed, result_of}
use Rattle.run_laws.proofs.Turning.{by_none, cut_turn, script_plan, turned}
use Rattle.run_laws.specs.Run.{Behind, IsOver as IsEnd, Stands, dropped_by}

-- ---- answers

-- a turn that goes on
abbrev is_on : Turn → Bool
is_on (turn.Ran n) = true
is_on turn.Took = true
is_on turn.Resent = true
is_on (turn.Dropped why) = true
is_on turn.Waiting = false
is_on turn.Halted = false
is_on turn.End = false
is_on (turn.Stopped why) = false
is_on (turn.Ended why) = false

act_on : (quiet : ℕ) (act : Act) (dropped : Option NotTaken) → is_on (turn_of (answer_for quiet act dropped)) ≡ true
act_on quiet StepOn dropped = refl
act_on quiet (AnswerClock value) dropped = refl
act_on quiet (TakeIn offer) None = refl
act_on quiet (TakeIn offer) (Some why) = refl
act_on quiet (SendAgain peer) None = refl
act_on quiet (SendAgain peer) (Some why) = refl

no_act : (t : Turn) (quiet : ℕ) (act : Act) (dropped : Option NotTaken) → is_on t ≡ false → t ≡ turn_of (answer_for quiet act dropped) → ⊥
no_act t quiet act dropped off e = absurd (let q : true ≡ false = sym (act_on quiet act dropped) ∙ sym (ap is_on e) ∙ off in cc q)

pub unless_in : (t : Turn) (P : Type 0) → (t ≡ turn.Stopped stop.FeedFault → ⊥) → UnlessFeed (result_of t) P → P
unless_in (turn.Ran n) P fed h = h
unless_in turn.Took P fed h = h
unless_in turn.Resent P fed h = h
unless_in (turn.Dropped why) P fed h = h
unless_in turn.Waiting P fed h = h
unless_in turn.Halted P fed h = h
unless_in turn.End P fed h = h
unless_in (turn.Stopped stop.LeavesSpent) P fed h = h
unless_in (turn.Stopped stop.Full) P fed h = h
unless_in (turn.Stopped stop.DiskFault) P fed h = h
unless_in (turn.Stopped stop.OutletFault) P fed h = h
unless_in (turn.Stopped stop.FeedFault) P fed h = absurd (fed refl)
unless_in (turn.Ended why) P fed h = h

no_idle : (s : Stop) (idle : Answer) → ◌≡◌ {A = Result Turn Stop} (Err s) (Ok (turn_of idle)) → ⊥
no_idle s idle e = absurd (cc e)

-- ---- the machine

machine_of : {H T : Type 0} (adding : Piece → H → H) (tearing : Piece → H → H → Type 0) (who : Sender) (e : Effect) (r : Recording) (f : Faults) (old new : H) (result : Result T Stop) → EndsAs adding tearing who e r f old new result → r.machine ≡ e.recording.machine
machine_of adding tearing who e r f old new (Ok x) h = ap (λ (y : Recording). y.machine) h.1 ∙ finished_machine who e
machine_of adding tearing who e r f old new (Err stop.LeavesSpent) h = ap (λ (y : Recording). y.machine) h.1
machine_of adding tearing who e r f old new (Err stop.Full) h = ap (λ (y : Recording). y.machine) h.1
machine_of adding tearing who e r f old new (Err stop.DiskFault) h = ap (λ (y : Recording). y.machine) h.0
machine_of adding tearing who e r f old new (Err stop.OutletFault) h = ap (λ (y : Recording). y.machine) h.1 ∙ finished_machine who e
machine_of adding tearing who e r f old new (Err stop.FeedFault) h = absurd h

module _ {H : Type 0} (adding : Piece → H → H) (tearing : Piece → H → H → Type 0) (who : Sender) (g : Gift) (value : ℕ) (before : Recording) (aside after_aside : Aside) (batch : List Part) (machine : State) (f : Faults) (old new : H) (result : Result Turn Stop) (next : JournalData) (flight : List Part) where
  -- the own id stays
  pub own_stays : Planned adding tearing who g value before aside after_aside batch machine f old new result next flight → machine.devices.own ≡ before.machine.devices.own
  own_stays p = go p.plan.act p.does
    where
      go : (act : Option Act) → Does adding tearing who p.plan act before aside after_aside batch machine f old new result next flight → machine.devices.own ≡ before.machine.devices.own
      go (Some act) a =
          let on = effect_advances who a.acts.pages (record before { machine = a.acts.at }) act a.acts.effect a.acts.effect_is in
          ap (λ (m : State). m.devices.own) (machine_of adding tearing who a.acts.effect (record { journal = next; batch = batch; machine = machine }) f old new result a.acts.ends)
          ∙ on.comes.own ∙ (moved_comes p.plan.quiet before.machine a.acts.at a.acts.moved_to).own
      go None i = ap (λ (m : State). m.devices.own) i.machine_is

  -- the tickets that are kept are those of the next journal
  pub tickets_stay : Planned adding tearing who g value before aside after_aside batch machine f old new result next flight → AreKeptOf aside.rows before.journal → AreKeptOf after_aside.rows next
  tickets_stay p k = go p.plan.act p.does
    where
      go : (act : Option Act) → Does adding tearing who p.plan act before aside after_aside batch machine f old new result next flight → AreKeptOf after_aside.rows next
      go (Some act) a = a.tickets k
      go None i = subst (λ (x : Aside). AreKeptOf x.rows next) (sym i.aside_is) (subst (λ (j : JournalData). AreKeptOf aside.rows j) (sym i.journal) k)

-- ---- what a turn comes to

module _ {H : Type 0} (adding : Piece → H → H) (tearing : Piece → H → H → Type 0) (who : Sender) (r : Run) (g : Gift) (value : ℕ) (aside after_aside : Aside) (batch : List Part) (machine : State) (f : Faults) (old new : H) (next : JournalData) (flight : List Part) (script : Agenda)
    (going : r.stop ≡ None) (small : is_large r.recording.batch ≡ false) (feeds : Feeds (is_some r.recording.machine.devices.clock) answer_of r.recording.machine g value r.script script) where
  went : (t : Turn) (drops : List Drop) → (IsEnd t → ⊥) → dropped_by r.recording.machine.count t ≡ drops → Planned adding tearing who g value r.recording aside after_aside batch machine f old new (Ok t) next flight
      → WentOn adding who r drops old new (record { journal = next; batch = batch; machine = machine }) script
  went t drops on same p = by (turned adding tearing who r g value aside after_aside batch machine f old new t next flight script going small feeds p)
    where
      by : Behind adding who r t old new next batch machine script ⊎ Stands r t old new next batch machine script → WentOn adding who r drops old new (record { journal = next; batch = batch; machine = machine }) script
      by (inl b) = record { run = b.run; turn_is = b.turn_is; goes_on = b.goes_on; recording = b.recording; script_is = b.script_is; pieces = b.pieces; released = b.released; held = b.held; drops_are = b.drops ∙ ap (λ (ds : List Drop). r.drops ++ ds) same }
      by (inr s) = absurd (on s.over)

  over : (t : Turn) → is_on t ≡ false → Planned adding tearing who g value r.recording aside after_aside batch machine f old new (Ok t) next flight → IsOver r old new (record { journal = next; batch = batch; machine = machine }) script
  over t off p = go p.plan.act refl p.does
    where
      stands : Stands r t old new next batch machine script → IsOver r old new (record { journal = next; batch = batch; machine = machine }) script
      stands s = record { ended = s.ended; recording = s.recording; script_is = s.script_is; held = s.held }

      go : (act : Option Act) → p.plan.act ≡ act → Does adding tearing who p.plan act r.recording aside after_aside batch machine f old new (Ok t) next flight → IsOver r old new (record { journal = next; batch = batch; machine = machine }) script
      go (Some act) is a = absurd (no_act t p.plan.quiet act a.acts.effect.dropped off a.acts.answer)
      go None is i = stands (by_none adding tearing who r g value aside after_aside batch machine f old new t next flight script p.plan is going feeds p.plan_is i)

  disk_failed : Planned adding tearing who g value r.recording aside after_aside batch machine f old new (Err stop.DiskFault) next flight → DiskFailed who r old new (record { journal = next; batch = batch; machine = machine })
  disk_failed p = go p.plan.act refl p.does
    where
      go : (act : Option Act) → p.plan.act ≡ act → Does adding tearing who p.plan act r.recording aside after_aside batch machine f old new (Err stop.DiskFault) next flight → DiskFailed who r old new (record { journal = next; batch = batch; machine = machine })
      go (Some act) is a = record {
        journal = ap (λ (x : Recording). x.journal) a.acts.ends.0 ∙ (effect_advances who a.acts.pages (record r.recording { machine = a.acts.at }) act a.acts.effect a.acts.effect_is).journal;
        writes = record {
          plan = p.plan;
          plan_is = script_plan (is_some r.recording.machine.devices.clock) g value r.recording.machine r.script script p.plan feeds p.plan_is;
          act = act;
          act_is = is;
          at = a.acts.at;
          quiet = a.acts.moved_to;
          pages = a.acts.pages;
          effect = a.acts.effect;
          effect_is = a.acts.effect_is;
          flight_is = ap (λ (x : Recording). x.batch) a.acts.ends.0;
        };
        held = a.acts.ends.1;
      }
      go None is i = absurd (no_idle stop.DiskFault p.plan.idle i.answer)

  outlet_failed : Planned adding tearing who g value r.recording aside after_aside batch machine f old new (Err stop.OutletFault) next flight → OutletFailed adding tearing who r old new (record { journal = next; batch = batch; machine = machine })
  outlet_failed p = go p.plan.act refl p.does
    where
      go : (act : Option Act) → p.plan.act ≡ act → Does adding tearing who p.plan act r.recording aside after_aside batch machine f old new (Err stop.OutletFault) next flight → OutletFailed adding tearing who r old new (record { journal = next; batch = batch; machine = machine })
      go (Some act) is a =
          let s = r.recording.machine in
          let d = finished who a.acts.effect in
          record {
            run = ran (at_machine r a.acts.at) (behind_turn (is_some s.devices.clock) (gift_of s r.script) act r.script) d;
            turn_is = record {
              pages = a.acts.pages;
              plan = p.plan;
              act = act;
              done = d;
              at = a.acts.at;
              goes_on = going;
              of_script = record {
                small = small;
                is_plan = script_plan (is_some s.devices.clock) g value s r.script script p.plan feeds p.plan_is;
                act_is = is;
                quiet = a.acts.moved_to;
                done_is = ap (option_map (finished who)) a.acts.effect_is;
              };
              behind = refl;
            };
            goes_on = a.acts.ends.0;
            recording = sym a.acts.ends.1;
            pieces = d.pieces;
            released = refl;
            held = a.acts.ends.2;
          }
      go None is i = absurd (no_idle stop.OutletFault p.plan.idle i.answer)

  pub turn_ends : (t : Turn) → (t ≡ turn.Stopped stop.FeedFault → ⊥) → Planned adding tearing who g value r.recording aside after_aside batch machine f old new (result_of t) next flight
      → TurnEnds adding tearing who r (drops_by r.recording.machine.count (turned_by t)) (turned_by t) old new (record { journal = next; batch = batch; machine = machine }) script
  turn_ends (turn.Ran n) fed p = went (turn.Ran n) [] (λ x. x) refl p
  turn_ends turn.Took fed p = went turn.Took [] (λ x. x) refl p
  turn_ends turn.Resent fed p = went turn.Resent [] (λ x. x) refl p
  turn_ends (turn.Dropped why) fed p = went (turn.Dropped why) (record { why = why; count = r.recording.machine.count } ∷ []) (λ x. x) refl p
  turn_ends turn.Waiting fed p = over turn.Waiting refl p
  turn_ends turn.Halted fed p = over turn.Halted refl p
  turn_ends turn.End fed p = over turn.End refl p
  turn_ends (turn.Stopped stop.LeavesSpent) fed p = cut_turn adding tearing who r g value aside after_aside batch machine f old new NoLeaf next flight script going small feeds p
  turn_ends (turn.Stopped stop.Full) fed p = cut_turn adding tearing who r g value aside after_aside batch machine f old new NoRoom next flight script going small feeds p
  turn_ends (turn.Stopped stop.DiskFault) fed p = disk_failed p
  turn_ends (turn.Stopped stop.OutletFault) fed p = outlet_failed p
  turn_ends (turn.Stopped stop.FeedFault) fed p = absurd (fed refl)
  turn_ends (turn.Ended why) fed p = over (turn.Ended why) refl p

  pub turn_flight : (result : Result Turn Stop) → Planned adding tearing who g value r.recording aside after_aside batch machine f old new result next flight → InFlight who r flight
  turn_flight result p = go p.plan.act refl p.does
    where
      go : (act : Option Act) → p.plan.act ≡ act → Does adding tearing who p.plan act r.recording aside after_aside batch machine f old new result next flight → InFlight who r flight
      go (Some act) is a = inr (inl (record {
        plan = p.plan;
        plan_is = script_plan (is_some r.recording.machine.devices.clock) g value r.recording.machine r.script script p.plan feeds p.plan_is;
        act = act;
        act_is = is;
        at = a.acts.at;
        quiet = a.acts.moved_to;
        pages = a.acts.pages;
        effect = a.acts.effect;
        effect_is = a.acts.effect_is;
        flight_is = a.in_flight;
      }))
      go None is i = inl i.in_flight

-- ---- a whole turn

module _ {D H : Type 0} (moment : D → ℕ) (left_since : D → ℕ → List ℕ → Type 0) (adding : Piece → H → H) (tearing : Piece → H → H → Type 0) (old new : D) (n : Kept) (images : List ℕ → Type 0) (now : List ℕ)
    (key : KeyData) (t : Turn) (g : Gift) (value : ℕ) (aside after_aside : Aside) (batch : List Part) (machine : State) (f : Faults) (held got : H) (script : Agenda) where
  -- with what the run has, or what is the same
  abbrev TurnLeft : Run → Recording → Agenda → Type 0
  TurnLeft r x a =
      is_large x.batch ≡ false → Feeds (is_some x.machine.devices.clock) answer_of x.machine g value a script → AreKeptOf aside.rows x.journal
      → Leaves moment left_since old new n images now x.journal (Planned adding tearing (record { key = key; own = machine.devices.own }) g value x aside after_aside batch machine f held got (result_of t))
      → LeftByOne moment left_since old new n after_aside.rows images now (record { key = key; own = x.machine.devices.own }) r
      (λ next. TurnEnds adding tearing (record { key = key; own = x.machine.devices.own }) r (drops_by x.machine.count (turned_by t)) (turned_by t) held got (record { journal = next; batch = batch; machine = machine }) script)

  left_by : (r : Run) → (t ≡ turn.Stopped stop.FeedFault → ⊥) → r.stop ≡ None → TurnLeft r r.recording r.script
  left_by r fed going small feeds kept h =
      let whoever : Sender = record { key = key; own = machine.devices.own } in
      let same = own_stays adding tearing whoever g value r.recording aside after_aside batch machine f held got (result_of t) h.next h.flight h.is in
      let p = subst (λ (own : ℕ). Planned adding tearing (record { key = key; own = own }) g value r.recording aside after_aside batch machine f held got (result_of t) h.next h.flight) same h.is in
      let who : Sender = record { key = key; own = r.recording.machine.devices.own } in
      record {
        next = h.next;
        desk = record { own = h.holds.own; kept = tickets_stay adding tearing who g value r.recording aside after_aside batch machine f held got (result_of t) h.next h.flight p kept };
        flight = h.flight;
        in_flight = turn_flight adding tearing who r g value aside after_aside batch machine f held got h.next h.flight script going small feeds (result_of t) p;
        moments = h.holds.moments;
        is = turn_ends adding tearing who r g value aside after_aside batch machine f held got h.next h.flight script going small feeds t fed p;
      }

  pub turn_left : (r : Run) (x : Recording) (a : Agenda) → (t ≡ turn.Stopped stop.FeedFault → ⊥) → r.stop ≡ None → r.recording ≡ x → r.script ≡ a → TurnLeft r x a
  turn_left r x a fed going e s = subst (λ (b : Agenda). TurnLeft r x b) s (subst (λ (y : Recording). TurnLeft r y r.script) e (left_by r fed going))

-- ---- on a disk that may tell its content

-- a feed whose count stays doesn't fail
pub never_fails : (t : Turn) → FeedStops (result_of t) 0 0 → t ≡ turn.Stopped stop.FeedFault → ⊥
never_fails t h e =
    let rises : FeedStops {T = Turn} (Err stop.FeedFault) 0 0 = subst (λ (u : Turn). FeedStops (result_of u) 0 0) e h in
    absurd (let less = rises.more (omega arith) in omega (arith, less))

module _ {D H : Type 0} (seen : D → Option (List ℕ)) (may_leave : D → List ℕ → Type 0) (moment : D → ℕ) (left_since : D → ℕ → List ℕ → Type 0) (adding : Piece → H → H) (tearing : Piece → H → H → Type 0) (old new : D) (k n : Kept)
    (key : KeyData) (t : Turn) (g : Gift) (value : ℕ) (aside after_aside : Aside) (before batch : List Part) (s machine : State) (f : Faults) (held got : H) (a script : Agenda) where
  abbrev OneTold : Result Turned RunStop → Type 0
  OneTold result = BothTold (seen old) (seen new) (λ was now. (j : JournalData) → IsDeskOf k aside.rows (may_leave old) was j → (r : Run) → r.stop ≡ None → r.recording ≡ record { journal = j; batch = before; machine = s } → r.script ≡ a
      → LeftByOne moment left_since old new n after_aside.rows (may_leave new) now (record { key = key; own = s.devices.own }) r
      (λ next. TurnEnds adding tearing (record { key = key; own = s.devices.own }) r (drops_by s.count result) result held got (record { journal = next; batch = batch; machine = machine }) script))

  pub told_turn : (result : Result Turned RunStop) → result ≡ turned_by t → (t ≡ turn.Stopped stop.FeedFault → ⊥) → is_large before ≡ false → Feeds (is_some s.devices.clock) answer_of s g value a script
      → BothTold (seen old) (seen new) (λ was now. (j : JournalData) → IsDeskOf k aside.rows (may_leave old) was j
      → Leaves moment left_since old new n (may_leave new) now j (Planned adding tearing (record { key = key; own = machine.devices.own }) g value (record { journal = j; batch = before; machine = s }) aside after_aside batch machine f held got (result_of t)))
      → OneTold result
  told_turn result is fed small feeds told =
      let one : OneTold (turned_by t) = both_map (seen old) (seen new) _ _ told (λ was now e h j desk r going rec same. turn_left moment left_since adding tearing old new n (may_leave new) now key t g value aside after_aside batch machine f held got script r (record { journal = j; batch = before; machine = s }) a fed going rec same small feeds desk.kept (h j desk)) in
      subst OneTold (sym is) one
