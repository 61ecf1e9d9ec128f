-- A turn of the first node, as a turn of its run.
use Rattle.std.proofs.Common.{◌≡◌, ◌⊎◌, inl, inr, ℕ, Bool, true, false, List, Option, None, Some, Result, Ok, Err, IsErr, refl, sym, ap, subst, ◌∙◌}
use Rattle.std.specs.Prelude.{is_some}
use Rattle.avm_model.specs.Keys.{KeyData}
use Rattle.avm_model.specs.Machine.{State, asks}
use Rattle.avm_model.specs.declared.NotTaken.{NotTaken}
use Rattle.avm_model.specs.declared.Status.{Status}
use Rattle.avm_model.specs.declared.Status.TheVariants.{Running, Waiting as Waits, Halted as IsHalted}
use Rattle.avm_outside.specs.DiskLog.{IsImage}
use Rattle.avm_outside.specs.Feed.{Agenda, answer_of, clock_of}
use Rattle.avm_outside.specs.MemDisks.{disk_bytes, state_now}
use Rattle.avm_outside.specs.MemFeed.{feed_agenda}
use Rattle.avm_outside.specs.MemOutlets.{outlet_released}
use Rattle.avm_outside.specs.Outlet.{AddsCut, Piece, all_added, released}
use Rattle.avm_outside.specs.declared.mem_disk.MemDisk.{MemDisk}
use Rattle.jrnl_store.specs.Kept.{kept as kept_of}
use Rattle.jrnl_store.specs.Own.{IsOwn}
use Rattle.jrnl_store.specs.declared.fault.Stop.{Stop}
use Rattle.jrnl_store.specs.declared.fault.Stop.TheVariants.{LeavesSpent, Full, DiskFault, OutletFault, FeedFault}
use Rattle.journal_model.specs.Journal.{JournalData}
use Rattle.journal_model.specs.Part.{Part}
use Rattle.journal_model.specs.Saving.{CommitRefusal, NoLeaf, NoRoom}
use Rattle.record_kept.specs.Tickets.{AreKeptOf}
use Rattle.record_model.specs.Recorded.{HasEnded, Run, act_of}
use Rattle.record_model.specs.Recording.{Act, AnswerClock, Recording, SendAgain, StepOn, TakeIn, is_large}
use Rattle.record_model.specs.Released.{Sender}
use Rattle.record_model.specs.Turn.{Comes, Gift, IsPlan, IsPlanBefore, IsPlanOf, IsPlanRunning, Later, Over, Plan, answer_for, gift_of}
use Rattle.record_parts.proofs.Giving.{added-append}
use Rattle.record_parts.specs.Ends.{Faults, turn_of}
use Rattle.record_parts.specs.declared.answers.Turn.{Turn}
use Rattle.record_parts.specs.declared.answers.Turn.TheVariants as turn
use Rattle.record_ready.specs.Ready.{IsDeskOf}
use Rattle.record_turn.specs.Desk.{rows_of}
use Rattle.record_turn.specs.Keeping.{Aside, aside_of}
use Rattle.record_turn.specs.Leaves.{Leaves}
use Rattle.recorder.specs.Recorder.{desk_of, stop_of}
use Rattle.recorder.specs.Turns.{Does, Feeds, Planned, UnlessFeed, result_of, stop_behind}
use Rattle.run_laws.proofs.Turning.{cut_turn, turned}
use Rattle.run_laws.specs.Run.{Behind, IsOver, Stands, StopsRun, stop_of as stop_for}
use Rattle.sample_model.specs.Talk.{nothing}
use Rattle.sample_node.specs.Node.{IsNode, Stops, TurnEnds, Turned, sender_in}
use Rattle.sample_node.specs.Progresses.{ProgressOf}
use Rattle.sample_node.specs.declared.node.Node.{Node}
use Rattle.sample_node.specs.declared.node.Progress.{Progress}
use Rattle.sample_node.specs.declared.node.Progress.TheVariants.{GoesOn, Ended, Stopped}
use Rattle.turn_laws.proofs.Following.{gift_is}

-- ---- a turn that ends the run

abbrev pub is_over : Turn → Bool
is_over turn.Waiting = true
is_over turn.Halted = true
is_over turn.End = true
is_over t = false

-- an act's answer is none of these
act_goes_on : (quiet : ℕ) (act : Act) (d : Option NotTaken) → is_over (turn_of (answer_for quiet act d)) ≡ false
act_goes_on quiet StepOn d = refl
act_goes_on quiet (AnswerClock value) d = refl
act_goes_on quiet (TakeIn o) None = refl
act_goes_on quiet (TakeIn o) (Some why) = refl
act_goes_on quiet (SendAgain peer) None = refl
act_goes_on quiet (SendAgain peer) (Some why) = refl

-- no plan of a gift has an act where another of the same has none
one_plan : (s : State) (g : Gift) (v w : ℕ) (a b : Plan) (act : Act) → IsPlanOf g v s a → a.act ≡ None → IsPlanOf g w s b → b.act ≡ Some act → ⊥
one_plan s (Comes what) v w a b act p h q k = absurd (let e : Some (act_of what) ≡ None = sym (ap (λ (x : Plan). x.act) p) ∙ h in cc e)
one_plan s Over v w a b act p h q k = absurd (let e : None ≡ Some act = sym (ap (λ (x : Plan). x.act) q) ∙ k in cc e)
one_plan s (Later c) v w a b act p h q k = by_status s.status p q
  where
    by_asks : (ask : Bool) → IsPlanRunning ask c v s a → ⊥
    by_asks true p = absurd (let e : Some (AnswerClock v) ≡ None = sym (ap (λ (x : Plan). x.act) p) ∙ h in cc e)
    by_asks false p = absurd (let e : Some StepOn ≡ None = sym (ap (λ (x : Plan). x.act) p.2) ∙ h in cc e)

    by_status : (status : Status) → IsPlanBefore status c v s a → IsPlanBefore status c w s b → ⊥
    by_status Running p q = by_asks (asks s) p
    by_status Waits p q = absurd (let e : None ≡ Some act = sym (ap (λ (x : Plan). x.act) q) ∙ k in cc e)
    by_status IsHalted p q = absurd (let e : None ≡ Some act = sym (ap (λ (x : Plan). x.act) q) ∙ k in cc e)

acts_none : (pending : Bool) (s : State) (p script : Agenda) (g : Gift) (v w : ℕ) (a b : Plan) (act : Act) → Feeds pending answer_of s g v p script → IsPlan pending g v s a → a.act ≡ None → IsPlan pending (gift_of s p) w s b → b.act ≡ Some act → ⊥
acts_none true s p script g v w a b act f q h r k = absurd (let e : Some StepOn ≡ None = sym (ap (λ (x : Plan). x.act) q) ∙ h in cc e)
acts_none false s p script g v w a b act f q h r k = one_plan s g v w a b act q h (subst (λ (x : Gift). IsPlanOf x w s b) (sym (gift_is s g p f.given)) r) k

-- ---- what is kept beside a journal

kept_on : {H : Type 0} (adding : Piece → H → H) (tearing : Piece → H → H → Type 0) (who : Sender) (plan : Plan) (o : Option Act) (before : Recording) (aside after : Aside) (batch : List Part) (machine : State) (f : Faults) (old new : H) (result : Result Turn Stop) (next : JournalData) (flight : List Part)
    → Does adding tearing who plan o before aside after batch machine f old new result next flight → AreKeptOf aside.rows before.journal → AreKeptOf after.rows next
kept_on adding tearing who plan None before aside after batch machine f old new result next flight d k =
    subst (λ (x : Aside). AreKeptOf x.rows next) (sym d.aside_is) (subst (λ (x : JournalData). AreKeptOf aside.rows x) (sym d.journal) k)
kept_on adding tearing who plan (Some act) before aside after batch machine f old new result next flight d k = d.tickets k

-- ---- a turn

abbrev pub own_in : Node → JournalData → Type 0
own_in n j = IsOwn (kept_of (desk_of n.recorder).store.journal) (IsImage (state_now n.disk)) (disk_bytes n.disk) j

abbrev pub disk_in : Node → JournalData → Type 0
disk_in n j = IsDeskOf (kept_of (desk_of n.recorder).store.journal) (rows_of (desk_of n.recorder).kept) (IsImage (state_now n.disk)) (disk_bytes n.disk) j

abbrev pub beside : Node → Aside
beside n = aside_of (desk_of n.recorder).kept (desk_of n.recorder).machine

abbrev pub at_turn : Node → Node → Sender
at_turn o n = record { key = (desk_of o.recorder).press.key; own = (desk_of n.recorder).machine.state.devices.own }

abbrev pub planned_in : Node → Node → Recording → Gift → ℕ → Faults → Result Turn Stop → JournalData → List Part → Type 0
planned_in o n before g value f result next flight =
    Planned released (AddsCut released) (at_turn o n) g value before (beside o) (beside n) (desk_of n.recorder).store.batch.parts (desk_of n.recorder).machine.state f (outlet_released o.outlet) (outlet_released n.outlet) result next flight

-- what the recorder's turn has left: of the disk that was a journal's, the next journal's own, by the turn's plan
pub record Left (o n : Node) (r : Run) (g : Gift) (value : ℕ) (f : Faults) (result : Result Turn Stop) : Type 0 where
  pub next : JournalData
  pub flight : List Part
  pub own : own_in n next
  pub kept : AreKeptOf (rows_of (desk_of n.recorder).kept) next
  pub feeds : Feeds (is_some r.recording.machine.devices.clock) answer_of r.recording.machine g value r.script (feed_agenda n.feed)
  pub planned : planned_in o n r.recording g value f result next flight

-- a run behind a turn that nothing has stopped
on_node : (o n : Node) (r : Run) (t : Turn) (next : JournalData) → IsNode o r → stop_of n.recorder ≡ None → own_in n next → AreKeptOf (rows_of (desk_of n.recorder).kept) next
    → (b : Behind released (at_turn o n) r t (outlet_released o.outlet) (outlet_released n.outlet) next (desk_of n.recorder).store.batch.parts (desk_of n.recorder).machine.state (feed_agenda n.feed)) → IsNode n b.run
on_node o n r t next h running own kept b = record {
  running = running;
  goes = b.goes_on;
  disk = subst (λ (x : JournalData). disk_in n x) (sym (ap (λ (x : Recording). x.journal) b.recording)) (record { own = own; kept = kept });
  batch = sym (ap (λ (x : Recording). x.batch) b.recording);
  machine = sym (ap (λ (x : Recording). x.machine) b.recording);
  script = sym b.script_is;
  held = b.held ∙ ap (all_added released b.pieces) h.held ∙ sym (added-append released nothing r.released b.pieces) ∙ ap (λ (ps : List Piece). all_added released ps nothing) (sym b.released);
}

same_node : (o n : Node) (r : Run) (t : Turn) (next : JournalData) → IsNode o r → stop_of n.recorder ≡ None → own_in n next → AreKeptOf (rows_of (desk_of n.recorder).kept) next
    → Stands r t (outlet_released o.outlet) (outlet_released n.outlet) next (desk_of n.recorder).store.batch.parts (desk_of n.recorder).machine.state (feed_agenda n.feed) → IsNode n r
same_node o n r t next h running own kept s = record {
  running = running;
  goes = h.goes;
  disk = subst (λ (x : JournalData). disk_in n x) (sym (ap (λ (x : Recording). x.journal) s.recording)) (record { own = own; kept = kept });
  batch = sym (ap (λ (x : Recording). x.batch) s.recording);
  machine = sym (ap (λ (x : Recording). x.machine) s.recording);
  script = sym s.script_is;
  held = s.held ∙ h.held;
}

on_stop : (o n : Node) (r : Run) (why : CommitRefusal) (next : JournalData) → IsNode o r → own_in n next
    → (s : StopsRun (at_turn o n) r why (outlet_released o.outlet) (outlet_released n.outlet) next (desk_of n.recorder).store.batch.parts (desk_of n.recorder).machine.state (feed_agenda n.feed)) → Stops (at_turn o n) n r
on_stop o n r why next h own s = record {
  run = s.run;
  turn_is = s.turn_is;
  why = why;
  stop = s.stop;
  same = ap (λ (ps : List Piece). all_added released ps nothing) s.released;
  left = record {
    own = subst (λ (x : JournalData). own_in n x) (sym (ap (λ (x : Recording). x.journal) s.recording)) own;
    machine = sym (ap (λ (x : Recording). x.machine) s.recording);
    held = s.held ∙ h.held ∙ ap (λ (ps : List Piece). all_added released ps nothing) (sym s.released);
  };
}

module _ (o n : Node) (r : Run) (g : Gift) (value : ℕ) (f : Faults) (h : IsNode o r) (small : is_large r.recording.batch ≡ false) where
  went : (t : Turn) → (stop_of n.recorder ≡ None) → Left o n r g value f (Ok t) → is_over t ≡ false → Turned (at_turn o n) n r
  went t running l over = go (turned released (AddsCut released) (at_turn o n) r g value (beside o) (beside n) (desk_of n.recorder).store.batch.parts (desk_of n.recorder).machine.state f (outlet_released o.outlet) (outlet_released n.outlet) t l.next l.flight (feed_agenda n.feed) h.goes small l.feeds l.planned)
    where
      -- only the end stands
      stands : (t : Turn) → is_over t ≡ false → IsOver t → ⊥
      stands turn.End e i = absurd (cc e)
      stands (turn.Ran k) e i = i
      stands turn.Took e i = i
      stands turn.Resent e i = i
      stands (turn.Dropped why) e i = i
      stands turn.Waiting e i = i
      stands turn.Halted e i = i
      stands (turn.Stopped why) e i = i
      stands (turn.Ended why) e i = i

      go : Behind released (at_turn o n) r t (outlet_released o.outlet) (outlet_released n.outlet) l.next (desk_of n.recorder).store.batch.parts (desk_of n.recorder).machine.state (feed_agenda n.feed)
          ⊎ Stands r t (outlet_released o.outlet) (outlet_released n.outlet) l.next (desk_of n.recorder).store.batch.parts (desk_of n.recorder).machine.state (feed_agenda n.feed) → Turned (at_turn o n) n r
      go (inl b) = record { run = b.run; turn_is = b.turn_is; node = on_node o n r t l.next h running l.own l.kept b }
      go (inr s) = absurd (stands t over s.over)

  over : (t : Turn) → (stop_of n.recorder ≡ None) → Left o n r g value f (Ok t) → is_over t ≡ true → HasEnded r × IsNode n r
  over t running l is = go (turned released (AddsCut released) (at_turn o n) r g value (beside o) (beside n) (desk_of n.recorder).store.batch.parts (desk_of n.recorder).machine.state f (outlet_released o.outlet) (outlet_released n.outlet) t l.next l.flight (feed_agenda n.feed) h.goes small l.feeds l.planned)
    where
      idle : (act : Option Act) → l.planned.plan.act ≡ act → Does released (AddsCut released) (at_turn o n) l.planned.plan act r.recording (beside o) (beside n) (desk_of n.recorder).store.batch.parts (desk_of n.recorder).machine.state f (outlet_released o.outlet) (outlet_released n.outlet) (Ok t) l.next l.flight → l.planned.plan.act ≡ None
      idle None e d = e
      idle (Some act) e d = absurd (let k : true ≡ false = sym is ∙ ap is_over d.acts.answer ∙ act_goes_on l.planned.plan.quiet act d.acts.effect.dropped in cc k)

      go : Behind released (at_turn o n) r t (outlet_released o.outlet) (outlet_released n.outlet) l.next (desk_of n.recorder).store.batch.parts (desk_of n.recorder).machine.state (feed_agenda n.feed)
          ⊎ Stands r t (outlet_released o.outlet) (outlet_released n.outlet) l.next (desk_of n.recorder).store.batch.parts (desk_of n.recorder).machine.state (feed_agenda n.feed) → HasEnded r × IsNode n r
      go (inr s) = (s.ended, same_node o n r t l.next h running l.own l.kept s)
      go (inl b) = absurd (acts_none (is_some r.recording.machine.devices.clock) r.recording.machine r.script (feed_agenda n.feed) g value (clock_of r.script) l.planned.plan b.turn_is.plan b.turn_is.act l.feeds l.planned.plan_is (idle l.planned.plan.act refl l.planned.does) b.turn_is.of_script.is_plan b.turn_is.of_script.act_is)

  cut : (why : CommitRefusal) → Left o n r g value f (Err (stop_for why)) → Stops (at_turn o n) n r
  cut why l = on_stop o n r why l.next h l.own (cut_turn released (AddsCut released) (at_turn o n) r g value (beside o) (beside n) (desk_of n.recorder).store.batch.parts (desk_of n.recorder).machine.state f (outlet_released o.outlet) (outlet_released n.outlet) why l.next l.flight (feed_agenda n.feed) h.goes small l.feeds l.planned)

-- ---- by the recorder's answer

-- what the recorder's contract says of a turn over these objects
abbrev pub told_of : (MemDisk → ℕ) → (MemDisk → ℕ → List ℕ → Type 0) → Node → Node → Gift → ℕ → Faults → Result Turn Stop → Type 0
told_of moment left_since o n g value f result =
    (j : JournalData) → disk_in o j → Leaves moment left_since o.disk n.disk (kept_of (desk_of n.recorder).store.journal) (IsImage (state_now n.disk)) (disk_bytes n.disk) j
    (planned_in o n (record { journal = j; batch = (desk_of o.recorder).store.batch.parts; machine = (desk_of o.recorder).machine.state }) g value f result)

pub record Told (moment : MemDisk → ℕ) (left_since : MemDisk → ℕ → List ℕ → Type 0) (o n : Node) (f : Faults) (result : Result Turn Stop) : Type 0 where
  pub gift : Gift
  pub value : ℕ
  pub feeds : Feeds (is_some (desk_of o.recorder).machine.state.devices.clock) answer_of (desk_of o.recorder).machine.state gift value (feed_agenda o.feed) (feed_agenda n.feed)
  pub leaves : told_of moment left_since o n gift value f result

module _ (moment : MemDisk → ℕ) (left_since : MemDisk → ℕ → List ℕ → Type 0) (o n : Node) (r : Run) (f : Faults) (h : IsNode o r) where
  left : (result : Result Turn Stop) → (t : Told moment left_since o n f result) → Left o n r t.gift t.value f result
  left result t =
      let l = t.leaves r.recording.journal h.disk in
      let p = subst (λ (b : List Part). planned_in o n (record { journal = r.recording.journal; batch = b; machine = (desk_of o.recorder).machine.state }) t.gift t.value f result l.next l.flight) h.batch l.is in
      let q : planned_in o n r.recording t.gift t.value f result l.next l.flight = subst (λ (s : State). planned_in o n (record { journal = r.recording.journal; batch = r.recording.batch; machine = s }) t.gift t.value f result l.next l.flight) h.machine p in
      let by_machine = subst (λ (s : State). Feeds (is_some s.devices.clock) answer_of s t.gift t.value (feed_agenda o.feed) (feed_agenda n.feed)) h.machine t.feeds in
      record {
        next = l.next;
        flight = l.flight;
        own = l.holds.own;
        kept = kept_on released (AddsCut released) (at_turn o n) q.plan q.plan.act r.recording (beside o) (beside n) (desk_of n.recorder).store.batch.parts (desk_of n.recorder).machine.state f (outlet_released o.outlet) (outlet_released n.outlet) result l.next l.flight q.does h.disk.kept;
        feeds = subst (λ (a : Agenda). Feeds (is_some r.recording.machine.devices.clock) answer_of r.recording.machine t.gift t.value a (feed_agenda n.feed)) h.script by_machine;
        planned = q;
      }

  module _ {E : Type 0} (small : is_large r.recording.batch ≡ false) (res : Result Progress E) where
    goes : (t : Turn) → res ≡ Ok GoesOn → stop_of n.recorder ≡ None → Told moment left_since o n f (Ok t) → is_over t ≡ false → TurnEnds (at_turn o n) n r res
    goes t p running told is =
        let all = left (Ok t) told in
        subst (λ (x : Result Progress E). TurnEnds (at_turn o n) n r x) (sym p) (went o n r told.gift told.value f h small t running all is)

    ends : (t : Turn) → res ≡ Ok Ended → stop_of n.recorder ≡ None → Told moment left_since o n f (Ok t) → is_over t ≡ true → TurnEnds (at_turn o n) n r res
    ends t p running told is =
        let all = left (Ok t) told in
        subst (λ (x : Result Progress E). TurnEnds (at_turn o n) n r x) (sym p) (over o n r told.gift told.value f h small t running all is)

    stops : (why : CommitRefusal) → res ≡ Ok Stopped → Told moment left_since o n f (Err (stop_for why)) → TurnEnds (at_turn o n) n r res
    stops why p told =
        let all = left (Err (stop_for why)) told in
        subst (λ (x : Result Progress E). TurnEnds (at_turn o n) n r x) (sym p) (cut o n r told.gift told.value f h small why all)

fails : {E : Type 0} (who : Sender) (n : Node) (r : Run) (res : Result Progress E) → IsErr res → TurnEnds who n r res
fails who n r (Err e) p = tt
fails who n r (Ok x) p = absurd (cc p)

-- a turn's end, by its answer
pub turn_ends : {E : Type 0} (moment : MemDisk → ℕ) (left_since : MemDisk → ℕ → List ℕ → Type 0) (o n : Node) (r : Run) (f : Faults) (t : Turn) (res : Result Progress E) → IsNode o r → is_large r.recording.batch ≡ false
    → stop_of n.recorder ≡ stop_behind (stop_of o.recorder) (result_of t) → UnlessFeed (result_of t) (Told moment left_since o n f (result_of t)) → ProgressOf t res → TurnEnds (at_turn o n) n r res
turn_ends moment left_since o n r f (turn.Ran k) res h small stop told p = goes moment left_since o n r f h small res (turn.Ran k) p (stop ∙ ap (λ (s : Option Stop). stop_behind s (result_of (turn.Ran k))) h.running) told refl
turn_ends moment left_since o n r f turn.Took res h small stop told p = goes moment left_since o n r f h small res turn.Took p (stop ∙ ap (λ (s : Option Stop). stop_behind s (result_of turn.Took)) h.running) told refl
turn_ends moment left_since o n r f turn.Resent res h small stop told p = goes moment left_since o n r f h small res turn.Resent p (stop ∙ ap (λ (s : Option Stop). stop_behind s (result_of turn.Resent)) h.running) told refl
turn_ends moment left_since o n r f (turn.Dropped why) res h small stop told p = goes moment left_since o n r f h small res (turn.Dropped why) p (stop ∙ ap (λ (s : Option Stop). stop_behind s (result_of (turn.Dropped why))) h.running) told refl
turn_ends moment left_since o n r f turn.Waiting res h small stop told p = ends moment left_since o n r f h small res turn.Waiting p (stop ∙ ap (λ (s : Option Stop). stop_behind s (result_of turn.Waiting)) h.running) told refl
turn_ends moment left_since o n r f turn.Halted res h small stop told p = ends moment left_since o n r f h small res turn.Halted p (stop ∙ ap (λ (s : Option Stop). stop_behind s (result_of turn.Halted)) h.running) told refl
turn_ends moment left_since o n r f turn.End res h small stop told p = ends moment left_since o n r f h small res turn.End p (stop ∙ ap (λ (s : Option Stop). stop_behind s (result_of turn.End)) h.running) told refl
turn_ends moment left_since o n r f (turn.Stopped LeavesSpent) res h small stop told p = stops moment left_since o n r f h small res NoLeaf p told
turn_ends moment left_since o n r f (turn.Stopped Full) res h small stop told p = stops moment left_since o n r f h small res NoRoom p told
turn_ends moment left_since o n r f (turn.Stopped DiskFault) res h small stop told p = fails (at_turn o n) n r res p
turn_ends moment left_since o n r f (turn.Stopped OutletFault) res h small stop told p = fails (at_turn o n) n r res p
turn_ends moment left_since o n r f (turn.Stopped FeedFault) res h small stop told p = fails (at_turn o n) n r res p
turn_ends moment left_since o n r f (turn.Ended why) res h small stop told p = fails (at_turn o n) n r res p

unless_map : {P Q : Type 0} (result : Result Turn Stop) → (P → Q) → UnlessFeed result P → UnlessFeed result Q
unless_map (Ok t) f p = f p
unless_map (Err LeavesSpent) f p = f p
unless_map (Err Full) f p = f p
unless_map (Err DiskFault) f p = f p
unless_map (Err OutletFault) f p = f p
unless_map (Err FeedFault) f p = tt

-- the same by the clause's own form, for who signs behind the turn
pub turn_by : {E : Type 0} (moment : MemDisk → ℕ) (left_since : MemDisk → ℕ → List ℕ → Type 0) (o n : Node) (r : Run) (f : Faults) (t : Turn) (res : Result Progress E) → IsNode o r → is_large (desk_of o.recorder).store.batch.parts ≡ false
    → (desk_of n.recorder).press.key ≡ (desk_of o.recorder).press.key → stop_of n.recorder ≡ stop_behind (stop_of o.recorder) (result_of t)
    → UnlessFeed (result_of t) ((g : Gift) × (value : ℕ) × Feeds (is_some (desk_of o.recorder).machine.state.devices.clock) answer_of (desk_of o.recorder).machine.state g value (feed_agenda o.feed) (feed_agenda n.feed) × told_of moment left_since o n g value f (result_of t))
    → ProgressOf t res → TurnEnds (sender_in n) n r res
turn_by {E} moment left_since o n r f t res h small key stop told p =
    subst (λ (k : KeyData). TurnEnds (record { key = k; own = (desk_of n.recorder).machine.state.devices.own }) n r res) (sym key)
    (turn_ends moment left_since o n r f t res h (subst (λ (ps : List Part). is_large ps ≡ false) h.batch small) stop
    (unless_map (result_of t) (λ x. record { gift = x.0; value = x.1; feeds = x.2; leaves = x.3 }) told) p)
