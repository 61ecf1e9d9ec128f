-- What a script's run on an opened store leaves.
use Rattle.std.proofs.Common.{◌≡◌, ◌⊎◌, ◌≤◌, ℕ, List, [], length, Option, Some, None, inl, inr, sym, subst}
use Rattle.std.specs.Prelude.{IfSome, Result, Ok, Err}
use Rattle.avm_model.specs.Keys.{KeyData}
use Rattle.avm_model.specs.Machine.{State}
use Rattle.avm_outside.specs.Outside.{BothTold}
use Rattle.avm_script.specs.Listed.{agenda_of}
use Rattle.avm_script.specs.Script.{ScriptData}
use Rattle.file_outlet.specs.RunFiles.{Held, adding_piece, TornPiece}
use Rattle.format_command.specs.First.{StandsFor}
use Rattle.journal_model.specs.Journal.{JournalData}
use Rattle.journal_model.specs.Part.{Part}
use Rattle.journal_model.specs.Saving.{CommitRefusal, NoLeaf, NoRoom}
use Rattle.journal_model.specs.Standing.{StandingData}
use Rattle.jrnl_store.specs.Kept.{Kept, kept as kept_of}
use Rattle.jrnl_store.specs.Own.{IsOwn}
use Rattle.jrnl_store.proofs.Commits.{shut_stands}
use Rattle.record_kept.specs.declared.kept.KeptRow.{KeptRow}
use Rattle.record_laws.proofs.Joining.{turns_record}
use Rattle.record_model.specs.Recorded.{Drop, running, begun}
use Rattle.record_model.specs.Recording.{Recording}
use Rattle.record_ready.specs.Ready.{IsDeskOf}
use Rattle.record_run.specs.Runs.{LeftBy, RunEnds, RunsOut, StandsIn, Torn, Unprinted, Unsaved, sender_of}
use Rattle.record_run.specs.declared.stops.RunStop.{RunStop}
use Rattle.record_run.specs.declared.stops.RunStop.TheVariants.{LeavesSpent, Full, DiskFault, OutletFault, SinkFault}
use Rattle.record_turn.specs.Desk.{rows_of}
use Rattle.record_turn.specs.declared.desk.Desk.{Desk}
use Rattle.recorder.specs.Recorder.{desk_of, stop_of}
use Rattle.recorder.specs.declared.recorder.Recorder.{Recorder}
use Rattle.record_run.specs.Ends.{Says, WhereCut}
use Rattle.record_store.specs.Saving.{StandsStill}
use Rattle.record_command.specs.Counts.{SaysBy, end_by}
use Rattle.record_command.specs.Runs.{Leaves, OnStore, Records, Stands, StandsOn, Summed, Sums, sender}
use Rattle.record_command.specs.Stores.{OpensTo}
use Rattle.record_command.specs.declared.ends.End.TheVariants.{Recorded}
use Rattle.record_command.specs.declared.ends.Summary.{Summary}

-- what a run from a journal on a desk tells, whose open batch is b
abbrev pub Ran : {D : Type 0} → (D → ℕ) → (D → ℕ → List ℕ → Type 0) → D → D → (List ℕ → Type 0) → (List ℕ → Type 0) → Desk → List Part → ScriptData → Kept → List KeptRow → List Part → State → Held → Held → List Drop → Result ℕ RunStop → List ℕ → List ℕ → Type 0
Ran {D} moment left_since x y before images d b s n rows batch machine old new drops r w nw =
    (j : JournalData) → IsDeskOf (kept_of d.store.journal) (rows_of d.kept) before w j
    → LeftBy {D = D} moment left_since x y n rows images nw (sender_of d) (running j b (agenda_of s) [] [] d.machine.state)
    (λ next. RunEnds adding_piece TornPiece (sender_of d) (running j b (agenda_of s) [] [] d.machine.state) drops old new (record { journal = next; batch = batch; machine = machine }) r)

pub desk_of_opened : (k : KeyData) (images : List ℕ → Type 0) (w : List ℕ) (d : Desk) → (o : OpensTo k images w d) → IsDeskOf (kept_of d.store.journal) (rows_of d.kept) images w o.journal
desk_of_opened k images w d o = record { own = o.own; kept = o.desk.tickets }

pub has_desk : (told : Option (List ℕ)) (k : KeyData) (images : List ℕ → Type 0) (d : Desk) → IfSome told (λ w. OpensTo k images w d) → IfSome told (λ w. (j : JournalData) × IsDeskOf (kept_of d.store.journal) (rows_of d.kept) images w j)
has_desk None k images d o = tt
has_desk (Some w) k images d o = (o.journal, desk_of_opened k images w d o)

on_store : (images : List ℕ → Type 0) (w : List ℕ) (d : Desk) (P : JournalData → State → Type 0) → (o : OpensTo d.press.key images w d) → P o.journal d.machine.state → OnStore d.press.key w P
on_store images w d P o holds = record { journal = o.journal; machine = d.machine.state; is = o.is; allowed = o.allowed; replays = o.desk.fault; opened = o.desk.machine; holds = holds }

-- ---- recorded, or as far as it comes

records : (d : Desk) (images : List ℕ → Type 0) (w : List ℕ) (s : ScriptData) (stop : Option CommitRefusal) (old new : Held) (drops : List Drop) (after : Recording) (P : Recording → Type 0) → (o : OpensTo d.press.key images w d) → P after
    → RunsOut adding_piece (sender_of d) (begun o.journal d.machine.state (agenda_of s)) stop drops old new after → Records d.press.key s stop old new drops P o.journal d.machine.state
records d images w s stop old new drops after P o p r = record {
  last = r.last;
  recorded = turns_record (sender_of d) o.journal (agenda_of s) d.machine.state r.turns r.end r.last o.desk.machine r.are_turns r.last_is;
  stop_is = r.stop_is;
  held = r.held;
  drops_are = r.drops_are;
  holds = subst P (sym r.recording) p;
}

stands : (n : Kept) (images : List ℕ → Type 0) (nw : List ℕ) (j : JournalData) → n.stop ≡ None → IsOwn n images nw j → StandsFor j images nw
stands n images nw j none own = record {
  read = shut_stands j own.front nw own.stands own.begun (own.shut none);
  left = λ c left. shut_stands j own.front c own.stands own.begun (own.left_shut none c left);
}

summed : (n : Kept) (images : List ℕ → Type 0) (nw : List ℕ) (j : JournalData) (batch : List Part) (machine : State) (drops : List Drop) (summary : Summary) → n.stop ≡ None → IsOwn n images nw j → Sums n.standing machine summary → summary.dropped ≡ length drops
    → Summed images nw drops summary (record { journal = j; batch = batch; machine = machine })
summed n images nw j batch machine drops summary none own sums dropped =
    record { stands = stands n images nw j none own; sums = subst (λ (p : StandingData). Sums p machine summary) own.keeps.standing sums; dropped = dropped }

pub done_leaves : {D : Type 0} (moment : D → ℕ) (left_since : D → ℕ → List ℕ → Type 0) (x y : D) (before images : List ℕ → Type 0) (d : Desk) (b : List Part) (s : ScriptData) (n : Kept) (rows : List KeptRow) (batch : List Part) (machine : State) (old new : Held) (drops : List Drop) (dropped : ℕ) (summary : Summary) (was now : Option (List ℕ))
    → b ≡ [] → IfSome was (λ w. OpensTo d.press.key before w d) → BothTold was now (Ran moment left_since x y before images d b s n rows batch machine old new drops (Ok dropped))
    → IfSome was (λ w. n.stop ≡ None) → Sums n.standing machine summary → summary.dropped ≡ length drops
    → Leaves d.press.key s old new was now images drops (Ok (Recorded summary))
done_leaves moment left_since x y before images d b s n rows batch machine old new drops dropped summary None None empty o both none sums is = tt
done_leaves moment left_since x y before images d b s n rows batch machine old new drops dropped summary None (Some nw) empty o both none sums is = both
done_leaves moment left_since x y before images d b s n rows batch machine old new drops dropped summary (Some w) None empty o both none sums is = both
done_leaves moment left_since x y before images d b s n rows batch machine old new drops dropped summary (Some w) (Some nw) empty o both none sums is =
    let ran : Ran moment left_since x y before images d [] s n rows batch machine old new drops (Ok dropped) w nw = subst (λ (b : List Part). Ran moment left_since x y before images d b s n rows batch machine old new drops (Ok dropped) w nw) empty both in
    let l = ran o.journal (desk_of_opened d.press.key before w d o) in
    on_store before w d (Records d.press.key s None old new drops (Summed images nw drops summary)) o
    (records d before w s None old new drops (record { journal = l.next; batch = batch; machine = machine }) (Summed images nw drops summary) o (summed n images nw l.next batch machine drops summary none l.desk.own sums is) l.is)

pub stop_leaves : {D : Type 0} (moment : D → ℕ) (left_since : D → ℕ → List ℕ → Type 0) (x y : D) (before images : List ℕ → Type 0) (d : Desk) (b : List Part) (s : ScriptData) (n : Kept) (rows : List KeptRow) (batch : List Part) (machine : State) (old new : Held) (drops : List Drop) (stop : RunStop) (was now : Option (List ℕ))
    → b ≡ [] → IfSome was (λ w. OpensTo d.press.key before w d) → BothTold was now (Ran moment left_since x y before images d b s n rows batch machine old new drops (Err stop)) → WhereCut {T = ℕ} (Err stop) (StandsStill n images now)
    → Leaves d.press.key s old new was now images drops (end_by stop)
stop_leaves {D} moment left_since x y before images d b s n rows batch machine old new drops stop was now empty o both still =
    go stop was now o (subst (λ (b : List Part). BothTold was now (Ran moment left_since x y before images d b s n rows batch machine old new drops (Err stop))) empty both) still
  where
    -- the journal that the disk is the own one of is the recorded one
    standing : (nw : List ℕ) (j : JournalData) → StandsStill n images (Some nw) → IsOwn n images nw j → Stands images nw (record { journal = j; batch = batch; machine = machine })
    standing nw j still own = let s = still j own in record { read = s.0; left = s.1 }

    go : (stop : RunStop) (was now : Option (List ℕ)) → IfSome was (λ w. OpensTo d.press.key before w d) → BothTold was now (Ran moment left_since x y before images d [] s n rows batch machine old new drops (Err stop)) → WhereCut {T = ℕ} (Err stop) (StandsStill n images now) → Leaves d.press.key s old new was now images drops (end_by stop)
    go LeavesSpent None None o both still = tt
    go LeavesSpent None (Some nw) o both still = both
    go LeavesSpent (Some w) None o both still = both
    go LeavesSpent (Some w) (Some nw) o both still =
        let l = both o.journal (desk_of_opened d.press.key before w d o) in
        on_store before w d (Records d.press.key s (Some NoLeaf) old new drops (Stands images nw)) o (records d before w s (Some NoLeaf) old new drops (record { journal = l.next; batch = batch; machine = machine }) (Stands images nw) o (standing nw l.next still l.desk.own) l.is)
    go Full None None o both still = tt
    go Full None (Some nw) o both still = both
    go Full (Some w) None o both still = both
    go Full (Some w) (Some nw) o both still =
        let l = both o.journal (desk_of_opened d.press.key before w d o) in
        on_store before w d (Records d.press.key s (Some NoRoom) old new drops (Stands images nw)) o (records d before w s (Some NoRoom) old new drops (record { journal = l.next; batch = batch; machine = machine }) (Stands images nw) o (standing nw l.next still l.desk.own) l.is)
    go DiskFault None None o both still = inr tt
    go DiskFault None (Some nw) o both still = inr both
    go DiskFault (Some w) None o both still = inr both
    go DiskFault (Some w) (Some nw) o both still =
        let l = both o.journal (desk_of_opened d.press.key before w d o) in
        inr (on_store before w d (λ j m. (after : Recording) × Unsaved adding_piece (sender d.press.key m) (begun j m (agenda_of s)) drops old new after) o (record { journal = l.next; batch = batch; machine = machine }, l.is))
    go OutletFault None None o both still = tt
    go OutletFault None (Some nw) o both still = both
    go OutletFault (Some w) None o both still = both
    go OutletFault (Some w) (Some nw) o both still =
        let l = both o.journal (desk_of_opened d.press.key before w d o) in
        on_store before w d (λ j m. (after : Recording) × Torn adding_piece TornPiece (sender d.press.key m) (begun j m (agenda_of s)) drops old new after) o (record { journal = l.next; batch = batch; machine = machine }, l.is)
    go SinkFault None None o both still = tt
    go SinkFault None (Some nw) o both still = both
    go SinkFault (Some w) None o both still = both
    go SinkFault (Some w) (Some nw) o both still =
        let l = both o.journal (desk_of_opened d.press.key before w d o) in
        on_store before w d (λ j m. (after : Recording) × Unprinted adding_piece (sender d.press.key m) (begun j m (agenda_of s)) drops old new after) o (record { journal = l.next; batch = batch; machine = machine }, l.is)

-- ---- at any moment

pub moments_of : {D : Type 0} (moment : D → ℕ) (left_since : D → ℕ → List ℕ → Type 0) (x y : D) (before images : List ℕ → Type 0) (d : Desk) (b : List Part) (s : ScriptData) (n : Kept) (rows : List KeptRow) (batch : List Part) (machine : State) (old new : Held) (drops : List Drop) (r : Result ℕ RunStop) (was now : Option (List ℕ))
    → b ≡ [] → IfSome was (λ w. OpensTo d.press.key before w d) → BothTold was now (Ran moment left_since x y before images d b s n rows batch machine old new drops r)
    → IfSome was (λ w. (t : ℕ) (c : List ℕ) → t ≤ moment x → left_since y t c → left_since x t c ⊎ StandsOn d.press.key s w c)
moments_of moment left_since x y before images d b s n rows batch machine old new drops r None now empty o both = tt
moments_of moment left_since x y before images d b s n rows batch machine old new drops r (Some w) None empty o both = absurd both
moments_of {D} moment left_since x y before images d b s n rows batch machine old new drops r (Some w) (Some nw) empty o both =
    let ran : Ran moment left_since x y before images d [] s n rows batch machine old new drops r w nw = subst (λ (b : List Part). Ran moment left_since x y before images d b s n rows batch machine old new drops r w nw) empty both in
    let l = ran o.journal (desk_of_opened d.press.key before w d o) in
    λ t c le left. either (left_since x t c) (l.moments.before t c le left) (λ h. on_store before w d (λ j m. StandsIn (sender d.press.key m) (begun j m (agenda_of s)) c) o h)
  where
    either : {P Q : Type 0} (A : Type 0) → A ⊎ P → (P → Q) → A ⊎ Q
    either A (inl a) f = inl a
    either A (inr p) f = inr (f p)

-- a recorder that hasn't stopped has a journal that hasn't
pub runs_on : (told : Option (List ℕ)) (r : Recorder) → IfSome told (λ w. stop_of r ≡ None) → IfSome told (λ w. (kept_of (desk_of r).store.journal).stop ≡ None)
runs_on None r goes = tt
runs_on (Some w) r goes = (r.ready goes).opens.run

pub stop_says : (stop : RunStop) (drops : List Drop) (before now : ℕ) (old new : Option (List ℕ)) → Says drops (Err stop) before now old new → SaysBy drops (end_by stop) before now old new
stop_says LeavesSpent drops before now old new says = says
stop_says Full drops before now old new says = says
stop_says DiskFault drops before now old new says = says
stop_says OutletFault drops before now old new says = says
stop_says SinkFault drops before now old new says = says
