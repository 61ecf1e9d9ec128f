-- What a turn and a seal leave of a recorder, and of the tickets that are kept.
use Rattle.std.proofs.Common.{◌≡◌, ◌<◌, ℕ, List, Option, Some, None, is_some, Result, Ok, Err, refl, sym, ap, subst, ◌∙◌, arith}
use Rattle.avm_model.specs.Keys.{HasTypes}
use Rattle.avm_model.specs.Machine.{State}
use Rattle.avm_outside.specs.Feed.{Agenda}
use Rattle.avm_outside.specs.Outlet.{Piece}
use Rattle.avm_outside.specs.Outside.{Rises}
use Rattle.avm_outside.specs.declared.mem_disk.MemDisk.{MemDisk}
use Rattle.journal_model.specs.Journal.{JournalData}
use Rattle.journal_model.specs.Part.{Part}
use Rattle.jrnl_store.specs.declared.fault.Stop.{Stop}
use Rattle.jrnl_store.specs.declared.fault.Stop.TheVariants.{LeavesSpent, Full, DiskFault, OutletFault, FeedFault}
use Rattle.record_kept.specs.Tickets.{AreKeptOf}
use Rattle.record_model.specs.Recording.{Act, Recording}
use Rattle.record_model.specs.Released.{Sender}
use Rattle.record_model.specs.Turn.{Gift}
use Rattle.record_parts.specs.Ends.{Faults}
use Rattle.record_parts.specs.declared.answers.Sealed.{Sealed}
use Rattle.record_parts.specs.declared.answers.Turn.{Turn}
use Rattle.record_turn.specs.Keeping.{Aside}
use Rattle.recorder.specs.Recorder.{desk_of, stop_of}
use Rattle.recorder.specs.Turns.{Does, FeedStops, Feeds, Planned, UnlessFeed, result_of, seal_result, stop_behind}
use Rattle.recorder.specs.declared.recorder.Recorder.{Recorder}
use Rattle.world_core.specs.Runs.{Runs}
use Rattle.avm_outside.specs.MemDisks.{disk_bytes}
use Rattle.jrnl_store.specs.Kept.{kept as kept_of}
use Rattle.record_parts.specs.declared.answers.Turn.TheVariants as turn
use Rattle.record_turn.specs.Leaves.{Leaves, OnOutlet}
use Rattle.world_core.specs.Turns.{Ended, IsDiskOf, Packets, SealOf, TurnOf, aside_in, left_since, may_leave, moment, one_answer, recording_of, stays}
use Rattle.world_parts.specs.Holding.{with_piece}

-- ---- a feed that doesn't fail

no_rise : Rises 0 0 → ⊥
no_rise r = let lt = r.more (omega arith) in absurd (let bad : 0 < 0 = lt in omega arith)

-- a turn whose feed never fails isn't stopped by it
pub never_fed : (r : Result Turn Stop) (P : Type 0) → FeedStops r 0 0 → UnlessFeed r P → P
never_fed (Ok x) P f h = h
never_fed (Err LeavesSpent) P f h = h
never_fed (Err Full) P f h = h
never_fed (Err DiskFault) P f h = h
never_fed (Err OutletFault) P f h = h
never_fed (Err FeedFault) P f h = absurd (no_rise f)

-- ---- tickets

pub planned_tickets : {H : Type 0} (adding : Piece → H → H) (tearing : Piece → H → H → Type 0) (who : Sender) (g : Gift) (value : ℕ) (r : Recording) (aside after : Aside) (batch : List Part) (machine : State) (f : Faults) (old new : H) (result : Result Turn Stop) (next : JournalData) (flight : List Part)
    → Planned adding tearing who g value r aside after batch machine f old new result next flight → AreKeptOf aside.rows r.journal → AreKeptOf after.rows next
planned_tickets adding tearing who g value r aside after batch machine f old new result next flight p k = go p.plan.act p.does
  where
    go : (o : Option Act) → Does adding tearing who p.plan o r aside after batch machine f old new result next flight → AreKeptOf after.rows next
    go None d = rw (d.journal, d.aside_is) k
    go (Some act) d = d.tickets k

-- ---- a recorder runs on

-- what has stopped has a reason
stopped : {T : Type 0} (o : Option Stop) (s : Stop) (res : Result T Stop) (q : Option Stop) → q ≡ None → q ≡ stop_behind o res → o ≡ Some s → ⊥
stopped o s res q none stop was = absurd (let bad : None ≡ Some s = sym none ∙ stop ∙ ap (λ x. stop_behind x res) was in cc)

pub turn_runs : (d e : MemDisk) (r q : Recorder) (held : Agenda) (before packets : Packets) (turn : Turn) → Runs d r → TurnOf d e r q held before packets turn → Runs e q
turn_runs d e r q held before packets turn h t = record { types = subst HasTypes (sym t.key) h.types; disk = λ none. by (stop_of r) refl none }
  where
    by : (o : Option Stop) → stop_of r ≡ o → stop_of q ≡ None → (j : JournalData) × IsDiskOf e (desk_of q) j
    by (Some s) was none = absurd (stopped (stop_of r) s (result_of turn) (stop_of q) none t.stop was)
    by None was none =
        let own = h.disk was in
        let g = t.goes was own.0 own.1 in
        (g.leaves.next, record { own = g.leaves.holds.own; kept = planned_tickets _ _ _ g.gift g.value _ _ _ _ _ g.faults _ _ _ g.leaves.next g.leaves.flight g.leaves.is own.1.kept })

pub seal_runs : (d e : MemDisk) (r q : Recorder) (before packets : Packets) (sealed : Sealed) → Runs d r → SealOf d e r q before packets sealed → Runs e q
seal_runs d e r q before packets sealed h t = record { types = subst HasTypes (sym t.key) h.types; disk = λ none. by (stop_of r) refl none }
  where
    by : (o : Option Stop) → stop_of r ≡ o → stop_of q ≡ None → (j : JournalData) × IsDiskOf e (desk_of q) j
    by (Some s) was none = absurd (stopped (stop_of r) s (seal_result sealed) (stop_of q) none t.stop was)
    by None was none =
        let own = h.disk was in
        let g = t.seals was own.0 own.1 in
        (g.leaves.next, record { own = g.leaves.holds.own; kept = rw t.rows (g.leaves.is.tickets own.1.kept) })

-- ---- a turn as the recorder's contract has it

-- what a turn left, by what the feed gave
abbrev pub Left : MemDisk → MemDisk → Recorder → Recorder → Agenda → Agenda → Packets → Packets → Turn → Faults → Type 0
Left d e r q held left before packets answer f =
    (gift : Gift) × (value : ℕ) × Feeds (is_some (desk_of r).machine.state.devices.clock) one_answer (desk_of r).machine.state gift value held left
    × ((j : JournalData) → IsDiskOf d (desk_of r) j → Leaves moment left_since d e (kept_of (desk_of q).store.journal) (may_leave e) (disk_bytes e) j
    (Planned with_piece stays (record { key = (desk_of r).press.key; own = (desk_of q).machine.state.devices.own }) gift value (recording_of j (desk_of r)) (aside_in (desk_of r)) (aside_in (desk_of q)) (desk_of q).store.batch.parts (desk_of q).machine.state f before packets (result_of answer)))

pub turn_of_call : (d e : MemDisk) (r q : Recorder) (held left : Agenda) (before packets : Packets) (answer : Turn) (f : Faults) → (stop_of r ≡ None → UnlessFeed (result_of answer) (Left d e r q held left before packets answer f)) → FeedStops (result_of answer) 0 0
    → ((stop : Stop) → stop_of r ≡ Some stop → (answer ≡ turn.Ended stop) × Ended d e r q before packets) → stop_of q ≡ stop_behind (stop_of r) (result_of answer) → (desk_of q).press.key ≡ (desk_of r).press.key
    → OnOutlet (result_of answer) ((kept_of (desk_of q).store.journal).stop ≡ None) → TurnOf d e r q held before packets answer
turn_of_call d e r q held left before packets answer f turns feed ended stop key run = record {
  goes = λ runs j own. let t = never_fed (result_of answer) (Left d e r q held left before packets answer f) feed (turns runs) in record { gift = t.0; value = t.1; left = left; feeds = t.2; faults = f; leaves = t.3 j own };
  ended = ended;
  stop = stop;
  key = key;
  run = run;
}
