-- A turn of a recorder at its station: what it released, and what each image that a crash amid it leaves is opened to.
use Rattle.std.proofs.Common.{◌≡◌, ◌<◌, ◌≤◌, ◌^◌, ℕ, List, [], None, Result, Ok, Err, refl, sym, ap, subst, ◌∙◌, inl, inr, is_some, arith}
use Rattle.avm_model.specs.Head.{HeadData}
use Rattle.avm_outside.specs.Outlet.{Piece, all_added}
use Rattle.avm_outside.specs.MemDisks.{disk_bytes, disk_calls}
use Rattle.avm_outside.specs.declared.mem_disk.MemDisk.{MemDisk}
use Rattle.honest_model.specs.KeepPages.{IsHeader}
use Rattle.journal_model.specs.Header.{HeaderData}
use Rattle.journal_model.specs.Journal.{Is, JournalData, journal_of, with_record}
use Rattle.journal_model.specs.Part.{Part}
use Rattle.jrnl_store.proofs.Commits.{shut_stands}
use Rattle.jrnl_store.specs.Kept.{kept as kept_of}
use Rattle.jrnl_store.specs.declared.fault.Stop.{Stop}
use Rattle.jrnl_store.specs.declared.fault.Stop.TheVariants.{LeavesSpent, Full, DiskFault, OutletFault, FeedFault}
use Rattle.life_model.proofs.Kept.{lives_kept}
use Rattle.life_model.specs.Life.{CutTo, IsKept, Life, OnStore, opened}
use Rattle.record_model.specs.Recording.{Recording}
use Rattle.record_model.specs.Released.{Sender}
use Rattle.record_parts.specs.declared.answers.Turn.{Turn}
use Rattle.record_store.specs.Saving.{StandsWith}
use Rattle.record_turn.specs.Leaves.{OnOutlet}
use Rattle.record_turn.specs.declared.desk.Desk.{Desk}
use Rattle.recorder.specs.Recorder.{desk_of}
use Rattle.recorder.specs.Turns.{Planned, result_of}
use Rattle.recorder.specs.declared.recorder.Recorder.{Recorder}
use Rattle.truth_laws.proofs.Calls.{planned}
use Rattle.truth_laws.specs.Truth.{IsTrue}
use Rattle.turn_lives.proofs.Events.{is_true, planned_lives, where_map}
use Rattle.turn_lives.specs.Lives.{LivesCut, WhereSaved}
use Rattle.world_core.proofs.Turning.{planned_tickets}
use Rattle.world_core.specs.Crashes.{OpensOn}
use Rattle.world_core.specs.Gifts.{agenda_for}
use Rattle.world_core.specs.Turns.{Goes, Packets, aside_in, left_since, may_leave, moment, recording_of, signs_in, stays}
use Rattle.world_headline.proofs.Gifts.{Brought, Chosen, chosen}
use Rattle.world_headline.proofs.Opening.{comes_who, kept_as, opened_as, opens_at, same_sender, sender}
use Rattle.world_headline.proofs.Own.{Same, comes_on, planned_same}
use Rattle.world_headline.proofs.Written.{IsWritten, written}
use Rattle.world_headline.specs.Standing.{StandsAt, Store, left, life_of}
use Rattle.world_laws.specs.Events.{IsSound, SignsFor}
use Rattle.world_model.specs.Deeds.{Deed}
use Rattle.world_parts.specs.Holding.{with_piece}
use Rattle.world_turns.proofs.Fronts.{signs_for}
use Rattle.world_turns.proofs.Turning.{turn_comes, turn_crashes}
use Rattle.world_turns.specs.Comes.{Comes}

-- a node that is opened again on an image that a crash amid a call left: nothing was released
pub record Back (pool : List Piece) (j : JournalData) (k : Desk) (d : MemDisk) (t : Desk) : Type 0 where
  pub journal : JournalData
  pub at : StandsAt d t journal
  pub signs : signs_in t ≡ signs_in k
  pub comes : Comes pool (signs_in k) (recording_of j k) (recording_of journal t) []

-- what a call leaves
pub record Did (pool : List Piece) (j : JournalData) (k : Desk) (d e : MemDisk) (l : Desk) (packets : Packets) : Type 0 where
  pub journal : JournalData
  pub at : StandsAt e l journal
  pub signs : signs_in l ≡ signs_in k
  pub pieces : List Piece
  pub held : packets ≡ all_added with_piece pieces []
  pub comes : Comes pool (signs_in k) (recording_of j k) (recording_of journal l) pieces
  pub later : moment d ≤ moment e
  pub cut : (image : List ℕ) (f : MemDisk) (t : Recorder) → left_since e (moment d) image → OpensOn f t k.press.key image → Back pool j k f (desk_of t)

-- ---- what was saved

pub where_saved : {T : Type 0} (result : Result T Stop) (P : Type 0) → ((x : T) → result ≡ Ok x → P) → OnOutlet result P → WhereSaved result P
where_saved (Ok x) P f o = f x refl
where_saved (Err LeavesSpent) P f o = tt
where_saved (Err Full) P f o = tt
where_saved (Err DiskFault) P f o = tt
where_saved (Err OutletFault) P f o = o
where_saved (Err FeedFault) P f o = tt

pub header_with : (j m : JournalData) (flight : List Part) (image : List ℕ) → StandsWith j flight image → journal_of image ≡ Is m → m.header ≡ j.header
header_with j m flight image (inl e) q = let same : Is m ≡ Is j = sym q ∙ e in let one : m ≡ j = cc in ap (λ (x : JournalData). x.header) one
header_with j m flight image (inr e) q = let same : Is m ≡ Is (with_record j flight) = sym q ∙ e in let one : m ≡ with_record j flight = cc in ap (λ (x : JournalData). x.header) one

-- what a crash leaves now is among what crashes since then left
pub since_now : (d e : MemDisk) (image : List ℕ) → moment d ≤ moment e → may_leave e image → left_since e (moment d) image
since_now d e image later h = (disk_calls e, later, omega arith, h)

-- a node that is opened again on an image by which a call of it was cut
pub cut_back : (pool : List Piece) (j : JournalData) (k : Desk) (a : HeadData) (l : Life Store) (image : List ℕ) (f : MemDisk) (t : Recorder) → IsSound (recording_of j k) → IsKept left l → l.who ≡ signs_in k → j.header.carried ≡ [] → IsHeader j.header a
    → LivesCut left l (CutTo image) → (o : OpensOn f t k.press.key image) → o.journal.header ≡ j.header → Comes pool (signs_in k) (recording_of j k) (opened o.journal (desk_of t).machine.state) [] → Back pool j k f (desk_of t)
cut_back pool j k a l image f t sound kept who carried header c o same comes =
    let own = (comes_on pool (signs_in k) (recording_of j k) (opened o.journal (desk_of t).machine.state) [] sound comes).0 in
    record {
      journal = o.journal;
      at = opens_at k j a c.life image f t (lives_kept left l c.life kept c.comes) (comes_who left l c.life c.comes ∙ who) (subst (λ (p : Store). left p image) (sym c.place_is) refl) carried header o same own;
      signs = same_sender k (desk_of t) o.key_is own;
      comes = subst (λ (x : Recording). Comes pool (signs_in k) (recording_of j k) x []) (sym (opened_as f k t image o)) comes;
    }

-- ---- a turn

pub turn_did : (pool : List Piece) (j : JournalData) (d e : MemDisk) (k l : Desk) (deed : Deed) (bytes : List ℕ) (later number : ℕ) (packets : Packets) (answer : Turn) → IsSound (recording_of j k) → k.machine.state.devices.own < 2 ^ 32 → StandsAt d k j → Brought pool deed bytes
    → l.press.key ≡ k.press.key → WhereSaved (result_of answer) ((kept_of l.store.journal).stop ≡ None) → Goes d e k l (agenda_for deed bytes later number) [] packets answer j → Did pool j k d e l packets
turn_did pool j d e k l deed bytes later number packets answer sound low s brought key saved g =
    let r : Recording = recording_of j k in
    let who : Sender = signs_in k in
    let old : Life Store = life_of d k j s.past in
    let result : Result Turn Stop = result_of answer in
    let next : JournalData = g.leaves.next in
    let flight : List Part = g.leaves.flight in
    let after : Recording = recording_of next l in
    let aside = aside_in k in
    let later_aside = aside_in l in
    let same : Same r after = planned_same (sender k.press.key l.machine.state.devices.own) g.gift g.value r aside later_aside l.store.batch.parts l.machine.state g.faults [] packets result next flight sound g.leaves.is in
    let signer : sender k.press.key l.machine.state.devices.own ≡ who = ap (λ (n : ℕ). sender k.press.key n) same.own in
    let plan = subst (λ (x : Sender). Planned with_piece stays x g.gift g.value r aside later_aside l.store.batch.parts l.machine.state g.faults [] packets result next flight) signer g.leaves.is in
    let choice : Chosen pool (is_some r.machine.devices.clock) g.value r.machine plan.plan = chosen pool deed bytes later number r.machine g.gift g.value plan.plan (is_some r.machine.devices.clock) brought g.feeds.given plan.plan_is in
    let chose : Planned with_piece stays who choice.gift g.value r aside later_aside l.store.batch.parts l.machine.state g.faults [] packets result next flight = record { plan = plan.plan; plan_is = choice.plan_is; does = plan.does } in
    let w : IsWritten j = written (kept_of k.store.journal) (may_leave d) (disk_bytes d) j d.bytes_are s.disk.own in
    let w_next : IsWritten next = written (kept_of l.store.journal) (may_leave e) (disk_bytes e) next e.bytes_are g.leaves.holds.own in
    let true_now : IsTrue r = is_true left with_piece stays old s.kept in
    let truth = planned with_piece stays who r s.head w.fits s.header true_now g.gift g.value aside later_aside l.store.batch.parts l.machine.state g.faults [] packets result next flight s.marks plan in
    let own = g.leaves.holds.own in
    let carried : next.header.carried ≡ [] = ap (λ (h : HeaderData). h.carried) same.header ∙ s.carried in
    let signs : SignsFor who after = signs_for who after (sym same.own) low carried w_next.spelled w_next.bytes in
    let lived = planned_lives left with_piece stays old s.kept s.head w.fits s.header (OnStore e) g.faults [] packets g.gift g.value aside later_aside l.store.batch.parts l.machine.state result next flight s.marks
    (λ x q. g.leaves.holds.moments.each x (since_now d e x g.leaves.holds.moments.later q))
    (where_map result _ _ (λ run x q. shut_stands next own.front x own.stands own.begun (own.left_shut run x q)) saved)
    plan in
    let turns = turn_comes pool who choice.gift g.value r s.head aside later_aside l.store.batch.parts l.machine.state g.faults [] packets result next flight w.fits s.header true_now s.marks choice.gives signs chose in
    record {
      journal = next;
      at = record {
        disk = record { own = own; kept = planned_tickets with_piece stays who g.gift g.value r aside later_aside l.store.batch.parts l.machine.state g.faults [] packets result next flight plan s.disk.kept };
        past = record { retiring = lived.on.life.retiring; gone = lived.on.life.gone; released = lived.on.life.released; signed = lived.on.life.signed };
        kept = kept_as lived.on.life (signs_in l) after (OnStore e) (lived.on.who_is ∙ sym (same_sender k l key same.own)) lived.on.recording_is lived.on.place_is (lives_kept left old lived.on.life s.kept lived.on.comes);
        carried = carried;
        head = s.head;
        header = subst (λ (h : HeaderData). IsHeader h s.head) (sym same.header) s.header;
        marks = truth.marks;
      };
      signs = same_sender k l key same.own;
      pieces = turns.pieces;
      held = turns.held;
      comes = turns.comes;
      later = g.leaves.holds.moments.later;
      cut = λ image f t since o.
          let z = g.leaves.holds.moments.each image since in
          let comes = turn_crashes pool who choice.gift g.value r s.head aside later_aside l.store.batch.parts l.machine.state g.faults [] packets result next flight image o.journal (desk_of t).machine.state w.fits s.header true_now s.marks choice.gives chose z o.stands o.desk.machine in
          let c = lived.crash (CutTo image) (λ c q. subst (λ (x : List ℕ). StandsWith j flight x) (sym q) z) in
          cut_back pool j k s.head old image f t sound s.kept refl s.carried s.header c o (header_with j o.journal flight image z o.stands) comes;
    }
