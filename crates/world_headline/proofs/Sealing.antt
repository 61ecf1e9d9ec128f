-- A seal of a recorder at its station, and a recorder that has stopped.
use Rattle.std.proofs.Common.{◌≡◌, ◌<◌, ◌^◌, ℕ, List, [], None, Result, refl, sym, ap, subst, ◌∙◌, arith}
use Rattle.avm_model.specs.Machine.{MachineState}
use Rattle.avm_outside.specs.DiskLog.{IsImage}
use Rattle.avm_outside.specs.MemDisks.{disk_bytes, disk_state}
use Rattle.avm_outside.specs.declared.mem_disk.MemDisk.{MemDisk}
use Rattle.avm_outside.specs.Outlet.{Piece}
use Rattle.honest_model.specs.KeepPages.{IsHeader}
use Rattle.journal_model.specs.Header.{HeaderData}
use Rattle.journal_model.specs.Journal.{JournalData}
use Rattle.journal_model.specs.Part.{Part}
use Rattle.jrnl_store.proofs.Commits.{shut_stands}
use Rattle.jrnl_store.specs.Kept.{kept as kept_of}
use Rattle.jrnl_store.specs.declared.fault.Stop.{Stop}
use Rattle.life_model.proofs.Kept.{lives_kept}
use Rattle.life_model.specs.Life.{CutTo, Life, OnStore}
use Rattle.record_model.specs.Recording.{Recording}
use Rattle.record_model.specs.Released.{Sender}
use Rattle.record_parts.specs.Outs.{ram_in}
use Rattle.record_parts.specs.declared.answers.Sealed.{Sealed}
use Rattle.record_store.specs.Saving.{StandsWith}
use Rattle.record_kept.specs.Tickets.{AreKeptOf}
use Rattle.record_kept.specs.declared.kept.KeptRow.{KeptRow}
use Rattle.record_turn.specs.Desk.{rows_of}
use Rattle.record_turn.specs.Keeping.{MarksTell}
use Rattle.record_turn.specs.declared.desk.Desk.{Desk}
use Rattle.recorder.specs.Recorder.{desk_of}
use Rattle.recorder.specs.Turns.{seal_result}
use Rattle.truth_laws.proofs.Calls.{seals}
use Rattle.truth_laws.specs.Truth.{IsTrue}
use Rattle.turn_lives.proofs.Events.{is_true, seal_lives, where_map}
use Rattle.turn_lives.specs.Lives.{WhereSaved}
use Rattle.world_core.specs.Turns.{Packets, SealsOn, left_since, may_leave, moment, recording_of, signs_in, stays}
use Rattle.world_headline.proofs.Acting.{Did, cut_back, header_with, since_now}
use Rattle.world_headline.proofs.Opening.{again_at, kept_as, same_sender}
use Rattle.world_headline.proofs.Own.{seals_header}
use Rattle.world_headline.proofs.Written.{IsWritten, written}
use Rattle.world_headline.specs.Standing.{StandsAt, Store, left, life_of}
use Rattle.world_laws.specs.Events.{IsSound, SignsFor}
use Rattle.world_parts.specs.Holding.{with_piece}
use Rattle.world_turns.proofs.Fronts.{signs_for}
use Rattle.world_turns.proofs.Turning.{seal_comes, seal_crashes}
use Rattle.world_turns.specs.Comes.{Comes, Stays}

pub seal_did : (pool : List Piece) (j : JournalData) (d e : MemDisk) (k l : Desk) (packets : Packets) (answer : Sealed) → IsSound (recording_of j k) → k.machine.state.devices.own < 2 ^ 32 → StandsAt d k j → l.press.key ≡ k.press.key → l.machine ≡ k.machine → rows_of l.kept ≡ rows_of k.kept
    → WhereSaved (seal_result answer) ((kept_of l.store.journal).stop ≡ None) → SealsOn d e k l [] packets answer j → Did pool j k d e l packets
seal_did pool j d e k l packets answer sound low s key machine rows saved g =
    let r : Recording = recording_of j k in
    let who : Sender = signs_in k in
    let old : Life Store = life_of d k j s.past in
    let result : Result Sealed Stop = seal_result answer in
    let next : JournalData = g.leaves.next in
    let flight : List Part = g.leaves.flight in
    let mid : Recording = record { journal = next; batch = l.store.batch.parts; machine = k.machine.state } in
    let is : mid ≡ recording_of next l = ap (λ (m : MachineState). record { journal = next; batch = l.store.batch.parts; machine = m.state }) (sym machine) in
    let own_is : l.machine.state.devices.own ≡ k.machine.state.devices.own = ap (λ (m : MachineState). m.state.devices.own) machine in
    let header : next.header ≡ j.header = seals_header who r mid g.faults [] packets result g.leaves.is.ends in
    let w : IsWritten j = written (kept_of k.store.journal) (may_leave d) (disk_bytes d) j d.bytes_are s.disk.own in
    let w_next : IsWritten next = written (kept_of l.store.journal) (may_leave e) (disk_bytes e) next e.bytes_are g.leaves.holds.own in
    let true_now : IsTrue r = is_true left with_piece stays old s.kept in
    let truth = seals with_piece stays who r (rows_of k.kept) (ram_in k.machine) l.store.batch.parts g.faults [] packets result next flight w.fits true_now s.marks g.leaves.is in
    let own = g.leaves.holds.own in
    let carried : next.header.carried ≡ [] = ap (λ (h : HeaderData). h.carried) header ∙ s.carried in
    let signs : SignsFor who mid = signs_for who mid refl low carried w_next.spelled w_next.bytes in
    let lived = seal_lives left with_piece stays old s.kept s.head w.fits s.header (OnStore e) g.faults [] packets (rows_of k.kept) l.store.batch.parts result next flight
    (λ x q. g.leaves.holds.moments.each x (since_now d e x g.leaves.holds.moments.later q))
    (where_map result _ _ (λ run x q. shut_stands next own.front x own.stands own.begun (own.left_shut run x q)) saved)
    g.leaves.is in
    let turns = seal_comes pool who r (rows_of k.kept) l.store.batch.parts g.faults [] packets result next flight signs g.leaves.is in
    record {
      journal = next;
      at = record {
        disk = record { own = own; kept = subst (λ (x : List KeptRow). AreKeptOf x next) (sym rows) (g.leaves.is.tickets s.disk.kept) };
        past = record { retiring = lived.on.life.retiring; gone = lived.on.life.gone; released = lived.on.life.released; signed = lived.on.life.signed };
        kept = kept_as lived.on.life (signs_in l) (recording_of next l) (OnStore e) (lived.on.who_is ∙ sym (same_sender k l key own_is)) (lived.on.recording_is ∙ is) lived.on.place_is (lives_kept left old lived.on.life s.kept lived.on.comes);
        carried = carried;
        head = s.head;
        header = subst (λ (h : HeaderData). IsHeader h s.head) (sym header) s.header;
        marks = subst (λ (m : MachineState). MarksTell next l.store.batch.parts (ram_in m)) (sym machine) truth.marks;
      };
      signs = same_sender k l key own_is;
      pieces = turns.pieces;
      held = turns.held;
      comes = subst (λ (x : Recording). Comes pool who r x turns.pieces) is turns.comes;
      later = g.leaves.holds.moments.later;
      cut = λ image f t since o.
          let z = g.leaves.holds.moments.each image since in
          let comes = seal_crashes pool who r (rows_of k.kept) l.store.batch.parts g.faults [] packets result next flight image o.journal (desk_of t).machine.state g.leaves.is z o.stands o.desk.machine in
          let c = lived.crash (CutTo image) (λ c q. subst (λ (x : List ℕ). StandsWith j flight x) (sym q) z) in
          cut_back pool j k s.head old image f t sound s.kept refl s.carried s.header c o (header_with j o.journal flight image z o.stands) comes;
    }

-- what has stopped does nothing
pub nothing_did : (pool : List Piece) (j : JournalData) (d e : MemDisk) (k l : Desk) (packets : Packets) → IsSound (recording_of j k) → StandsAt d k j → l ≡ k → e ≡ d → packets ≡ [] → Did pool j k d e l packets
nothing_did pool j d e k l packets sound s desk disk none =
    let same : Did pool j k d d k [] = record {
      journal = j;
      at = s;
      signs = refl;
      pieces = [];
      held = refl;
      comes = Stays (recording_of j k);
      later = omega arith;
      cut = λ image f t since o.
          let again = again_at k j d f t image sound s (only_now d image since) o in
          record { journal = again.journal; at = again.at; signs = again.signs; comes = again.comes pool (signs_in k) (recording_of j k) [] (Stays (recording_of j k)) };
    } in
    let one = subst (λ (x : Desk). Did pool j k d d x []) (sym desk) same in
    let two = subst (λ (x : MemDisk). Did pool j k d x l []) (sym disk) one in
    subst (λ (x : Packets). Did pool j k d e l x) (sym none) two
  where
    only_now : (x : MemDisk) (image : List ℕ) → left_since x (moment x) image → may_leave x image
    only_now x image h =
        let at : h.0 ≡ moment x = omega (arith, h.1, h.2) in
        subst (λ (n : ℕ). IsImage (disk_state x n) image) at h.3
