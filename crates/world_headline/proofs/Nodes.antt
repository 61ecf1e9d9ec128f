-- One step at a node, as a schedule of its network.
use Rattle.std.proofs.Common.{◌≡◌, ◌<◌, ◌≤◌, ◌^◌, ◌+◌, ◌-◌, ℕ, Bool, true, false, List, [], ◌∷◌, ◌++◌, Option, None, Some, Result, refl, sym, ap, subst, ◌∙◌, ◌⊎◌, inl, inr, arith, leb-true, min, length}
use Rattle.std.specs.Prelude.{if◌then◌else◌, nat_le}
use Rattle.avm_num.specs.declared.buffer.NoMemory.{NoMemory}
use Rattle.avm_outside.proofs.Choices.{image_is}
use Rattle.avm_outside.specs.DiskLog.{IsImage}
use Rattle.avm_outside.specs.MemDisks.{disk_calls, disk_state}
use Rattle.avm_outside.specs.Outlet.{Piece, all_added, auth, console, packet}
use Rattle.avm_outside.specs.declared.mem_disk.MemDisk.{MemDisk}
use Rattle.journal_model.specs.Journal.{JournalData}
use Rattle.jrnl_store.specs.Kept.{kept as kept_of}
use Rattle.jrnl_store.specs.declared.fault.Stop.{Stop}
use Rattle.life_model.proofs.Among.{among_either}
use Rattle.life_model.specs.Life.{Among}
use Rattle.record_parts.specs.declared.answers.Sealed.{Sealed}
use Rattle.record_parts.specs.declared.answers.Turn.{Turn}
use Rattle.record_turn.specs.Leaves.{OnOutlet}
use Rattle.recorder.specs.Recorder.{desk_of, stop_of}
use Rattle.recorder.specs.Turns.{result_of, seal_result, stop_behind}
use Rattle.recorder.specs.declared.recorder.Recorder.{Recorder}
use Rattle.record_model.specs.Released.{Sender}
use Rattle.turn_lives.specs.Lives.{WhereSaved}
use Rattle.world_core.specs.Acts.{ActOf, later_of}
use Rattle.avm_model.specs.Keys.{KeyData}
use Rattle.world_core.specs.Crashes.{Crashed, CrashedIfUp, Fails, OpensOn, Reopens, Wants}
use Rattle.world_core.specs.Gifts.{agenda_for}
use Rattle.world_core.specs.Nodes.{DidIfUp, EndsBy, SameNode, StepsAt, calls_between, image_behind, keeps}
use Rattle.world_core.specs.Turns.{Packets, SealOf, TurnOf, left_since, may_leave, moment, recording_of, signs_in}
use Rattle.world_core.specs.declared.node.Node.{Node}
use Rattle.world_core.specs.declared.types.Stepped.{Stepped}
use Rattle.world_headline.proofs.Acting.{Back, Did, turn_did, where_saved}
use Rattle.world_headline.proofs.Gifts.{Brought}
use Rattle.world_headline.proofs.Opening.{Again, again_at}
use Rattle.world_headline.proofs.Own.{comes_on}
use Rattle.world_headline.proofs.Sealing.{nothing_did, seal_did}
use Rattle.world_headline.specs.Standing.{IsStation, Stands, StandsAt, StandsIfUp, station_of}
use Rattle.world_laws.specs.Events.{IsSound}
use Rattle.world_laws.specs.Network.{Station}
use Rattle.world_model.specs.Deeds.{CrashData, Deed, EventData, Turn as TurnDeed, Deliver, Console, Resend, Seal}
use Rattle.world_parts.proofs.Extents.{ordered}
use Rattle.world_parts.specs.Crash.{crash_image}
use Rattle.world_parts.specs.Holding.{with_piece}
use Rattle.world_turns.specs.Comes.{Comes, Stays}

-- ---- an act

runs_behind : (q : Recorder) → stop_of q ≡ None → (kept_of (desk_of q).store.journal).stop ≡ None
runs_behind q none = (q.ready none).opens.run

turn_saved : (q : Recorder) (result : Result Turn Stop) → stop_of q ≡ stop_behind None result → OnOutlet result ((kept_of (desk_of q).store.journal).stop ≡ None) → WhereSaved result ((kept_of (desk_of q).store.journal).stop ≡ None)
turn_saved q result stop run = where_saved result _ (λ x e. runs_behind q (stop ∙ ap (λ (y : Result Turn Stop). stop_behind None y) e)) run

seal_saved : (q : Recorder) (result : Result Sealed Stop) → stop_of q ≡ stop_behind None result → OnOutlet result ((kept_of (desk_of q).store.journal).stop ≡ None) → WhereSaved result ((kept_of (desk_of q).store.journal).stop ≡ None)
seal_saved q result stop run = where_saved result _ (λ x e. runs_behind q (stop ∙ ap (λ (y : Result Sealed Stop). stop_behind None y) e)) run

module _ (pool : List Piece) (j : JournalData) (d e : MemDisk) (r q : Recorder) (packets : Packets) (sound : IsSound (recording_of j (desk_of r))) (low : (desk_of r).machine.state.devices.own < 2 ^ 32) (s : StandsAt d (desk_of r) j) where
  of_turn : (deed : Deed) (bytes : List ℕ) (later number : ℕ) (answer : Turn) → Brought pool deed bytes → TurnOf d e r q (agenda_for deed bytes later number) [] packets answer → Did pool j (desk_of r) d e (desk_of q) packets
  of_turn deed bytes later number answer brought t = by (stop_of r) refl
    where
      by : (o : Option Stop) → stop_of r ≡ o → Did pool j (desk_of r) d e (desk_of q) packets
      by (Some stop) was = let n = (t.ended stop was).1 in nothing_did pool j d e (desk_of r) (desk_of q) packets sound s n.same n.disk n.none
      by None was =
          turn_did pool j d e (desk_of r) (desk_of q) deed bytes later number packets answer sound low s brought t.key
          (turn_saved q (result_of answer) (t.stop ∙ ap (λ (o : Option Stop). stop_behind o (result_of answer)) was) t.run) (t.goes was j s.disk)

  of_seal : (answer : Sealed) → SealOf d e r q [] packets answer → Did pool j (desk_of r) d e (desk_of q) packets
  of_seal answer t = by (stop_of r) refl
    where
      by : (o : Option Stop) → stop_of r ≡ o → Did pool j (desk_of r) d e (desk_of q) packets
      by (Some stop) was = let n = (t.ended stop was).1 in nothing_did pool j d e (desk_of r) (desk_of q) packets sound s n.same n.disk n.none
      by None was =
          seal_did pool j d e (desk_of r) (desk_of q) packets answer sound low s t.key t.machine t.rows
          (seal_saved q (seal_result answer) (t.stop ∙ ap (λ (o : Option Stop). stop_behind o (seal_result answer)) was) t.run) (t.seals was j s.disk)

  act_did : (deed : Deed) (bytes : List ℕ) (number : ℕ) (answer : Stepped) → Brought pool deed bytes → ActOf d e r q deed bytes number [] packets answer → Did pool j (desk_of r) d e (desk_of q) packets
  act_did TurnDeed bytes number answer b a = of_turn TurnDeed bytes (later_of (desk_of r).machine.state.count) number a.turn b a.of_turn
  act_did (Deliver n) bytes number answer b a = of_turn (Deliver n) bytes (later_of (desk_of r).machine.state.count) number a.turn b a.of_turn
  act_did (Console text) bytes number answer b a = of_turn (Console text) bytes (later_of (desk_of r).machine.state.count) number a.turn b a.of_turn
  act_did (Resend peer) bytes number answer b a = of_turn (Resend peer) bytes (later_of (desk_of r).machine.state.count) number a.turn b a.of_turn
  act_did Seal bytes number answer b a = of_seal a.sealed a.of_seal

-- ---- packets

-- each packet that the outlet keeps is one of the pieces
held_in : (p : ℕ × List ℕ) (ps : List Piece) (held : Packets) → Among p (all_added with_piece ps held) → Among p held ⊎ Among (packet p.0 p.1) ps
held_in p [] held h = inl h
held_in p (packet peer bytes ∷ ps) held h = by (held_in p ps (held ++ (peer, bytes) ∷ []) h)
  where
    one : Among p ((peer, bytes) ∷ []) → Among (packet p.0 p.1) (packet peer bytes ∷ ps)
    one (inl e) = inl (ap (λ (x : ℕ × List ℕ). packet x.0 x.1) e)
    one (inr bad) = absurd bad

    or : Among p held ⊎ Among p ((peer, bytes) ∷ []) → Among p held ⊎ Among (packet p.0 p.1) (packet peer bytes ∷ ps)
    or (inl a) = inl a
    or (inr a) = inr (one a)

    by : Among p (held ++ (peer, bytes) ∷ []) ⊎ Among (packet p.0 p.1) ps → Among p held ⊎ Among (packet p.0 p.1) (packet peer bytes ∷ ps)
    by (inl a) = or (among_either p held ((peer, bytes) ∷ []) a)
    by (inr a) = inr (inr a)
held_in p (console bytes ∷ ps) held h = by (held_in p ps held h)
  where
    by : Among p held ⊎ Among (packet p.0 p.1) ps → Among p held ⊎ Among (packet p.0 p.1) (console bytes ∷ ps)
    by (inl a) = inl a
    by (inr a) = inr (inr a)
held_in p (auth bytes ∷ ps) held h = by (held_in p ps held h)
  where
    by : Among p held ⊎ Among (packet p.0 p.1) ps → Among p held ⊎ Among (packet p.0 p.1) (auth bytes ∷ ps)
    by (inl a) = inl a
    by (inr a) = inr (inr a)

kept_in : (packets : Packets) (ps : List Piece) → packets ≡ all_added with_piece ps [] → (p : ℕ × List ℕ) → Among p packets → Among (packet p.0 p.1) ps
kept_in packets ps e p h = by (held_in p ps [] (subst (λ (x : Packets). Among p x) e h))
  where
    by : Among p [] ⊎ Among (packet p.0 p.1) ps → Among (packet p.0 p.1) ps
    by (inl bad) = absurd bad
    by (inr a) = a

-- ---- the image of a crash

crash_may : (d : MemDisk) (at : ℕ) (long : Bool) (fill : ℕ) → IsImage (disk_state d at) (crash_image (disk_state d at) long fill)
crash_may d at true fill = image_is (disk_state d at) (disk_state d at).extent.most _ (ordered (length d.base.items) at d.log.items) (omega arith)
crash_may d at false fill = image_is (disk_state d at) (disk_state d at).extent.least _ (omega arith) (ordered (length d.base.items) at d.log.items)

image_since : (n m : Node) (c : CrashData) → moment n.disk ≤ moment m.disk → left_since m.disk (moment n.disk) (image_behind n m c false)
image_since n m c later =
    let low : disk_calls n.disk ≤ min (disk_calls n.disk + c.calls) (disk_calls m.disk) = omega (arith, later) in
    let high : min (disk_calls n.disk + c.calls) (disk_calls m.disk) ≤ disk_calls m.disk = omega arith in
    (min (disk_calls n.disk + c.calls) (disk_calls m.disk), low, high, crash_may m.disk (min (disk_calls n.disk + c.calls) (disk_calls m.disk)) c.long c.fill)

image_now : (n m : Node) (c : CrashData) → may_leave m.disk (image_behind n m c true)
image_now n m c = crash_may m.disk (disk_calls m.disk) c.long c.fill

-- ---- stations

own_kept : (n last : Node) → SameNode n last → n.own < 2 ^ 32 → last.own < 2 ^ 32
own_kept n last same low = subst (λ (x : ℕ). x < 2 ^ 32) (sym same.own) low

down_station : (n last : Node) (s t : Station) → IsStation n s → SameNode n last → last.recorder ≡ None → t.who ≡ s.who → t.recording.machine.devices.own ≡ s.recording.machine.devices.own → IsStation last t
down_station n last s t h same none who own = record {
  who = ap (λ (x : Sender). x.own) who ∙ h.who ∙ sym same.own;
  own = own ∙ h.own ∙ sym same.own;
  low = own_kept n last same h.low;
  up = subst (λ (x : Option Recorder). StandsIfUp last.disk x t) (sym none) tt;
}

up_station : (n last : Node) (s : Station) (j : JournalData) (r : Recorder) → IsStation n s → SameNode n last → last.recorder ≡ Some r → StandsAt last.disk (desk_of r) j → signs_in (desk_of r) ≡ s.who → IsStation last (station_of j (desk_of r))
up_station n last s j r h same is at signs =
    let own : (desk_of r).machine.state.devices.own ≡ last.own = ap (λ (x : Sender). x.own) signs ∙ h.who ∙ sym same.own in
    record {
      who = own;
      own = own;
      low = own_kept n last same h.low;
      up = subst (λ (x : Option Recorder). StandsIfUp last.disk x (station_of j (desk_of r))) (sym is) (record { journal = j; is = refl; at = at });
    }

-- ---- a step

-- what a step leaves of a node's station, and the pieces that were released
pub record Went (pool : List Piece) (s : Station) (last : Node) (kept : Bool) (packets : Packets) : Type 0 where
  pub to : Station
  pub who : to.who ≡ s.who
  pub pieces : List Piece
  pub comes : Comes pool s.who s.recording to.recording pieces
  pub station : IsStation last to
  pub released : (p : ℕ × List ℕ) → Among p (if kept then packets else []) → Among (packet p.0 p.1) pieces

rests : (pool : List Piece) (s : Station) (n last : Node) (kept : Bool) (packets : Packets) → IsStation n s → SameNode n last → last.recorder ≡ None → ((p : ℕ × List ℕ) → Among p (if kept then packets else []) → ⊥) → Went pool s last kept packets
rests pool s n last kept packets h same none never = record { to = s; who = refl; pieces = []; comes = Stays s.recording; station = down_station n last s s h same none refl refl; released = λ p q. absurd (never p q) }

nothing : (kept : Bool) (packets : Packets) → packets ≡ [] → (p : ℕ × List ℕ) → Among p (if kept then packets else []) → ⊥
nothing true packets e p h = let bad : Among p [] = subst (λ (x : Packets). Among p x) e h in absurd bad
nothing false packets e p h = absurd h

-- a node that was down
was_down : (o : Option CrashData) (n acted last : Node) (kept : Bool) (answer : Stepped) (result : Result Stepped NoMemory) → acted.recorder ≡ None → EndsBy o n acted last kept answer result → last.recorder ≡ None
was_down None n acted last kept answer result none e = ap (λ (x : Node). x.recorder) e.1 ∙ none
was_down (Some c) n acted last kept answer result none e = by acted.recorder none e
  where
    by : (o : Option Recorder) → o ≡ None → CrashedIfUp o acted.disk last.disk last.recorder (image_behind n acted c kept) result → last.recorder ≡ None
    by None none k = k.1
    by (Some r) none k = absurd (let bad : Some r ≡ None = none in cc bad)

module _ (pool : List Piece) (n acted last : Node) (r q : Recorder) (j : JournalData) (packets : Packets) (sound : IsSound (recording_of j (desk_of r))) (h : IsStation n (station_of j (desk_of r))) (same : SameNode n last) (d : Did pool j (desk_of r) n.disk acted.disk (desk_of q) packets) where
  -- it goes on where the act left it
  stays_up : last ≡ acted → acted.recorder ≡ Some q → Went pool (station_of j (desk_of r)) last true packets
  stays_up e up = record {
    to = station_of d.journal (desk_of q);
    who = d.signs;
    pieces = d.pieces;
    comes = d.comes;
    station = up_station n last (station_of j (desk_of r)) d.journal q h same (ap (λ (x : Node). x.recorder) e ∙ up) (subst (λ (x : Node). StandsAt x.disk (desk_of q) d.journal) (sym e) d.at) d.signs;
    released = kept_in packets d.pieces d.held;
  }

  sound_behind : IsSound (recording_of d.journal (desk_of q))
  sound_behind = (comes_on pool (signs_in (desk_of r)) (recording_of j (desk_of r)) (recording_of d.journal (desk_of q)) d.pieces sound d.comes).1

  own_behind : (recording_of d.journal (desk_of q)).machine.devices.own ≡ (station_of j (desk_of r)).recording.machine.devices.own
  own_behind = (comes_on pool (signs_in (desk_of r)) (recording_of j (desk_of r)) (recording_of d.journal (desk_of q)) d.pieces sound d.comes).0

  -- the act was made before the crash, and the node isn't opened again
  goes_down : last.recorder ≡ None → Went pool (station_of j (desk_of r)) last true packets
  goes_down none = record {
    to = station_of d.journal (desk_of q);
    who = d.signs;
    pieces = d.pieces;
    comes = d.comes;
    station = down_station n last (station_of j (desk_of r)) (station_of d.journal (desk_of q)) h same none d.signs own_behind;
    released = kept_in packets d.pieces d.held;
  }

  -- a crash behind all calls of the act
  crash_behind : (c : CrashData) (result : Result Stepped NoMemory) → Crashed acted.disk last.disk last.recorder (desk_of q).press.key (image_behind n acted c true) result → Went pool (station_of j (desk_of r)) last true packets
  crash_behind c result (Reopens t up is o) =
      let again : Again (desk_of q) d.journal last.disk (desk_of t) = again_at (desk_of q) d.journal acted.disk last.disk t (image_behind n acted c true) sound_behind d.at (image_now n acted c) o in
      record {
        to = station_of again.journal (desk_of t);
        who = again.signs ∙ d.signs;
        pieces = d.pieces;
        comes = again.comes pool (signs_in (desk_of r)) (recording_of j (desk_of r)) d.pieces d.comes;
        station = up_station n last (station_of j (desk_of r)) again.journal t h same up again.at (again.signs ∙ d.signs);
        released = kept_in packets d.pieces d.held;
      }
  crash_behind c result (Wants none is) = goes_down none
  crash_behind c result (Fails why none is f) = goes_down none

  -- a crash amid them: nothing is released
  crash_amid : (c : CrashData) (result : Result Stepped NoMemory) → Crashed acted.disk last.disk last.recorder (desk_of q).press.key (image_behind n acted c false) result → Went pool (station_of j (desk_of r)) last false packets
  crash_amid c result (Reopens t up is o) =
      let key : (desk_of q).press.key ≡ (desk_of r).press.key = ap (λ (x : Sender). x.key) d.signs in
      let back : Back pool j (desk_of r) last.disk (desk_of t) = d.cut (image_behind n acted c false) last.disk t (image_since n acted c d.later) (subst (λ (x : KeyData). OpensOn last.disk t x (image_behind n acted c false)) key o) in
      record {
        to = station_of back.journal (desk_of t);
        who = back.signs;
        pieces = [];
        comes = back.comes;
        station = up_station n last (station_of j (desk_of r)) back.journal t h same up back.at back.signs;
        released = λ p a. absurd a;
      }
  crash_amid c result (Wants none is) = rests pool (station_of j (desk_of r)) n last false packets h same none (λ p a. a)
  crash_amid c result (Fails why none is f) = rests pool (station_of j (desk_of r)) n last false packets h same none (λ p a. a)

  crashed : (c : CrashData) (result : Result Stepped NoMemory) (kept : Bool) → Crashed acted.disk last.disk last.recorder (desk_of q).press.key (image_behind n acted c kept) result → Went pool (station_of j (desk_of r)) last kept packets
  crashed c result true k = crash_behind c result k
  crashed c result false k = crash_amid c result k

  up_went : (o : Option CrashData) (kept : Bool) (answer : Stepped) (result : Result Stepped NoMemory) → acted.recorder ≡ Some q → kept ≡ keeps o (calls_between n acted answer) → EndsBy o n acted last kept answer result → Went pool (station_of j (desk_of r)) last kept packets
  up_went None kept answer result up k e = subst (λ (b : Bool). Went pool (station_of j (desk_of r)) last b packets) (sym k) (stays_up e.1 up)
  up_went (Some c) kept answer result up k e =
      let crash = subst (λ (x : Option Recorder). CrashedIfUp x acted.disk last.disk last.recorder (image_behind n acted c kept) result) up e in
      crashed c result kept crash

pub step_went : (pool : List Piece) (n last : Node) (s : Station) (ev : EventData) (bytes : List ℕ) (number : ℕ) (packets : Packets) (kept : Bool) (result : Result Stepped NoMemory) → IsSound s.recording → IsStation n s → Brought pool ev.deed bytes → StepsAt n last ev bytes number [] packets kept result → Went pool s last kept packets
step_went pool n last s ev bytes number packets kept result sound h brought t = by n.recorder refl t.did
  where
    by : (o : Option Recorder) → n.recorder ≡ o → DidIfUp o n t.acted ev.deed bytes number [] packets t.answer → Went pool s last kept packets
    by None none did =
        rests pool s n last kept packets h t.same (was_down ev.crash n t.acted last kept t.answer result (ap (λ (x : Node). x.recorder) did.1 ∙ none) t.ends) (nothing kept packets did.2)
    by (Some r) up did =
        let st : Stands n.disk r s = subst (λ (x : Option Recorder). StandsIfUp n.disk x s) up h.up in
        let sound_at : IsSound (recording_of st.journal (desk_of r)) = subst (λ (x : Station). IsSound x.recording) st.is sound in
        let h_at : IsStation n (station_of st.journal (desk_of r)) = subst (λ (x : Station). IsStation n x) st.is h in
        let low : (desk_of r).machine.state.devices.own < 2 ^ 32 = subst (λ (x : ℕ). x < 2 ^ 32) (sym h_at.own) h.low in
        let d = act_did pool st.journal n.disk t.acted.disk r did.0 packets sound_at low st.at ev.deed bytes number t.answer brought did.2 in
        subst (λ (x : Station). Went pool x last kept packets) (sym st.is)
        (up_went pool n t.acted last r did.0 st.journal packets sound_at h_at t.same d ev.crash kept t.answer result did.1 t.kept_is t.ends)
