-- Every schedule keeps that recorders agree.
use Rattle.std.proofs.Common.{◌≡◌, ℕ, zero, suc, Bool, true, false, eqb, List, [], ◌∷◌, ◌++◌, map, Option, Some, None, refl, sym, ap, subst, ◌∙◌, append_assoc, inl, inr}
use Rattle.std.specs.Prelude.{slice_get, slice_set}
use Rattle.std.proofs.lemmas.List.{append-nil}
use Rattle.std.proofs.lemmas.Bool.{eqb-true, eq-eqb}
use Rattle.avm_model.specs.Frame.{FrameData}
use Rattle.avm_model.specs.Machine.{State}
use Rattle.avm_model.specs.Offer.{Offer, packet_offer}
use Rattle.avm_model.specs.Rerun.{Stands, start}
use Rattle.avm_model.specs.Reference.{timed, entries_of}
use Rattle.avm_model.specs.Audit.{is_committed, behind_first}
use Rattle.world_model.specs.World.{Mail, SentTo, ReceivedFrom, AckedBy, Node, mail_of, Parcel, StaysOpen, IsDelivered, IsEvent, IsStep, AreAgreed, IsNumbered}
use Rattle.world_laws.specs.Counting.{mail_in, node_of, act_shows, IsCounted, HasMore}
use Rattle.world_laws.specs.Events.{pieces_show, packet_shows, SignsFor, IsSound}
use Rattle.world_laws.specs.Network.{Station, Network, station_node, world_of, TakesReleased, Gives, Happens, Moves, Acts, Begins, Seals, BeginsSeal, Reopens, IsNetworkStep, IsSchedule, Rests, Joins, GoesOn, IsAgreeing}
use Rattle.world_model.proofs.Lists.{get_set_same, get_set_other, get_map}
use Rattle.world_laws.proofs.Belonging.{sealed_released, shown_in, step_belongs}
use Rattle.world_laws.proofs.Joins.{joined_agrees}
use Rattle.world_model.proofs.Worlds.{step_consistent, agreed}
use Rattle.world_laws.proofs.Pieces.{show-append}
use Rattle.world_laws.proofs.Acting.{mail-append}
use Rattle.world_laws.proofs.Happening.{AreReleased, crash_event, closed_ends, numbered_more, open_node}
use Rattle.world_laws.proofs.Keeping.{moved_kept, act_event, act_begun, closed_kept, reopened_kept}
use Rattle.journal_model.specs.Part.{Part, seal, frames_in}
use Rattle.journal_model.specs.Journal.{parts}
use Rattle.honest_model.specs.Honest.{Leads}
use Rattle.honest_model.specs.Keeps.{AreTrue}
use Rattle.record_laws.proofs.Truth.{true-append}
use Rattle.record_model.specs.Recording.{Recording, Act, TakeIn, Done, closed, finished, sealed, with_seal, needs_no_seal}
use Rattle.journal_model.specs.Saving.{commit_refusal}
use Rattle.record_model.specs.Released.{Sender}
use Rattle.avm_outside.specs.Outlet.{Piece}
use Rattle.journal_model.proofs.Prefixes.{frames_append}
use Rattle.life_model.specs.Life.{Among, opened}
use Rattle.life_model.proofs.Among.{among_left}

-- ---- the pool

act_in : (pool : List Piece) (act : Act) → TakesReleased pool act → (p : Parcel) → Among p (act_shows act) → Among p (pieces_show pool)
act_in pool act (inl t) p i =
    let k : Among p (act_shows (TakeIn (packet_offer t.1))) = subst (λ (a : Act). Among p (act_shows a)) t.3 i in
    shown_in t.0 t.1 pool t.2 p (shows (packet_offer t.1) refl k)
  where
    shows : (o : Option Offer) → packet_offer t.1 ≡ o → Among p (act_shows (TakeIn (packet_offer t.1))) → Among p (packet_shows t.1)
    shows None e k = let bad : Among p [] = rw e at k in absurd bad
    shows (Some o) e k = rw e (let l : Among p (act_shows (TakeIn (Some o))) = rw e at k in l)
act_in pool act (inr e) p i = let bad : Among p [] = subst (λ (ps : List Parcel). Among p ps) e i in absurd bad

delivered_more : (a b : List Parcel) (own : ℕ) (m : Mail) → ((p : Parcel) → Among p a → Among p b) → IsDelivered a own m → IsDelivered b own m
delivered_more a b own (SentTo peer number payload) f d = tt
delivered_more a b own (ReceivedFrom peer number payload) f d = f _ d
delivered_more a b own (AckedBy peer number) f d = (d.0, f _ d.1)

event_more : (a b : List Parcel) (old new : Node) (released : List Parcel) → ((p : Parcel) → Among p a → Among p b) → IsEvent a old new released → IsEvent b old new released
event_more a b old new released f h = record {
  more = h.more;
  ending = h.ending;
  delivered = λ m i. delivered_more a b old.own m f (h.delivered m i);
  numbered = h.numbered;
  new_is = h.new_is;
  released_by = h.released_by;
}

-- ---- a seal

leads_entries : (from to : State) (a b : List Part) → frames_in a ≡ frames_in b → Leads from a to → Leads from b to
leads_entries from to a b e h = record {
  committed = subst (λ (fs : List FrameData). is_committed from fs ≡ true) e h.committed;
  stands = subst (λ (fs : List FrameData). Stands timed from (entries_of (behind_first fs)) (start to)) e h.stands;
}

seal_entries : (a b : List Part) → frames_in (a ++ b) ≡ frames_in (a ++ (b ++ seal ∷ []))
seal_entries a b = frames_append a b ∙ ap (λ (fs : List FrameData). frames_in a ++ fs) (sym (append-nil (frames_in b)) ∙ sym (frames_append b (seal ∷ []))) ∙ sym (frames_append a (b ++ seal ∷ []))

seal_more : (r : Recording) → IsSound r → HasMore r (with_seal r) []
seal_more r h =
    let batch : mail_in (r.batch ++ seal ∷ []) ≡ mail_in r.batch ++ [] = mail-append r.batch (seal ∷ []) in
    record {
      journal = refl;
      batch = batch;
      own = refl;
      counted = subst (λ (ms : List Mail). IsCounted r.machine.devices.peers (mail_in (parts r.journal) ++ ms)) (sym (batch ∙ append-nil (mail_in r.batch))) h.counted;
    }

seal_kept : (r : Recording) → IsSound r → IsSound (with_seal r)
seal_kept r h =
    let s = h.standing in
    record {
      standing = record {
        from = s.from;
        header = s.header;
        saved = s.saved;
        journal = s.journal;
        reached = s.reached;
        batch = leads_entries s.from s.reached (parts r.journal ++ r.batch) (parts r.journal ++ (r.batch ++ seal ∷ [])) (seal_entries (parts r.journal) r.batch) s.batch;
        steps = s.steps;
        quiet = s.quiet;
      };
      keeps = subst (λ (ps : List Part). AreTrue r.journal.header [] ps) (append_assoc (parts r.journal) r.batch (seal ∷ [])) (true-append r.journal.header [] (parts r.journal ++ r.batch) (seal ∷ []) h.keeps tt);
      counted = (seal_more r h).counted;
      journal = h.journal;
    }

sealed_event : (pool : List Parcel) (who : Sender) (r : Recording) → IsSound r → SignsFor who (sealed who r).recording → IsEvent pool (node_of r) (node_of (sealed who r).recording) (pieces_show (sealed who r).pieces) × IsSound (sealed who r).recording
sealed_event pool who r h s = go (needs_no_seal r) refl (sealed_released who r s)
  where
    go : (b : Bool) → needs_no_seal r ≡ b → AreReleased (node_of (sealed who r).recording) (sealed who r).pieces → IsEvent pool (node_of r) (node_of (sealed who r).recording) (pieces_show (sealed who r).pieces) × IsSound (sealed who r).recording
    go true q released = rw q (
      record {
        more = [];
        ending = StaysOpen;
        delivered = λ m i. absurd i;
        numbered = subst IsNumbered (sym (append-nil (mail_of (node_of r)))) h.counted.numbered;
        new_is = ap (λ (ms : List Mail). record { own = r.machine.devices.own; saved = mail_in (parts r.journal); unsaved = ms }) (sym (append-nil (mail_in r.batch)));
        released_by = λ p i. absurd i;
      },
      h,
    )
    go false q released =
        let more = seal_more r h in
        let ends = closed_ends who r (with_seal r) [] (commit_refusal r.journal (r.batch ++ seal ∷ [])) more in
        let here : AreReleased (node_of (closed who (with_seal r)).recording) (closed who (with_seal r)).pieces = rw q at released in
        rw q (
          record {
            more = [];
            ending = ends.0.0;
            delivered = λ m i. absurd i;
            numbered = numbered_more r (with_seal r) [] more;
            new_is = ends.0.1;
            released_by = here;
          },
          closed_kept who (with_seal r) (seal_kept r h),
        )

-- ---- what happens at a recorder

-- a recorder with what it releases is behind an event, and sound
abbrev pub Sounds : List Piece → Recording → Recording → List Piece → Type 0
Sounds pool r q pieces = IsEvent (pieces_show pool) (node_of r) (node_of q) (pieces_show pieces) × IsSound q

quietly : (pool : List Piece) (r q x : Recording) (pieces : List Piece) → x ≡ q → pieces ≡ [] → Sounds pool r q [] → Sounds pool r x pieces
quietly pool r q x pieces e f h = rw (e, f) h

event_front : (pool : List Parcel) (old new : Node) (a b : List Piece) → IsEvent pool old new (pieces_show (a ++ b)) → IsEvent pool old new (pieces_show a)
event_front pool old new a b h = record {
  more = h.more;
  ending = h.ending;
  delivered = h.delivered;
  numbered = h.numbered;
  new_is = h.new_is;
  released_by = λ p i. h.released_by p (subst (λ (ps : List Parcel). Among p ps) (sym (show-append a b)) (among_left p (pieces_show a) (pieces_show b) i));
}

given : (pool : List Piece) (r x : Recording) (pieces : List Piece) (d : Done) → Gives d x pieces → Sounds pool r d.recording d.pieces → Sounds pool r x pieces
given pool r x pieces d g h =
    let all : IsEvent (pieces_show pool) (node_of r) (node_of d.recording) (pieces_show (pieces ++ g.rest)) = subst (λ (ps : List Piece). IsEvent (pieces_show pool) (node_of r) (node_of d.recording) (pieces_show ps)) g.front h.0 in
    rw g.recording (event_front (pieces_show pool) (node_of r) (node_of d.recording) pieces g.rest all, h.1)

pub happens_event : (pool : List Piece) (s : Station) (q : Recording) (pieces : List Piece) → IsSound s.recording → Happens pool s q pieces → Sounds pool s.recording q pieces
happens_event pool s q pieces h (Moves n u m e f) =
    let k = moved_kept s.recording n u h m in
    quietly pool s.recording (record s.recording { machine = u }) q pieces e f (
      record {
        more = [];
        ending = StaysOpen;
        delivered = λ m i. absurd i;
        numbered = subst IsNumbered (sym (append-nil (mail_of (node_of s.recording)))) h.counted.numbered;
        new_is = k.1 ∙ ap (λ (ms : List Mail). record { own = s.recording.machine.devices.own; saved = mail_in (parts s.recording.journal); unsaved = ms }) (sym (append-nil (mail_in s.recording.batch)));
        released_by = λ p i. absurd i;
      },
      k.0,
    )
happens_event pool s q pieces h (Acts act e a signs g) =
    let k = act_event s.who a.pages s.recording act e h a.fits a.effect_is a.keeps (subst (λ (x : Recording). SignsFor s.who x) g.recording signs) in
    given pool s.recording q pieces (finished s.who e) g (event_more (act_shows act) (pieces_show pool) _ _ _ (act_in pool act a.takes) k.0, k.1)
happens_event pool s q pieces h (Begins act e a is f) =
    let k = act_begun s.who a.pages s.recording act e h a.fits a.effect_is a.keeps in
    quietly pool s.recording e.recording q pieces is f (event_more (act_shows act) (pieces_show pool) _ _ _ (act_in pool act a.takes) k.0, k.1)
happens_event pool s q pieces h (Seals signs g) = given pool s.recording q pieces (sealed s.who s.recording) g (sealed_event (pieces_show pool) s.who s.recording h (subst (λ (x : Recording). SignsFor s.who x) g.recording signs))
happens_event pool s q pieces h (BeginsSeal e f) =
    let more = seal_more s.recording h in
    quietly pool s.recording (with_seal s.recording) q pieces e f (
      record {
        more = [];
        ending = StaysOpen;
        delivered = λ m i. absurd i;
        numbered = numbered_more s.recording (with_seal s.recording) [] more;
        new_is = open_node s.recording (with_seal s.recording) [] more;
        released_by = λ p i. absurd i;
      },
      seal_kept s.recording h,
    )
happens_event pool s q pieces h (Reopens j to o is f) =
    let e = crash_event (pieces_show pool) s.recording j h.counted o.reopened in
    let k = reopened_kept s.recording j to h o.reopened o.opened_is in
    let own = k.0 in
    quietly pool s.recording (opened j to) q pieces is f (
      record {
        more = e.more;
        ending = e.ending;
        delivered = e.delivered;
        numbered = e.numbered;
        new_is = ap (λ (n : ℕ). record { own = n; saved = mail_in (parts j); unsaved = [] }) own ∙ e.new_is;
        released_by = λ p i. absurd i;
      },
      k.1,
    )

-- ---- the network

map_set : {A B : Type 0} (f : A → B) (xs : List A) (k : ℕ) (y : A) → map f (slice_set xs k y) ≡ slice_set (map f xs) k (f y)
map_set f [] k y = refl
map_set f (x ∷ xs) zero y = refl
map_set {A} {B} f (x ∷ xs) (suc k) y = ap (λ (l : List B). f x ∷ l) (map_set f xs k y)

kept_on : (n : Network) (k : ℕ) (s t : Station) → slice_get n.stations k ≡ Some s → ((i : ℕ) (u : Station) → slice_get n.stations i ≡ Some u → IsSound u.recording) → IsSound t.recording → (i : ℕ) (u : Station) → slice_get (slice_set n.stations k t) i ≡ Some u → IsSound u.recording
kept_on n k s t is all new i u e = go (eqb i k) refl
  where
    go : (b : Bool) → eqb i k ≡ b → IsSound u.recording
    go true q =
        let same : i ≡ k = eqb-true i k q in
        let here : slice_get (slice_set n.stations k t) k ≡ Some u = subst (λ (x : ℕ). slice_get (slice_set n.stations k t) x ≡ Some u) same e in
        let some : Some t ≡ Some u = sym (get_set_same n.stations k s t is) ∙ here in
        let one : t ≡ u = cc in
        subst (λ (x : Station). IsSound x.recording) one new
    go false q =
        let other : i ≡ k → ⊥ = λ w. let x : eqb i k ≡ true = eq-eqb i k w in absurd cc in
        all i u (sym (get_set_other n.stations k i t other) ∙ e)

pub step_agrees : (n m : Network) → IsAgreeing n → IsNetworkStep n m → IsAgreeing m
step_agrees n m h s =
    let k = happens_event n.released s.station s.recording s.pieces (h.sound s.place s.station s.station_is) s.happens in
    let t : Station = record { who = s.station.who; recording = s.recording } in
    let next : Network = record { stations = slice_set n.stations s.place t; released = n.released ++ s.pieces } in
    let world : world_of next ≡ record { nodes = slice_set (map station_node n.stations) s.place (node_of s.recording); pool = pieces_show n.released ++ pieces_show s.pieces } =
    ap (λ (x : List Node). record { nodes = x; pool = pieces_show (n.released ++ s.pieces) }) (map_set station_node n.stations s.place t) ∙ ap (λ (x : List Parcel). record { nodes = slice_set (map station_node n.stations) s.place (node_of s.recording); pool = x }) (show-append n.released s.pieces) in
    let step : IsStep (world_of n) (world_of next) = record {
      place = s.place;
      old = node_of s.station.recording;
      new = node_of s.recording;
      released = pieces_show s.pieces;
      old_is = get_map station_node n.stations s.place s.station s.station_is;
      event = k.0;
      next = world;
    } in
    let all : IsAgreeing next = record {
      sound = kept_on n s.place s.station t s.station_is h.sound k.1;
      consistent = step_consistent (world_of n) (world_of next) h.consistent step;
      belongs = λ peer bytes i. step_belongs n s.place s.station s.recording s.pieces s.station_is s.happens (h.sound s.place s.station s.station_is) h.belongs peer bytes i;
    } in
    subst IsAgreeing (sym s.next) all

pub schedule_agrees : (n m : Network) → IsAgreeing n → IsSchedule n m → IsAgreeing m
schedule_agrees n m h (Rests _) = h
schedule_agrees n m h (Joins _ o s before new) = joined_agrees o s (schedule_agrees n o h before) new
schedule_agrees n m h (GoesOn _ o _ before last) = step_agrees o m (schedule_agrees n o h before) last

pub stations_agree : (n : Network) (i j : ℕ) (a b : Station) → IsAgreeing n → slice_get n.stations i ≡ Some a → slice_get n.stations j ≡ Some b → AreAgreed (station_node a) (station_node b)
stations_agree n i j a b h p q = agreed (world_of n) i j (station_node a) (station_node b) h.consistent (get_map station_node n.stations i a p) (get_map station_node n.stations j b q)
