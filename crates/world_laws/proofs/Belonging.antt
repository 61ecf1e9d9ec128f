-- Each packet that was released belongs to a journal: an entry of it releases the packet.
use Rattle.std.proofs.Common.{◌≡◌, ℕ, Bool, true, false, eqb, List, [], ◌∷◌, ◌++◌, Option, Some, None, refl, sym, ap, subst, ◌∙◌, ◌⊎◌, inl, inr}
use Rattle.std.specs.Prelude.{slice_get, slice_set}
use Rattle.std.proofs.lemmas.Bool.{eqb-true, eq-eqb}
use Rattle.avm_outside.specs.Outlet.{Piece, auth, console, packet}
use Rattle.journal_model.specs.Header.{HeaderData}
use Rattle.journal_model.specs.Journal.{JournalData, parts, with_record}
use Rattle.journal_model.specs.Part.{Part}
use Rattle.journal_model.specs.Saving.{CommitRefusal, commit_refusal}
use Rattle.journal_model.specs.Standing.{standing, start}
use Rattle.record_model.specs.Recording.{Act, Done, Effect, Recording, closed_by, effect, finished, needs_no_seal, seal_again, sealed, with_seal}
use Rattle.record_model.specs.Released.{Sender, pieces_from}
use Rattle.record_model.proofs.Pieces.{pieces_more}
use Rattle.life_model.specs.Life.{Among, opened}
use Rattle.life_model.proofs.Among.{among_left, among_right, among_either}
use Rattle.world_model.specs.World.{Parcel}
use Rattle.world_laws.specs.Counting.{node_of}
use Rattle.world_laws.specs.Events.{AsSaved, IsReopened, IsSound, SignsFor, WithBatch, packet_shows, pieces_show}
use Rattle.world_laws.specs.Network.{Acting, Acts, Begins, BeginsSeal, Belongs, Gives, Happens, Moves, Network, Reopens, Seals, Station}
use Rattle.world_model.proofs.Lists.{get_set_other, get_set_same}
use Rattle.world_laws.proofs.Acting.{effect_acted}
use Rattle.world_laws.proofs.Happening.{AreReleased}
use Rattle.world_laws.proofs.Pieces.{batch_of}
use Rattle.world_laws.proofs.Releasing.{IsFrom, effect_from}

-- what a journal's entries release
abbrev pub own_pieces : Sender → JournalData → List Piece
own_pieces who j = pieces_from who (start j.header) (parts j)

-- ---- a journal grows

pub data Grows (j next : JournalData) : Type 0 where
  Same : next ≡ j → Grows j next
  More : (r : List Part) → next ≡ with_record j r → Grows j next

grown : (who : Sender) (j next : JournalData) → Grows j next → (p : Piece) → Among p (own_pieces who j) → Among p (own_pieces who next)
grown who j next (Same e) p i = subst (λ (x : JournalData). Among p (own_pieces who x)) (sym e) i
grown who j next (More r e) p i =
    let more : Among p (own_pieces who (with_record j r)) = subst (λ (ps : List Piece). Among p ps) (sym (pieces_more who j r)) (among_left p (own_pieces who j) (pieces_from who (standing j) r) i) in
    subst (λ (x : JournalData). Among p (own_pieces who x)) (sym e) more

closed_grows : (who : Sender) (r : Recording) (why : Option CommitRefusal) → Grows r.journal (closed_by who r why).recording.journal
closed_grows who r (Some why) = Same refl
closed_grows who r None = More r.batch refl

finished_grows : (who : Sender) (e : Effect) (j : JournalData) → e.recording.journal ≡ j → Grows j (finished who e).recording.journal
finished_grows who e j is = subst (λ (x : JournalData). Grows x (finished who e).recording.journal) is (go e.closes refl)
  where
    go : (b : Bool) → e.closes ≡ b → Grows e.recording.journal (finished who e).recording.journal
    go true q = rw q (closed_grows who e.recording (commit_refusal e.recording.journal e.recording.batch))
    go false q = rw q (Same refl)

sealed_grows : (who : Sender) (r : Recording) → Grows r.journal (sealed who r).recording.journal
sealed_grows who r = go (needs_no_seal r) refl
  where
    go : (b : Bool) → needs_no_seal r ≡ b → Grows r.journal (sealed who r).recording.journal
    go true q = rw q (Same refl)
    go false q = rw q (closed_grows who (with_seal r) (commit_refusal r.journal (with_seal r).batch))

reopened_grows : (r : Recording) (j : JournalData) → IsReopened r j → Grows r.journal j
reopened_grows r j (AsSaved e) = Same e
reopened_grows r j (WithBatch e) = More r.batch e

-- ---- what is released

-- a packet among these pieces is the journal's
abbrev pub AreOf : Sender → JournalData → List Piece → Type 0
AreOf who j pieces = (peer : ℕ) (bytes : List ℕ) → Among (packet peer bytes) pieces → Among (packet peer bytes) (own_pieces who j)

closed_of : (who : Sender) (r : Recording) (why : Option CommitRefusal) → AreOf who (closed_by who r why).recording.journal (closed_by who r why).pieces
closed_of who r (Some why) peer bytes i = absurd i
closed_of who r None peer bytes i = subst (λ (ps : List Piece). Among (packet peer bytes) ps) (sym (pieces_more who r.journal r.batch)) (among_right (packet peer bytes) (own_pieces who r.journal) (pieces_from who (standing r.journal) r.batch) i)

finished_of : (who : Sender) (e : Effect) → IsFrom who e.recording.journal e.again → AreOf who (finished who e).recording.journal (finished who e).pieces
finished_of who e again = go e.closes refl
  where
    go : (b : Bool) → e.closes ≡ b → AreOf who (finished who e).recording.journal (finished who e).pieces
    go true q = rw q (closed_of who e.recording (commit_refusal e.recording.journal e.recording.batch))
    go false q = rw q (λ peer bytes i. again (packet peer bytes) i)

no_auth : (peer : ℕ) (bytes x : List ℕ) (who : Sender) (j : JournalData) → Among (packet peer bytes) (auth x ∷ []) → Among (packet peer bytes) (own_pieces who j)
no_auth peer bytes x who j (inl e) = absurd cc
no_auth peer bytes x who j (inr k) = absurd k

sealed_of : (who : Sender) (r : Recording) → AreOf who (sealed who r).recording.journal (sealed who r).pieces
sealed_of who r = go (needs_no_seal r) refl
  where
    go : (b : Bool) → needs_no_seal r ≡ b → AreOf who (sealed who r).recording.journal (sealed who r).pieces
    go true q = rw q (λ peer bytes i. no_auth peer bytes (seal_again who r.journal) who r.journal i)
    go false q = rw q (closed_of who (with_seal r) (commit_refusal r.journal (with_seal r).batch))

-- ---- what is released shows

-- what packets of these pieces show is among what those show that have each of them
pub shown_in : (peer : ℕ) (bytes : List ℕ) (b : List Piece) → Among (packet peer bytes) b → (p : Parcel) → Among p (packet_shows bytes) → Among p (pieces_show b)
shown_in peer bytes [] i p k = absurd i
shown_in peer bytes (packet q c ∷ b) (inl e) p k =
    let same : bytes ≡ c = cc in
    among_left p (packet_shows c) (pieces_show b) (subst (λ (x : List ℕ). Among p (packet_shows x)) same k)
shown_in peer bytes (packet q c ∷ b) (inr i) p k = among_right p (packet_shows c) (pieces_show b) (shown_in peer bytes b i p k)
shown_in peer bytes (console c ∷ b) (inl e) p k = absurd cc
shown_in peer bytes (console c ∷ b) (inr i) p k = shown_in peer bytes b i p k
shown_in peer bytes (auth c ∷ b) (inl e) p k = absurd cc
shown_in peer bytes (auth c ∷ b) (inr i) p k = shown_in peer bytes b i p k

all_shown : (a b : List Piece) → ((peer : ℕ) (bytes : List ℕ) → Among (packet peer bytes) a → Among (packet peer bytes) b) → (p : Parcel) → Among p (pieces_show a) → Among p (pieces_show b)
all_shown [] b f p i = absurd i
all_shown (packet q c ∷ a) b f p i = go (among_either p (packet_shows c) (pieces_show a) i) (λ k. all_shown a b (λ peer bytes h. f peer bytes (inr h)) p k)
  where
    go : Among p (packet_shows c) ⊎ Among p (pieces_show a) → (Among p (pieces_show a) → Among p (pieces_show b)) → Among p (pieces_show b)
    go (inl k) ih = shown_in q c b (f q c (inl refl)) p k
    go (inr k) ih = ih k
all_shown (console c ∷ a) b f p i = all_shown a b (λ peer bytes h. f peer bytes (inr h)) p i
all_shown (auth c ∷ a) b f p i = all_shown a b (λ peer bytes h. f peer bytes (inr h)) p i

-- packets of the acknowledged journal show its mail
all_released : (who : Sender) (r : Recording) (pieces : List Piece) → SignsFor who r → AreOf who r.journal pieces → AreReleased (node_of r) pieces
all_released who r pieces s of p i =
    let o = batch_of who (start r.journal.header) (parts r.journal) p s.journal (all_shown pieces (own_pieces who r.journal) of p i) in
    (o.from ∙ s.own, o.stands)

grown_header : (j next : JournalData) → Grows j next → next.header ≡ j.header
grown_header j next (Same e) = ap (λ (x : JournalData). x.header) e
grown_header j next (More r e) = ap (λ (x : JournalData). x.header) e

-- no entry was carried over before either
carried_before : (j next : JournalData) → Grows j next → next.header.carried ≡ [] → j.header.carried ≡ []
carried_before j next g e = ap (λ (h : HeaderData). h.carried) (sym (grown_header j next g)) ∙ e

pub effect_of : (who : Sender) (pages : List ℕ) (r : Recording) (act : Act) (e : Effect) → effect who pages r act ≡ Some e → e.recording.journal ≡ r.journal → (finished who e).recording.journal.header.carried ≡ [] → AreOf who (finished who e).recording.journal (finished who e).pieces
effect_of who pages r act e q journal carried =
    let before : r.journal.header.carried ≡ [] = carried_before r.journal (finished who e).recording.journal (finished_grows who e r.journal journal) carried in
    finished_of who e (subst (λ (j : JournalData). IsFrom who j e.again) (sym journal) (effect_from who pages r act e before q))

pub effect_released : (who : Sender) (pages : List ℕ) (r : Recording) (act : Act) (e : Effect) → effect who pages r act ≡ Some e → e.recording.journal ≡ r.journal → SignsFor who (finished who e).recording → AreReleased (node_of (finished who e).recording) (finished who e).pieces
effect_released who pages r act e q journal s = all_released who (finished who e).recording (finished who e).pieces s (effect_of who pages r act e q journal s.carried)

pub sealed_released : (who : Sender) (r : Recording) → SignsFor who (sealed who r).recording → AreReleased (node_of (sealed who r).recording) (sealed who r).pieces
sealed_released who r s = all_released who (sealed who r).recording (sealed who r).pieces s (sealed_of who r)

-- ---- what happens at a recorder

-- its journal grows, and each packet that it releases is of the new one
record Owns (who : Sender) (j next : JournalData) (pieces : List Piece) : Type 0 where
  grows : Grows j next
  of : AreOf who next pieces

owns_none : (who : Sender) (j : JournalData) (q r : Recording) (pieces : List Piece) → r ≡ q → pieces ≡ [] → Grows j q.journal → Owns who j r.journal pieces
owns_none who j q r pieces e f g = rw (e, f) (record { grows = g; of = λ peer bytes i. absurd i })

owns_given : (who : Sender) (j : JournalData) (d : Done) (r : Recording) (pieces : List Piece) → Gives d r pieces → Grows j d.recording.journal → AreOf who d.recording.journal d.pieces → Owns who j r.journal pieces
owns_given who j d r pieces g grows of = rw g.recording (record {
  grows = grows;
  of = λ peer bytes i. of peer bytes (subst (λ (ps : List Piece). Among (packet peer bytes) ps) (sym g.front) (among_left (packet peer bytes) pieces g.rest i));
})

acts_own : (s : Station) (act : Act) (e : Effect) (pool : List Piece) → (h : IsSound s.recording) → (a : Acting pool s act e) → (finished s.who e).recording.journal.header.carried ≡ [] → Grows s.recording.journal (finished s.who e).recording.journal × AreOf s.who (finished s.who e).recording.journal (finished s.who e).pieces
acts_own s act e pool h a carried =
    let journal = (effect_acted s.who a.pages s.recording act e h.counted a.fits a.effect_is).adds.journal in
    (finished_grows s.who e s.recording.journal journal, effect_of s.who a.pages s.recording act e a.effect_is journal carried)

begins_own : (s : Station) (act : Act) (e : Effect) (pool : List Piece) → (h : IsSound s.recording) → (a : Acting pool s act e) → Grows s.recording.journal e.recording.journal
begins_own s act e pool h a = Same (effect_acted s.who a.pages s.recording act e h.counted a.fits a.effect_is).adds.journal

happens_own : (pool : List Piece) (s : Station) (r : Recording) (pieces : List Piece) → IsSound s.recording → Happens pool s r pieces → Owns s.who s.recording.journal r.journal pieces
happens_own pool s r pieces h (Moves n u m e f) = owns_none s.who s.recording.journal (record s.recording { machine = u }) r pieces e f (Same refl)
happens_own pool s r pieces h (Acts act e a signs g) =
    let k = acts_own s act e pool h a (ap (λ (x : Recording). x.journal.header.carried) (sym g.recording) ∙ signs.carried) in
    owns_given s.who s.recording.journal (finished s.who e) r pieces g k.0 k.1
happens_own pool s r pieces h (Begins act e a is f) = owns_none s.who s.recording.journal e.recording r pieces is f (begins_own s act e pool h a)
happens_own pool s r pieces h (Seals signs g) = owns_given s.who s.recording.journal (sealed s.who s.recording) r pieces g (sealed_grows s.who s.recording) (sealed_of s.who s.recording)
happens_own pool s r pieces h (BeginsSeal e f) = owns_none s.who s.recording.journal (with_seal s.recording) r pieces e f (Same refl)
happens_own pool s r pieces h (Reopens j to o is f) = owns_none s.who s.recording.journal (opened j to) r pieces is f (reopened_grows s.recording j o.reopened)

-- ---- the network

-- a piece of a station belongs to the network behind a step
stays : (n : Network) (k : ℕ) (s : Station) (r : Recording) (released : List Piece) (p : Piece) → slice_get n.stations k ≡ Some s → Grows s.recording.journal r.journal → Belongs n p
    → Belongs (record { stations = slice_set n.stations k (record { who = s.who; recording = r }); released = released }) p
stays n k s r released p is g b = go (eqb b.place k) refl
  where
    t : Station
    t = record { who = s.who; recording = r }

    go : (x : Bool) → eqb b.place k ≡ x → Belongs (record { stations = slice_set n.stations k t; released = released }) p
    go true q =
        let same : b.place ≡ k = eqb-true b.place k q in
        let here : slice_get n.stations k ≡ Some b.station = subst (λ (i : ℕ). slice_get n.stations i ≡ Some b.station) same b.station_is in
        let some : Some s ≡ Some b.station = sym is ∙ here in
        let one : b.station ≡ s = cc in
        record {
          place = k;
          station = t;
          station_is = get_set_same n.stations k s t is;
          stands = grown s.who s.recording.journal r.journal g p (subst (λ (x : Station). Among p (own_pieces x.who x.recording.journal)) one b.stands);
        }
    go false q =
        let other : b.place ≡ k → ⊥ = λ w. let x : eqb b.place k ≡ true = eq-eqb b.place k w in absurd cc in
        record { place = b.place; station = b.station; station_is = get_set_other n.stations k b.place t other ∙ b.station_is; stands = b.stands }

pub step_belongs : (n : Network) (k : ℕ) (s : Station) (r : Recording) (pieces : List Piece) → slice_get n.stations k ≡ Some s → Happens n.released s r pieces → IsSound s.recording → ((peer : ℕ) (bytes : List ℕ) → Among (packet peer bytes) n.released → Belongs n (packet peer bytes))
    → (peer : ℕ) (bytes : List ℕ) → Among (packet peer bytes) (n.released ++ pieces) → Belongs (record { stations = slice_set n.stations k (record { who = s.who; recording = r }); released = n.released ++ pieces }) (packet peer bytes)
step_belongs n k s r pieces is happens sound all peer bytes i = go (among_either (packet peer bytes) n.released pieces i)
  where
    t : Station
    t = record { who = s.who; recording = r }

    o : Owns s.who s.recording.journal r.journal pieces
    o = happens_own n.released s r pieces sound happens

    go : Among (packet peer bytes) n.released ⊎ Among (packet peer bytes) pieces → Belongs (record { stations = slice_set n.stations k t; released = n.released ++ pieces }) (packet peer bytes)
    go (inl h) = stays n k s r (n.released ++ pieces) (packet peer bytes) is o.grows (all peer bytes h)
    go (inr h) = record { place = k; station = t; station_is = get_set_same n.stations k s t is; stands = o.of peer bytes h }
