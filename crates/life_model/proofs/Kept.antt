-- Each event keeps what holds of a life.
use Rattle.std.proofs.Common.{◌≡◌, ℕ, ◌+◌, ◌≤◌, ◌<◌, true, List, [], ◌∷◌, ◌++◌, length, map, Option, None, Some, refl, sym, ap, subst, ◌∙◌, append-nil, ◌⊎◌, inl, inr, ⊎_elim, arith, length-append}
use Rattle.avm_model.specs.Frame.{FrameData}
use Rattle.avm_model.specs.Machine.{State}
use Rattle.avm_outside.specs.Outlet.{Piece}
use Rattle.journal_model.specs.Header.{CarriedData, HeaderData}
use Rattle.journal_model.specs.Part.{Part, entry, seal, keep, frames_in}
use Rattle.journal_model.specs.Journal.{JournalData, Is, journal_of, parts, with_record}
use Rattle.journal_model.specs.Standing.{LeavesFrom, SignedData, StandingData, behind, signed_from, signed_items, standing, start}
use Rattle.journal_model.proofs.Signing.{items_leaves, items_more}
use Rattle.honest_model.specs.Honest.{IsHonest, Leads, header_state}
use Rattle.honest_model.specs.Keeps.{AreTrue, HasTrueKeeps}
use Rattle.honest_model.proofs.Honesty.{leads_honest}
use Rattle.honest_model.proofs.Logs.{record-parts}
use Rattle.honest_model.proofs.Openings.{opened_is}
use Rattle.record_model.specs.Released.{Sender, part_pieces, pieces_from}
use Rattle.record_model.specs.Recording.{Recording, saved}
use Rattle.record_model.proofs.Standing.{standing_saved}
use Rattle.record_laws.proofs.Kept.{saved_true}
use Rattle.base_model.specs.Base.{MovedState, before_entry, moved, moved_at, moved_state, carried_of}
use Rattle.base_laws.specs.Moving.{BeginsKeep, KeepsTell}
use Rattle.base_laws.proofs.KeepCases.{moved_true}
use Rattle.life_model.specs.Life.{Among, Told, told, told_from, told_of, number_of, Life, with_batch, IsMarked, StandsForOne, KeepsSnaps, IsKept, IsNew, new_life, Goes, SavesTo, opened, Opens, Retires, gone_by, MovesTo, Event, Saves, Stays, Reopens, Marks, MovesOn, Comes, Here, Then}
use Rattle.life_model.proofs.Among.{among_either, among_front, among_last, among_left, among_more, among_parts, among_right}
use Rattle.life_model.proofs.Moving.{Moved, carried_entry, entry_gone, first_moved, front_leaves, front_signed, front_told, is_moved, items_moved, leaves_moved, told_moved}
use Rattle.life_model.proofs.Points.{leaves_append, told_append}
use Rattle.life_model.proofs.Snaps.{snap_keeps, snaps_past}

-- what is released for a record more stands behind what was released
told_more : (who : Sender) (j : JournalData) (r : List Part) → told_of who (with_record j r) ≡ told_of who j ++ told_from who (standing j) r
unfolding told_of standing
told_more who j r = ap (told_from who (start j.header)) (record-parts j r) ∙ told_append who (start j.header) (parts j) r

-- the keeps of a front
true_front : (h : HeaderData) (x a b : List Part) → AreTrue h x (a ++ b) → AreTrue h x a
true_front h x [] b t = tt
true_front h x (entry f ∷ a) b t = true_front h (x ++ entry f ∷ []) a b t
true_front h x (seal ∷ a) b t = true_front h (x ++ seal ∷ []) a b t
true_front h x (keep k ∷ a) b t = (t.0, true_front h (x ++ keep k ∷ []) a b t.1)

-- ---- a new store

pub begins : {W : Type 0} (left : W → List ℕ → Type 0) (who : Sender) (place : W) (j : JournalData) (s : State) → IsNew left place j s → IsKept left (new_life who place j s)
begins left who place j s n = record {
  images = λ c i. inl (n.images_are c i);
  unmarked = n.unmarked;
  standing = record { from = s; header = n.header; saved = s; journal = n.leads; reached = s; batch = subst (λ (ps : List Part). Leads s ps s) (sym (append-nil (parts j))) n.leads; steps = 0; quiet = refl };
  goes_on = refl;
  released = λ t h. absurd h;
  below = λ t h. absurd h;
  signed = λ x h. absurd h;
  signed_below = λ x h. absurd h;
  first = j.header.leaves;
  leaves = tt;
  meets = omega arith;
  carried = λ e h. absurd (subst (Among e) n.nothing h);
  keeps = subst (λ (ps : List Part). AreTrue j.header [] ps) (sym (append-nil (parts j))) n.keeps;
  snaps = n.snaps;
  open_snaps = subst (KeepsSnaps true) (sym (append-nil (parts j))) n.snaps;
}

-- ---- a batch that is saved

saves : {W : Type 0} (left : W → List ℕ → Type 0) (l : Life W) (place : W) (ps : List Told) (ss : List SignedData) → SavesTo left l place ps ss → IsKept left l
    → IsKept left (record l { recording = saved l.recording; place = place; released = l.released ++ ps; signed = l.signed ++ ss })
saves left l place ps ss s k =
    let j = l.recording.journal in
    let r = l.recording.batch in
    let all : KeepsSnaps true (parts (with_record j r)) = subst (KeepsSnaps true) (sym (record-parts j r)) k.open_snaps in
    record {
      images = λ c image. inl (s.images_are c image);
      unmarked = k.unmarked;
      standing = standing_saved l.recording k.standing;
      goes_on = refl;
      released = λ t h. ⊎_elim (λ old. among_more t l.gone.told (told_of l.who j) (told_from l.who (standing j) r) (told_of l.who (with_record j r)) (told_more l.who j r) (k.released t old))
          (λ new. among_last t l.gone.told (told_of l.who j) (told_from l.who (standing j) r) (told_of l.who (with_record j r)) (told_more l.who j r) (among_front t (told_from l.who (standing j) r) ps s.rest s.pieces new))
          (among_either t l.released ps h);
      below = k.below;
      signed = λ x h. ⊎_elim (λ old. among_more x l.gone.signed (signed_items j) (signed_from (standing j) r) (signed_items (with_record j r)) (items_more j r) (k.signed x old))
          (λ new. among_last x l.gone.signed (signed_items j) (signed_from (standing j) r) (signed_items (with_record j r)) (items_more j r) (among_front x (signed_from (standing j) r) ss s.more s.items new))
          (among_either x l.signed ss h);
      signed_below = k.signed_below;
      first = k.first;
      leaves = k.leaves;
      meets = k.meets;
      carried = k.carried;
      keeps = saved_true l.recording k.keeps;
      snaps = all;
      open_snaps = subst (KeepsSnaps true) (sym (append-nil (parts (with_record j r)))) all;
    }

-- ---- the journal stays

stays : {W : Type 0} (left : W → List ℕ → Type 0) (l : Life W) (r : Recording) (place : W) (again : List Told) (signs : List SignedData) → Goes left l r place again signs → IsKept left l
    → IsKept left (record l { recording = r; place = place; released = l.released ++ again; signed = l.signed ++ signs })
stays left l r place again signs g k = go r g
  where
    -- the same journal, by name
    again_told : (r : Recording) (g : Goes left l r place again signs) (t : Told) → Among t again → Among t (l.gone.told ++ told_of l.who r.journal)
    again_told r g t h = ⊎_elim (λ own. among_right t l.gone.told (told_of l.who r.journal) own)
        (λ c. among_left t l.gone.told (told_of l.who r.journal) ((k.carried c.0 (subst (λ (j : JournalData). Among c.0 j.header.carried) g.journal c.1)).told t c.2)) (g.own t h)

    again_signed : (r : Recording) (g : Goes left l r place again signs) (x : SignedData) → Among x signs → Among x (l.gone.signed ++ signed_items r.journal)
    again_signed r g x h = ⊎_elim (λ own. among_right x l.gone.signed (signed_items r.journal) own)
        (λ c. among_left x l.gone.signed (signed_items r.journal) (subst (λ (y : SignedData). Among y l.gone.signed) (sym c.2) (k.carried c.0 (subst (λ (j : JournalData). Among c.0 j.header.carried) g.journal c.1)).signed)) (g.own_signs x h)

    go : (r : Recording) (g : Goes left l r place again signs) → IsKept left (record l { recording = r; place = place; released = l.released ++ again; signed = l.signed ++ signs })
    go r g = record {
      images = g.images_are;
      unmarked = ap (λ (j : JournalData). j.mark) g.journal ∙ k.unmarked;
      standing = g.standing;
      goes_on = g.goes_on;
      released = λ t h. ⊎_elim (λ old. subst (λ (j : JournalData). Among t (l.gone.told ++ told_of l.who j)) (sym g.journal) (k.released t old)) (again_told r g t) (among_either t l.released again h);
      below = λ t h. subst (λ (j : JournalData). t.seq < j.header.first) (sym g.journal) (k.below t h);
      signed = λ x h. ⊎_elim (λ old. subst (λ (j : JournalData). Among x (l.gone.signed ++ signed_items j)) (sym g.journal) (k.signed x old)) (again_signed r g x) (among_either x l.signed signs h);
      signed_below = λ x h. subst (λ (j : JournalData). x.seq < j.header.first) (sym g.journal) (k.signed_below x h);
      first = k.first;
      leaves = k.leaves;
      meets = k.meets ∙ ap (λ (j : JournalData). j.header.leaves) (sym g.journal);
      carried = λ e h. k.carried e (subst (λ (j : JournalData). Among e j.header.carried) g.journal h);
      keeps = g.keeps;
      snaps = subst (λ (j : JournalData). KeepsSnaps true (parts j)) (sym g.journal) k.snaps;
      open_snaps = g.snaps;
    }

-- ---- a crash

same_journal : (i j : JournalData) → Is i ≡ Is j → i ≡ j
same_journal i j e = cc

no_mark : (o : Option ℕ) (n : ℕ) → o ≡ None → o ≡ Some n → ⊥
no_mark o n e q = absurd (let h : None ≡ Some n = sym e ∙ q in cc h)

-- one of the two journals for which an image without a mark stands
pub record Left {W : Type 0} {left : W → List ℕ → Type 0} (l : Life W) (k : IsKept left l) (j : JournalData) : Type 0 where
  pub is : (j ≡ l.recording.journal) ⊎ (j ≡ with_batch l.recording)
  pub header : j.header ≡ l.recording.journal.header
  pub released : (t : Told) → Among t l.released → Among t (l.gone.told ++ told_of l.who j)
  pub signed : (s : SignedData) → Among s l.signed → Among s (l.gone.signed ++ signed_items j)
  pub to : State
  pub leads : Leads k.standing.from (parts j) to
  pub keeps : HasTrueKeeps j
  pub snaps : KeepsSnaps true (parts j)

left_by : {W : Type 0} {left : W → List ℕ → Type 0} (l : Life W) (k : IsKept left l) (j : JournalData) (c : List ℕ) → journal_of c ≡ Is j → j.mark ≡ None → StandsForOne l.retiring l.recording c → Left l k j
left_by l k j c is none (inl e) = subst (Left l k) (same_journal l.recording.journal j (sym e ∙ is)) (record {
  is = inl refl;
  header = refl;
  released = k.released;
  signed = k.signed;
  to = k.standing.saved;
  leads = k.standing.journal;
  keeps = true_front l.recording.journal.header [] (parts l.recording.journal) l.recording.batch k.keeps;
  snaps = k.snaps;
})
left_by l k j c is none (inr (inl e)) = subst (Left l k) (same_journal (with_batch l.recording) j (sym e ∙ is)) (record {
  is = inr refl;
  header = refl;
  released = λ t h. among_more t l.gone.told (told_of l.who l.recording.journal) (told_from l.who (standing l.recording.journal) l.recording.batch) (told_of l.who (with_batch l.recording)) (told_more l.who l.recording.journal l.recording.batch) (k.released t h);
  signed = λ s h. among_more s l.gone.signed (signed_items l.recording.journal) (signed_from (standing l.recording.journal) l.recording.batch) (signed_items (with_batch l.recording)) (items_more l.recording.journal l.recording.batch) (k.signed s h);
  to = k.standing.reached;
  leads = subst (λ (ps : List Part). Leads k.standing.from ps k.standing.reached) (sym (record-parts l.recording.journal l.recording.batch)) k.standing.batch;
  keeps = subst (λ (ps : List Part). AreTrue l.recording.journal.header [] ps) (sym (record-parts l.recording.journal l.recording.batch)) k.keeps;
  snaps = subst (KeepsSnaps true) (sym (record-parts l.recording.journal l.recording.batch)) k.open_snaps;
})
left_by l k j c is none (inr (inr m)) = absurd (marked l.retiring m)
  where
    marked : (o : Option ℕ) → IsMarked o l.recording.journal c → ⊥
    marked None m = m
    marked (Some n) m = no_mark j.mark n none (ap (λ (i : JournalData). i.mark) (sym (same_journal (record l.recording.journal { mark = Some n }) j (sym m ∙ is))))

reopens : {W : Type 0} (left : W → List ℕ → Type 0) (l : Life W) (j : JournalData) (to : State) (place : W) → Opens left l j to place → IsKept left l → IsKept left (record l { recording = opened j to; place = place; retiring = None })
reopens left l j to place o k =
    let w = left_by l k j o.image o.stands o.unmarked (k.images o.image o.may_be_left) in
    let header = ap header_state w.header ∙ k.standing.header in
    let machine : to ≡ w.to = opened_is j k.standing.from w.to to header w.leads w.keeps o.opened_is in
    let leads : Leads k.standing.from (parts j) to = subst (λ (s : State). Leads k.standing.from (parts j) s) (sym machine) w.leads in
    record {
      images = λ c image. inl (o.images_are c image);
      unmarked = o.unmarked;
      standing = record { from = k.standing.from; header = header; saved = to; journal = leads; reached = to; batch = subst (λ (ps : List Part). Leads k.standing.from ps to) (sym (append-nil (parts j))) leads; steps = 0; quiet = refl };
      goes_on = refl;
      released = w.released;
      below = λ t h. subst (λ (h : HeaderData). t.seq < h.first) (sym w.header) (k.below t h);
      signed = w.signed;
      signed_below = λ x h. subst (λ (h : HeaderData). x.seq < h.first) (sym w.header) (k.signed_below x h);
      first = k.first;
      leaves = k.leaves;
      meets = k.meets ∙ ap (λ (h : HeaderData). h.leaves) (sym w.header);
      carried = λ e h. k.carried e (subst (λ (h : HeaderData). Among e h.carried) w.header h);
      keeps = subst (λ (ps : List Part). AreTrue j.header [] ps) (sym (append-nil (parts j))) w.keeps;
      snaps = w.snaps;
      open_snaps = subst (KeepsSnaps true) (sym (append-nil (parts j))) w.snaps;
    }

pub opens : {W : Type 0} (left : W → List ℕ → Type 0) (l : Life W) (j : JournalData) (c : List ℕ) → IsKept left l → left l.place c → journal_of c ≡ Is j → j.mark ≡ None → ((j ≡ l.recording.journal) ⊎ (j ≡ with_batch l.recording)) × IsHonest j × HasTrueKeeps j
opens left l j c k image is none =
    let w = left_by l k j c is none (k.images c image) in
    (w.is, leads_honest j k.standing.from w.to (ap header_state w.header ∙ k.standing.header) w.leads, w.keeps)

-- ---- a mark

marks : {W : Type 0} (left : W → List ℕ → Type 0) (l : Life W) (n : ℕ) (place : W) → Retires left l n place → IsKept left l → IsKept left (record l { place = place; retiring = Some n })
marks left l n place r k = record {
  images = r.images_are;
  unmarked = k.unmarked;
  standing = k.standing;
  goes_on = k.goes_on;
  released = k.released;
  below = k.below;
  signed = k.signed;
  signed_below = k.signed_below;
  first = k.first;
  leaves = k.leaves;
  meets = k.meets;
  carried = k.carried;
  keeps = k.keeps;
  snaps = k.snaps;
  open_snaps = k.open_snaps;
}

-- ---- the store moves

-- the keep of a SNAP entry stands behind it, unless the journal begins with it
tells : (j : JournalData) (n : ℕ) (at : State) (front later : List Part) (f : FrameData) → n ≡ j.header.first + length (frames_in front) → (frames_in front ≡ []) ⊎ BeginsKeep later → KeepsTell j n at front f later
tells j n at front later f number (inl e) = inl (number ∙ ap (λ (fs : List FrameData). j.header.first + length fs) e ∙ (omega arith))
tells j n at front later f number (inr k) = inr (inl k)

moved_unmarked : (j : JournalData) (n : ℕ) (s : MovedState) → (moved j n s).mark ≡ None
unfolding moved
moved_unmarked j n s = refl

moved_carried : (j : JournalData) (n : ℕ) (at : State) (e : CarriedData) → Among e (moved_at j n at).header.carried → Among e (carried_of j n at)
unfolding moved Rattle.base_model.specs.Base.base_header
moved_carried j n at e h = h

told_parts : (who : Sender) (gone : List Told) (j : JournalData) (n : ℕ) (s : MovedState) (f : FrameData) (later : List Part) (w : Moved j n s f later) (t : Told) → Among t (gone ++ told_of who j)
    → Among t ((gone ++ told_from who (start j.header) (before_entry n (parts j))) ++ told_of who (moved j n s))
unfolding told_of
told_parts who gone j n s f later w t h =
    among_parts t gone (told_from who (start j.header) (before_entry n (parts j))) (told_from who (start (moved j n s).header) (parts (moved j n s))) (told_from who (start j.header) (parts j)) (told_moved j n s f later w who) h

moves_on : {W : Type 0} (left : W → List ℕ → Type 0) (l : Life W) (n : ℕ) (to : State) (place : W) (m : MovesTo left l n to place) → IsKept left l
    → IsKept left (record l { recording = opened (moved_at l.recording.journal n m.moves.at) to; place = place; retiring = None; gone = gone_by l n })
moves_on left l n to place m k =
    let j = l.recording.journal in
    let s = moved_state j n m.moves.at in
    let next = moved_at j n m.moves.at in
    let front = before_entry n (parts j) in
    let w = is_moved j n s m.snap m.later m.spelled m.found in
    let leads = m.moves.leads m.writes in
    let mine = true_front j.header [] (parts j) l.recording.batch k.keeps in
    let snaps = snap_keeps true front m.later m.snap (subst (KeepsSnaps true) w.split k.snaps) m.kind in
    let tell = tells j n m.moves.at front m.later m.snap w.number snaps.0 in
    let true_keeps = moved_true j m.head n to front m.later m.snap m.moves m.spelled m.header mine w.split w.seq m.above m.writes tell in
    let items = signed_from (start j.header) front in
    let many : length (l.gone.signed ++ items) ≡ length l.gone.signed + length items = length-append l.gone.signed items in
    let first = first_moved j n s m.snap m.later w in
    let low : j.header.first ≤ n = omega (arith, w.number) in
    let here : KeepsSnaps true (parts next) = subst (KeepsSnaps true) (sym w.parts_are) (inl refl, snaps_past m.later snaps.1) in
    record {
      images = λ c image. inl (m.images_are c image);
      unmarked = moved_unmarked j n s;
      standing = record { from = m.moves.at; header = leads.0; saved = to; journal = leads.1; reached = to; batch = subst (λ (ps : List Part). Leads m.moves.at ps to) (sym (append-nil (parts next))) leads.1; steps = 0; quiet = refl };
      goes_on = refl;
      released = λ t h. told_parts l.who l.gone.told j n s m.snap m.later w t (k.released t h);
      below = λ t h. ⊎_elim (λ old. omega (arith, low, first, k.below t old)) (λ new. omega (arith, first, front_told j n s m.snap m.later w l.who t new)) (among_either t l.gone.told (told_from l.who (start j.header) front) h);
      signed = λ x h. among_parts x l.gone.signed items (signed_items next) (signed_items j) (items_moved j n s m.snap m.later w) (k.signed x h);
      signed_below = λ x h. ⊎_elim (λ old. omega (arith, low, first, k.signed_below x old)) (λ new. omega (arith, first, front_signed j n s m.snap m.later w x new)) (among_either x l.gone.signed items h);
      first = k.first;
      leaves = leaves_append k.first l.gone.signed items k.leaves (subst (λ (a : ℕ). LeavesFrom a items) (sym k.meets) (front_leaves j n s m.snap m.later w));
      meets = omega (arith, many, k.meets, leaves_moved j n s m.snap m.later w);
      carried = λ e h. (let c = carried_entry j n m.moves.at e (moved_carried j n m.moves.at e h) in entry_gone j n s m.snap m.later w l.who l.gone e k.carried c.0 c.1);
      keeps = subst (λ (ps : List Part). AreTrue next.header [] ps) (sym (append-nil (parts next))) true_keeps;
      snaps = here;
      open_snaps = subst (KeepsSnaps true) (sym (append-nil (parts next))) here;
    }

-- ---- a leaf signs once

leaf_low : (n : ℕ) (xs : List SignedData) (x : SignedData) → LeavesFrom n xs → Among x xs → n ≤ x.leaf
leaf_low n [] x run h = absurd h
leaf_low n (y ∷ xs) x run (inl e) = omega (arith, run.0, ap (λ (z : SignedData). z.leaf) e)
leaf_low n (y ∷ xs) x run (inr h) = omega (arith, leaf_low (n + 1) xs x run.1 h)

one_leaf : (n : ℕ) (xs : List SignedData) (x y : SignedData) → LeavesFrom n xs → Among x xs → Among y xs → x.leaf ≡ y.leaf → x ≡ y
one_leaf n [] x y run h i e = absurd h
one_leaf n (z ∷ xs) x y run (inl h) (inl i) e = h ∙ sym i
one_leaf n (z ∷ xs) x y run (inl h) (inr i) e = absurd (omega (arith, e, run.0, ap (λ (w : SignedData). w.leaf) h, leaf_low (n + 1) xs y run.1 i))
one_leaf n (z ∷ xs) x y run (inr h) (inl i) e = absurd (omega (arith, e, run.0, ap (λ (w : SignedData). w.leaf) i, leaf_low (n + 1) xs x run.1 h))
one_leaf n (z ∷ xs) x y run (inr h) (inr i) e = one_leaf (n + 1) xs x y run.1 h i e

pub signs_once : {W : Type 0} (left : W → List ℕ → Type 0) (l : Life W) (x y : SignedData) → IsKept left l → Among x l.signed → Among y l.signed → x.leaf ≡ y.leaf → x ≡ y
signs_once left l x y k h i e =
    let items = signed_items l.recording.journal in
    let run = leaves_append k.first l.gone.signed items k.leaves (subst (λ (a : ℕ). LeavesFrom a items) (sym k.meets) (items_leaves l.recording.journal)) in
    one_leaf k.first (l.gone.signed ++ items) x y run (k.signed x h) (k.signed y i) e

-- ---- all events

pub event_kept : {W : Type 0} (left : W → List ℕ → Type 0) (l m : Life W) → IsKept left l → Event left l m → IsKept left m
event_kept left l m k (Saves place ps ss s) = saves left l place ps ss s k
event_kept left l m k (Stays r place again signs g) = stays left l r place again signs g k
event_kept left l m k (Reopens j to place o) = reopens left l j to place o k
event_kept left l m k (Marks n place r) = marks left l n place r k
event_kept left l m k (MovesOn n to place o) = moves_on left l n to place o k

pub lives_kept : {W : Type 0} (left : W → List ℕ → Type 0) (l m : Life W) → IsKept left l → Comes left l m → IsKept left m
lives_kept left l m k Here = k
lives_kept left l m k (Then a n so_far e) = event_kept left a n (lives_kept left l a k so_far) e

-- ---- without the numbers

told_pieces : (n : ℕ) (ps : List Piece) → map (λ (t : Told). t.piece) (told n ps) ≡ ps
told_pieces n [] = refl
told_pieces n (p ∷ ps) = ap (λ (qs : List Piece). p ∷ qs) (told_pieces n ps)

map_more : (a b : List Told) → map (λ (t : Told). t.piece) (a ++ b) ≡ map (λ (t : Told). t.piece) a ++ map (λ (t : Told). t.piece) b
map_more [] b = refl
map_more (t ∷ a) b = ap (λ (qs : List Piece). t.piece ∷ qs) (map_more a b)

pub pieces_told : (who : Sender) (s : StandingData) (ps : List Part) → map (λ (t : Told). t.piece) (told_from who s ps) ≡ pieces_from who s ps
pieces_told who s [] = refl
pieces_told who s (x ∷ ps) = map_more (told (number_of s x) (part_pieces who s x)) (told_from who (behind s x) ps) ∙ ap (λ (qs : List Piece). qs ++ map (λ (t : Told). t.piece) (told_from who (behind s x) ps)) (told_pieces (number_of s x) (part_pieces who s x)) ∙ ap (λ (qs : List Piece). part_pieces who s x ++ qs) (pieces_told who (behind s x) ps)
