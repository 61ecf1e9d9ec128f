-- What was read so far is a front of what is read in the end.
use Rattle.std.proofs.Common.{◌≡◌, ℕ, zero, suc, ◌+◌, Bool, true, false, cond, List, [], ◌∷◌, ◌++◌, length, drop, Option, Some, None, is_none, refl, sym, ap, subst, ◌∙◌, append_assoc, append-nil}
use Rattle.std.specs.List.{flat_map}
use Rattle.std.proofs.lemmas.Grind.{flat_map-append}
use Rattle.avm_num.specs.Walk.{all_at}
use Rattle.avm_num.proofs.Numbers.{bind_some, kept_some}
use Rattle.avm_model.specs.Frame.{FrameData}
use Rattle.journal_model.specs.Part.{Part, entry, seal, keep, part_at, frames_in}
use Rattle.journal_model.specs.Journal.{JournalData, Gate, parts, entries, has_snap, continues, with_record, with_parts, with_mark, mark_at, begins_mark, joined, items_at, next_gate, is_open, Is, ended, ended_with, passed, walk_gates, journal_from, journal_of, IsFront}
use Rattle.journal_model.proofs.Gates.{from_closed}

-- the same header, and further records
pub record Extends (i j : JournalData) : Type 0 where
  pub header : j.header ≡ i.header
  pub more : List (List Part)
  pub records : j.records ≡ i.records ++ more

pub extends_refl : (j : JournalData) → Extends j j
extends_refl j = record { header = refl; more = []; records = sym (append-nil j.records) }

extends_then : (i j k : JournalData) → Extends i j → Extends j k → Extends i k
extends_then i j k a b = record { header = b.header ∙ a.header; more = a.more ++ b.more; records = b.records ∙ ap (λ (l : List (List Part)). l ++ b.more) a.records ∙ append_assoc i.records a.more b.more }

pub joined_extends : (j x : JournalData) (items : List ℕ) → joined j items ≡ Some x → Extends j x
unfolding joined with_parts with_mark
joined_extends j x items e = go (begins_mark items) e
  where
    by_parts : (with_parts j items) ≡ Some x → Extends j x
    by_parts h =
        let a = bind_some (all_at part_at items) _ x h in
        let k = kept_some (continues j a.0) (with_record j a.0) x a.2 in
        subst (Extends j) k.1 (record { header = refl; more = a.0 ∷ []; records = refl })

    by_mark : (with_mark j (drop 1 items)) ≡ Some x → Extends j x
    by_mark h =
        let a = bind_some (mark_at (drop 1 items)) _ x h in
        let k = kept_some (has_snap a.0 (entries j)) (record j { mark = Some a.0 }) x a.2 in
        subst (Extends j) k.1 (record { header = refl; more = []; records = sym (append-nil j.records) })

    go : (t : Bool) → cond t (with_mark j (drop 1 items)) (with_parts j items) ≡ Some x → Extends j x
    go true h = by_mark h
    go false h = by_parts h

next_extends : (g h : Gate) → next_gate g ≡ Some h → Extends g.journal h.journal
unfolding next_gate
next_extends g h e =
    let a = bind_some (items_at g.place (drop 1 g.bytes)) _ h e in
    let b = bind_some (joined g.journal a.0.0) _ h a.2 in
    let k = kept_some (is_none g.journal.mark) (record { journal = b.0; place = g.place + 5 + length a.0.0; bytes = a.0.1 }) h b.2 in
    subst (λ (q : Gate). Extends g.journal q.journal) k.1 (joined_extends g.journal b.0 a.0.0 b.1)

pub ended_is : (j x : JournalData) → ended j ≡ Is x → j ≡ x
ended_is j x e = go j.records e
  where
    go : (rs : List (List Part)) → ended_with rs j ≡ Is x → j ≡ x
    go [] h = absurd cc
    go (r ∷ rs) h = cc

walk_extends : (n : ℕ) (g : Gate) (x : JournalData) → walk_gates n g ≡ Is x → Extends g.journal x
walk_extends zero g x e = subst (Extends g.journal) (ended_is g.journal x e) (extends_refl g.journal)
walk_extends (suc n) g x e = gate (λ h f. walk_extends n h x f) (is_open g.bytes) e
  where
    Below : Type 0
    Below = (h : Gate) → walk_gates n h ≡ Is x → Extends h.journal x

    go : Below → (r : Option Gate) → next_gate g ≡ r → passed g.place r (walk_gates n) ≡ Is x → Extends g.journal x
    go below None none f = absurd cc
    go below (Some h) some f = extends_then g.journal h.journal x (next_extends g h some) (below h f)

    gate : Below → (o : Bool) → cond o (passed g.place (next_gate g) (walk_gates n)) (ended g.journal) ≡ Is x → Extends g.journal x
    gate below true f = go below (next_gate g) refl f
    gate below false f = subst (Extends g.journal) (ended_is g.journal x f) (extends_refl g.journal)

pub from_extends : (g : Gate) (x : JournalData) → journal_from g ≡ Is x → Extends g.journal x
unfolding journal_from
from_extends g x e = walk_extends (length g.bytes) g x e

-- a cursor's place in front of the last gate, and at it
pub before_last : (i j : JournalData) (front whole : List ℕ) (b : ℕ) (tail : List ℕ) → IsFront i front → IsFront j whole → whole ≡ front ++ b ∷ tail → ended j ≡ Is j → journal_from (record { journal = i; place = length front; bytes = b ∷ (tail ++ 0 ∷ []) }) ≡ Is j
before_last i j front whole b tail is last parts_are begun =
    let bytes : whole ++ 0 ∷ [] ≡ front ++ b ∷ (tail ++ 0 ∷ []) = ap (λ (l : List ℕ). l ++ 0 ∷ []) parts_are ∙ append_assoc front (b ∷ tail) (0 ∷ []) in
    sym (is b (tail ++ 0 ∷ [])) ∙ ap journal_of (sym bytes) ∙ last 0 [] ∙ from_closed (record { journal = j; place = length whole; bytes = 0 ∷ [] }) refl ∙ begun

pub at_last : (i j : JournalData) (front : List ℕ) → IsFront i front → IsFront j front → ended j ≡ Is j → i ≡ j
at_last i j front is last begun =
    ended_is i j (sym (from_closed (record { journal = i; place = length front; bytes = 0 ∷ [] }) refl) ∙ sym (is 0 []) ∙ last 0 [] ∙ from_closed (record { journal = j; place = length front; bytes = 0 ∷ [] }) refl ∙ begun)

pub frames_append : (ps qs : List Part) → frames_in (ps ++ qs) ≡ frames_in ps ++ frames_in qs
frames_append [] qs = refl
frames_append (entry f ∷ ps) qs = ap (λ (fs : List FrameData). f ∷ fs) (frames_append ps qs)
frames_append (seal ∷ ps) qs = frames_append ps qs
frames_append (keep k ∷ ps) qs = frames_append ps qs

-- further records have further parts
pub more_parts : (i j : JournalData) (e : Extends i j) → parts j ≡ parts i ++ flat_map (λ (r : List Part). r) e.more
unfolding parts
more_parts i j e = ap (flat_map (λ (r : List Part). r)) e.records ∙ flat_map-append (λ (r : List Part). r) i.records e.more

-- and further entries
pub more_entries : (i j : JournalData) → Extends i j → (fs : List FrameData) × (entries j ≡ entries i ++ fs)
unfolding entries
more_entries i j e = (frames_in (flat_map (λ (r : List Part). r) e.more), ap frames_in (more_parts i j e) ∙ frames_append (parts i) (flat_map (λ (r : List Part). r) e.more))
