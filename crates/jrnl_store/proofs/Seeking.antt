-- A SNAP entry of a number among what is left.
use Rattle.std.proofs.Common.{◌<◌, ◌^◌, ◌≢◌, inl, inr, length, arith, length-append, append-nil, ◌≡◌, ℕ, Bool, false, cond, refl, sym, ◌∙◌, ap, subst, Option, None, Some, IfSome, List, [], ◌∷◌, ◌++◌, Ok, ◌==◌}
use Rattle.journal_model.specs.Part.{Part, entry, seal, keep, frames_in}
use Rattle.std.specs.List.{flat_map}
use Rattle.journal_model.specs.Journal.{JournalData, has_snap, entries, parts, NoStore, Is, ended, IsFront}
use Rattle.journal_model.proofs.Gates.{from_closed}
use Rattle.jrnl_store.specs.Own.{IsAt, bare}
use Rattle.jrnl_store.specs.declared.snaps.Seek.{Seek}
use Rattle.jrnl_store.specs.declared.snaps.Seek.TheVariants as seek
use Rattle.journal_model.specs.Standing.{StandingData, behind, start}
use Rattle.jrnl_store.specs.Kept.{Kept}
use Rattle.jrnl_store.specs.Items.{ItemData, items_from, part_items, PartsLeft, PartsAnswers, held_items, snap_left, SeekAnswers, GoesOn}
use Rattle.jrnl_store.specs.declared.cursor.Cursor.{Cursor}
use Rattle.jrnl_store.specs.declared.cursor.Record.{Record}
use Rattle.jrnl_store.proofs.Given.{AllLeft}

snap_parts : (n : ℕ) (s : StandingData) (ps : List Part) → snap_left n (items_from s ps) ≡ has_snap n (frames_in ps)
snap_parts n s [] = refl
snap_parts n s (entry f ∷ ps) = ap (cond (f.seq == n) (f.kind == 2)) (snap_parts n (behind s (entry f)) ps)
snap_parts n s (seal ∷ ps) = snap_parts n (behind s seal) ps
snap_parts n s (keep k ∷ ps) = snap_parts n s ps

pub snap_in : (n : ℕ) (j : JournalData) → snap_left n (part_items j) ≡ has_snap n (entries j)
unfolding part_items entries
snap_in n j = snap_parts n (start j.header) (parts j)

pub seek_ended : (told : Option (List ℕ)) (k : Kept) (c new : Cursor) (n : ℕ) (buffer : List ℕ) (v : Option Record) → v ≡ None → IfSome told (AllLeft k c (λ was j left. PartsAnswers buffer k was new j left (Ok v))) → IfSome told (AllLeft k c (λ was j left. snap_left n left ≡ false))
seek_ended None k c new n buffer v is h = tt
seek_ended (Some was) k c new n buffer v is h = λ j left o begun l. ap (snap_left n) (subst (λ (x : Option Record). PartsAnswers buffer k was new j left (Ok x)) is (h j left o begun l))

pub seek_found : (told : Option (List ℕ)) (k : Kept) (c new : Cursor) (n : ℕ) (buffer : List ℕ) (v : Option Record) (r : Record) (b : Bool) → v ≡ Some r → ((rest : List ItemData) → snap_left n (held_items buffer r ++ rest) ≡ b) → IfSome told (AllLeft k c (λ was j left. PartsAnswers buffer k was new j left (Ok v)))
    → IfSome told (AllLeft k c (λ was j left. snap_left n left ≡ b))
seek_found None k c new n buffer v r b is found h = tt
seek_found (Some was) k c new n buffer v r b is found h = λ j left o begun l.
    let a = subst (λ (x : Option Record). PartsAnswers buffer k was new j left (Ok x)) is (h j left o begun l) in
    ap (snap_left n) a.1 ∙ found a.0

pub seek_passed : (told : Option (List ℕ)) (k : Kept) (c new : Cursor) (n : ℕ) (buffer : List ℕ) (v : Option Record) (r : Record) → v ≡ Some r → ((rest : List ItemData) → snap_left n (held_items buffer r ++ rest) ≡ snap_left n rest) → IfSome told (AllLeft k c (λ was j left. PartsAnswers buffer k was new j left (Ok v)))
    → IfSome told (AllLeft k c (λ was j left. (rest : List ItemData) × PartsLeft k was new j rest × (snap_left n left ≡ snap_left n rest)))
seek_passed None k c new n buffer v r is passed h = tt
seek_passed (Some was) k c new n buffer v r is passed h = λ j left o begun l.
    let a = subst (λ (x : Option Record). PartsAnswers buffer k was new j left (Ok x)) is (h j left o begun l) in
    (a.0, a.2, ap (snap_left n) a.1 ∙ passed a.0)

-- ---- the second pass over the records

-- what the pass keeps: a cursor of which what is left tells as the whole journal does
abbrev pub Seeks : Kept → Cursor → ℕ → List ℕ → Type 0
Seeks k c n was = (j : JournalData) → IsAt k was j → ended j ≡ Is j → (left : List ItemData) × PartsLeft k was c j left × (snap_left n left ≡ has_snap n (entries j))

pub seeks_first : (told : Option (List ℕ)) (k : Kept) (c : Cursor) (n : ℕ) → ((was : List ℕ) (j : JournalData) → IsAt k was j → PartsLeft k was c j (part_items j)) → IfSome told (Seeks k c n)
seeks_first None k c n first = tt
seeks_first (Some was) k c n first = λ j o begun. (part_items j, first was j o, snap_in n j)

-- a journal whose last gate is its first has no entries
bare_snap : (n : ℕ) (j : JournalData) → j.records ≡ [] → has_snap n (entries j) ≡ false
unfolding entries parts
bare_snap n j none = ap (λ (rs : List (List Part)). has_snap n (frames_in (flat_map (λ (r : List Part). r) rs))) none

-- and another one has a record
bare_front : (j : JournalData) (front : List ℕ) → IsFront (bare j) front → IsFront j front → ended j ≡ Is j → ⊥
bare_front j front starts stands begun =
    let shut = λ (i : JournalData). from_closed (record { journal = i; place = length front; bytes = 0 ∷ [] }) refl in
    let both : NoStore ≡ Is j = sym (shut (bare j)) ∙ sym (starts 0 []) ∙ stands 0 [] ∙ shut j ∙ begun in
    cc

pub none_sought : (told : Option (List ℕ)) (k : Kept) (n : ℕ) → k.gate ≡ k.front → IfSome told (λ was. (j : JournalData) → IsAt k was j → false ≡ has_snap n (entries j))
none_sought None k n same = tt
none_sought (Some was) k n same = λ j o. elim o.begun [
  | inl b ↦ sym (bare_snap n j b.1)
  | inr begun ↦ absurd (bare_front j o.base.header o.base.starts (subst (IsFront j) (front_is j o) o.stands) begun)
]
  where
    front_is : (j : JournalData) (o : IsAt k was j) → o.front ≡ o.base.header
    front_is j o =
        let l : length o.front ≡ length (o.base.header ++ o.base.tail) = ap length o.base.read in
        let none : length o.base.tail ≡ 0 = omega (arith, l, length-append o.base.header o.base.tail, o.base.at, o.place, same) in
        o.base.read ∙ ap (λ (t : List ℕ). o.base.header ++ t) (empty o.base.tail none) ∙ append-nil o.base.header
      where
        empty : (l : List ℕ) → length l ≡ 0 → l ≡ []
        empty [] e = refl
        empty (b ∷ l) e = absurd (omega (arith, e))

pub has_begun : (k : Kept) (was : List ℕ) (j : JournalData) → k.gate ≢ k.front → IsAt k was j → ended j ≡ Is j
has_begun k was j apart o = elim o.begun [
  | inl b ↦ absurd (apart b.0)
  | inr begun ↦ begun
]

-- one record of the pass, on a disk whose bytes are those of before
pub sought : (told mid : Option (List ℕ)) (k at : Kept) (c new : Cursor) (n : ℕ) (b : Bool) (s : Seek) → s ≡ seek.Found b → mid ≡ told → at ≡ k → k.gate ≢ k.front → IfSome told (Seeks k c n)
    → IfSome mid (λ was. (j : JournalData) (left : List ItemData) → IsAt at was j → ended j ≡ Is j → PartsLeft at was c j left → SeekAnswers at was new j n left s) → IfSome told (λ was. (j : JournalData) → IsAt k was j → b ≡ has_snap n (entries j))
sought None mid k at c new n b s is same stays apart so_far h = tt
sought (Some was) mid k at c new n b s is same stays apart so_far h = λ j o.
    let begun = has_begun k was j apart o in
    let l = so_far j o begun in
    let here = subst (λ (x : Kept). (j : JournalData) (left : List ItemData) → IsAt x was j → ended j ≡ Is j → PartsLeft x was c j left → SeekAnswers x was new j n left s) stays (subst (λ (t : Option (List ℕ)). IfSome t (λ was. (j : JournalData) (left : List ItemData) → IsAt at was j → ended j ≡ Is j → PartsLeft at was c j left → SeekAnswers at was new j n left s)) same h) in
    let a : snap_left n l.0 ≡ b = subst (λ (x : Seek). SeekAnswers k was new j n l.0 x) is (here j l.0 o begun l.1) in
    sym a ∙ l.2

pub sought_none : (told mid : Option (List ℕ)) (k at : Kept) (c new : Cursor) (n : ℕ) (s : Seek) → s ≡ seek.Ended → mid ≡ told → at ≡ k → k.gate ≢ k.front → IfSome told (Seeks k c n)
    → IfSome mid (λ was. (j : JournalData) (left : List ItemData) → IsAt at was j → ended j ≡ Is j → PartsLeft at was c j left → SeekAnswers at was new j n left s) → IfSome told (λ was. (j : JournalData) → IsAt k was j → false ≡ has_snap n (entries j))
sought_none None mid k at c new n s is same stays apart so_far h = tt
sought_none (Some was) mid k at c new n s is same stays apart so_far h = λ j o.
    let begun = has_begun k was j apart o in
    let l = so_far j o begun in
    let here = subst (λ (x : Kept). (j : JournalData) (left : List ItemData) → IsAt x was j → ended j ≡ Is j → PartsLeft x was c j left → SeekAnswers x was new j n left s) stays (subst (λ (t : Option (List ℕ)). IfSome t (λ was. (j : JournalData) (left : List ItemData) → IsAt at was j → ended j ≡ Is j → PartsLeft at was c j left → SeekAnswers at was new j n left s)) same h) in
    let a : snap_left n l.0 ≡ false = subst (λ (x : Seek). SeekAnswers k was new j n l.0 x) is (here j l.0 o begun l.1) in
    sym a ∙ l.2

pub seeks_on : (told mid : Option (List ℕ)) (k at : Kept) (c new : Cursor) (n : ℕ) (s : Seek) → s ≡ seek.Passed → mid ≡ told → at ≡ k → IfSome told (Seeks k c n)
    → IfSome mid (λ was. (j : JournalData) (left : List ItemData) → IsAt at was j → ended j ≡ Is j → PartsLeft at was c j left → SeekAnswers at was new j n left s) → IfSome told (Seeks k new n)
seeks_on None mid k at c new n s is same stays so_far h = tt
seeks_on (Some was) mid k at c new n s is same stays so_far h = λ j o begun.
    let l = so_far j o begun in
    let here = subst (λ (x : Kept). (j : JournalData) (left : List ItemData) → IsAt x was j → ended j ≡ Is j → PartsLeft x was c j left → SeekAnswers x was new j n left s) stays (subst (λ (t : Option (List ℕ)). IfSome t (λ was. (j : JournalData) (left : List ItemData) → IsAt at was j → ended j ≡ Is j → PartsLeft at was c j left → SeekAnswers at was new j n left s)) same h) in
    let a : SeekAnswers k was new j n l.0 seek.Passed = subst (λ (x : Seek). SeekAnswers k was new j n l.0 x) is (here j l.0 o begun l.1) in
    (a.0, a.1, sym a.2 ∙ l.2)

pub passed_on : (s : Seek) (old new : ℕ) → s ≡ seek.Passed → GoesOn s old new → (old < new) × (old < 2 ^ 30)
passed_on s old new is goes = subst (λ (x : Seek). GoesOn x old new) is goes
