-- What is read of a journal fits together.
use Rattle.std.proofs.Common.{◌≡◌, ℕ, zero, suc, ◌+◌, ◌*◌, ◌≤◌, Bool, true, false, cond, ◌==◌, ◌&&◌, nat_lt, nat_le, List, [], ◌∷◌, ◌++◌, length, drop, Option, Some, None, option_map, is_none, refl, sym, ap, subst, ◌∙◌, arith, leb-true, ltb-true, ◌⊎◌, inl, inr}
use Rattle.std.proofs.lemmas.Bool.{and_from}
use Rattle.std.specs.Int.{w64}
use Rattle.avm_num.specs.Bytes.{◌>>=◌, number_at, piece_at, byte_at, kept}
use Rattle.avm_num.specs.Lists.{limited_at}
use Rattle.avm_num.specs.Walk.{is_nil, all_at}
use Rattle.avm_num.proofs.Numbers.{bind_some, kept_some, and_true}
use Rattle.avm_num.proofs.Lengths.{piece_length}
use Rattle.avm_model.specs.Entries.{numbered}
use Rattle.avm_model.specs.Frame.{FrameData}
use Rattle.journal_model.specs.Part.{Part, entry, seal, keep, part_at, frames_in, signing, pages_of, longest_head}
use Rattle.journal_model.specs.Header.{HeaderData, is_store_key, most_leaves, pages_in, is_first, is_base, magic_at, main_at, judged_carried, base_at, version_at, header_at}
use Rattle.journal_model.specs.Journal.{JournalData, Gate, parts, entries, next_number, used, may_stand, snap_of, is_number, pages_ascend, follows, page_count_of, continues, with_record, with_parts, with_mark, mark_at, begins_mark, joined, items_at, next_gate, is_open, Is, NoStore, ended, ended_with, passed, walk_gates, journal_from, journal_of, behind_header, first_gate, has_snap}
use Rattle.journal_model.specs.Fits.{FitsHeader, FitsJournal}
use Rattle.journal_model.proofs.Judging.{parts_push, signing_append}
use Rattle.journal_model.proofs.Prefixes.{ended_is}
use Rattle.journal_model.proofs.Parts.{all_some, all_none}
use Rattle.journal_model.proofs.Cursors.{room_of}
use Rattle.journal_model.proofs.Locals.{main_fields}

-- ---- the header

-- what both versions have
record FitsMain (h : HeaderData) : Type 0 where
  key : length h.key ≡ 56
  types : is_store_key h.key ≡ true
  before : length h.before ≡ 32
  leaves : h.leaves ≤ most_leaves h.key
  head : length h.head ≤ longest_head
  pages : (n : ℕ) × (pages_in h.head ≡ Some n) × (length h.pages ≡ 4096 * n)

main_sizes : (bytes : List ℕ) (p : HeaderData × List ℕ) → main_at bytes ≡ Some p → (length p.0.key ≡ 56) × (length p.0.before ≡ 32) × ((n : ℕ) × (pages_in p.0.head ≡ Some n) × (length p.0.pages ≡ 4096 * n))
unfolding main_at
main_sizes bytes p e =
    let a = bind_some (piece_at 56 bytes) _ p e in
    let b = bind_some (number_at w64 a.0.1) _ p a.2 in
    let c = bind_some (piece_at 32 b.0.1) _ p b.2 in
    let d = bind_some (number_at w64 c.0.1) _ p c.2 in
    let f = bind_some (limited_at longest_head d.0.1) _ p d.2 in
    let g = bind_some (pages_in f.0.0) _ p f.2 in
    let i = bind_some (piece_at (4096 * g.0) f.0.1) _ p g.2 in
    let k = kept_some (is_store_key a.0.0 && nat_le d.0.0 (most_leaves a.0.0)) (record { key = a.0.0; first = b.0.0; before = c.0.0; leaves = d.0.0; head = f.0.0; pages = i.0.0; carried = [] }, i.0.1) p i.2 in
    subst (λ (q : HeaderData × List ℕ). (length q.0.key ≡ 56) × (length q.0.before ≡ 32) × ((n : ℕ) × (pages_in q.0.head ≡ Some n) × (length q.0.pages ≡ 4096 * n))) k.1
    (piece_length 56 bytes a.0 a.1, piece_length 32 b.0.1 c.0 c.1, (g.0, g.1, piece_length (4096 * g.0) f.0.1 i.0 i.1))

main_fits : (bytes : List ℕ) (p : HeaderData × List ℕ) → main_at bytes ≡ Some p → FitsMain p.0
main_fits bytes p e =
    let f = main_fields bytes p e in
    let s = main_sizes bytes p e in
    record { key = s.0; types = f.key; before = s.1; leaves = f.leaves; head = f.head; pages = s.2 }

-- either version, with the same fields
version_fits : (version : ℕ) (h : HeaderData) (bytes : List ℕ) (p : HeaderData × List ℕ) → FitsMain h → version_at version h bytes ≡ Some p → FitsHeader p.0
unfolding version_at base_at
version_fits version h bytes p f e = go (version == 1) (version == 2) e
  where
    with_version : (x : HeaderData) → FitsMain x → (is_first x ≡ true) ⊎ (is_base x ≡ true) → FitsHeader x
    with_version x m v = record { key = m.key; types = m.types; before = m.before; leaves = m.leaves; head = m.head; pages = m.pages; version = v }

    go : (a b : Bool) → cond a (kept (is_first h) (h, bytes)) (cond b (judged_carried h.first h.leaves bytes >>= λ carried. kept (is_base h) (record h { carried = carried.0 }, carried.1)) None) ≡ Some p → FitsHeader p.0
    go true b q =
        let k = kept_some (is_first h) (h, bytes) p q in
        subst (λ (x : HeaderData × List ℕ). FitsHeader x.0) k.1 (with_version h f (inl k.0))
    go false true q =
        let a = bind_some (judged_carried h.first h.leaves bytes) _ p q in
        let k = kept_some (is_base h) (record h { carried = a.0.0 }, a.0.1) p a.2 in
        subst (λ (x : HeaderData × List ℕ). FitsHeader x.0) k.1 (with_version (record h { carried = a.0.0 }) (record { key = f.key; types = f.types; before = f.before; leaves = f.leaves; head = f.head; pages = f.pages }) (inr k.0))
    go false false q = absurd cc

pub header_fits : (bytes : List ℕ) (p : HeaderData × List ℕ) → header_at bytes ≡ Some p → FitsHeader p.0
unfolding header_at
header_fits bytes p e =
    let a = bind_some (magic_at bytes) _ p e in
    let b = bind_some (byte_at a.0.1) _ p a.2 in
    let c = bind_some (main_at b.0.1) _ p b.2 in
    version_fits b.0.0 c.0.0 c.0.1 p (main_fits b.0.1 c.0 c.1) c.2

-- ---- parts one after another

-- a front that doesn't begin with a keep follows whatever stands before
follows_any : (first pages n : ℕ) (snap : Option ℕ) (ps : List Part) → follows first pages n None ps ≡ true → follows first pages n snap ps ≡ true
follows_any first pages n snap [] e = refl
follows_any first pages n snap (entry f ∷ ps) e = e
follows_any first pages n snap (seal ∷ ps) e = e
follows_any first pages n snap (keep k ∷ ps) e = absurd cc

pub follows_append : (first pages n : ℕ) (snap : Option ℕ) (a b : List Part) → follows first pages n snap a ≡ true → follows first pages (n + length (frames_in a)) None b ≡ true → follows first pages n snap (a ++ b) ≡ true
follows_append first pages n snap [] b e f = follows_any first pages n snap b (let z : n + 0 ≡ n = omega arith in rw z at f)
follows_append first pages n snap (entry g ∷ a) b e f =
    let p = and_true (g.seq == n && may_stand first n g.kind) (follows first pages (n + 1) (snap_of g) a) e in
    let z : n + length (frames_in (entry g ∷ a)) ≡ n + 1 + length (frames_in a) = omega arith in
    and_from _ _ p.0 (follows_append first pages (n + 1) (snap_of g) a b p.1 (rw z at f))
follows_append first pages n snap (seal ∷ a) b e f =
    let p = and_true (nat_lt first n) (follows first pages n None a) e in
    and_from _ _ p.0 (follows_append first pages n None a b p.1 f)
follows_append first pages n snap (keep k ∷ a) b e f =
    let p = and_true (is_number snap k.seq && pages_ascend 0 pages (pages_of k)) (follows first pages n None a) e in
    and_from _ _ p.0 (follows_append first pages n None a b p.1 f)

-- ---- records one after another

-- what holds while records are read
pub record FitsSofar (j : JournalData) : Type 0 where
  pub header : FitsHeader j.header
  pub whole : follows j.header.first (page_count_of j) j.header.first None (parts j) ≡ true
  pub leaves : used j ≤ most_leaves j.header.key
  pub some : (j.records ≡ []) ⊎ ((p : Part) × (ps : List Part) × (parts j ≡ p ∷ ps))

-- bytes that are parts are one part or more
some_parts : (items : List ℕ) (ps : List Part) → 1 ≤ length items → all_at part_at items ≡ Some ps → (p : Part) × (qs : List Part) × (ps ≡ p ∷ qs)
some_parts items ps some e = go (part_at items) refl
  where
    filled : (l : List ℕ) → 1 ≤ length l → is_nil l ≡ false
    filled [] le = absurd (omega arith)
    filled (b ∷ l) le = refl

    none_left : (o : Option (List Part)) (p : Part) → option_map (λ xs. p ∷ xs) o ≡ Some ps → (q : Part) × (qs : List Part) × (ps ≡ q ∷ qs)
    none_left None p h = absurd cc
    none_left (Some xs) p h = (p, xs, (let g : p ∷ xs ≡ ps = cc in sym g))

    go : (r : Option (Part × List ℕ)) → part_at items ≡ r → (p : Part) × (qs : List Part) × (ps ≡ p ∷ qs)
    go None none = absurd (never (sym (all_none items none ∙ ap (λ (b : Bool). kept b []) (filled items some)) ∙ e))
      where
        never : None ≡ Some ps → ⊥
        never h = cc
    go (Some p) is = none_left (all_at part_at p.1) p.0 (sym (all_some items p is) ∙ e)

behind_some : (a b ps : List Part) → a ≡ b ++ ps → (p : Part) (qs : List Part) → ps ≡ p ∷ qs → (q : Part) × (rest : List Part) × (a ≡ q ∷ rest)
behind_some a [] ps e p qs is = (p, qs, e ∙ is)
behind_some a (q ∷ b) ps e p qs is = (q, b ++ ps, e)

parts_fit : (j x : JournalData) (items : List ℕ) → 1 ≤ length items → FitsSofar j → with_parts j items ≡ Some x → FitsSofar x
unfolding with_parts continues next_number entries used
parts_fit j x items long f e =
    let a = bind_some (all_at part_at items) _ x e in
    let k = kept_some (continues j a.0) (with_record j a.0) x a.2 in
    let t = and_true (follows j.header.first (page_count_of j) (next_number j) None a.0) (nat_le (used j + signing a.0) (most_leaves j.header.key)) k.0 in
    let push = parts_push j a.0 in
    let sign : signing (parts (with_record j a.0)) ≡ signing (parts j) + signing a.0 = ap signing push ∙ signing_append (parts j) a.0 in
    subst FitsSofar k.1 (record {
      header = f.header;
      whole = subst (λ (ps : List Part). follows j.header.first (page_count_of j) j.header.first None ps ≡ true) (sym push) (follows_append j.header.first (page_count_of j) j.header.first None (parts j) a.0 f.whole t.0);
      leaves = omega (arith, sign, leb-true _ _ t.1);
      some = let s = some_parts items a.0 long a.1 in inr (behind_some (parts (with_record j a.0)) (parts j) a.0 push s.0 s.1 s.2);
    })

mark_fits : (j x : JournalData) (items : List ℕ) → FitsSofar j → with_mark j items ≡ Some x → FitsSofar x
unfolding with_mark parts used
mark_fits j x items f e =
    let a = bind_some (mark_at items) _ x e in
    let k = kept_some (has_snap a.0 (entries j)) (record j { mark = Some a.0 }) x a.2 in
    subst FitsSofar k.1 (record { header = f.header; whole = f.whole; leaves = f.leaves; some = f.some })

pub joined_fits : (j x : JournalData) (items : List ℕ) → 1 ≤ length items → FitsSofar j → joined j items ≡ Some x → FitsSofar x
unfolding joined
joined_fits j x items long f e = go (begins_mark items) e
  where
    go : (t : Bool) → cond t (with_mark j (drop 1 items)) (with_parts j items) ≡ Some x → FitsSofar x
    go true h = mark_fits j x (drop 1 items) f h
    go false h = parts_fit j x items long f h

next_fits : (g h : Gate) → FitsSofar g.journal → next_gate g ≡ Some h → FitsSofar h.journal
unfolding next_gate
next_fits g h f e =
    let a = bind_some (items_at g.place (drop 1 g.bytes)) _ h e in
    let b = bind_some (joined g.journal a.0.0) _ h a.2 in
    let k = kept_some (is_none g.journal.mark) (record { journal = b.0; place = g.place + 5 + length a.0.0; bytes = a.0.1 }) h b.2 in
    subst (λ (q : Gate). FitsSofar q.journal) k.1 (joined_fits g.journal b.0 a.0.0 (room_of g.place (drop 1 g.bytes) a.0 a.1).some f b.1)

walk_fits : (n : ℕ) (g : Gate) (x : JournalData) → FitsSofar g.journal → walk_gates n g ≡ Is x → FitsSofar x
walk_fits zero g x f e = subst FitsSofar (ended_is g.journal x e) f
walk_fits (suc n) g x f e = gate (λ h s q. walk_fits n h x s q) (is_open g.bytes) e
  where
    Below : Type 0
    Below = (h : Gate) → FitsSofar h.journal → walk_gates n h ≡ Is x → FitsSofar x

    go : Below → (r : Option Gate) → next_gate g ≡ r → passed g.place r (walk_gates n) ≡ Is x → FitsSofar x
    go below None none q = absurd cc
    go below (Some h) some q = below h (next_fits g h f some) q

    gate : Below → (o : Bool) → cond o (passed g.place (next_gate g) (walk_gates n)) (ended g.journal) ≡ Is x → FitsSofar x
    gate below true q = go below (next_gate g) refl q
    gate below false q = subst FitsSofar (ended_is g.journal x q) f

bare_fits : (h : HeaderData) → FitsHeader h → FitsSofar (record { header = h; records = []; mark = None })
unfolding parts used signing
bare_fits h f = let l = f.leaves in record { header = f; whole = refl; leaves = omega (arith, l); some = inl refl }

-- ---- journals

-- a journal that bytes stand for
begun : (j : JournalData) → ended j ≡ Is j → j.records ≡ [] → ⊥
begun j e empty = never (sym (ap (λ (rs : List (List Part)). ended_with rs j) empty) ∙ e)
  where
    never : NoStore ≡ Is j → ⊥
    never h = cc

fits_all : (j : JournalData) → FitsSofar j → ended j ≡ Is j → FitsJournal j
fits_all j f e = record {
  header = f.header;
  some = elim f.some [ inl none ↦ absurd (begun j e none) | inr is ↦ is ];
  whole = f.whole;
  leaves = f.leaves;
}

-- what the walk ends with has a record
walk_ends : (n : ℕ) (g : Gate) (x : JournalData) → walk_gates n g ≡ Is x → ended x ≡ Is x
walk_ends zero g x e = let s = ended_is g.journal x e in ap ended (sym s) ∙ e
walk_ends (suc n) g x e = gate (λ h q. walk_ends n h x q) (is_open g.bytes) e
  where
    go : ((h : Gate) → walk_gates n h ≡ Is x → ended x ≡ Is x) → (r : Option Gate) → passed g.place r (walk_gates n) ≡ Is x → ended x ≡ Is x
    go below None q = absurd cc
    go below (Some h) q = below h q

    gate : ((h : Gate) → walk_gates n h ≡ Is x → ended x ≡ Is x) → (o : Bool) → cond o (passed g.place (next_gate g) (walk_gates n)) (ended g.journal) ≡ Is x → ended x ≡ Is x
    gate below true q = go below (next_gate g) q
    gate below false q = let s = ended_is g.journal x q in ap ended (sym s) ∙ q

pub journal_fits : (bytes : List ℕ) (j : JournalData) → journal_of bytes ≡ Is j → FitsJournal j × (ended j ≡ Is j)
unfolding journal_of journal_from
journal_fits bytes j e = go (header_at bytes) refl e
  where
    go : (r : Option (HeaderData × List ℕ)) → header_at bytes ≡ r → behind_header (length bytes) r ≡ Is j → FitsJournal j × (ended j ≡ Is j)
    go None q h = absurd cc
    go (Some p) q h =
        let g = first_gate (length bytes) p in
        let last = walk_ends (length g.bytes) g j h in
        (fits_all j (walk_fits (length g.bytes) g j (bare_fits p.0 (header_fits bytes p q)) h) last, last)

-- ---- what follows from it

-- the first part is an entry
pub first_entry : (j : JournalData) → FitsJournal j → (f : FrameData) × (ps : List Part) × (parts j ≡ entry f ∷ ps)
first_entry j w = go w.some.0 w.some.1 w.some.2 (subst (λ (ps : List Part). follows j.header.first (page_count_of j) j.header.first None ps ≡ true) w.some.2 w.whole)
  where
    go : (p : Part) (ps : List Part) → parts j ≡ p ∷ ps → follows j.header.first (page_count_of j) j.header.first None (p ∷ ps) ≡ true → (f : FrameData) × (qs : List Part) × (parts j ≡ entry f ∷ qs)
    go (entry f) ps e h = (f, ps, e)
    go seal ps e h = absurd (let t = ltb-true j.header.first j.header.first (and_true (nat_lt j.header.first j.header.first) _ h).0 in omega (arith, t))
    go (keep k) ps e h = absurd cc

-- the entries' numbers run on
pub follows_numbered : (first pages n : ℕ) (snap : Option ℕ) (ps : List Part) → follows first pages n snap ps ≡ true → numbered n (frames_in ps) ≡ true
follows_numbered first pages n snap [] e = refl
follows_numbered first pages n snap (entry f ∷ ps) e =
    let p = and_true (f.seq == n && may_stand first n f.kind) (follows first pages (n + 1) (snap_of f) ps) e in
    let q = and_true (f.seq == n) (may_stand first n f.kind) p.0 in
    and_from _ _ q.0 (follows_numbered first pages (n + 1) (snap_of f) ps p.1)
follows_numbered first pages n snap (seal ∷ ps) e = follows_numbered first pages n None ps (and_true (nat_lt first n) (follows first pages n None ps) e).1
follows_numbered first pages n snap (keep k ∷ ps) e = follows_numbered first pages n None ps (and_true (is_number snap k.seq && pages_ascend 0 pages (pages_of k)) (follows first pages n None ps) e).1

pub entries_numbered : (j : JournalData) → FitsJournal j → numbered j.header.first (entries j) ≡ true
unfolding entries
entries_numbered j w = follows_numbered j.header.first (page_count_of j) j.header.first None (parts j) w.whole
