-- A base has an open gate behind its header.
use Rattle.std.proofs.Common.{◌≡◌, ℕ, zero, suc, ◌+◌, ◌<◌, ◌≤◌, ◌==◌, Bool, true, false, cond, nat_le, nat_lt, ◌&&◌, List, [], ◌∷◌, ◌++◌, length, take, Option, None, Some, refl, sym, ap, subst, ◌∙◌, arith, append_assoc, append-nil, leb-true, ltb-true, le-leb, lt-ltb, eqb-true, slice_index}
use Rattle.std.proofs.lemmas.Bool.{and_from}
use Rattle.std.proofs.lemmas.List.{length-append}
use Rattle.std.specs.Int.{w32, w64}
use Rattle.avm_num.specs.Lists.{be, list_bytes, one, sized_bytes}
use Rattle.avm_num.proofs.Numbers.{and_true}
use Rattle.base_model.specs.Base.{base_bytes, base_header, from_entry, moved, MovedState, records_from, without_keep}
use Rattle.base_model.proofs.Moves.{all_parts}
use Rattle.base_write.specs.declared.writing.Base.{Base}
use Rattle.journal_model.specs.Header.{HeaderData}
use Rattle.journal_model.specs.Journal.{JournalData, entries, has_snap, parts}
use Rattle.journal_model.specs.Part.{Part, entry, frames_in, keep, seal}
use Rattle.journal_model.specs.Spelling.{carried_part, front_bytes, header_bytes, parts_bytes, record_bytes, spelled, version}
use Rattle.base_build.specs.Building.{HasGate, is_gated}

-- ---- a test of the bytes

at_place : (xs : List ℕ) (n : ℕ) → n < length xs → slice_index xs n ≡ 1 → take (n + 1) xs ≡ take n xs ++ 1 ∷ []
at_place [] n lt e = absurd (omega (arith, lt))
at_place (x ∷ xs) zero lt e = ap (λ (y : ℕ). y ∷ []) e
at_place (x ∷ xs) (suc n) lt e =
    let z : suc n + 1 ≡ suc (n + 1) = omega arith in
    ap (λ (m : ℕ). take m (x ∷ xs)) z ∙ ap (λ (l : List ℕ). x ∷ l) (at_place xs n (omega (arith, lt)) e)

pub gate_there : (b : Base) → is_gated b.header b.bytes.items ≡ true → HasGate b
gate_there b e =
    let p = and_true (nat_le 1 b.header && nat_lt b.header (length b.bytes.items)) (slice_index b.bytes.items b.header == 1) e in
    let q = and_true (nat_le 1 b.header) (nat_lt b.header (length b.bytes.items)) p.0 in
    let lt = ltb-true b.header (length b.bytes.items) q.1 in
    record {
      some = leb-true 1 b.header q.0;
      header = omega (arith, lt);
      gate = at_place b.bytes.items b.header lt (eqb-true (slice_index b.bytes.items b.header) 1 p.1);
    }

-- ---- of a base

behind_front : (a b : List ℕ) → slice_index (a ++ 1 ∷ b) (length a) ≡ 1
behind_front [] b = refl
behind_front (x ∷ a) b = behind_front a b

gated_front : (a b bytes : List ℕ) (n : ℕ) → 1 ≤ length a → n ≡ length a → bytes ≡ a ++ 1 ∷ b → is_gated n bytes ≡ true
gated_front a b bytes n some e is =
    let len : length bytes ≡ length a + length (1 ∷ b) = ap length is ∙ length-append a (1 ∷ b) in
    and_from _ _ (and_from _ _ (le-leb 1 n (omega (arith, some, e))) (lt-ltb n (length bytes) (omega (arith, len, e))))
    (ap (λ (x : ℕ). x == 1) (ap (slice_index bytes) e ∙ ap (λ (l : List ℕ). slice_index l (length a)) is ∙ behind_front a b))

snap_past : (n : ℕ) (ps qs : List Part) → from_entry n ps ≡ None → has_snap n (frames_in (ps ++ qs)) ≡ has_snap n (frames_in qs)
snap_past n [] qs e = refl
snap_past n (seal ∷ ps) qs e = snap_past n ps qs e
snap_past n (keep k ∷ ps) qs e = snap_past n ps qs e
snap_past n (entry f ∷ ps) qs e = go (f.seq == n) e (λ q. snap_past n ps qs q)
  where
    go : (b : Bool) → cond b (Some (entry f ∷ ps)) (from_entry n ps) ≡ None → (from_entry n ps ≡ None → has_snap n (frames_in (ps ++ qs)) ≡ has_snap n (frames_in qs)) → cond b (f.kind == 2) (has_snap n (frames_in (ps ++ qs))) ≡ has_snap n (frames_in qs)
    go true q more = absurd cc
    go false q more = more q

record HasFirst (rs : List (List Part)) : Type 0 where
  first : List Part
  later : List (List Part)
  is : rs ≡ first ∷ later

some_record : (n : ℕ) (rs : List (List Part)) → has_snap n (frames_in (all_parts rs)) ≡ true → HasFirst (records_from n rs)
some_record n [] e = absurd cc
some_record n (r ∷ rs) e = go (from_entry n r) refl (λ q. some_record n rs q)
  where
    go : (o : Option (List Part)) → from_entry n r ≡ o → (has_snap n (frames_in (all_parts rs)) ≡ true → HasFirst (records_from n rs)) → HasFirst (records_from n (r ∷ rs))
    go None q more = subst HasFirst (sym (rw q refl)) (more (sym (snap_past n r (all_parts rs) q) ∙ e))
    go (Some ps) q more = record { first = without_keep ps; later = rs; is = rw q refl }

some_front : (x : ℕ) (xs : List ℕ) → 1 ≤ length (x ∷ xs)
some_front x xs = omega arith

header_some : (h : HeaderData) → 1 ≤ length (header_bytes h)
unfolding header_bytes
header_some h = some_front 0x41 (0x56 ∷ 0x4d ∷ 0x4a ∷ (one (version h) ++ h.key ++ be w64 h.first ++ h.before ++ be w64 h.leaves ++ sized_bytes (be w32) h.head ++ h.pages ++ carried_part h))

entries_all : (j : JournalData) (n : ℕ) → has_snap n (entries j) ≡ true → has_snap n (frames_in (all_parts j.records)) ≡ true
unfolding entries parts
entries_all j n e = e

abbrev bytes_of : List (List Part) → List ℕ
bytes_of rs = list_bytes (λ ps. record_bytes (parts_bytes ps)) rs

pub shape : (j : JournalData) (n : ℕ) (s : MovedState) → base_bytes j n s ≡ header_bytes (base_header j n s) ++ (bytes_of (records_from n j.records) ++ 0 ∷ [])
unfolding base_bytes moved spelled front_bytes
shape j n s = ap (λ (l : List ℕ). l ++ 0 ∷ []) (append-nil (header_bytes (base_header j n s) ++ bytes_of (records_from n j.records))) ∙ append_assoc (header_bytes (base_header j n s)) (bytes_of (records_from n j.records)) (0 ∷ [])

opened : (first : List Part) (later : List (List Part)) → bytes_of (first ∷ later) ++ 0 ∷ [] ≡ 1 ∷ ((sized_bytes (be w32) (parts_bytes first) ++ bytes_of later) ++ 0 ∷ [])
unfolding record_bytes
opened first later = refl

pub base_gated : (j : JournalData) (n : ℕ) (s : MovedState) (b : Base) → has_snap n (entries j) ≡ true → b.header ≡ length (header_bytes (base_header j n s)) → b.bytes.items ≡ base_bytes j n s → is_gated b.header b.bytes.items ≡ true
base_gated j n s b snap header bytes =
    let r = some_record n j.records (entries_all j n snap) in
    gated_front (header_bytes (base_header j n s)) ((sized_bytes (be w32) (parts_bytes r.first) ++ bytes_of r.later) ++ 0 ∷ []) b.bytes.items b.header (header_some (base_header j n s)) header
    (bytes ∙ shape j n s ∙ ap (λ (rs : List (List Part)). header_bytes (base_header j n s) ++ (bytes_of rs ++ 0 ∷ [])) r.is ∙ ap (λ (l : List ℕ). header_bytes (base_header j n s) ++ l) (opened r.first r.later))
