-- The entry that a ticket is of is the first of its number among a journal's items.
use Rattle.std.proofs.Common.{◌≡◌, ℕ, ◌+◌, ◌*◌, ◌≤◌, ◌<◌, Bool, true, false, cond, ◌==◌, ◌&&◌, nat_lt, nat_le, List, [], ◌∷◌, ◌++◌, Option, Some, None, refl, sym, ap, subst, ◌∙◌, arith, leb-true, ltb-true, ◌⊎◌, inl, inr, ne_eqb}
use Rattle.std.proofs.lemmas.Bool.{eq-eqb, eqb-true}
use Rattle.std.specs.Prelude.{if◌then◌else◌}
use Rattle.std.specs.Int.{w64}
use Rattle.avm_num.specs.Bytes.{◌>>=◌, number_at, piece_at, byte_at, kept}
use Rattle.avm_num.specs.Lists.{limited_at}
use Rattle.avm_num.proofs.Numbers.{bind_some, kept_some, and_true}
use Rattle.avm_model.specs.Frame.{FrameData}
use Rattle.journal_model.specs.Part.{KeepData, Part, entry, seal, keep, is_signed_kind, longest_head, pages_of}
use Rattle.journal_model.specs.Header.{CarriedData, HeaderData, ascend, is_store_key, most_leaves, pages_in, is_first, is_base, few_carried_at, magic_at, main_at, judged_carried, base_at, version_at, header_at}
use Rattle.journal_model.specs.Journal.{JournalData, parts, may_stand, snap_of, is_number, pages_ascend, follows, page_count_of}
use Rattle.journal_model.specs.Standing.{SignedData, StandingData, behind, start}
use Rattle.journal_model.proofs.Fitting.{journal_fits}
use Rattle.jrnl_store.specs.Items.{ItemData, carried_items, frame_numbered, items_from, items_in, part_items}
use Rattle.jrnl_store.specs.Kept.{Kept}
use Rattle.jrnl_store.specs.Own.{IsOwn}
use Rattle.jrnl_store.proofs.Commits.{shut_stands}
use Rattle.record_kept.specs.Again.{Among, IsTicketOf}
use Rattle.record_model.specs.Released.{signed_frames}

-- ---- carried entries ascend

main_none : (bytes : List ℕ) (p : HeaderData × List ℕ) → main_at bytes ≡ Some p → p.0.carried ≡ []
unfolding main_at
main_none bytes p e =
    let a = bind_some (piece_at 56 bytes) _ p e in
    let b = bind_some (number_at w64 a.0.1) _ p a.2 in
    let c = bind_some (piece_at 32 b.0.1) _ p b.2 in
    let d = bind_some (number_at w64 c.0.1) _ p c.2 in
    let f = bind_some (limited_at longest_head d.0.1) _ p d.2 in
    let g = bind_some (pages_in f.0.0) _ p f.2 in
    let i = bind_some (piece_at (4096 * g.0) f.0.1) _ p g.2 in
    let k = kept_some (is_store_key a.0.0 && nat_le d.0.0 (most_leaves a.0.0)) (record { key = a.0.0; first = b.0.0; before = c.0.0; leaves = d.0.0; head = f.0.0; pages = i.0.0; carried = [] }, i.0.1) p i.2 in
    subst (λ (q : HeaderData × List ℕ). q.0.carried ≡ []) k.1 refl

abbrev Ascends : HeaderData → Type 0
Ascends h = ascend 0 0 h.first h.leaves h.carried ≡ true

judged_ascend : (first leaves : ℕ) (bytes : List ℕ) (p : List CarriedData × List ℕ) → judged_carried first leaves bytes ≡ Some p → ascend 0 0 first leaves p.0 ≡ true
unfolding judged_carried
judged_ascend first leaves bytes p e =
    let a = bind_some (few_carried_at bytes) _ p e in
    let k = kept_some (ascend 0 0 first leaves a.0.0) a.0 p a.2 in
    subst (λ (q : List CarriedData × List ℕ). ascend 0 0 first leaves q.0 ≡ true) k.1 k.0

version_ascend : (version : ℕ) (h : HeaderData) (bytes : List ℕ) (p : HeaderData × List ℕ) → h.carried ≡ [] → version_at version h bytes ≡ Some p → Ascends p.0
unfolding version_at base_at
version_ascend version h bytes p none e = go (version == 1) (version == 2) e
  where
    go : (a b : Bool) → cond a (kept (is_first h) (h, bytes)) (cond b (judged_carried h.first h.leaves bytes >>= λ carried. kept (is_base h) (record h { carried = carried.0 }, carried.1)) None) ≡ Some p → Ascends p.0
    go true b q =
        let k = kept_some (is_first h) (h, bytes) p q in
        subst (λ (x : HeaderData × List ℕ). Ascends x.0) k.1 (subst (λ (cs : List CarriedData). ascend 0 0 h.first h.leaves cs ≡ true) (sym none) refl)
    go false true q =
        let a = bind_some (judged_carried h.first h.leaves bytes) _ p q in
        let k = kept_some (is_base h) (record h { carried = a.0.0 }, a.0.1) p a.2 in
        subst (λ (x : HeaderData × List ℕ). Ascends x.0) k.1 (judged_ascend h.first h.leaves bytes a.0 a.1)
    go false false q = absurd cc

header_ascends : (bytes : List ℕ) (p : HeaderData × List ℕ) → header_at bytes ≡ Some p → Ascends p.0
unfolding header_at
header_ascends bytes p e =
    let a = bind_some (magic_at bytes) _ p e in
    let b = bind_some (byte_at a.0.1) _ p a.2 in
    let c = bind_some (main_at b.0.1) _ p b.2 in
    version_ascend b.0.0 c.0.0 c.0.1 p (main_none b.0.1 c.0 c.1) c.2

-- what one of them says of itself and of those behind it
record Goes (seq leaf first leaves : ℕ) (c : CarriedData) (cs : List CarriedData) : Type 0 where
  least : seq ≤ c.frame.seq
  most : c.frame.seq < first
  rest : ascend (c.frame.seq + 1) (c.leaf + 1) first leaves cs ≡ true

goes : (seq leaf first leaves : ℕ) (c : CarriedData) (cs : List CarriedData) → ascend seq leaf first leaves (c ∷ cs) ≡ true → Goes seq leaf first leaves c cs
goes seq leaf first leaves c cs e =
    let a = and_true (nat_le seq c.frame.seq && nat_lt c.frame.seq first && nat_le leaf c.leaf && nat_lt c.leaf leaves) (ascend (c.frame.seq + 1) (c.leaf + 1) first leaves cs) e in
    let b = and_true (nat_le seq c.frame.seq && nat_lt c.frame.seq first && nat_le leaf c.leaf) (nat_lt c.leaf leaves) a.0 in
    let d = and_true (nat_le seq c.frame.seq && nat_lt c.frame.seq first) (nat_le leaf c.leaf) b.0 in
    let f = and_true (nat_le seq c.frame.seq) (nat_lt c.frame.seq first) d.0 in
    record { least = leb-true seq c.frame.seq f.0; most = ltb-true c.frame.seq first f.1; rest = a.1 }

carried_least : (seq leaf first leaves : ℕ) (cs : List CarriedData) (e : CarriedData) → ascend seq leaf first leaves cs ≡ true → Among e cs → seq ≤ e.frame.seq
carried_least seq leaf first leaves [] e a h = absurd h
carried_least seq leaf first leaves (c ∷ cs) e a (inl h) = let g = goes seq leaf first leaves c cs a in subst (λ (x : CarriedData). seq ≤ x.frame.seq) h g.least
carried_least seq leaf first leaves (c ∷ cs) e a (inr h) = let g = goes seq leaf first leaves c cs a in let l = g.least in let ih = carried_least (c.frame.seq + 1) (c.leaf + 1) first leaves cs e g.rest h in omega (arith, l, ih)

carried_found : (seq leaf first leaves : ℕ) (cs : List CarriedData) (e : CarriedData) (rest : List ItemData) → ascend seq leaf first leaves cs ≡ true → Among e cs → frame_numbered e.frame.seq (carried_items cs ++ rest) ≡ Some e.frame
carried_found seq leaf first leaves [] e rest a h = absurd h
carried_found seq leaf first leaves (c ∷ cs) e rest a (inl h) = subst (λ (x : CarriedData). frame_numbered x.frame.seq (carried_items (c ∷ cs) ++ rest) ≡ Some x.frame) h (rw (eq-eqb c.frame.seq c.frame.seq refl) refl)
carried_found seq leaf first leaves (c ∷ cs) e rest a (inr h) =
    let g = goes seq leaf first leaves c cs a in
    let l = carried_least (c.frame.seq + 1) (c.leaf + 1) first leaves cs e g.rest h in
    rw (ne_eqb c.frame.seq e.frame.seq (λ (q : c.frame.seq ≡ e.frame.seq). omega (arith, l, q))) (carried_found (c.frame.seq + 1) (c.leaf + 1) first leaves cs e rest g.rest h)

carried_passed : (seq leaf first leaves n : ℕ) (cs : List CarriedData) (rest : List ItemData) → ascend seq leaf first leaves cs ≡ true → first ≤ n → frame_numbered n (carried_items cs ++ rest) ≡ frame_numbered n rest
carried_passed seq leaf first leaves n [] rest a le = refl
carried_passed seq leaf first leaves n (c ∷ cs) rest a le =
    let g = goes seq leaf first leaves c cs a in
    let m = g.most in
    rw (ne_eqb c.frame.seq n (λ (q : c.frame.seq ≡ n). omega (arith, m, le, q))) (carried_passed (c.frame.seq + 1) (c.leaf + 1) first leaves n cs rest g.rest le)

-- ---- the journal's own entries

record Runs (first pages n : ℕ) (f : FrameData) (ps : List Part) : Type 0 where
  here : f.seq ≡ n
  rest : follows first pages (n + 1) (snap_of f) ps ≡ true

runs : (first pages n : ℕ) (snap : Option ℕ) (f : FrameData) (ps : List Part) → follows first pages n snap (entry f ∷ ps) ≡ true → Runs first pages n f ps
runs first pages n snap f ps e =
    let a = and_true (f.seq == n && may_stand first n f.kind) (follows first pages (n + 1) (snap_of f) ps) e in
    record { here = eqb-true f.seq n (and_true (f.seq == n) (may_stand first n f.kind) a.0).0; rest = a.1 }

behind_seal : (first pages n : ℕ) (snap : Option ℕ) (ps : List Part) → follows first pages n snap (seal ∷ ps) ≡ true → follows first pages n None ps ≡ true
behind_seal first pages n snap ps e = (and_true (nat_lt first n) (follows first pages n None ps) e).1

behind_keep : (first pages n : ℕ) (snap : Option ℕ) (k : KeepData) (ps : List Part) → follows first pages n snap (keep k ∷ ps) ≡ true → follows first pages n None ps ≡ true
behind_keep first pages n snap k ps e = (and_true (is_number snap k.seq && pages_ascend 0 pages (pages_of k)) (follows first pages n None ps) e).1

-- among the frames of an entry and those behind it
among_front : (e y : CarriedData) (b : Bool) (es : List CarriedData) → Among e ((if b then y ∷ [] else []) ++ es) → (y ≡ e) ⊎ Among e es
among_front e y true es h = h
among_front e y false es h = inr h

own_least : (first pages : ℕ) (snap : Option ℕ) (s : StandingData) (ps : List Part) (e : CarriedData) → follows first pages s.next snap ps ≡ true → Among e (signed_frames s ps) → s.next ≤ e.frame.seq
own_least first pages snap s [] e f h = absurd h
own_least first pages snap s (entry x ∷ ps) e f h =
    by (among_front e (record { leaf = s.used; before = s.hash; frame = x }) (is_signed_kind x.kind) (signed_frames (behind s (entry x)) ps) h) (λ g. own_least first pages (snap_of x) (behind s (entry x)) ps e (runs first pages s.next snap x ps f).rest g)
  where
    by : (record { leaf = s.used; before = s.hash; frame = x } ≡ e) ⊎ Among e (signed_frames (behind s (entry x)) ps) → (Among e (signed_frames (behind s (entry x)) ps) → s.next + 1 ≤ e.frame.seq) → s.next ≤ e.frame.seq
    by (inl g) more = let z : x.seq ≡ e.frame.seq = ap (λ (c : CarriedData). c.frame.seq) g in let here : x.seq ≡ s.next = (runs first pages s.next snap x ps f).here in omega (arith, here, z)
    by (inr g) more = let l = more g in omega (arith, l)
own_least first pages snap s (seal ∷ ps) e f h = own_least first pages None (behind s seal) ps e (behind_seal first pages s.next snap ps f) h
own_least first pages snap s (keep k ∷ ps) e f h = own_least first pages None (behind s (keep k)) ps e (behind_keep first pages s.next snap k ps f) h

own_found : (first pages : ℕ) (snap : Option ℕ) (s : StandingData) (ps : List Part) (e : CarriedData) → follows first pages s.next snap ps ≡ true → Among e (signed_frames s ps) → frame_numbered e.frame.seq (items_from s ps) ≡ Some e.frame
own_found first pages snap s [] e f h = absurd h
own_found first pages snap s (entry x ∷ ps) e f h =
    let r : Runs first pages s.next x ps = runs first pages s.next snap x ps f in
    by (among_front e (record { leaf = s.used; before = s.hash; frame = x }) (is_signed_kind x.kind) (signed_frames (behind s (entry x)) ps) h) (λ g. own_found first pages (snap_of x) (behind s (entry x)) ps e r.rest g) (λ g. own_least first pages (snap_of x) (behind s (entry x)) ps e r.rest g)
  where
    by : (record { leaf = s.used; before = s.hash; frame = x } ≡ e) ⊎ Among e (signed_frames (behind s (entry x)) ps) → (Among e (signed_frames (behind s (entry x)) ps) → frame_numbered e.frame.seq (items_from (behind s (entry x)) ps) ≡ Some e.frame)
        → (Among e (signed_frames (behind s (entry x)) ps) → s.next + 1 ≤ e.frame.seq) → frame_numbered e.frame.seq (items_from s (entry x ∷ ps)) ≡ Some e.frame
    by (inl g) more least = subst (λ (c : CarriedData). frame_numbered c.frame.seq (items_from s (entry x ∷ ps)) ≡ Some c.frame) g (rw (eq-eqb x.seq x.seq refl) refl)
    by (inr g) more least =
        let l = least g in
        let here : x.seq ≡ s.next = (runs first pages s.next snap x ps f).here in
        rw (ne_eqb x.seq e.frame.seq (λ (q : x.seq ≡ e.frame.seq). omega (arith, l, q, here))) (more g)
own_found first pages snap s (seal ∷ ps) e f h = own_found first pages None (behind s seal) ps e (behind_seal first pages s.next snap ps f) h
own_found first pages snap s (keep k ∷ ps) e f h = own_found first pages None (behind s (keep k)) ps e (behind_keep first pages s.next snap k ps f) h

-- ---- among all

among_either : (e : CarriedData) (a b : List CarriedData) → Among e (a ++ b) → Among e a ⊎ Among e b
among_either e [] b h = inr h
among_either e (x ∷ a) b (inl h) = inl (inl h)
among_either e (x ∷ a) b (inr h) = by (among_either e a b h)
  where
    by : Among e a ⊎ Among e b → Among e (x ∷ a) ⊎ Among e b
    by (inl g) = inl (inr g)
    by (inr g) = inr g

pub ticket_frame : (k : Kept) (images : List ℕ → Type 0) (was : List ℕ) (j : JournalData) (t : SignedData) (e : CarriedData) → k.stop ≡ None → IsOwn k images was j → IsTicketOf j t e → frame_numbered t.seq (items_in j) ≡ Some e.frame
unfolding items_in part_items
ticket_frame k images was j t e run own is = subst (λ (n : ℕ). frame_numbered n (items_in j) ≡ Some e.frame) (ap (λ (x : SignedData). x.seq) is.ticket) (by (among_either e j.header.carried (signed_frames (start j.header) (parts j)) is.among))
  where
    up : Ascends j.header
    up = header_ascends (own.base.header ++ []) (j.header, []) (own.base.reads [])

    whole : follows j.header.first (page_count_of j) j.header.first None (parts j) ≡ true
    whole = (journal_fits was j (shut_stands j own.front was own.stands own.begun (own.shut run))).0.whole

    by : Among e j.header.carried ⊎ Among e (signed_frames (start j.header) (parts j)) → frame_numbered e.frame.seq (items_in j) ≡ Some e.frame
    by (inl h) = carried_found 0 0 j.header.first j.header.leaves j.header.carried e (part_items j) up h
    by (inr h) =
        let least : j.header.first ≤ e.frame.seq = own_least j.header.first (page_count_of j) None (start j.header) (parts j) e whole h in
        carried_passed 0 0 j.header.first j.header.leaves e.frame.seq j.header.carried (part_items j) up least ∙ own_found j.header.first (page_count_of j) None (start j.header) (parts j) e whole h
