-- Parts one after another.
use Rattle.std.proofs.Common.{◌≡◌, ℕ, ◌+◌, ◌*◌, ◌<◌, ◌≤◌, ◌==◌, Bool, true, false, ◌&&◌, cond, nat_lt, nat_le, leb, ◌^◌, List, [], ◌∷◌, length, Option, Some, None, option_map, is_some, refl, ap, subst, arith, le-leb, lt-ltb, ltb-true}
use Rattle.std.proofs.lemmas.Bool.{lt-leb, le-ltb}
use Rattle.std.specs.Int.{w32, w64}
use Rattle.avm_num.specs.Bytes.{number_at, piece_at, byte_at, kept}
use Rattle.avm_num.specs.Lists.{sized_at}
use Rattle.avm_num.specs.Walk.{items_of, behind_of, is_nil, all_at}
use Rattle.avm_num.proofs.Numbers.{bind_some, kept_some, and_true}
use Rattle.avm_num.proofs.Walks.{Shortens, items_some, items_none, behind_some, behind_none}
use Rattle.avm_model.specs.Frame.{FrameData, frame_at}
use Rattle.avm_model.specs.Content.{content_at}
use Rattle.avm_model.specs.Parts.{ordinal_at}
use Rattle.avm_model.proofs.PartLengths.{number_rest, piece_rest, byte_rest, ordinal_rest, sized_rest}
use Rattle.journal_model.specs.Journal.{pages_ascend}
use Rattle.journal_model.specs.Part.{Part, entry, seal, keep, KeepData, PageData, page_at, keep_at, body_at, part_at}

frame_rest : (bytes : List ℕ) (p : FrameData × List ℕ) → frame_at bytes ≡ Some p → length p.1 ≤ length bytes
unfolding frame_at
frame_rest bytes p e =
    let a = bind_some (ordinal_at bytes) _ p e in
    let b = bind_some (byte_at a.0.1) _ p a.2 in
    let c = bind_some (sized_at (number_at w32) b.0.1) _ p b.2 in
    let k = kept_some (is_some (content_at b.0.0 c.0.0)) (record { seq = a.0.0; kind = b.0.0; content = c.0.0 }, c.0.1) p c.2 in
    let r : length c.0.1 ≡ length p.1 = ap (λ (q : FrameData × List ℕ). length q.1) k.1 in
    omega (arith, r, ordinal_rest bytes a.0 a.1, byte_rest a.0.1 b.0 b.1, sized_rest b.0.1 c.0 c.1)

keep_rest : (bytes : List ℕ) (p : KeepData × List ℕ) → keep_at bytes ≡ Some p → length p.1 ≤ length bytes
unfolding keep_at
keep_rest bytes p e =
    let a = bind_some (number_at w64 bytes) _ p e in
    let b = bind_some (sized_at (number_at w32) a.0.1) _ p a.2 in
    let c = bind_some (number_at w32 b.0.1) _ p b.2 in
    let d = bind_some (piece_at (4100 * c.0.0) c.0.1) _ p c.2 in
    let k = kept_some _ _ p d.2 in
    let r : length d.0.1 ≡ length p.1 = ap (λ (q : KeepData × List ℕ). length q.1) k.1 in
    omega (arith, r, number_rest w64 bytes a.0 a.1, sized_rest a.0.1 b.0 b.1, number_rest w32 b.0.1 c.0 c.1, piece_rest (4100 * c.0.0) c.0.1 d.0 d.1)

some_map : {A : Type 0} (f : A → Part) (o : Option (A × List ℕ)) (p : Part × List ℕ) → option_map (λ x. (f x.0, x.1)) o ≡ Some p → (x : A × List ℕ) × (o ≡ Some x) × (length x.1 ≡ length p.1)
some_map f None p e = absurd cc
some_map f (Some x) p e = let g : (f x.0, x.1) ≡ p = cc in (x, refl, ap (λ (q : Part × List ℕ). length q.1) g)

body_rest : (tag : ℕ) (bytes : List ℕ) (p : Part × List ℕ) → body_at tag bytes ≡ Some p → length p.1 ≤ length bytes
body_rest tag bytes p e = one (tag == 1) e
  where
    three : (b : Bool) → cond b (option_map (λ k. (keep k.0, k.1)) (keep_at bytes)) None ≡ Some p → length p.1 ≤ length bytes
    three true h = let m = some_map keep (keep_at bytes) p h in omega (arith, m.2, keep_rest bytes m.0 m.1)
    three false h = absurd cc

    two : (b : Bool) → cond b (Some (seal, bytes)) (cond (tag == 3) (option_map (λ k. (keep k.0, k.1)) (keep_at bytes)) None) ≡ Some p → length p.1 ≤ length bytes
    two true h = let g : (seal, bytes) ≡ p = cc in omega (arith, ap (λ (q : Part × List ℕ). length q.1) g)
    two false h = three (tag == 3) h

    one : (b : Bool) → cond b (option_map (λ f. (entry f.0, f.1)) (frame_at bytes)) (cond (tag == 2) (Some (seal, bytes)) (cond (tag == 3) (option_map (λ k. (keep k.0, k.1)) (keep_at bytes)) None)) ≡ Some p → length p.1 ≤ length bytes
    one true h = let m = some_map entry (frame_at bytes) p h in omega (arith, m.2, frame_rest bytes m.0 m.1)
    one false h = two (tag == 2) h

pub part_short : (bytes : List ℕ) (p : Part × List ℕ) → part_at bytes ≡ Some p → length p.1 < length bytes
unfolding part_at
part_short bytes p e =
    let a = bind_some (byte_at bytes) _ p e in
    omega (arith, byte_rest bytes a.0 a.1, body_rest a.0.0 a.0.1 p a.2)

pub part_shortens : Shortens part_at
part_shortens = record { short = part_short }

-- one part and those behind it
pub all_some : (bytes : List ℕ) (p : Part × List ℕ) → part_at bytes ≡ Some p → all_at part_at bytes ≡ option_map (λ ps. p.0 ∷ ps) (all_at part_at p.1)
all_some bytes p e = rw (items_some part_at part_shortens bytes p e, behind_some part_at part_shortens bytes p e) (go (is_nil (behind_of part_at p.1)))
  where
    go : (b : Bool) → kept b (p.0 ∷ items_of part_at p.1) ≡ option_map (λ ps. p.0 ∷ ps) (kept b (items_of part_at p.1))
    go true = refl
    go false = refl

pub all_none : (bytes : List ℕ) → part_at bytes ≡ None → all_at part_at bytes ≡ kept (is_nil bytes) []
all_none bytes e = rw (items_none part_at part_shortens bytes e, behind_none part_at part_shortens bytes e) refl

-- ---- pages of a keep

pub page_short : (bytes : List ℕ) (p : PageData × List ℕ) → page_at bytes ≡ Some p → length p.1 < length bytes
unfolding page_at
page_short bytes p e =
    let a = bind_some (number_at w32 bytes) _ p e in
    let b = bind_some (piece_at 4096 a.0.1) _ p a.2 in
    let same : (record { number = a.0.0; bytes = b.0.0 }, b.0.1) ≡ p = cc in
    let r : length b.0.1 ≡ length p.1 = ap (λ (q : PageData × List ℕ). length q.1) same in
    omega (arith, r, number_rest w32 bytes a.0 a.1, piece_rest 4096 a.0.1 b.0 b.1)

page_shortens : Shortens page_at
page_shortens = record { short = page_short }

pub ascend_goes : (low most : ℕ) (old : List ℕ) (p : PageData) (rest : List ℕ) → page_at old ≡ Some (p, rest) → low ≤ p.number → p.number < most → pages_ascend low most (items_of page_at old) ≡ pages_ascend (p.number + 1) most (items_of page_at rest)
ascend_goes low most old p rest e le lt = rw (items_some page_at page_shortens old (p, rest) e, le-leb low p.number le, lt-ltb p.number most lt) refl

pub ascend_low : (low most : ℕ) (old : List ℕ) (p : PageData) (rest : List ℕ) → page_at old ≡ Some (p, rest) → p.number < low → pages_ascend low most (items_of page_at old) ≡ false
ascend_low low most old p rest e lt = rw (items_some page_at page_shortens old (p, rest) e, lt-leb low p.number lt) refl

pub ascend_high : (low most : ℕ) (old : List ℕ) (p : PageData) (rest : List ℕ) → page_at old ≡ Some (p, rest) → most ≤ p.number → pages_ascend low most (items_of page_at old) ≡ false
ascend_high low most old p rest e le = rw (items_some page_at page_shortens old (p, rest) e, le-ltb p.number most le) (go (leb low p.number))
  where
    go : (b : Bool) → (b && false && pages_ascend (p.number + 1) most (items_of page_at rest)) ≡ false
    go true = refl
    go false = refl

pub ascend_ends : (low most : ℕ) (old : List ℕ) → page_at old ≡ None → pages_ascend low most (items_of page_at old) ≡ true
ascend_ends low most old e = rw (items_none page_at page_shortens old e) refl

-- ---- numbers

frame_seq : (bytes : List ℕ) (p : FrameData × List ℕ) → frame_at bytes ≡ Some p → p.0.seq < 2 ^ 62
unfolding frame_at ordinal_at
frame_seq bytes p e =
    let a = bind_some (ordinal_at bytes) _ p e in
    let b = bind_some (number_at w64 bytes) _ a.0 a.1 in
    let k = kept_some _ b.0 a.0 b.2 in
    let low : nat_lt b.0.0 (2 ^ 62) ≡ true = (and_true (nat_le 1 b.0.0) (nat_lt b.0.0 (2 ^ 62)) k.0).1 in
    let c = bind_some (byte_at a.0.1) _ p a.2 in
    let d = bind_some (sized_at (number_at w32) c.0.1) _ p c.2 in
    let q = kept_some _ _ p d.2 in
    let same : a.0.0 ≡ p.0.seq = ap (λ (r : FrameData × List ℕ). r.0.seq) q.1 in
    let under : b.0.0 < 2 ^ 62 = ltb-true b.0.0 (2 ^ 62) low in
    let is : b.0.0 ≡ a.0.0 = ap (λ (r : ℕ × List ℕ). r.0) k.1 in
    omega (arith, same, is, under)

-- an entry's number is that of a frame
abbrev pub IsNumbered : Part → Type 0
IsNumbered (entry f) = f.seq < 2 ^ 62
IsNumbered seal = Unit {0}
IsNumbered (keep k) = Unit {0}

pub part_seq : (bytes : List ℕ) (p : Part × List ℕ) → part_at bytes ≡ Some p → IsNumbered p.0
unfolding part_at
part_seq bytes p e = let a = bind_some (byte_at bytes) _ p e in one (a.0.0 == 1) (a.0.0 == 2) (a.0.0 == 3) a.0.1 a.2
  where
    entry_is : (o : Option (FrameData × List ℕ)) → ((f : FrameData × List ℕ) → o ≡ Some f → f.0.seq < 2 ^ 62) → option_map (λ f. (entry f.0, f.1)) o ≡ Some p → IsNumbered p.0
    entry_is None all h = absurd cc
    entry_is (Some f) all h = let g : (entry f.0, f.1) ≡ p = cc in subst (λ (q : Part × List ℕ). IsNumbered q.0) g (all f refl)

    keep_is : (o : Option (KeepData × List ℕ)) → option_map (λ k. (keep k.0, k.1)) o ≡ Some p → IsNumbered p.0
    keep_is None h = absurd cc
    keep_is (Some k) h = let g : (keep k.0, k.1) ≡ p = cc in subst (λ (q : Part × List ℕ). IsNumbered q.0) g tt

    one : (x y z : Bool) (rest : List ℕ) → cond x (option_map (λ f. (entry f.0, f.1)) (frame_at rest)) (cond y (Some (seal, rest)) (cond z (option_map (λ k. (keep k.0, k.1)) (keep_at rest)) None)) ≡ Some p → IsNumbered p.0
    one true y z rest h = entry_is (frame_at rest) (frame_seq rest) h
    one false true z rest h = let g : (seal, rest) ≡ p = cc in subst (λ (q : Part × List ℕ). IsNumbered q.0) g tt
    one false false true rest h = keep_is (keep_at rest) h
    one false false false rest h = absurd cc
