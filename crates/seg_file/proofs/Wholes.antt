-- Whether the bytes that have come are a segment.
use Rattle.std.proofs.Common.{◌≡◌, ℕ, ◌+◌, ◌*◌, ◌^◌, ◌<◌, Bool, true, false, ◌&&◌, nat_le, List, [], ◌∷◌, ◌++◌, length, Option, Some, None, refl, sym, ap, subst, ◌∙◌, append-nil, arith, le-leb}
use Rattle.std.proofs.lemmas.List.{length-append}
use Rattle.std.proofs.lemmas.List.Elements.{recursion_from_All}
use Rattle.avm_num.specs.Bytes.{IsBytes, kept}
use Rattle.avm_num.specs.Lists.{list_bytes}
use Rattle.avm_num.specs.Walk.{behind_of, is_nil}
use Rattle.avm_model.specs.Entries.{follow, opens}
use Rattle.avm_model.specs.Frame.{FrameData, FitsFrame, frame_at, frame_bytes, frames_of}
use Rattle.avm_model.specs.Segment.{SegmentFront, SegmentData, segment_front_at, segment_front_bytes, segment_of}
use Rattle.log_entry.proofs.FrameLaws.{frames_none, frames_behind_none}
use Rattle.seg_file.specs.Coming.{Coming, taken, segment_in, longest_head, front_size, frame_size}
use Rattle.avm_num.specs.Sizes.{IsShort, number_there}
use Rattle.seg_file.specs.declared.place.Place.{Place}
use Rattle.seg_file.specs.Places.{Follows, AtFront, AtPage, AtEntries, Reached}
use Rattle.avm_num.proofs.Sizes.{short_none}
use Rattle.seg_file.proofs.PartSizes.{frame_sized, front_sized}
use Rattle.seg_file.proofs.Continuing.{entries_go}
use Rattle.seg_file.proofs.Parsing.{taken_front, parsed, too_few, has, in_none, by_none}

-- ---- before the front is whole

pub taken_none : (c : Coming) → c.front ≡ None → c.pages ≡ [] → c.frames ≡ [] → taken c ≡ c.rest
unfolding taken
taken_none c a b d = rw (a, b, d) refl

pub no_front : (bytes : List ℕ) → segment_front_at bytes ≡ None → segment_in bytes ≡ None
no_front bytes e = by_none bytes (λ s q le. apart s.front (has bytes s q).behind (sym e ∙ (has bytes s q).front))
  where
    apart : (f : SegmentFront) (rest : List ℕ) → ◌≡◌ {A = Option (SegmentFront × List ℕ)} None (Some (f, rest)) → ⊥
    apart f rest h = cc

pub front_not : (p : Place) (part : List ℕ) (c : Coming) → IsBytes part → IsShort (front_size part) part → AtFront p part c → segment_in (taken c) ≡ None
front_not p part c fits short at =
    ap segment_in (taken_none c at.front at.pages at.frames ∙ at.rest) ∙ no_front part (short_none front_sized part fits short)

-- ---- among the pages

same_taken : (c : Coming) (f : SegmentFront) → c.front ≡ Some f → taken c ≡ segment_front_bytes f ++ (c.pages ++ (list_bytes frame_bytes c.frames ++ c.rest))
same_taken c f e =
    sym (append-nil (taken c)) ∙ taken_front c f [] e ∙ ap (λ (t : List ℕ). segment_front_bytes f ++ (c.pages ++ (list_bytes frame_bytes c.frames ++ t))) (append-nil c.rest)

pub page_not : (i : ℕ) (p : Place) (part : List ℕ) (c : Coming) → length part < 4096 → AtPage i p part c → segment_in (taken c) ≡ None
page_not i p part c short at =
    let is : taken c ≡ segment_front_bytes at.head ++ (c.pages ++ part) = same_taken c at.head at.front ∙ ap (λ (fs : List FrameData). segment_front_bytes at.head ++ (c.pages ++ (list_bytes frame_bytes fs ++ c.rest))) at.frames ∙ ap (λ (t : List ℕ). segment_front_bytes at.head ++ (c.pages ++ t)) at.rest in
    let few : length (c.pages ++ part) < 4096 * p.pages = omega (arith, at.pages, at.within, short, length-append c.pages part) in
    ap segment_in is ∙ in_none _ (too_few at.head at.knows.count.0 (c.pages ++ part) p.pages at.knows.fits at.knows.count.1 few)

-- ---- among the entries

-- the segment that the whole parts make with some bytes behind them
abbrev pub made_of : Coming → SegmentFront → List ℕ → SegmentData
made_of c f more = record { front = f; pages = c.pages; frames = list_bytes frame_bytes c.frames ++ more }

pub in_entries : (p : Place) (part : List ℕ) (c : Coming) (x : List ℕ) (at : AtEntries p part c)
    → segment_of (taken c ++ x) ≡ kept (nat_le (length (taken c ++ x)) (2 ^ 26) && (opens p.start p.before.0 (c.frames ++ frames_of (part ++ x)) && is_nil (behind_of frame_at (part ++ x)))) (made_of c at.head (part ++ x))
in_entries p part c x at =
    let is : taken c ++ x ≡ segment_front_bytes at.head ++ (c.pages ++ (list_bytes frame_bytes c.frames ++ (part ++ x))) = taken_front c at.head x at.front ∙ ap (λ (t : List ℕ). segment_front_bytes at.head ++ (c.pages ++ (list_bytes frame_bytes c.frames ++ (t ++ x)))) at.rest in
    let read = parsed at.head c.pages at.knows.count.0 (list_bytes frame_bytes c.frames ++ (part ++ x)) p.pages at.knows.fits at.knows.count.1 at.pages in
    let go = entries_go at.head.start at.head.before c.frames (part ++ x) (recursion_from_All FitsFrame c.frames at.frames) in
    ap segment_of is ∙ read ∙ rw (← is, go, ← at.knows.start, ← at.knows.before) refl

pub nil_at : frame_at [] ≡ None
unfolding number_there
nil_at = short_none frame_sized [] (λ i. omega arith) tt

pub not_nil : (part : List ℕ) → 0 < length part → is_nil part ≡ false
not_nil [] lt = absurd (omega arith)
not_nil (b ∷ part) lt = refl

pub and_false : (a : Bool) → (a && false) ≡ false
and_false true = refl
and_false false = refl

-- a part that isn't whole stands behind them
pub rest_not : (p : Place) (part : List ℕ) (c : Coming) → IsBytes part → IsShort (frame_size part) part → 0 < length part → AtEntries p part c → segment_in (taken c) ≡ None
rest_not p part c fits short lt at =
    let none : frame_at (part ++ []) ≡ None = ap frame_at (append-nil part) ∙ short_none frame_sized part fits short in
    let behind : is_nil (behind_of frame_at (part ++ [])) ≡ false = ap is_nil (frames_behind_none (part ++ []) none ∙ append-nil part) ∙ not_nil part lt in
    ap segment_in (sym (append-nil (taken c))) ∙ in_none (taken c ++ [])
    (in_entries p part c [] at ∙ rw (behind, and_false (opens p.start p.before.0 (c.frames ++ frames_of (part ++ []))), and_false (nat_le (length (taken c ++ [])) (2 ^ 26))) refl)

-- no entry has come
pub none_not : (p : Place) (part : List ℕ) (c : Coming) → part ≡ [] → p.opened ≡ false → AtEntries p part c → segment_in (taken c) ≡ None
none_not p part c nil closed at =
    let f : (c.frames ≡ []) × (p.snaps ≡ 0) = subst (λ (o : Bool). Follows o p c.frames) closed at.follows in
    let frames : c.frames ++ frames_of (part ++ []) ≡ [] = rw (f.0, nil) (frames_none [] nil_at) in
    ap segment_in (sym (append-nil (taken c))) ∙ in_none (taken c ++ [])
    (in_entries p part c [] at ∙ rw (frames, and_false (nat_le (length (taken c ++ [])) (2 ^ 26))) refl)

-- the entries that have come are all
pub is_whole : (p : Place) (part : List ℕ) (c : Coming) → part ≡ [] → p.opened ≡ true → Reached p c → (at : AtEntries p part c) → segment_in (taken c) ≡ Some (made_of c at.head [])
unfolding segment_in
is_whole p part c nil opened_is r at =
    let f : (more : List FrameData) → opens p.start p.before.0 (c.frames ++ more) ≡ follow p.next p.snaps more = subst (λ (o : Bool). Follows o p c.frames) opened_is at.follows in
    let rest : length c.rest ≡ 0 = ap length (at.rest ∙ nil) in
    let short : nat_le (length (taken c ++ [])) (2 ^ 26) ≡ true = le-leb _ _ (omega (arith, rest, r.done, r.limit, length-append (taken c) [])) in
    let few : nat_le (p.snaps + 0) 64 ≡ true = le-leb _ _ (omega (arith, r.snaps)) in
    let opened : opens p.start p.before.0 (c.frames ++ frames_of (part ++ [])) ≡ true = rw (nil, frames_none [] nil_at) (f [] ∙ few) in
    let behind : is_nil (behind_of frame_at (part ++ [])) ≡ true = rw (nil) (ap is_nil (frames_behind_none [] nil_at)) in
    let all : segment_of (taken c ++ []) ≡ Some (made_of c at.head (part ++ [])) = in_entries p part c [] at ∙ rw (short, opened, behind) refl in
    let here : segment_of (taken c) ≡ Some (made_of c at.head []) = ap segment_of (sym (append-nil (taken c))) ∙ all ∙ ap (λ (t : List ℕ). Some (made_of c at.head (t ++ []))) nil in
    let head : nat_le (length at.head.head) longest_head ≡ true = le-leb _ _ at.knows.short in
    rw (here, head) refl
