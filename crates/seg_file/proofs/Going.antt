-- What a call says of what has come.
use Rattle.seg_file.specs.Reading.{IsHeld}
use Rattle.std.proofs.Common.{nat_eq, is_some}
use Rattle.std.proofs.Common.{◌≡◌, ℕ, ◌+◌, ◌*◌, ◌^◌, ◌<◌, ◌≤◌, Bool, true, false, cond, nat_lt, List, [], ◌++◌, length, replicate, Option, Some, None, is_some, option_map, refl, sym, ap, subst, ◌∙◌, arith, ltb-true, ltb-false}
use Rattle.avm_num.specs.Bytes.{IsBytes}
use Rattle.avm_num.proofs.Numbers.{bind_some, kept_some}
use Rattle.avm_model.specs.Frame.{FrameData, FitsFrame, frame_at, frame_bytes}
use Rattle.avm_model.specs.Segment.{SegmentFront, segment_front_bytes}
use Rattle.seg_file.specs.Coming.{Coming, nothing, taken, with_rest, longest_head, front_size, frame_size}
use Rattle.avm_num.specs.Sizes.{number_there}
use Rattle.seg_file.specs.Fronts.{counted_at}
use Rattle.seg_file.specs.Held.{Held}
use Rattle.seg_file.specs.declared.place.Stage.{Stage}
use Rattle.seg_file.specs.declared.place.Stage.TheVariants as stage
use Rattle.seg_file.specs.declared.place.Place.{Place}
use Rattle.seg_file.specs.declared.filling.Filled.{Filled}
use Rattle.seg_file.specs.declared.filling.Filled.TheVariants.{Short, Whole, Long}
use Rattle.seg_file.specs.Places.{part_size, longest, page_or_entries, behind_front, may_come, with_frame, behind_frame, with_stage, with_done, behind_stage, behind, AtFront, AtPage, AtEntries, Never, At, Reached, Standing, InPages, IsPlace, Knows}
use Rattle.seg_file.specs.Filling.{is_live, HasFilled, part_of, Settled, settled, closed}
use Rattle.seg_file.specs.Reading.{Reading, Goes}
use Rattle.seg_file.proofs.PartSizes.{front_sized, frame_sized}
use Rattle.avm_num.proofs.Sizes.{whole_some, there_long, map_back}
use Rattle.seg_file.proofs.Never.{never_limit, front_long, front_never, frame_long, frame_never}
use Rattle.seg_file.proofs.Steps.{never_rest, at_rest, reached_rest, short_nil, in_pages, fronted, counted_some, front_place, front_standing, paged, page_standing, framed, few_snaps, frame_standing}

abbrev pub reading : Settled → Reading
reading s = record { place = s.place; part = s.held.part; last = s.held.last }

rest_is : (s : Stage) (p : Place) (part : List ℕ) (c : Coming) → is_live s ≡ true → At s p part c → c.rest ≡ part
rest_is stage.Front p part c live at = at.rest
rest_is (stage.Page i) p part c live at = at.rest
rest_is stage.Entries p part c live at = at.rest
rest_is stage.Bad p part c live at = absurd cc

-- ---- no segment

same_number : (a b : ℕ) → ◌≡◌ {A = Option ℕ} (Some a) (Some b) → a ≡ b
same_number a b h = cc

frame_some : (part : List ℕ) (n : ℕ) → frame_size part ≡ Some n → 0 < length part
frame_some part n e = let b = map_back 13 n (number_there 9 part) e in let l = there_long 9 part b.0 b.1 in omega (arith, l)

long_never : (s : Stage) (p : Place) (part : List ℕ) (c : Coming) (n : ℕ) → IsBytes part → part_size s part ≡ Some n → longest s < n → At s p part c → Never c
long_never stage.Front p part c n fits e lt at = front_long p part c n fits e lt at
long_never (stage.Page i) p part c n fits e lt at = let h = same_number 4096 n e in absurd (omega (arith, h, lt))
long_never stage.Entries p part c n fits e lt at = frame_long p part c n fits (frame_some part n e) e lt at
long_never stage.Bad p part c n fits e lt at = at

map_none : {A B : Type 0} (f : A → B) (o : Option A) → option_map f o ≡ None → o ≡ None
map_none f None e = refl
map_none f (Some x) e = absurd cc

map_some : {A B : Type 0} (f : A → B) (o : Option A) (y : B) → option_map f o ≡ Some y → (x : A) × (o ≡ Some x) × (f x ≡ y)
map_some f None y e = absurd cc
map_some f (Some x) y e = (x, refl, cc)

stage_never : (s : Stage) (p : Place) (part : List ℕ) (c : Coming) → IsBytes part → part_size s part ≡ Some (length part) → behind_stage s p part ≡ None → At s p part c → Never c
stage_never stage.Front p part c fits e none at = front_never p part c fits e (map_none _ (counted_at part) none) at
stage_never (stage.Page i) p part c fits e none at = absurd cc
stage_never stage.Entries p part c fits e none at = frame_never p part c fits (frame_some part (length part) e) e none at
stage_never stage.Bad p part c fits e none at = at

behind_never : (p : Place) (part : List ℕ) (c : Coming) → IsBytes part → part_size p.stage part ≡ Some (length part) → behind p part ≡ None → c.rest ≡ part → At p.stage p part c → Reached p c → Never c
behind_never p part c fits e none rest at r = go (nat_lt (2 ^ 26) (p.done + length part)) refl none
  where
    go : (b : Bool) → nat_lt (2 ^ 26) (p.done + length part) ≡ b → cond b None (option_map (λ q. with_done q (length part)) (behind_stage p.stage p part)) ≡ None → Never c
    go true i h = let lt = ltb-true _ _ i in let l : length c.rest ≡ length part = ap length rest in never_limit c (omega (arith, lt, l, r.done))
    go false i h = stage_never p.stage p part c fits e (map_none _ _ h) at

refuses : (p : Place) (part : List ℕ) (c : Coming) → length part < 24590 → Never c → Reached p c → Standing (with_stage p stage.Bad) part c
refuses p part c lt never r = record { most = omega (arith, lt); at = never; reached = record { done = r.done; limit = r.limit; snaps = r.snaps }; short = tt }

-- ---- a whole part

goes_front : (p q : Place) (part b : List ℕ) (c : Coming) → IsBytes part → front_size part ≡ Some (length part) → length part ≤ 49 + longest_head → p.done + length part ≤ 2 ^ 26 → AtFront p part (with_rest c b) → Reached p (with_rest c b)
    → (x : Place) → behind_front p part ≡ Some x → with_done x (length part) ≡ q
    → (f : SegmentFront) × (c.front ≡ None) × (c.rest ++ b ≡ segment_front_bytes f) × (part ≡ segment_front_bytes f) × Knows q f × Standing q [] (fronted f)
goes_front p q part b c fits size most limit at r x e is =
    let o = map_some (front_place p) (counted_at part) x e in
    let s = counted_some part o.0 o.1 in
    let w = whole_some front_sized part (o.0.0, s.0) fits size s.2 in
    let st = front_standing p part (with_rest c b) o.0.0 o.0.1 s.1 w.0 w.1 s.3 most limit at r in
    let same : with_done (front_place p o.0) (length part) ≡ q = ap (λ (y : Place). with_done y (length part)) o.2 ∙ is in
    (o.0.0, at.front, at.rest ∙ w.0, w.0, subst (λ (y : Place). Knows y o.0.0) same st.0, subst (λ (y : Place). Standing y [] (fronted o.0.0)) same st.1)

live_page : (i n : ℕ) → is_live (page_or_entries i n) ≡ true
live_page i n = go (nat_eq i n)
  where
    go : (b : Bool) → is_live (cond b stage.Entries (stage.Page i)) ≡ true
    go true = refl
    go false = refl

goes_page : (i : ℕ) (p q : Place) (part b : List ℕ) (c : Coming) → length part ≡ 4096 → p.done + length part ≤ 2 ^ 26 → AtPage i p part (with_rest c b) → Reached p (with_rest c b)
    → with_done (with_stage p (page_or_entries (i + 1) p.pages)) (length part) ≡ q
    → (length c.pages ≡ 4096 * i) × (c.frames ≡ []) × (length (c.rest ++ b) ≡ 4096) × (part ≡ c.rest ++ b) × (is_live q.stage ≡ true) × Standing q [] (paged c (c.rest ++ b))
goes_page i p q part b c size limit at r is =
    let st = page_standing i p part (with_rest c b) size limit at r in
    (at.pages, at.frames, ap length at.rest ∙ size, sym at.rest, subst (λ (y : Place). is_live y.stage ≡ true) is (live_page (i + 1) p.pages), subst (λ (y : Place). Standing y [] (paged c (c.rest ++ b))) is (subst (λ (t : List ℕ). Standing (with_done (with_stage p (page_or_entries (i + 1) p.pages)) (length part)) [] (paged c t)) (sym at.rest) st))

goes_frame : (p q : Place) (part b : List ℕ) (c : Coming) → p.stage ≡ stage.Entries → (p.opened ≡ false → p.snaps ≡ 0) → IsBytes part → frame_size part ≡ Some (length part) → p.done + length part ≤ 2 ^ 26 → AtEntries p part (with_rest c b) → Reached p (with_rest c b)
    → (x : Place) → behind_frame p part ≡ Some x → with_done x (length part) ≡ q
    → (f : FrameData) × FitsFrame f × (c.rest ++ b ≡ frame_bytes f) × (part ≡ frame_bytes f) × (is_live q.stage ≡ true) × Standing q [] (framed c f)
goes_frame p q part b c in_stage first fits size limit at r x e is =
    let o = bind_some (frame_at part) _ x e in
    let k = kept_some (may_come p o.0.0) (with_frame p o.0.0) x o.2 in
    let w = whole_some frame_sized part o.0 fits size o.1 in
    let st = frame_standing p part (with_rest c b) o.0.0 in_stage w.0 w.1 k.0 first limit at r in
    let same : with_done (with_frame p o.0.0) (length part) ≡ q = ap (λ (y : Place). with_done y (length part)) k.1 ∙ is in
    (o.0.0, w.1, at.rest ∙ w.0, w.0, subst (λ (y : Place). is_live y.stage ≡ true) same (ap is_live in_stage), subst (λ (y : Place). Standing y [] (framed c o.0.0)) same st)

goes_stage : (s : Stage) (p q : Place) (part b : List ℕ) (c : Coming) → p.stage ≡ s → (p.opened ≡ false → p.snaps ≡ 0) → IsBytes part → part_size s part ≡ Some (length part) → length part ≤ longest s → p.done + length part ≤ 2 ^ 26 → At s p part (with_rest c b) → Reached p (with_rest c b)
    → (x : Place) → behind_stage s p part ≡ Some x → with_done x (length part) ≡ q → Goes (part_of s) b c (record { place = q; part = []; last = part })
goes_stage stage.Front p q part b c e first fits size most limit at r x is done = goes_front p q part b c fits size most limit at r x is done
goes_stage (stage.Page i) p q part b c e first fits size most limit at r x is done =
    let y : with_stage p (page_or_entries (i + 1) p.pages) ≡ x = cc in
    goes_page i p q part b c (sym (same_number 4096 (length part) size)) limit at r (ap (λ (z : Place). with_done z (length part)) y ∙ done)
goes_stage stage.Entries p q part b c e first fits size most limit at r x is done = goes_frame p q part b c e first fits size limit at r x is done
goes_stage stage.Bad p q part b c e first fits size most limit at r x is done = absurd cc

-- ---- a call

goes_whole : (p : Place) (h : Held) (b : List ℕ) (c : Coming) → length h.part < 24590 → (p.opened ≡ false → p.snaps ≡ 0) → IsBytes h.part → HasFilled p.stage h.part Whole → is_live p.stage ≡ true → At p.stage p h.part (with_rest c b) → Reached p (with_rest c b)
    → (o : Option Place) → behind p h.part ≡ o → Goes (closed o p h).answer b c (reading (closed o p h))
goes_whole p h b c lt first fits filled live at r None e =
    (refl, refuses p h.part (with_rest c b) lt (behind_never p h.part (with_rest c b) fits filled.0 e (rest_is p.stage p h.part (with_rest c b) live at) at r) r)
goes_whole p h b c lt first fits filled live at r (Some q) e = go (nat_lt (2 ^ 26) (p.done + length h.part)) refl e
  where
    go : (x : Bool) → nat_lt (2 ^ 26) (p.done + length h.part) ≡ x → cond x None (option_map (λ (y : Place). with_done y (length h.part)) (behind_stage p.stage p h.part)) ≡ Some q → Goes (part_of p.stage) b c (record { place = q; part = []; last = h.part })
    go true i k = absurd cc
    go false i k =
        let o = map_some (λ (y : Place). with_done y (length h.part)) (behind_stage p.stage p h.part) q k in
        let le = ltb-false _ _ i in
        goes_stage p.stage p q h.part b c refl first fits filled.0 filled.1 (omega (arith, le)) at r o.0 o.1 o.2

pub goes_settled : (f : Filled) (p : Place) (h : Held) (part b : List ℕ) (c : Coming) → length h.part < 24590 → (p.opened ≡ false → p.snaps ≡ 0) → is_live p.stage ≡ true → IsBytes h.part → h.part ≡ part ++ b → HasFilled p.stage h.part f → Standing p part c
    → Goes (settled f p h).answer b c (reading (settled f p h))
goes_settled f p h part b c lt first live fits is filled st = go f filled
  where
    at : At p.stage p h.part (with_rest c b)
    at = subst (λ (t : List ℕ). At p.stage p t (with_rest c b)) (sym is) (at_rest p.stage p part b c live st.at)

    r : Reached p (with_rest c b)
    r = reached_rest p b c st.reached

    go : (f : Filled) → HasFilled p.stage h.part f → Goes (settled f p h).answer b c (reading (settled f p h))
    go Short short = (live, record { at = at; reached = r; short = short.0; most = short.1 })
    go Long long = (refl, refuses p h.part (with_rest c b) lt (long_never p.stage p h.part (with_rest c b) long.0 fits long.1 long.2 at) r)
    go Whole whole = goes_whole p h b c lt first fits whole live at r (behind p h.part) refl

-- after Bad
pub goes_bad : (p : Place) (part last : List ℕ) (c : Coming) → p.stage ≡ stage.Bad → Standing p part c → (p.stage ≡ stage.Bad) × Standing p part (with_rest c [])
goes_bad p part last c bad st =
    let never : Never c = subst (λ (s : Stage). At s p part c) bad st.at in
    let more : Never (with_rest c []) = never_rest c [] (λ i. omega arith) never in
    (bad, record { at = subst (λ (s : Stage). At s p part (with_rest c [])) (sym bad) more; reached = reached_rest p [] c st.reached; short = st.short; most = st.most })

-- ---- what holds of every reader

place_refused : (p : Place) (part old : List ℕ) → IsPlace p old → IsPlace (with_stage p stage.Bad) part
place_refused p part old is = record { short = tt; limit = is.limit; snaps = is.snaps; first = is.first; page = tt }

place_stage : (s : Stage) (p : Place) (part old : List ℕ) (x : Place) → p.stage ≡ s → IsPlace p old → p.done + length part ≤ 2 ^ 26 → behind_stage s p part ≡ Some x → IsPlace (with_done x (length part)) []
place_stage stage.Front p part old x e is le k =
    let o = map_some (front_place p) (counted_at part) x k in
    subst (λ (y : Place). IsPlace (with_done y (length part)) []) o.2
    (record { short = short_nil (page_or_entries 0 o.0.1); limit = le; snaps = is.snaps; first = is.first; page = in_pages 0 o.0.1 (omega arith) })
place_stage (stage.Page i) p part old x e is le k =
    let y : with_stage p (page_or_entries (i + 1) p.pages) ≡ x = cc in
    let lt : i < p.pages = subst (λ (s : Stage). InPages s p.pages) e is.page in
    subst (λ (z : Place). IsPlace (with_done z (length part)) []) y
    (record { short = short_nil (page_or_entries (i + 1) p.pages); limit = le; snaps = is.snaps; first = is.first; page = in_pages (i + 1) p.pages (omega (arith, lt)) })
place_stage stage.Entries p part old x e is le k =
    let o = bind_some (frame_at part) _ x k in
    let m = kept_some (may_come p o.0.0) (with_frame p o.0.0) x o.2 in
    subst (λ (z : Place). IsPlace (with_done z (length part)) []) m.1
    (record { short = short_nil p.stage; limit = le; snaps = few_snaps p o.0.0 is.first m.0; first = λ h. absurd (apart h); page = is.page })
  where
    apart : true ≡ false → ⊥
    apart h = cc
place_stage stage.Bad p part old x e is le k = absurd cc

place_whole : (p : Place) (h : Held) (old : List ℕ) → IsPlace p old → (o : Option Place) → behind p h.part ≡ o → IsPlace (closed o p h).place (closed o p h).held.part
place_whole p h old is None e = place_refused p h.part old is
place_whole p h old is (Some q) e = go (nat_lt (2 ^ 26) (p.done + length h.part)) refl e
  where
    go : (x : Bool) → nat_lt (2 ^ 26) (p.done + length h.part) ≡ x → cond x None (option_map (λ (y : Place). with_done y (length h.part)) (behind_stage p.stage p h.part)) ≡ Some q → IsPlace q []
    go true i k = absurd cc
    go false i k =
        let o = map_some (λ (y : Place). with_done y (length h.part)) (behind_stage p.stage p h.part) q k in
        let le = ltb-false _ _ i in
        subst (λ (y : Place). IsPlace y []) o.2 (place_stage p.stage p h.part old o.0 refl is (omega (arith, le)) o.1)

pub place_settled : (f : Filled) (p : Place) (h : Held) (old : List ℕ) → HasFilled p.stage h.part f → IsPlace p old → IsPlace (settled f p h).place (settled f p h).held.part
place_settled Short p h old filled is = record { short = filled.0; limit = is.limit; snaps = is.snaps; first = is.first; page = is.page }
place_settled Long p h old filled is = place_refused p h.part old is
place_settled Whole p h old filled is = place_whole p h old is (behind p h.part) refl

-- ---- the beginning

pub begins_nothing : (p : Place) → p ≡ record { stage = stage.Front; start = 0; before = record { 0 = replicate 32 0 }; pages = 0; next = 0; snaps = 0; opened = false; done = 0 } → Standing p [] nothing
unfolding taken
begins_nothing p e = subst (λ (q : Place). Standing q [] nothing) (sym e)
    (record { at = record { front = refl; pages = refl; frames = refl; opened = refl; snaps = refl; rest = refl }; reached = record { done = omega arith; limit = omega arith; snaps = omega arith }; short = short_nil stage.Front; most = omega arith })

pub bad_is : (s : Stage) → is_live s ≡ false → s ≡ stage.Bad
bad_is stage.Front e = absurd cc
bad_is (stage.Page i) e = absurd cc
bad_is stage.Entries e = absurd cc
bad_is stage.Bad e = refl

-- ---- what is held

held_stage : (s : Stage) (p : Place) (part : List ℕ) (x : Place) → part_size s part ≡ Some (length part) → behind_stage s p part ≡ Some x → IsHeld (part_of s) part
held_stage stage.Front p part x size e = let b = map_back 49 (length part) (number_there 45 part) size in omega (arith, b.2)
held_stage (stage.Page i) p part x size e = sym (same_number 4096 (length part) size)
held_stage stage.Entries p part x size e = let o = bind_some (frame_at part) _ x e in ap is_some o.1
held_stage stage.Bad p part x size e = absurd cc

held_whole : (p : Place) (h : Held) → part_size p.stage h.part ≡ Some (length h.part) → (o : Option Place) → behind p h.part ≡ o → IsHeld (closed o p h).answer (closed o p h).held.last
held_whole p h size None e = tt
held_whole p h size (Some q) e = go (nat_lt (2 ^ 26) (p.done + length h.part)) e
  where
    go : (x : Bool) → cond x None (option_map (λ (y : Place). with_done y (length h.part)) (behind_stage p.stage p h.part)) ≡ Some q → IsHeld (part_of p.stage) h.part
    go true k = absurd cc
    go false k = let o = map_some (λ (y : Place). with_done y (length h.part)) (behind_stage p.stage p h.part) q k in held_stage p.stage p h.part o.0 size o.1

pub held_settled : (f : Filled) (p : Place) (h : Held) → HasFilled p.stage h.part f → IsHeld (settled f p h).answer (settled f p h).held.last
held_settled Short p h filled = tt
held_settled Long p h filled = tt
held_settled Whole p h filled = held_whole p h filled.0 (behind p h.part) refl
