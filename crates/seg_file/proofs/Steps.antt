-- A part that is whole, and what stands behind it.
use Rattle.std.proofs.Common.{◌≡◌, ℕ, ◌+◌, ◌*◌, ◌^◌, ◌≤◌, Bool, true, false, cond, ◌&&◌, not, nat_eq, nat_le, List, [], ◌∷◌, ◌++◌, length, Some, refl, sym, ap, subst, ◌∙◌, append_assoc, append-nil, arith, inl, inr, All, eq-eqb, ne_eqb, leb-true}
use Rattle.std.proofs.lemmas.Bool.{cases_lt}
use Rattle.std.proofs.lemmas.List.{length-append}
use Rattle.std.proofs.lemmas.List.Elements.{All-append, All-nil, All-cons}
use Rattle.avm_num.specs.Bytes.{IsBytes}
use Rattle.avm_num.specs.Lists.{list_bytes}
use Rattle.avm_num.proofs.Numbers.{bind_some, and_true}
use Rattle.avm_model.specs.Basics.{flag}
use Rattle.avm_model.specs.Entries.{begins}
use Rattle.avm_model.specs.Frame.{FrameData, FitsFrame, frame_bytes}
use Rattle.avm_model.specs.Segment.{SegmentFront, FitsSegmentFront, page_count, segment_front_at, segment_front_bytes}
use Rattle.seg_file.specs.Coming.{Coming, front_part, taken, with_rest, segment_in, longest_head}
use Rattle.avm_num.specs.Sizes.{number_there, IsShort}
use Rattle.seg_file.specs.Fronts.{counted_at}
use Rattle.seg_file.specs.declared.place.Stage.{Stage}
use Rattle.seg_file.specs.declared.place.Stage.TheVariants as stage
use Rattle.seg_file.specs.declared.place.Place.{Place}
use Rattle.seg_file.specs.Places.{part_size, page_or_entries, may_come, with_frame, with_stage, with_done, Knows, Follows, AtFront, AtPage, AtEntries, Never, At, Reached, Standing, InPages}
use Rattle.seg_file.specs.Filling.{is_live}
use Rattle.seg_file.proofs.PartSizes.{front_length}
use Rattle.avm_num.proofs.Lengths.{bytes_append}
use Rattle.seg_file.proofs.Continuing.{follows_frame}

-- ---- more of a part

pub taken_rest : (c : Coming) (b : List ℕ) → taken (with_rest c b) ≡ taken c ++ b
unfolding taken
taken_rest c b = simp append_assoc

pub never_rest : (c : Coming) (b : List ℕ) → IsBytes b → Never c → Never (with_rest c b)
never_rest c b fits never more mf = ap (λ (t : List ℕ). segment_in (t ++ more)) (taken_rest c b) ∙ ap segment_in (append_assoc (taken c) b more) ∙ never (b ++ more) (bytes_append b more fits mf)

pub at_rest : (s : Stage) (p : Place) (part b : List ℕ) (c : Coming) → is_live s ≡ true → At s p part c → At s p (part ++ b) (with_rest c b)
at_rest stage.Front p part b c live at = record { front = at.front; pages = at.pages; frames = at.frames; opened = at.opened; snaps = at.snaps; rest = ap (λ (t : List ℕ). t ++ b) at.rest }
at_rest (stage.Page i) p part b c live at = record { head = at.head; front = at.front; knows = at.knows; within = at.within; pages = at.pages; frames = at.frames; opened = at.opened; snaps = at.snaps; rest = ap (λ (t : List ℕ). t ++ b) at.rest }
at_rest stage.Entries p part b c live at = record { head = at.head; front = at.front; knows = at.knows; pages = at.pages; frames = at.frames; follows = at.follows; rest = ap (λ (t : List ℕ). t ++ b) at.rest }
at_rest stage.Bad p part b c live at = absurd cc

pub reached_rest : (p : Place) (b : List ℕ) (c : Coming) → Reached p c → Reached p (with_rest c b)
reached_rest p b c r =
    let l : length (taken (with_rest c b)) ≡ length (taken c ++ b) = ap length (taken_rest c b) in
    record { done = omega (arith, l, r.done, length-append c.rest b, length-append (taken c) b); limit = r.limit; snaps = r.snaps }

pub short_nil : (s : Stage) → IsShort (part_size s []) []
unfolding number_there
short_nil stage.Front = tt
short_nil (stage.Page i) = omega arith
short_nil stage.Entries = tt
short_nil stage.Bad = tt

-- ---- behind the front and behind a page

no_frames : (p : Place) (c : Coming) → p.opened ≡ false → c.frames ≡ [] → p.snaps ≡ 0 → Follows p.opened p c.frames
no_frames p c o f s = subst (λ (b : Bool). Follows b p c.frames) (sym o) (f, s)

at_pages : (i : ℕ) (p : Place) (c : Coming) (f : SegmentFront) → c.front ≡ Some f → Knows p f → i ≤ p.pages → length c.pages ≡ 4096 * i → c.frames ≡ [] → p.opened ≡ false → p.snaps ≡ 0 → c.rest ≡ [] → At (page_or_entries i p.pages) p [] c
at_pages i p c f front knows le pages frames opened snaps rest = elim (cases_lt i p.pages) [
  | inl lt ↦
      let ne : nat_eq i p.pages ≡ false = ne_eqb i p.pages (λ (e : i ≡ p.pages). omega (arith, e, lt)) in
      subst (λ (b : Bool). At (cond b stage.Entries (stage.Page i)) p [] c) (sym ne)
      (record { head = f; front = front; knows = knows; within = lt; pages = pages; frames = frames; opened = opened; snaps = snaps; rest = rest })
  | inr ge ↦
      let is : i ≡ p.pages = omega (arith, ge, le) in
      let eq : nat_eq i p.pages ≡ true = eq-eqb i p.pages is in
      subst (λ (b : Bool). At (cond b stage.Entries (stage.Page i)) p [] c) (sym eq)
      (record { head = f; front = front; knows = knows; pages = pages ∙ ap (λ (n : ℕ). 4096 * n) is; frames = subst (λ (fs : List FrameData). All FitsFrame fs) (sym frames) (All-nil FitsFrame); follows = no_frames p c opened frames snaps; rest = rest })
]

pub in_pages : (i n : ℕ) → i ≤ n → InPages (page_or_entries i n) n
in_pages i n le = elim (cases_lt i n) [
  | inl lt ↦ subst (λ (b : Bool). InPages (cond b stage.Entries (stage.Page i)) n) (sym (ne_eqb i n (λ (e : i ≡ n). omega (arith, e, lt)))) lt
  | inr ge ↦ subst (λ (b : Bool). InPages (cond b stage.Entries (stage.Page i)) n) (sym (eq-eqb i n (omega (arith, ge, le)))) tt
]

-- ---- the front

abbrev pub fronted : SegmentFront → Coming
fronted f = record { front = Some f; pages = []; frames = []; rest = [] }

pub counted_some : (part : List ℕ) (q : SegmentFront × ℕ) → counted_at part ≡ Some q → (rest more : List ℕ) × (segment_front_at part ≡ Some (q.0, rest)) × (page_count q.0.head ≡ Some (q.1, more))
unfolding counted_at
counted_some part q e =
    let a = bind_some (segment_front_at part) _ q e in
    let b = bind_some (page_count a.0.0.head) _ q a.2 in
    let is : (a.0.0, b.0.0) ≡ q = some_is (a.0.0, b.0.0) q b.2 in
    let first : a.0.0 ≡ q.0 = ap (λ (x : SegmentFront × ℕ). x.0) is in
    let second : b.0.0 ≡ q.1 = ap (λ (x : SegmentFront × ℕ). x.1) is in
    (a.0.1, b.0.1, a.1 ∙ ap (λ (f : SegmentFront). Some (f, a.0.1)) first, ap (λ (f : SegmentFront). page_count f.head) (sym first) ∙ b.1 ∙ ap (λ (n : ℕ). Some (n, b.0.1)) second)
  where
    some_is : (x y : SegmentFront × ℕ) → Some x ≡ Some y → x ≡ y
    some_is x y h = cc

abbrev pub front_place : Place → SegmentFront × ℕ → Place
front_place p q = record { stage = page_or_entries 0 q.1; start = q.0.start; before = record { 0 = q.0.before }; pages = q.1; next = p.next; snaps = p.snaps; opened = p.opened; done = p.done }

pub front_standing : (p : Place) (part : List ℕ) (c : Coming) (f : SegmentFront) (n : ℕ) (more : List ℕ) → part ≡ segment_front_bytes f → FitsSegmentFront f → page_count f.head ≡ Some (n, more) → length part ≤ 49 + longest_head → p.done + length part ≤ 2 ^ 26
    → AtFront p part c → Reached p c → Knows (with_done (front_place p (f, n)) (length part)) f × Standing (with_done (front_place p (f, n)) (length part)) [] (fronted f)
unfolding taken
front_standing p part c f n more is fits count short limit at r =
    let l : length part ≡ length (segment_front_bytes f) = ap length is in
    let zero : length (taken c) ≡ length c.rest = ap length (simp (at.front, at.pages, at.frames) refl) in
    let q : Place = with_done (front_place p (f, n)) (length part) in
    let knows : Knows q f = record { fits = fits; short = omega (arith, l, short, front_length f fits); start = refl; before = refl; count = (more, count) } in (
      knows,
      record {
        at = at_pages 0 q (fronted f) f refl knows (omega arith) refl refl at.opened at.snaps refl;
        reached = record { done = omega (arith, l, zero, r.done, length-append (segment_front_bytes f) []); limit = limit; snaps = r.snaps };
        short = short_nil (page_or_entries 0 n);
        most = omega arith;
      },
    )

-- ---- a page

abbrev pub paged : Coming → List ℕ → Coming
paged c part = record { front = c.front; pages = c.pages ++ part; frames = []; rest = [] }

pub taken_page : (c : Coming) (part : List ℕ) → c.frames ≡ [] → c.rest ≡ part → taken (paged c part) ≡ taken c
unfolding taken
taken_page c part f r = rw (f, r) (ap (λ (t : List ℕ). front_part c.front ++ t) (append-nil (c.pages ++ part)))

pub page_standing : (i : ℕ) (p : Place) (part : List ℕ) (c : Coming) → length part ≡ 4096 → p.done + length part ≤ 2 ^ 26 → AtPage i p part c → Reached p c
    → Standing (with_done (with_stage p (page_or_entries (i + 1) p.pages)) (length part)) [] (paged c part)
page_standing i p part c size limit at r =
    let q : Place = with_done (with_stage p (page_or_entries (i + 1) p.pages)) (length part) in
    let knows : Knows q at.head = record { fits = at.knows.fits; short = at.knows.short; start = at.knows.start; before = at.knows.before; count = at.knows.count } in
    let l : length (taken (paged c part)) ≡ length (taken c) = ap length (taken_page c part at.frames at.rest) in
    let rest : length c.rest ≡ length part = ap length at.rest in
    let pages : length (c.pages ++ part) ≡ 4096 * (i + 1) = omega (arith, at.pages, size, length-append c.pages part) in
    record {
      at = at_pages (i + 1) q (paged c part) at.head at.front knows (omega (arith, at.within)) pages refl at.opened at.snaps refl;
      reached = record { done = omega (arith, l, rest, r.done); limit = limit; snaps = r.snaps };
      short = short_nil (page_or_entries (i + 1) p.pages);
      most = omega arith;
    }

-- ---- an entry

abbrev pub framed : Coming → FrameData → Coming
framed c f = record { front = c.front; pages = c.pages; frames = c.frames ++ f ∷ []; rest = [] }

list_more : (fs : List FrameData) (f : FrameData) → list_bytes frame_bytes (fs ++ f ∷ []) ≡ list_bytes frame_bytes fs ++ frame_bytes f
list_more [] f = append-nil (frame_bytes f)
list_more (g ∷ fs) f = ap (λ (t : List ℕ). frame_bytes g ++ t) (list_more fs f) ∙ sym (append_assoc (frame_bytes g) (list_bytes frame_bytes fs) (frame_bytes f))

pub taken_frame : (c : Coming) (f : FrameData) → c.rest ≡ frame_bytes f → taken (framed c f) ≡ taken c
unfolding taken
taken_frame c f r = rw (r, list_more c.frames f, append-nil (list_bytes frame_bytes c.frames ++ frame_bytes f)) refl

abbrev frame_place : Place → FrameData → Place
frame_place p f = with_frame p f

abbrev pub not_boot : FrameData → Bool
not_boot f = not (nat_eq f.kind 1)

pub few_snaps : (p : Place) (f : FrameData) → (p.opened ≡ false → p.snaps ≡ 0) → may_come p f ≡ true → p.snaps + flag (nat_eq f.kind 2) ≤ 64
few_snaps p f first may = go p.opened first may
  where
    most : (b : Bool) → flag b ≤ 1
    most true = omega arith
    most false = omega arith

    go : (o : Bool) → (o ≡ false → p.snaps ≡ 0) → cond o (nat_eq f.seq p.next && not_boot f && nat_le (p.snaps + flag (nat_eq f.kind 2)) 64) (nat_eq f.seq p.start && begins p.start p.before.0 f.kind) ≡ true → p.snaps + flag (nat_eq f.kind 2) ≤ 64
    go true z e = leb-true _ _ (and_true (nat_eq f.seq p.next && not_boot f) _ e).1
    go false z e = let a = z refl in let b = most (nat_eq f.kind 2) in omega (arith, a, b)

pub frame_standing : (p : Place) (part : List ℕ) (c : Coming) (f : FrameData) → p.stage ≡ stage.Entries → part ≡ frame_bytes f → FitsFrame f → may_come p f ≡ true → (p.opened ≡ false → p.snaps ≡ 0) → p.done + length part ≤ 2 ^ 26 → AtEntries p part c → Reached p c
    → Standing (with_done (with_frame p f) (length part)) [] (framed c f)
frame_standing p part c f in_stage is fits may first limit at r =
    let q : Place = with_done (with_frame p f) (length part) in
    let knows : Knows q at.head = record { fits = at.knows.fits; short = at.knows.short; start = at.knows.start; before = at.knows.before; count = at.knows.count } in
    let l : length (taken (framed c f)) ≡ length (taken c) = ap length (taken_frame c f (at.rest ∙ is)) in
    let rest : length c.rest ≡ length part = ap length at.rest in
    let here : AtEntries q [] (framed c f) = record {
      head = at.head;
      front = at.front;
      knows = knows;
      pages = at.pages;
      frames = All-append FitsFrame c.frames (f ∷ []) at.frames (All-cons FitsFrame f [] fits (All-nil FitsFrame));
      follows = follows_frame p c.frames f at.follows may;
      rest = refl;
    } in
    record {
      at = subst (λ (s : Stage). At s q [] (framed c f)) (sym in_stage) here;
      reached = record { done = omega (arith, l, rest, r.done); limit = limit; snaps = few_snaps p f first may };
      short = short_nil p.stage;
      most = omega arith;
    }
