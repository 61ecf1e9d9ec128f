-- Whether what has come is a segment, and what is held of it.
use Rattle.std.proofs.Common.{◌≡◌, ℕ, ◌-◌, Bool, true, false, ◌&&◌, nat_eq, List, [], ◌∷◌, ◌++◌, length, take, drop, Some, None, is_some, refl, sym, ap, ◌∙◌, append_assoc, append-nil, arith, eqb-true, ne_eqb}
use Rattle.std.specs.Int.{w32, w64}
use Rattle.std.proofs.lemmas.List.{length-append, take_rest, drop_at}
use Rattle.std.proofs.lemmas.List.Elements.{recursion_from_All}
use Rattle.avm_num.specs.Bytes.{IsBytes}
use Rattle.avm_num.specs.Lists.{be, one}
use Rattle.avm_num.proofs.Numbers.{and_true}
use Rattle.avm_model.specs.Frame.{FrameData, FitsFrame, frame_at, frame_bytes}
use Rattle.avm_model.specs.Segment.{SegmentFront, FitsSegmentFront, segment_magic, segment_front_bytes}
use Rattle.log_entry.proofs.FrameLaws.{reads_frame, frames_none}
use Rattle.seg_file.specs.Coming.{Coming, taken, segment_in}
use Rattle.avm_num.specs.Sizes.{IsShort}
use Rattle.seg_file.specs.declared.place.Stage.{Stage}
use Rattle.seg_file.specs.declared.place.Stage.TheVariants as stage
use Rattle.seg_file.specs.declared.place.Place.{Place}
use Rattle.seg_file.specs.Places.{part_size, AtEntries, At, Reached, Standing}
use Rattle.seg_file.specs.Filling.{ends_at, whole_at}
use Rattle.seg_file.specs.Reading.{IsRead}
use Rattle.avm_num.proofs.Lengths.{be32, be64, one1}
use Rattle.seg_file.proofs.Continuing.{frames_go}
use Rattle.seg_file.proofs.Parsing.{in_some}
use Rattle.seg_file.proofs.Wholes.{front_not, page_not, rest_not, none_not, is_whole, made_of, nil_at, and_false}

among_entries : (p : Place) (part : List ℕ) (c : Coming) → IsBytes part → IsShort (part_size stage.Entries part) part → Reached p c → AtEntries p part c → (o : Bool) → p.opened ≡ o → (o && nat_eq (length part) 0) ≡ is_some (segment_in (taken c))
among_entries p [] c fits short r at true e = rw (is_whole p [] c refl e r at) refl
among_entries p [] c fits short r at false e = rw (none_not p [] c refl e at) refl
among_entries p (b ∷ part) c fits short r at o e =
    let ne : nat_eq (length (b ∷ part)) 0 ≡ false = ne_eqb (length (b ∷ part)) 0 (λ (h : length (b ∷ part) ≡ 0). omega (arith, h)) in
    rw (rest_not p (b ∷ part) c fits short (omega arith) at, ne, and_false o) refl

pub whole_is : (p : Place) (part : List ℕ) (c : Coming) → IsBytes part → Standing p part c → whole_at p part ≡ is_some (segment_in (taken c))
whole_is p part c fits st = go p.stage st.at st.short
  where
    go : (s : Stage) → At s p part c → IsShort (part_size s part) part → ends_at s (p.opened && nat_eq (length part) 0) ≡ is_some (segment_in (taken c))
    go stage.Front at short = rw (front_not p part c fits short at) refl
    go (stage.Page i) at short = rw (page_not i p part c short at) refl
    go stage.Entries at short = among_entries p part c fits short st.reached at p.opened refl
    go stage.Bad at short = let none : segment_in (taken c) ≡ None = ap segment_in (sym (append-nil (taken c))) ∙ at [] (λ i. omega arith) in rw none refl

nil : (xs : List ℕ) → nat_eq (length xs) 0 ≡ true → xs ≡ []
nil [] e = refl
nil (x ∷ xs) e = let h : length (x ∷ xs) ≡ 0 = eqb-true _ _ e in absurd (omega (arith, h))

pub read_is : (p : Place) (part : List ℕ) (c : Coming) → whole_at p part ≡ true → Standing p part c → IsRead c
read_is p part c e st = go p.stage st.at e
  where
    go : (s : Stage) → At s p part c → ends_at s (p.opened && nat_eq (length part) 0) ≡ true → IsRead c
    go stage.Front at e = absurd cc
    go (stage.Page i) at e = absurd cc
    go stage.Bad at e = absurd cc
    go stage.Entries at e =
        let a = and_true p.opened (nat_eq (length part) 0) e in
        let w = in_some (taken c) (made_of c at.head []) (is_whole p part c (nil part a.1) a.0 st.reached at) in
        record {
          segment = made_of c at.head [];
          is = w.0;
          front = at.front;
          pages = refl;
          frames = frames_go c.frames [] (recursion_from_All FitsFrame c.frames at.frames) ∙ ap (λ (fs : List FrameData). c.frames ++ fs) (frames_none [] nil_at) ∙ append-nil c.frames;
        }

-- ---- what is held

pub head_held : (last : List ℕ) (f : SegmentFront) → FitsSegmentFront f → last ≡ segment_front_bytes f → take (length last - 49) (drop 49 last) ≡ f.head
unfolding segment_front_bytes
head_held last f fits e =
    let b = fits.before in
    let x = be w32 segment_magic ++ one 1 ++ be w64 f.start ++ f.before ++ be w32 (length f.head) in
    let size : length x ≡ 49 = simp (length-append, be32, be64, one1) (omega (arith, b)) in
    let regrouped : segment_front_bytes f ≡ x ++ f.head = simp append_assoc in
    take_rest last 49 ∙ ap (drop 49) (e ∙ regrouped) ∙ drop_at x f.head 49 size

pub frame_held : (x : List ℕ) (g f : FrameData) (rest : List ℕ) → frame_at x ≡ Some (g, rest) → x ≡ frame_bytes f → FitsFrame f → g ≡ f
frame_held x g f rest e is fits = same (g, rest) (f, []) (sym e ∙ ap frame_at (is ∙ sym (append-nil (frame_bytes f))) ∙ reads_frame.again f [] fits)
  where
    same : (a b : FrameData × List ℕ) → Some a ≡ Some b → a.0 ≡ b.0
    same a b h = let q : a ≡ b = cc in ap (λ (z : FrameData × List ℕ). z.0) q
