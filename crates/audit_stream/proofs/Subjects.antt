-- A page and an entry more.
use Rattle.std.proofs.Common.{◌≡◌, ℕ, ◌+◌, ◌*◌, ◌<◌, Bool, true, false, nat_eq, List, [], ◌∷◌, ◌++◌, length, Some, None, refl, sym, ap, ◌∙◌, append-nil, arith, eqb-true, le-leb}
use Rattle.std.proofs.lemmas.List.{length-append}
use Rattle.avm_num.proofs.Numbers.{and_true}
use Rattle.avm_model.specs.Audit.{last_number}
use Rattle.avm_model.specs.Entries.{numbered, opens}
use Rattle.avm_model.specs.Frame.{FrameData}
use Rattle.avm_model.specs.Head.{HeadData}
use Rattle.avm_model.specs.HeadReading.{head_of}
use Rattle.avm_model.specs.Segment.{SegmentFront, page_count}
use Rattle.audit_stream.proofs.ReadParts.{opens_numbered}
use Rattle.avm_model.proofs.SegmentPages.{head_pages}
use Rattle.seg_file.specs.Coming.{Coming, with_page, with_frame}
use Rattle.seg_file.specs.Filling.{is_live}
use Rattle.seg_file.specs.Places.{Follows, At}
use Rattle.seg_file.specs.Reading.{Reading, Took}
use Rattle.seg_file.specs.declared.place.Stage.{Stage}
use Rattle.seg_file.specs.declared.place.Stage.TheVariants as stage

pub last_more : (n : ℕ) (fs : List FrameData) (f : FrameData) → f.seq ≡ last_number n (fs ++ f ∷ [])
last_more n [] f = refl
last_more n (g ∷ fs) f = last_more g.seq fs f

numbered_last : (n : ℕ) (fs : List FrameData) (f : FrameData) → numbered n (fs ++ f ∷ []) ≡ true → f.seq ≡ n + length fs
numbered_last n [] f e = let a = and_true (nat_eq f.seq n) true e in let s : f.seq ≡ n = eqb-true _ _ a.0 in omega (arith, s)
numbered_last n (g ∷ fs) f e = let a = and_true (nat_eq g.seq n) (numbered (n + 1) (fs ++ f ∷ [])) e in let s = numbered_last (n + 1) fs f a.1 in omega (arith, s)

not_nil : {A : Type 0} (xs : List A) (x : A) → xs ++ x ∷ [] ≡ [] → ⊥
not_nil [] x e = cc
not_nil (y ∷ xs) x e = cc

no_front : (f : SegmentFront) → Some f ≡ None → ⊥
no_front f e = cc

one_front : (x y : SegmentFront) → Some x ≡ Some y → x ≡ y
one_front x y e = cc

-- where an entry that came stands
pub record IsNext (front : SegmentFront) (c : Coming) (f : FrameData) : Type 0 where
  pub seq : f.seq ≡ front.start + length c.frames
  pub count : ℕ
  pub rest : List ℕ
  pub count_is : page_count front.head ≡ Some (count, rest)
  pub pages : length c.pages ≡ 4096 * count

pub entry_next : (r : Reading) (c : Coming) (f : FrameData) (front : SegmentFront) → is_live r.place.stage ≡ true → c.front ≡ Some front → Took r (with_frame c f) → IsNext front c f
entry_next r c f front live there st = go r.place.stage live st.at
  where
    go : (s : Stage) → is_live s ≡ true → At s r.place r.part (with_frame c f) → IsNext front c f
    go stage.Front live at = absurd (no_front front (sym there ∙ at.front))
    go (stage.Page i) live at = absurd (not_nil c.frames f at.frames)
    go stage.Bad live at = absurd cc
    go stage.Entries live at =
        let same : at.head ≡ front = one_front at.head front (sym at.front ∙ there) in
        let start : r.place.start ≡ front.start = at.knows.start ∙ ap (λ (x : SegmentFront). x.start) same in
        let seq = number r.place.opened at.follows in
        record {
          seq = omega (arith, seq, start);
          count = r.place.pages;
          rest = at.knows.count.0;
          count_is = ap (λ (x : SegmentFront). page_count x.head) (sym same) ∙ at.knows.count.1;
          pages = at.pages;
        }
      where
        number : (o : Bool) → Follows o r.place (c.frames ++ f ∷ []) → f.seq ≡ r.place.start + length c.frames
        number false h = absurd (not_nil c.frames f h.0)
        number true h =
            let few = le-leb (r.place.snaps + 0) 64 (omega (arith, st.reached.snaps)) in
            let opened : opens r.place.start r.place.before.0 (c.frames ++ f ∷ []) ≡ true = ap (opens r.place.start r.place.before.0) (sym (append-nil (c.frames ++ f ∷ []))) ∙ h [] ∙ few in
            numbered_last r.place.start c.frames f (opens_numbered r.place.start r.place.before.0 (c.frames ++ f ∷ []) opened)

pub record IsNextPage (front : SegmentFront) (i : ℕ) : Type 0 where
  pub count : ℕ
  pub rest : List ℕ
  pub count_is : page_count front.head ≡ Some (count, rest)
  pub within : i < count

pub page_next : (r : Reading) (c : Coming) (page : List ℕ) (i : ℕ) (front : SegmentFront) → is_live r.place.stage ≡ true → c.front ≡ Some front → length c.pages ≡ 4096 * i → length page ≡ 4096 → Took r (with_page c page) → IsNextPage front i
page_next r c page i front live there len size st = go r.place.stage live st.at
  where
    go : (s : Stage) → is_live s ≡ true → At s r.place r.part (with_page c page) → IsNextPage front i
    go stage.Front live at = absurd (no_front front (sym there ∙ at.front))
    go stage.Bad live at = absurd cc
    go (stage.Page j) live at =
        let same : at.head ≡ front = one_front at.head front (sym at.front ∙ there) in
        let pages = at.pages in
        let within = at.within in
        record {
          count = r.place.pages;
          rest = at.knows.count.0;
          count_is = ap (λ (x : SegmentFront). page_count x.head) (sym same) ∙ at.knows.count.1;
          within = omega (arith, pages, within, len, size, length-append c.pages page);
        }
    go stage.Entries live at =
        let same : at.head ≡ front = one_front at.head front (sym at.front ∙ there) in
        let pages = at.pages in
        record {
          count = r.place.pages;
          rest = at.knows.count.0;
          count_is = ap (λ (x : SegmentFront). page_count x.head) (sym same) ∙ at.knows.count.1;
          within = omega (arith, pages, len, size, length-append c.pages page);
        }

-- the page count is the head's
pub head_count : (front : SegmentFront) (h : HeadData) (n : ℕ) (rest : List ℕ) → head_of front.head ≡ Some h → page_count front.head ≡ Some (n, rest) → n ≡ h.front.pages
head_count front h n rest e count = let p = head_pages front.head h e in same (n, rest) (h.front.pages, p.0) (sym count ∙ p.1)
  where
    same : (a b : ℕ × List ℕ) → Some a ≡ Some b → a.0 ≡ b.0
    same a b q = let x : a ≡ b = cc in ap (λ (z : ℕ × List ℕ). z.0) x
