-- The segment of evidence, and the page count of a head.
use Rattle.std.proofs.Common.{◌≡◌, ℕ, Bool, true, false, is_some, List, IsTrue, Option, Some, None, refl, sym, ap, subst, ◌∙◌}
use Rattle.avm_num.proofs.Numbers.{bind_some, kept_some}
use Rattle.avm_model.specs.Head.{HeadData}
use Rattle.avm_model.specs.HeadReading.{head_of}
use Rattle.avm_model.specs.Memory.{is_page_count}
use Rattle.avm_model.specs.Segment.{SegmentData, page_count, segment_of, whole_segment_of}
use Rattle.avm_model.proofs.SegmentPages.{head_pages, has_pages}
use Rattle.journal_model.specs.Header.{pages_in}
use Rattle.rebuttal.specs.HeadPages.{IsHeadOf}
use Rattle.state_replay.specs.Starting.{TellsState}

-- ---- the segment that was read

pub whole_is : (bytes : List ℕ) (s : SegmentData) (h : HeadData) → Some s ≡ segment_of bytes → head_of s.front.head ≡ Some h → whole_segment_of bytes ≡ Some (s, h)
unfolding whole_segment_of
whole_is bytes s h e p = rw (← e, p) refl

pub no_segment : (bytes : List ℕ) → None ≡ segment_of bytes → whole_segment_of bytes ≡ None
unfolding whole_segment_of
no_segment bytes e = rw (← e) refl

pub none_is : {A : Type 0} (o : Option A) → is_some o ≡ false → o ≡ None
none_is None h = refl
none_is (Some x) h = absurd cc

pub no_head : (bytes : List ℕ) (s : SegmentData) → Some s ≡ segment_of bytes → is_some (head_of s.front.head) ≡ false → whole_segment_of bytes ≡ None
unfolding whole_segment_of
no_head bytes s e p = rw (← e, none_is (head_of s.front.head) p) refl

-- its head and pages tell a state
pub tells : (bytes : List ℕ) (s : SegmentData) (h : HeadData) → head_of s.front.head ≡ Some h → whole_segment_of bytes ≡ Some (s, h) → TellsState s.front.head s.pages
tells bytes s h p w = let k = has_pages bytes s h w in (h, record { is = p; size = k.size; count = k.count })

-- ---- a head's page count

first_is : (p q : ℕ × List ℕ) → Some p ≡ Some q → p.0 ≡ q.0
first_is p q e = let r : p ≡ q = cc in ap (λ (z : ℕ × List ℕ). z.0) r

pub head_of_pages : (head : List ℕ) (h : HeadData) (n : ℕ) → head_of head ≡ Some h → pages_in head ≡ Some n → IsHeadOf head n
unfolding pages_in
head_of_pages head h n e says =
    let q = head_pages head h e in
    let a = bind_some (page_count head) _ n says in
    let k = kept_some (is_page_count a.0.0) a.0.0 n a.2 in
    let own : h.front.pages ≡ a.0.0 = first_is (h.front.pages, q.0) a.0 (sym q.1 ∙ a.1) in
    record { head = h; is = e; front = own ∙ k.1; count = subst (λ (m : ℕ). IsTrue (is_page_count m)) k.1 k.0 }

pub head_found : (head : List ℕ) (n : ℕ) (b : Bool) → Some n ≡ pages_in head → b ≡ is_some (head_of head) → b ≡ true → IsHeadOf head n
head_found head n b says is true_is = go (head_of head) refl (sym is ∙ true_is)
  where
    go : (r : Option HeadData) → head_of head ≡ r → is_some r ≡ true → IsHeadOf head n
    go None e q = absurd cc
    go (Some h) e q = head_of_pages head h n e (sym says)

-- another page count is none of this head
pub head_none : (head : List ℕ) (o : Option ℕ) (n : ℕ) → o ≡ pages_in head → (o ≡ Some n → ⊥) → pages_in head ≡ Some n → head_of head ≡ None
head_none head o n is other says = absurd (other (is ∙ says))
