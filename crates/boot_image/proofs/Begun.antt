-- What reading a segment says of how it begins.
use Rattle.std.proofs.Common.{◌≡◌, ℕ, Bool, true, false, List, Option, Some, None, is_some, refl, sym, ◌∙◌, subst}
use Rattle.std.specs.Prelude.{Result, Ok, Err, IfOk, MatchBool}
use Rattle.avm_model.specs.Audit.{entry_frames}
use Rattle.avm_model.specs.Head.{HeadData}
use Rattle.avm_model.specs.HeadReading.{head_of}
use Rattle.avm_model.specs.HeadState.{state_of}
use Rattle.avm_model.specs.ImageState.{is_image_of}
use Rattle.avm_model.specs.Segment.{SegmentData, segment_of, whole_segment_of}
use Rattle.avm_model.proofs.ImageLaws.{image_from, image_to}
use Rattle.avm_num.specs.declared.NoMemory.{NoMemory}
use Rattle.boot_image.specs.Begins.{is_boot_first, BeginsAs}

head_none : (o : Option HeadData) → false ≡ is_some o → o ≡ None
head_none None e = refl
head_none (Some h) e = absurd cc

whole_none : (bytes : List ℕ) → None ≡ segment_of bytes → whole_segment_of bytes ≡ None
unfolding whole_segment_of
whole_none bytes e = rw (sym e) refl

whole_headless : (bytes : List ℕ) (s : SegmentData) → Some s ≡ segment_of bytes → false ≡ is_some (head_of s.front.head) → whole_segment_of bytes ≡ None
unfolding whole_segment_of
whole_headless bytes s e none = rw (sym e, head_none (head_of s.front.head) none) refl

pub whole_some : (bytes : List ℕ) (s : SegmentData) (h : HeadData) → Some s ≡ segment_of bytes → head_of s.front.head ≡ Some h → whole_segment_of bytes ≡ Some (s, h)
unfolding whole_segment_of
whole_some bytes s h e is = rw (sym e, is) refl

not_none : (image : List ℕ) (o : Option (SegmentData × HeadData)) → o ≡ None → BeginsAs image o → ⊥
not_none image None e begins = begins
not_none image (Some s) e begins = cc

pub no_segment : (image bytes : List ℕ) → None ≡ segment_of bytes → BeginsAs image (whole_segment_of bytes) → ⊥
no_segment image bytes e = not_none image (whole_segment_of bytes) (whole_none bytes e)

pub no_head : (image bytes : List ℕ) (s : SegmentData) → Some s ≡ segment_of bytes → false ≡ is_some (head_of s.front.head) → BeginsAs image (whole_segment_of bytes) → ⊥
no_head image bytes s e none = not_none image (whole_segment_of bytes) (whole_headless bytes s e none)

pub no_boot : (image bytes : List ℕ) (s : SegmentData) (h : HeadData) → whole_segment_of bytes ≡ Some (s, h) → false ≡ is_boot_first (entry_frames s) → BeginsAs image (whole_segment_of bytes) → ⊥
no_boot image bytes s h whole other = subst (λ (o : Option (SegmentData × HeadData)). BeginsAs image o → ⊥) (sym whole) (λ begins. let both : false ≡ true = other ∙ begins.0 in cc)

begins_by : (image : List ℕ) (s : SegmentData) (h : HeadData) (is : Bool) → true ≡ is_boot_first (entry_frames s) → is ≡ is_image_of (state_of h s.pages) image → MatchBool is (BeginsAs image (Some (s, h))) (BeginsAs image (Some (s, h)) → ⊥)
begins_by image s h true first e = (sym first, image_from (state_of h s.pages) image (sym e))
begins_by image s h false first e = λ begins. let both : false ≡ true = e ∙ image_to (state_of h s.pages) image begins.1 in cc

pub begins : (image bytes : List ℕ) (s : SegmentData) (h : HeadData) (r : Result Bool NoMemory) → whole_segment_of bytes ≡ Some (s, h) → head_of s.front.head ≡ Some h → true ≡ is_boot_first (entry_frames s) → IfOk r (λ is. (h : HeadData) → head_of s.front.head ≡ Some h → is ≡ is_image_of (state_of h s.pages) image) → IfOk r (λ is. MatchBool is (BeginsAs image (whole_segment_of bytes)) (BeginsAs image (whole_segment_of bytes) → ⊥))
begins image bytes s h (Err e) whole is first value = tt
begins image bytes s h (Ok b) whole is first value = subst (λ (o : Option (SegmentData × HeadData)). MatchBool b (BeginsAs image o) (BeginsAs image o → ⊥)) (sym whole) (begins_by image s h b first (value h is))
