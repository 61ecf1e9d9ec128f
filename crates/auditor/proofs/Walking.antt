-- A walk over spelled frames up to a number.
use Rattle.std.proofs.Common.{◌≡◌, ◌≢◌, ℕ, List, [], ◌∷◌, ◌++◌, length, Option, Some, None, refl, sym, ap, subst, ◌∙◌, append_assoc, append-nil, eq-eqb, ne_eqb, All, arith, take, ◌-◌}
use Rattle.std.proofs.lemmas.List.{length-append, take_at}
use Rattle.std.specs.List.{AllByRecursion}
use Rattle.std.proofs.lemmas.List.Elements.{recursion_from_All}
use Rattle.avm_num.specs.Lists.{list_bytes}
use Rattle.avm_model.specs.Frame.{FrameData, FitsFrame, frame_bytes, frame_at}
use Rattle.avm_model.specs.Holds.{upto}
use Rattle.log_entry.proofs.FrameLaws.{reads_frame, frame_short}

abbrev pub spell : List FrameData → List ℕ
spell fs = list_bytes frame_bytes fs

-- what is left of a walk that began at fs
pub record Walking (m : ℕ) (fs : List FrameData) (rest : List ℕ) : Type 0 where
  pub left : List FrameData
  pub fits : AllByRecursion FitsFrame left
  pub is : rest ≡ spell left
  pub goes : (t : List ℕ) → spell left ≡ spell (upto m left) ++ t → spell fs ≡ spell (upto m fs) ++ t

pub walk_start : (m : ℕ) (fs : List FrameData) (bytes : List ℕ) → All FitsFrame fs → bytes ≡ spell fs → Walking m fs bytes
walk_start m fs bytes fits e = record { left = fs; fits = recursion_from_All FitsFrame fs fits; is = e; goes = λ t h. h }

pair_is : {A B : Type 0} (a c : A) (b d : B) → ◌≡◌ {A = Option (A × B)} (Some (a, b)) (Some (c, d)) → (a ≡ c) × (b ≡ d)
pair_is {A} {B} a c b d e = let p : (a, b) ≡ (c, d) = same (a, b) (c, d) e in (ap (λ (q : A × B). q.0) p, ap (λ (q : A × B). q.1) p)
  where
    same : (x y : A × B) → Some x ≡ Some y → x ≡ y
    same x y h = cc

none_at : frame_at [] ≡ None
none_at = go (frame_at []) refl
  where
    go : (r : Option (FrameData × List ℕ)) → frame_at [] ≡ r → r ≡ None
    go None e = refl
    go (Some p) e = absurd (let h = frame_short [] p e in omega arith)

-- the next frame is the first that is left
first_is : (rest new : List ℕ) (f : FrameData) (gs : List FrameData) → AllByRecursion FitsFrame gs → rest ≡ spell gs → frame_at rest ≡ Some (f, new) → (hs : List FrameData) × (gs ≡ f ∷ hs) × (new ≡ spell hs)
first_is rest new f [] fits is e = absurd (let a : frame_at rest ≡ None = ap frame_at is ∙ none_at in cc)
first_is rest new f (g ∷ hs) fits is e =
    let again : frame_at rest ≡ Some (g, spell hs) = ap frame_at is ∙ reads_frame.again g (spell hs) fits.0 in
    let p = pair_is f g new (spell hs) (sym e ∙ again) in
    (hs, ap (λ (x : FrameData). x ∷ hs) (sym p.0), p.1)

pub walk_step : (m : ℕ) (fs : List FrameData) (rest new : List ℕ) (f : FrameData) → Walking m fs rest → frame_at rest ≡ Some (f, new) → f.seq ≢ m → Walking m fs new
walk_step m fs rest new f w e ne =
    let n = first_is rest new f w.left w.fits w.is e in
    let fits : AllByRecursion FitsFrame (f ∷ n.0) = subst (λ (l : List FrameData). AllByRecursion FitsFrame l) n.1 w.fits in
    record { left = n.0; fits = fits.1; is = n.2; goes = λ t h. w.goes t (subst (λ (l : List FrameData). spell l ≡ spell (upto m l) ++ t) (sym n.1) (more t n.0 h)) }
  where
    more : (t : List ℕ) (hs : List FrameData) → spell hs ≡ spell (upto m hs) ++ t → spell (f ∷ hs) ≡ spell (upto m (f ∷ hs)) ++ t
    more t hs h = rw (ne_eqb f.seq m ne) (ap (λ (x : List ℕ). frame_bytes f ++ x) h ∙ sym (append_assoc (frame_bytes f) (spell (upto m hs)) t))

pub walk_found : (m : ℕ) (fs : List FrameData) (rest new : List ℕ) (f : FrameData) → Walking m fs rest → frame_at rest ≡ Some (f, new) → f.seq ≡ m → spell fs ≡ spell (upto m fs) ++ new
walk_found m fs rest new f w e same =
    let n = first_is rest new f w.left w.fits w.is e in
    w.goes new (subst (λ (l : List FrameData). spell l ≡ spell (upto m l) ++ new) (sym n.1) (last n.0 n.2))
  where
    last : (hs : List FrameData) → new ≡ spell hs → spell (f ∷ hs) ≡ spell (upto m (f ∷ hs)) ++ new
    last hs h = rw (eq-eqb f.seq m same, ← h) (ap (λ (x : List ℕ). x ++ new) (sym (append-nil (frame_bytes f))))

pub walk_end : (m : ℕ) (fs : List FrameData) (rest : List ℕ) → Walking m fs rest → frame_at rest ≡ None → spell fs ≡ spell (upto m fs) ++ rest
walk_end m fs rest w e = w.goes rest (nothing w.left w.fits w.is)
  where
    nothing : (gs : List FrameData) → AllByRecursion FitsFrame gs → rest ≡ spell gs → spell gs ≡ spell (upto m gs) ++ rest
    nothing [] fits is = sym is
    nothing (g ∷ gs) fits is = absurd (let again : frame_at rest ≡ Some (g, spell gs) = ap frame_at is ∙ reads_frame.again g (spell gs) fits.0 in cc)

pub cut_is : (whole x u t : List ℕ) → whole ≡ x ++ (u ++ t) → take (length whole - length t) whole ≡ x ++ u
cut_is whole x u t e =
    let n : length whole - length t ≡ length (x ++ u) = omega (arith, ap length e, length-append x (u ++ t), length-append u t, length-append x u) in
    let regrouped : whole ≡ (x ++ u) ++ t = e ∙ sym (append_assoc x u t) in
    rw (n, regrouped) (take_at (x ++ u) t (length (x ++ u)) refl)
