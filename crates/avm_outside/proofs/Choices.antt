-- An image that is made of a choice is one that a crash may leave.
use Rattle.std.proofs.Common.{◌≡◌, leb, ℕ, zero, suc, ◌+◌, ◌≤◌, ◌<◌, Bool, true, false, cond, ◌||◌, List, [], ◌∷◌, ◌++◌, ◌-◌, append_assoc, append-nil, length, get_or, drop, refl, sym, ◌∙◌, ap, subst, arith}
use Rattle.std.proofs.lemmas.Bool.Decides.{nat_tests}
use Rattle.avm_outside.specs.DiskLog.{DiskState, IsImage, is_free, is_covered, image_from, image_of}

length-image : (s : DiskState) (p n : ℕ) (choice : List ℕ) → length (image_from s.bytes s.ranges s.extent.least p n choice) ≡ n
length-image s p zero choice = refl
length-image s p (suc n) choice = omega (arith, length-image s (p + 1) n (cond (is_free s.ranges s.extent.least p) (drop 1 choice) choice))

kept_if : (f : Bool) (x y : ℕ) → f ≡ false → cond f x y ≡ y
kept_if true x y h = absurd (cc h)
kept_if false x y h = refl

-- a place that isn't free keeps its byte
get_or-image : (s : DiskState) (p n : ℕ) (choice : List ℕ) (i : ℕ) → i < n → is_free s.ranges s.extent.least (p + i) ≡ false → get_or (image_from s.bytes s.ranges s.extent.least p n choice) i 0 ≡ get_or s.bytes (p + i) 0
get_or-image s p zero choice i lt kept = absurd (omega arith)
get_or-image s p (suc n) choice zero lt kept =
    let at : p + 0 ≡ p = omega arith in
    kept_if (is_free s.ranges s.extent.least p) (get_or choice 0 0) (get_or s.bytes p 0) (subst (λ (k : ℕ). is_free s.ranges s.extent.least k ≡ false) at kept) ∙ ap (λ (k : ℕ). get_or s.bytes k 0) (sym at)
get_or-image s p (suc n) choice (suc i) lt kept =
    let at : p + suc i ≡ p + 1 + i = omega arith in
    get_or-image s (p + 1) n (cond (is_free s.ranges s.extent.least p) (drop 1 choice) choice) i (omega arith) (subst (λ (k : ℕ). is_free s.ranges s.extent.least k ≡ false) at kept) ∙ ap (λ (k : ℕ). get_or s.bytes k 0) (sym at)

not_free : (w : Bool) (least p : ℕ) → w ≡ false → p < least → (w || leb least p) ≡ false
not_free true least p h lt = absurd (cc h)
not_free false least p h lt = grind (arith, nat_tests)

pub image_is : (s : DiskState) (len : ℕ) (choice : List ℕ) → s.extent.least ≤ len → len ≤ s.extent.most → IsImage s (image_of s len choice)
unfolding image_of
image_is s len choice low high = record {
  no_shorter = omega (arith, length-image s 0 len choice);
  no_longer = omega (arith, length-image s 0 len choice);
  kept = λ p lt unwritten.
      let at : 0 + p ≡ p = omega arith in
      get_or-image s 0 len choice p (omega arith) (subst (λ (k : ℕ). is_free s.ranges s.extent.least k ≡ false) (sym at) (not_free (is_covered p s.ranges) s.extent.least p unwritten lt)) ∙ ap (λ (k : ℕ). get_or s.bytes k 0) at;
}

-- the bytes of an image at the free places from a place on
pick : DiskState → ℕ → List ℕ → List ℕ
pick s p [] = []
pick s p (b ∷ c) = cond (is_free s.ranges s.extent.least p) (b ∷ pick s (p + 1) c) (pick s (p + 1) c)

picked : (s : DiskState) (p : ℕ) (c : List ℕ) → ((i : ℕ) → i < length c → is_free s.ranges s.extent.least (p + i) ≡ false → get_or c i 0 ≡ get_or s.bytes (p + i) 0) → image_from s.bytes s.ranges s.extent.least p (length c) (pick s p c) ≡ c
unfolding pick
picked s p [] kept = refl
picked s p (b ∷ c) kept =
    go (is_free s.ranges s.extent.least p) refl (picked s (p + 1) c (λ i lt f. let at : p + suc i ≡ p + 1 + i = omega arith in kept (suc i) (omega (arith, lt)) (subst (λ (k : ℕ). is_free s.ranges s.extent.least k ≡ false) (sym at) f) ∙ ap (λ (k : ℕ). get_or s.bytes k 0) at))
  where
    go : (f : Bool) → is_free s.ranges s.extent.least p ≡ f → image_from s.bytes s.ranges s.extent.least (p + 1) (length c) (pick s (p + 1) c) ≡ c
        → cond f (get_or (cond f (b ∷ pick s (p + 1) c) (pick s (p + 1) c)) 0 0) (get_or s.bytes p 0) ∷ image_from s.bytes s.ranges s.extent.least (p + 1) (length c) (cond f (drop 1 (cond f (b ∷ pick s (p + 1) c) (pick s (p + 1) c))) (cond f (b ∷ pick s (p + 1) c) (pick s (p + 1) c))) ≡ b ∷ c
    go true e rest = ap (λ (l : List ℕ). b ∷ l) rest
    go false e rest =
        let at : p + 0 ≡ p = omega arith in
        let same : b ≡ get_or s.bytes p 0 = kept 0 (omega arith) (subst (λ (k : ℕ). is_free s.ranges s.extent.least k ≡ false) (sym at) e) ∙ ap (λ (k : ℕ). get_or s.bytes k 0) at in
        ap (λ (x : ℕ). x ∷ image_from s.bytes s.ranges s.extent.least (p + 1) (length c) (pick s (p + 1) c)) (sym same) ∙ ap (λ (l : List ℕ). b ∷ l) rest

-- each image comes from a choice
pub image_comes : (s : DiskState) (c : List ℕ) → IsImage s c → (choice : List ℕ) × (image_of s (length c) choice ≡ c)
unfolding image_of
image_comes s c image = (
  pick s 0 c,
  picked s 0 c (λ i lt f.
      let at : 0 + i ≡ i = omega arith in
      let t = or_both (is_covered i s.ranges) (leb s.extent.least i) (subst (λ (k : ℕ). is_free s.ranges s.extent.least k ≡ false) at f) in
      image.kept i (below s.extent.least i t.1) t.0 ∙ ap (λ (k : ℕ). get_or s.bytes k 0) (sym at)),
)
  where
    below : (n i : ℕ) → leb n i ≡ false → i < n
    below n i e = grind (arith, nat_tests)

    or_both : (x y : Bool) → (x || y) ≡ false → (x ≡ false) × (y ≡ false)
    or_both false false h = (refl, refl)
    or_both false true h = absurd (cc h)
    or_both true y h = absurd (cc h)

-- one byte more, as a loop makes them
pub image_step : (bytes : List ℕ) (ranges : List (ℕ × ℕ)) (least p len : ℕ) (image left rest : List ℕ) (byte : ℕ) → p < len → byte ≡ cond (is_free ranges least p) (get_or left 0 0) (get_or bytes p 0) → rest ≡ cond (is_free ranges least p) (drop 1 left) left
    → (image ++ byte ∷ []) ++ image_from bytes ranges least (p + 1) (len - (p + 1)) rest ≡ image ++ image_from bytes ranges least p (len - p) left
image_step bytes ranges least p len image left rest byte lt is after =
    let n : len - p ≡ suc (len - (p + 1)) = omega arith in
    append_assoc image (byte ∷ []) (image_from bytes ranges least (p + 1) (len - (p + 1)) rest)
    ∙ ap (λ (l : List ℕ). image ++ l) (ap (λ (b : ℕ). b ∷ image_from bytes ranges least (p + 1) (len - (p + 1)) rest) is
    ∙ ap (λ (r : List ℕ). cond (is_free ranges least p) (get_or left 0 0) (get_or bytes p 0) ∷ image_from bytes ranges least (p + 1) (len - (p + 1)) r) after
    ∙ sym (ap (λ (m : ℕ). image_from bytes ranges least p m left) n))

pub image_end : (bytes : List ℕ) (ranges : List (ℕ × ℕ)) (least p len : ℕ) (image left whole : List ℕ) → len ≤ p → image ++ image_from bytes ranges least p (len - p) left ≡ whole → image ≡ whole
image_end bytes ranges least p len image left whole le is =
    let n : len - p ≡ 0 = omega arith in
    sym (append-nil image) ∙ sym (ap (λ (m : ℕ). image ++ image_from bytes ranges least p m left) n) ∙ is

-- an image that is made of a state's parts
pub image_made : (s : DiskState) (bytes : List ℕ) (ranges : List (ℕ × ℕ)) (least len : ℕ) (choice image : List ℕ) → image ≡ image_from bytes ranges least 0 len choice → bytes ≡ s.bytes → ranges ≡ s.ranges → least ≡ s.extent.least → image ≡ image_of s len choice
unfolding image_of
image_made s bytes ranges least len choice image is b r l =
    is ∙ ap (λ (x : List ℕ). image_from x ranges least 0 len choice) b ∙ ap (λ (x : List (ℕ × ℕ)). image_from s.bytes x least 0 len choice) r ∙ ap (λ (x : ℕ). image_from s.bytes s.ranges x 0 len choice) l
