-- The end of a roll: what stands there, and what writes leave of it.
use Rattle.std.proofs.Common.{◌≡◌, inl, inr, ℕ, ◌+◌, ◌<◌, ◌≤◌, ◌==◌, Bool, true, false, refl, sym, ◌∙◌, ap, subst, Option, None, Some, option_map, IfSome, List, [], ◌∷◌, ◌++◌, length, take, drop, arith, length-append, append_assoc, Result, Ok, Err, OnOk, OnErr, cond, ltb, lt-ltb}
use Rattle.std.proofs.lemmas.List.{take_at, drop_at}
use Rattle.std.proofs.lemmas.Bool.{ltb-true}
use Rattle.avm_num.specs.Bytes.{◌>>=◌, piece_at, kept}
use Rattle.avm_outside.specs.Outside.{BothTold}
use Rattle.avm_outside.specs.Disk.{Torn, overwritten}
use Rattle.avm_outside.specs.declared.files.Failed.{Failed}
use Rattle.avm_outside.specs.Moments.{IsShut}
use Rattle.avm_outside.proofs.Runs.{read_torn}
use Rattle.avm_outside.proofs.Images.{begins_torn}
use Rattle.disk_gates.specs.Writing.{IsWritten, IsShutOrWritten, Each}
use Rattle.hss_model.specs.Roll.{RollData, roll_of, roll_bytes, roll_end, most_of, bound_at, with_bottom, IsEither}
use Rattle.hss_model.proofs.Rolls.{FitsRoll, roll_front, roll_again, roll_long, shut_none, fits_with, with_bytes_of}
use Rattle.lms_hss.specs.Own.{HasRoom, is_shut}

-- a piece is there where its bytes are
long_piece : (n : ℕ) (bytes : List ℕ) → piece_at n bytes ≡ None → length bytes < n
long_piece n bytes e = go (ltb (length bytes) n) refl e
  where
    go : (b : Bool) → ltb (length bytes) n ≡ b → cond {A = Option (List ℕ × List ℕ)} b None (Some (take n bytes, drop n bytes)) ≡ None → length bytes < n
    go true t e = ltb-true _ _ t
    go false t e = absurd cc

short_piece : (n : ℕ) (bytes : List ℕ) → length bytes < n → piece_at n bytes ≡ None
short_piece n bytes lt = rw (lt-ltb (length bytes) n lt) refl

none_bind : (o : Option (List ℕ × List ℕ)) → (o >>= λ k. kept true k) ≡ None → o ≡ None
none_bind None e = refl
none_bind (Some k) e = absurd cc

-- too few bytes bind nothing
pub short_none : (rest : List ℕ) → length rest ≤ 56 → bound_at rest ≡ None
short_none [] le = refl
short_none (b ∷ rest) le = ap (λ (o : Option (List ℕ × List ℕ)). o >>= λ k. kept (b == 1) k) (short_piece 56 rest (omega (arith, le)))

-- where no gate is shut and nothing is bound, there are too few bytes
pub short_here : (rest : List ℕ) → is_shut (take 1 rest) ≡ false → bound_at rest ≡ None → length rest ≤ 56
short_here [] shut none = omega arith
short_here (b ∷ rest) shut none = go (b == 1) refl shut
  where
    go : (t : Bool) → (b == 1) ≡ t → cond t false true ≡ false → length (b ∷ rest) ≤ 56
    go false e s = absurd cc
    go true e s =
        let n : (piece_at 56 rest >>= λ k. kept true k) ≡ None = subst (λ (t : Bool). (piece_at 56 rest >>= λ k. kept t k) ≡ None) e none in
        omega (arith, long_piece 56 rest (none_bind (piece_at 56 rest) n))

pub shut_here : (front rest : List ℕ) → is_shut (take 1 rest) ≡ true → IsShut front (front ++ rest)
shut_here front [] shut = absurd cc
shut_here front (b ∷ rest) shut = go (b == 1) refl shut
  where
    go : (t : Bool) → (b == 1) ≡ t → cond t false true ≡ true → IsShut front (front ++ b ∷ rest)
    go true e s = absurd cc
    go false e s = (b, rest, refl, e)

-- an image with too few bytes behind a front
abbrev pub IsCut : List ℕ → List ℕ → Type 0
IsCut front c = (rest : List ℕ) × (c ≡ front ++ rest) × (length rest ≤ 56)

pub cut_torn : (front c d : List ℕ) → IsCut front d → Torn (length front) 1 d c → IsCut front c
cut_torn front c d cut torn =
    let b = begins_torn front c d (length front) 1 (cut.0, cut.1) (omega arith) torn in
    let was : length d ≡ length front + length cut.0 = ap length cut.1 ∙ length-append front cut.0 in
    let now : length c ≡ length front + length b.0 = ap length b.1 ∙ length-append front b.0 in
    (b.0, b.1, omega (arith, was, now, torn.no_longer, cut.2))

pub cut_shut : (front was : List ℕ) → IsCut front was → IsShut front (overwritten (length front) (0 ∷ []) was)
cut_shut front was cut =
    let first : take (length front) was ≡ front = ap (λ (l : List ℕ). take (length front) l) cut.1 ∙ take_at front cut.0 (length front) refl in
    let left = drop (length front + 1) was in
    (0, left, ap (λ (l : List ℕ). (l ++ 0 ∷ []) ++ left) first ∙ append_assoc front (0 ∷ []) left, refl)

module _ (r : RollData) (fits : FitsRoll r) (room : length r.bottoms < most_of r.key) where
  pub shut_is : (c : List ℕ) → IsShut (roll_bytes r) c → roll_of c ≡ Some r
  shut_is c shut = roll_again r c (shut.0 ∷ shut.1) (record { spelled = shut.2; fits = fits; ends = inr (shut_none shut.0 shut.1 shut.3) })

  pub cut_is : (c : List ℕ) → IsCut (roll_bytes r) c → roll_of c ≡ Some r
  cut_is c cut = roll_again r c cut.0 (record { spelled = cut.1; fits = fits; ends = inr (short_none cut.0 cut.2) })

  pub written_is : (k c : List ℕ) → length k ≡ 56 → IsWritten (roll_bytes r) (k ++ 0 ∷ []) c → roll_of c ≡ Some (with_bottom r k)
  written_is k c long written =
      let parts : c ≡ roll_bytes (with_bottom r k) ++ 0 ∷ written.0 =
      written.1 ∙ ap (λ (l : List ℕ). roll_bytes r ++ 1 ∷ l) (append_assoc k (0 ∷ []) written.0) ∙ sym (append_assoc (roll_bytes r) (1 ∷ k) (0 ∷ written.0)) ∙ ap (λ (l : List ℕ). l ++ 0 ∷ written.0) (sym (with_bytes_of r k)) in
      roll_again (with_bottom r k) c (0 ∷ written.0) (record { spelled = parts; fits = fits_with r k fits long room; ends = inr (shut_none 0 written.0 refl) })

  pub either_is : (k c : List ℕ) → length k ≡ 56 → IsShutOrWritten (roll_bytes r) (k ++ 0 ∷ []) c → IsEither r k c
  either_is k c long (inl shut) = inl (shut_is c shut)
  either_is k c long (inr written) = inr (written_is k c long written)

-- what stands at the end of an image of a roll that has a leaf left
pub record HasEnd (r : RollData) (gate : ℕ) (c : List ℕ) : Type 0 where
  pub rest : List ℕ
  pub spelled : c ≡ roll_bytes r ++ rest
  pub none : bound_at rest ≡ None
  pub fits : FitsRoll r
  pub long : length (roll_bytes r) ≡ gate
  pub behind : drop gate c ≡ rest

pub end_of : (r : RollData) (gate : ℕ) (c : List ℕ) → length r.bottoms < most_of r.key → gate ≡ roll_end (length r.bottoms) → roll_of c ≡ Some r → HasEnd r gate c
end_of r gate c room place e =
    let f = roll_front c r e in
    let none : bound_at f.0 ≡ None = elim f.1.ends [ inl full ↦ absurd (omega (arith, room, full)) | inr n ↦ n ] in
    let long : length (roll_bytes r) ≡ gate = roll_long r f.1.fits ∙ sym place in
    record { rest = f.0; spelled = f.1.spelled; none = none; fits = f.1.fits; long = long; behind = ap (λ (l : List ℕ). drop gate l) f.1.spelled ∙ drop_at (roll_bytes r) f.0 gate long }

pub image_shut : (r : RollData) (gate : ℕ) (c : List ℕ) → HasEnd r gate c → is_shut (take 1 (drop gate c)) ≡ true → IsShut (roll_bytes r) c
image_shut r gate c end shut = subst (λ (l : List ℕ). IsShut (roll_bytes r) l) (sym end.spelled) (shut_here (roll_bytes r) end.rest (ap (λ (l : List ℕ). is_shut (take 1 l)) (sym end.behind) ∙ shut))

pub image_cut : (r : RollData) (gate : ℕ) (c : List ℕ) → HasEnd r gate c → is_shut (take 1 (drop gate c)) ≡ false → IsCut (roll_bytes r) c
image_cut r gate c end shut = (end.rest, end.spelled, short_here end.rest (ap (λ (l : List ℕ). is_shut (take 1 l)) (sym end.behind) ∙ shut) end.none)

module _ (gate : ℕ) (images : List ℕ → Type 0) (was : List ℕ) (r : RollData) (own : HasRoom gate images was r) where
  pub end_was : HasEnd r gate was
  end_was = end_of r gate was own.room own.place own.disk.read

  end_left : (c : List ℕ) → images c → HasEnd r gate c
  end_left c left = end_of r gate c own.room own.place (own.disk.left c left)

  same_end : (c : List ℕ) → images c → is_shut (take 1 (drop gate c)) ≡ is_shut (take 1 (drop gate was))
  same_end c left = ap is_shut (subst (λ (n : ℕ). take 1 (drop n c) ≡ take 1 (drop n was)) (sym own.place) (own.disk.same c left))

  pub all_shut : is_shut (take 1 (drop gate was)) ≡ true → IsShut (roll_bytes r) was × Each images (IsShut (roll_bytes r))
  all_shut shut = (image_shut r gate was end_was shut, λ c left. image_shut r gate c (end_left c left) (same_end c left ∙ shut))

  pub all_cut : is_shut (take 1 (drop gate was)) ≡ false → IsCut (roll_bytes r) was × Each images (IsCut (roll_bytes r))
  all_cut shut = (image_cut r gate was end_was shut, λ c left. image_cut r gate c (end_left c left) (same_end c left ∙ shut))

-- what a write says of what is read, whether it came through or not
pub torn_now : (at : ℕ) (bytes : List ℕ) (x : Result (Unit {0}) Failed) (mid now : Option (List ℕ)) → IfSome mid (λ m. at ≤ length m) → OnOk x (now ≡ option_map (overwritten at bytes) mid) → OnErr x (BothTold mid now (Torn at (length bytes))) → BothTold mid now (Torn at (length bytes))
torn_now at bytes (Ok x) mid now within is torn = read_torn at bytes mid now now within is refl
torn_now at bytes (Err e) mid now within is torn = torn

-- two steps, one after another
pub both_then : {R S T : List ℕ → List ℕ → Type 0} → (old mid new : Option (List ℕ)) → BothTold old mid R → BothTold mid new S → ((x y z : List ℕ) → R x y → S y z → T x z) → BothTold old new T
both_then None None None a b f = tt
both_then None None (Some z) a b f = b
both_then None (Some y) new a b f = absurd a
both_then (Some x) None new a b f = absurd a
both_then (Some x) (Some y) None a b f = b
both_then (Some x) (Some y) (Some z) a b f = f x y z a b
