-- What is widened is narrowed to what it was.
use Rattle.std.proofs.Common.{◌≡◌, ℕ, ◌+◌, ◌≤◌, ◌^◌, nat_le, Bool, true, refl, sym, ◌∙◌, ap, ap₂, subst, Option, None, List, [], ◌∷◌, ◌++◌, length, length-append, map, take, drop, arith, append_assoc, le-leb, leb-true, if◌then◌else◌}
use Rattle.std.specs.Int.{w32, w64}
use Rattle.std.specs.Str.{bytes_eq}
use Rattle.std.proofs.lemmas.Slice.Eq.{bytes_eq-Decides}
use Rattle.std.proofs.lemmas.List.{take_at, drop_at, drop-drop}
use Rattle.avm_num.specs.Bytes.{piece_at, number_at}
use Rattle.avm_num.specs.Lists.{be, sized_at, sized_bytes, list_bytes}
use Rattle.avm_num.specs.Walk.{all_at}
use Rattle.avm_num.proofs.Numbers.{bind_some, kept_some, Front}
use Rattle.avm_num.proofs.Fields.{Reads, start, next, ends, goes, reads_piece, reads_sized, reads_32}
use Rattle.avm_num.proofs.Walks.{Shortens, all_again}
use Rattle.avm_model.specs.Parts.{ordinal_at}
use Rattle.avm_model.proofs.PartLengths.{ordinal_rest, piece_rest, sized_rest}
use Rattle.std.specs.List.{AllByRecursion}
use Rattle.std.proofs.lemmas.List.Elements.{All-from_recursion}
use Rattle.avm_model.specs.Auth.{FitsAuth, AuthData, auth_bytes, signed_text_of}
use Rattle.avm_model.specs.LmsValid.{valid}
use Rattle.avm_model.proofs.PartLaws.{reads_ordinal}
use Rattle.hss_model.specs.Hss.{hss_key, hss_signature, hss_valid, hss_valid_at, signature_length, upper_of, bottom_of, lower_of}
use Rattle.hss_model.specs.HssFile.{longest_hss_signature, hss_signature_at, hss_auth_at, FitsHssAuth, EndorsementData, widened, narrowed, first_failing, is_good, widen_of, narrow_of, narrow_auths, bad_or, mixed_or, Narrows, Malformed, AreValid}

reads_hss_signature : Reads hss_signature_at (sized_bytes (be w32)) (λ sig. length sig ≤ longest_hss_signature)
unfolding hss_signature_at
reads_hss_signature = record {
  front = λ bytes p fits e.
      let a = next (reads_sized reads_32) bytes [] bytes (start bytes fits) _ p e in
      let k = kept_some (nat_le (length a.0.0) longest_hss_signature) a.0 p a.3 in
      subst (λ (q : List ℕ × List ℕ). Front bytes (sized_bytes (be w32) q.0) q.1 × (length q.0 ≤ longest_hss_signature)) k.1 (a.1, leb-true _ _ k.0);
  again = λ sig rest le. goes (reads_sized reads_32) sig rest _ (omega (arith, le)) ∙ rw (le-leb _ _ le) refl;
}

pub reads_hss_auth : Reads hss_auth_at auth_bytes FitsHssAuth
unfolding hss_auth_at auth_bytes
reads_hss_auth = record {
  front = λ bytes p fits e.
      let a = next reads_ordinal bytes [] bytes (start bytes fits) _ p e in
      let b = next (reads_piece 32) bytes _ _ a.1 _ p a.3 in
      let c = next reads_hss_signature bytes _ _ b.1 _ p b.3 in
      ends auth_bytes FitsHssAuth bytes _ p c.3 c.1 (record { seq = a.2; hash = b.2; sig = c.2 });
  again = λ x rest fits.
      let regrouped : auth_bytes x ++ rest ≡ be w64 x.seq ++ (x.hash ++ (sized_bytes (be w32) x.sig ++ rest)) = simp append_assoc in
      ap hss_auth_at regrouped ∙ goes reads_ordinal x.seq _ _ fits.seq ∙ goes (reads_piece 32) x.hash _ _ fits.hash ∙ goes reads_hss_signature x.sig _ _ fits.sig;
}

-- the parts of a widened signature
module _ (upper bottom lower : List ℕ) (long : length bottom ≡ 56) where
  behind_mark : drop 4 (hss_signature upper bottom lower) ≡ upper ++ (bottom ++ lower)
  unfolding be
  behind_mark = refl

  pub upper_again : upper_of (length upper) (hss_signature upper bottom lower) ≡ upper
  upper_again = ap (λ (l : List ℕ). take (length upper) l) behind_mark ∙ take_at upper (bottom ++ lower) (length upper) refl

  behind_upper : drop (4 + length upper) (hss_signature upper bottom lower) ≡ bottom ++ lower
  behind_upper = sym (drop-drop (length upper) 4 (hss_signature upper bottom lower)) ∙ ap (λ (l : List ℕ). drop (length upper) l) behind_mark ∙ drop_at upper (bottom ++ lower) (length upper) refl

  pub bottom_again : bottom_of (length upper) (hss_signature upper bottom lower) ≡ bottom
  bottom_again = ap (λ (l : List ℕ). take 56 l) behind_upper ∙ take_at bottom lower 56 long

  pub lower_again : lower_of (length upper) (hss_signature upper bottom lower) ≡ lower
  lower_again =
      let place : 4 + length upper + 56 ≡ 60 + length upper = omega arith in
      ap (λ (m : ℕ). drop m (hss_signature upper bottom lower)) (sym place) ∙ sym (drop-drop 56 (4 + length upper) (hss_signature upper bottom lower)) ∙ ap (λ (l : List ℕ). drop 56 l) behind_upper ∙ drop_at bottom lower 56 long

  pub valid_again : (top text : List ℕ) → length upper ≡ signature_length top → valid top bottom upper ≡ true → valid bottom text lower ≡ true → hss_valid (hss_key top) text (hss_signature upper bottom lower) ≡ true
  unfolding hss_valid be
  valid_again top text size binds signs =
      subst (λ (n : ℕ). hss_valid_at n top text (hss_signature upper bottom lower) ≡ true) size (rw (upper_again, bottom_again, lower_again, binds, signs) refl)

-- one authenticator, and a list of them
pub narrow_widened : (e : EndorsementData) (n : ℕ) (a : AuthData) → length e.bottom ≡ 56 → length e.upper ≡ n → narrowed n (widened e a) ≡ a
narrow_widened e n a long size = subst (λ (m : ℕ). narrowed m (widened e a) ≡ a) size (ap (λ (l : List ℕ). the_auth a.seq a.hash l) (lower_again e.upper e.bottom a.sig long))
  where
    the_auth : ℕ → List ℕ → List ℕ → AuthData
    the_auth seq hash sig = record { seq = seq; hash = hash; sig = sig }

pub map_again : (e : EndorsementData) (n : ℕ) (auths : List AuthData) → length e.bottom ≡ 56 → length e.upper ≡ n → map (narrowed n) (map (widened e) auths) ≡ auths
map_again e n [] long size = refl
map_again e n (a ∷ auths) long size = ap₂ (λ (x : AuthData) (xs : List AuthData). x ∷ xs) (narrow_widened e n a long size) (map_again e n auths long size)

-- the reader takes bytes from the front
pub hss_auth_shortens : Shortens hss_auth_at
unfolding hss_auth_at hss_signature_at
hss_auth_shortens = record {
  short = λ bytes p e.
      let a = bind_some (ordinal_at bytes) _ p e in
      let b = bind_some (piece_at 32 a.0.1) _ p a.2 in
      let c = bind_some (hss_signature_at b.0.1) _ p b.2 in
      let s = bind_some (sized_at (number_at w32) b.0.1) _ c.0 c.1 in
      let k = kept_some (nat_le (length s.0.0) longest_hss_signature) s.0 c.0 s.2 in
      let is : (record { seq = a.0.0; hash = b.0.0; sig = c.0.0 }, c.0.1) ≡ p = cc (c.2) in
      let r : length c.0.1 ≡ length p.1 = ap (λ (q : AuthData × List ℕ). length q.1) is in
      let t : length s.0.1 ≡ length c.0.1 = ap (λ (q : List ℕ × List ℕ). length q.1) k.1 in
      omega (arith, r, t, ordinal_rest bytes a.0 a.1, piece_rest 32 a.0.1 b.0 b.1, sized_rest b.0.1 s.0 s.1);
}

fits_widened : (e : EndorsementData) (a : AuthData) → length e.bottom ≡ 56 → length e.upper ≤ 9324 → FitsAuth a → FitsHssAuth (widened e a)
unfolding be
fits_widened e a long short fits = record {
  seq = fits.seq;
  hash = fits.hash;
  sig = let s = fits.sig in omega (arith, s, long, short, length-append e.upper (e.bottom ++ a.sig), length-append e.bottom a.sig);
}

all_fit : (e : EndorsementData) (auths : List AuthData) → length e.bottom ≡ 56 → length e.upper ≤ 9324 → AreValid e auths → AllByRecursion FitsHssAuth (map (widened e) auths)
all_fit e [] long short valid = tt
all_fit e (a ∷ auths) long short valid = (fits_widened e a long short valid.0, all_fit e auths long short valid.2)

none_bad : (top : List ℕ) (e : EndorsementData) (auths : List AuthData) → length e.bottom ≡ 56 → length e.upper ≡ signature_length top → valid top e.bottom e.upper ≡ true → AreValid e auths → first_failing (is_good top) (map (widened e) auths) ≡ None
none_bad top e [] long size binds valid = refl
none_bad top e (a ∷ auths) long size binds valid =
    rw (valid_again e.upper e.bottom a.sig long top (signed_text_of a.seq a.hash) size binds valid.1, none_bad top e auths long size binds valid.2) refl

none_mixed : (n : ℕ) (e : EndorsementData) (bottom : List ℕ) (auths : List AuthData) → length e.bottom ≡ 56 → length e.upper ≡ n → bottom ≡ e.bottom → first_failing (λ b. bytes_eq (bottom_of n b.sig) bottom) (map (widened e) auths) ≡ None
none_mixed n e bottom [] long size is = refl
none_mixed n e bottom (a ∷ auths) long size is =
    let b : bottom_of n (hss_signature e.upper e.bottom a.sig) ≡ bottom = subst (λ (m : ℕ). bottom_of m (hss_signature e.upper e.bottom a.sig) ≡ bottom) size (bottom_again e.upper e.bottom a.sig long ∙ sym is) in
    let t : bytes_eq (bottom_of n (hss_signature e.upper e.bottom a.sig)) bottom ≡ true = (bytes_eq-Decides _ _).1 b in
    rw (t, none_mixed n e bottom auths long size is) refl

-- what is widened from valid authenticators and an endorsement of their key is narrowed to them
pub round_trip : (top : List ℕ) (e : EndorsementData) (a : AuthData) (auths : List AuthData) → length e.bottom ≡ 56 → length e.upper ≤ 9324 → length e.upper ≡ signature_length top → valid top e.bottom e.upper ≡ true → AreValid e (a ∷ auths)
    → length (widen_of e (a ∷ auths)) ≤ 2 ^ 25 → narrow_of top (widen_of e (a ∷ auths)) ≡ Narrows e.bottom (a ∷ auths)
unfolding widen_of narrow_of
round_trip top e a auths long short size binds valid few =
    let n = signature_length top in
    let read = all_again hss_auth_at auth_bytes FitsHssAuth reads_hss_auth hss_auth_shortens (map (widened e) (a ∷ auths)) (All-from_recursion FitsHssAuth (map (widened e) (a ∷ auths)) (all_fit e (a ∷ auths) long short valid)) in
    let b : bottom_of n (hss_signature e.upper e.bottom a.sig) ≡ e.bottom = subst (λ (m : ℕ). bottom_of m (hss_signature e.upper e.bottom a.sig) ≡ e.bottom) size (bottom_again e.upper e.bottom a.sig long) in
    let good = none_bad top e (a ∷ auths) long size binds valid in
    let same = none_mixed n e (bottom_of n (hss_signature e.upper e.bottom a.sig)) (a ∷ auths) long size b in
    let back = map_again e n (a ∷ auths) long size in
    ap (λ (t : Bool). if t then narrow_auths top (all_at hss_auth_at (list_bytes auth_bytes (map (widened e) (a ∷ auths)))) else Malformed) (le-leb _ _ few)
    ∙ ap (λ (o : Option (List AuthData)). narrow_auths top o) read
    ∙ ap (λ (o : Option ℕ). bad_or o (mixed_or (bottom_of n (hss_signature e.upper e.bottom a.sig)) n (map (widened e) (a ∷ auths)) (first_failing (λ x. bytes_eq (bottom_of n x.sig) (bottom_of n (hss_signature e.upper e.bottom a.sig))) (map (widened e) (a ∷ auths))))) good
    ∙ ap (λ (o : Option ℕ). mixed_or (bottom_of n (hss_signature e.upper e.bottom a.sig)) n (map (widened e) (a ∷ auths)) o) same
    ∙ ap₂ (λ (x : List ℕ) (xs : List AuthData). Narrows x xs) b back
