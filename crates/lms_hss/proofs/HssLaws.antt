-- The test of an HSS signature, and its parts.
use Rattle.std.proofs.Common.{◌≡◌, ℕ, ◌+◌, ◌-◌, ◌<◌, ◌≤◌, ◌==◌, ◌&&◌, Bool, true, false, refl, sym, ◌∙◌, ap, ap₂, subst, List, [], ◌∷◌, ◌++◌, length, take, drop, arith, IsTrue, ◌↔◌, length-append, take-append-drop}
use Rattle.std.specs.Int.{w32}
use Rattle.std.specs.Str.{bytes_eq}
use Rattle.std.proofs.lemmas.Slice.Eq.{bytes_eq-Decides}
use Rattle.std.proofs.lemmas.List.{take_at, drop_at, drop-drop, take_rest}
use Rattle.avm_num.specs.Lists.{be}
use Rattle.avm_num.proofs.Numbers.{and_true}
use Rattle.avm_model.specs.LmsValid.{Valid, has_types, number}
use Rattle.avm_model.specs.Keys.{public_file}
use Rattle.avm_model.proofs.LmsTest.{has_types-decides}
use Rattle.hss_model.specs.Hss.{is_hss_key, HssValid, signature_length, upper_of, bottom_of, lower_of}

-- the parts where they stand
pub record HasParts (key text sig : List ℕ) (n : ℕ) : Type 0 where
  pub mark : take 4 key ≡ 0 ∷ 0 ∷ 0 ∷ 2 ∷ []
  pub sig_mark : take 4 sig ≡ 0 ∷ 0 ∷ 0 ∷ 1 ∷ []
  pub key_long : length key ≡ 60
  pub long : n + 60 ≤ length sig
  pub length_is : n ≡ signature_length (drop 4 key)
  pub binds : Valid (drop 4 key) (bottom_of n sig) (upper_of n sig)
  pub signs : Valid (bottom_of n sig) text (lower_of n sig)

pub parts_of : (key text sig : List ℕ) → HssValid key text sig → HasParts key text sig (signature_length (drop 4 key))
unfolding be
parts_of key text sig h =
    let four : List ℕ = 0 ∷ 0 ∷ 0 ∷ 2 ∷ [] in
    let one : List ℕ = 0 ∷ 0 ∷ 0 ∷ 1 ∷ [] in
    let k : key ≡ four ++ h.top = h.key_layout in
    let s : sig ≡ one ++ (h.upper ++ (h.bottom ++ h.lower)) = h.sig_layout in
    let top : drop 4 key ≡ h.top = ap (λ (l : List ℕ). drop 4 l) k in
    let n : length h.upper ≡ signature_length h.top = h.binds.by.exact in
    let size : length h.upper ≡ signature_length (drop 4 key) = n ∙ ap signature_length (sym top) in
    let b : length h.bottom ≡ 56 = h.signs.exact in
    let behind : drop 4 sig ≡ h.upper ++ (h.bottom ++ h.lower) = ap (λ (l : List ℕ). drop 4 l) s in
    let upper : take (length h.upper) (drop 4 sig) ≡ h.upper = ap (λ (l : List ℕ). take (length h.upper) l) behind ∙ take_at h.upper (h.bottom ++ h.lower) (length h.upper) refl in
    let tail : drop (4 + length h.upper) sig ≡ h.bottom ++ h.lower = sym (drop-drop (length h.upper) 4 sig) ∙ ap (λ (l : List ℕ). drop (length h.upper) l) behind ∙ drop_at h.upper (h.bottom ++ h.lower) (length h.upper) refl in
    let bottom : take 56 (drop (4 + length h.upper) sig) ≡ h.bottom = ap (λ (l : List ℕ). take 56 l) tail ∙ take_at h.bottom h.lower 56 b in
    let place : 4 + length h.upper + 56 ≡ 60 + length h.upper = omega arith in
    let lower : drop (60 + length h.upper) sig ≡ h.lower = ap (λ (m : ℕ). drop m sig) (sym place) ∙ sym (drop-drop 56 (4 + length h.upper) sig) ∙ ap (λ (l : List ℕ). drop 56 l) tail ∙ drop_at h.bottom h.lower 56 b in
    let long : length sig ≡ 4 + (length h.upper + (56 + length h.lower)) = omega (arith, ap length s, length-append h.upper (h.bottom ++ h.lower), length-append h.bottom h.lower, b) in
    let key_size : length key ≡ 60 = omega (arith, ap length k, h.binds.exact) in
    let here : HasParts key text sig (length h.upper) = record {
      mark = ap (λ (l : List ℕ). take 4 l) k;
      sig_mark = ap (λ (l : List ℕ). take 4 l) s;
      key_long = key_size;
      long = omega (arith, long);
      length_is = size;
      binds = subst (λ (l : List ℕ). Valid l (bottom_of (length h.upper) sig) (upper_of (length h.upper) sig)) (sym top) (subst (λ (l : List ℕ). Valid h.top l (upper_of (length h.upper) sig)) (sym bottom) (subst (λ (l : List ℕ). Valid h.top h.bottom l) (sym upper) h.binds));
      signs = subst (λ (l : List ℕ). Valid l text (lower_of (length h.upper) sig)) (sym bottom) (subst (λ (l : List ℕ). Valid h.bottom text l) (sym lower) h.signs);
    } in
    subst (λ (m : ℕ). HasParts key text sig m) size here

-- parts where they stand are a signature
pub valid_of : (key text sig : List ℕ) (n : ℕ) → take 4 key ≡ 0 ∷ 0 ∷ 0 ∷ 2 ∷ [] → take 4 sig ≡ 0 ∷ 0 ∷ 0 ∷ 1 ∷ [] → Valid (drop 4 key) (bottom_of n sig) (upper_of n sig) → Valid (bottom_of n sig) text (lower_of n sig) → HssValid key text sig
unfolding be
valid_of key text sig n mark sig_mark binds signs =
    let k : key ≡ 0 ∷ 0 ∷ 0 ∷ 2 ∷ drop 4 key = sym (take-append-drop 4 key) ∙ ap (λ (l : List ℕ). l ++ drop 4 key) mark in
    let place : 4 + n + 56 ≡ 60 + n = omega arith in
    let tail : drop (4 + n) sig ≡ bottom_of n sig ++ lower_of n sig = sym (take-append-drop 56 (drop (4 + n) sig)) ∙ ap (λ (l : List ℕ). bottom_of n sig ++ l) (drop-drop 56 (4 + n) sig ∙ ap (λ (m : ℕ). drop m sig) place) in
    let behind : drop 4 sig ≡ upper_of n sig ++ (bottom_of n sig ++ lower_of n sig) = sym (take-append-drop n (drop 4 sig)) ∙ ap (λ (l : List ℕ). upper_of n sig ++ l) (drop-drop n 4 sig ∙ tail) in
    let s : sig ≡ 0 ∷ 0 ∷ 0 ∷ 1 ∷ (upper_of n sig ++ (bottom_of n sig ++ lower_of n sig)) = sym (take-append-drop 4 sig) ∙ ap₂ (λ (x y : List ℕ). x ++ y) sig_mark behind in
    record { top = drop 4 key; upper = upper_of n sig; bottom = bottom_of n sig; lower = lower_of n sig; key_layout = k; sig_layout = s; binds = binds; signs = signs }

-- a refusal is right where no signature can be valid
refused : (key text sig : List ℕ) → (HssValid key text sig → ⊥) → IsTrue false ↔ HssValid key text sig
refused key text sig never = (λ t. absurd cc, λ h. absurd (never h))

public_top : (key text sig : List ℕ) → Valid key text sig → public_file key ≡ true
unfolding public_file has_types
public_top key text sig v =
    let t = (has_types-decides (number key 0) (number key 4)).1 (v.by.lms_type, v.by.ots_type) in
    ap₂ (λ (a : ℕ) (b : Bool). (a == 56) && b) v.exact t

pub no_key_length : (key text sig : List ℕ) → (length key ≡ 60 → ⊥) → IsTrue false ↔ HssValid key text sig
no_key_length key text sig ne = refused key text sig (λ h. ne (parts_of key text sig h).key_long)

pub no_key : (key text sig : List ℕ) → is_hss_key key ≡ false → IsTrue false ↔ HssValid key text sig
unfolding is_hss_key be
no_key key text sig e = refused key text sig (λ h.
    let p = parts_of key text sig h in
    let t : is_hss_key key ≡ true = ap₂ (λ (a : List ℕ) (b : Bool). bytes_eq a (0 ∷ 0 ∷ 0 ∷ 2 ∷ []) && b) p.mark (public_top (drop 4 key) _ _ p.binds) in
    absurd (let q : true ≡ false = sym t ∙ e in cc))

pub no_length : (key text sig : List ℕ) (n : ℕ) → n ≡ signature_length (drop 4 key) → length sig < n + 60 → IsTrue false ↔ HssValid key text sig
no_length key text sig n is lt = refused key text sig (λ h. let p = (parts_of key text sig h).long in omega (arith, is, lt, p))

pub no_mark : (key text sig : List ℕ) → bytes_eq (take 4 sig) (0 ∷ 0 ∷ 0 ∷ 1 ∷ []) ≡ false → IsTrue false ↔ HssValid key text sig
no_mark key text sig e = refused key text sig (λ h.
    let p = (parts_of key text sig h).sig_mark in
    let t : bytes_eq (take 4 sig) (0 ∷ 0 ∷ 0 ∷ 1 ∷ []) ≡ true = ap (λ (a : List ℕ). bytes_eq a (0 ∷ 0 ∷ 0 ∷ 1 ∷ [])) p in
    absurd (let q : true ≡ false = sym t ∙ e in cc))

pub by_parts : (key text sig : List ℕ) (n : ℕ) (b : Bool) → is_hss_key key ≡ true → n ≡ signature_length (drop 4 key) → bytes_eq (take 4 sig) (0 ∷ 0 ∷ 0 ∷ 1 ∷ []) ≡ true
    → IsTrue b ↔ (Valid (drop 4 key) (bottom_of n sig) (upper_of n sig) × Valid (bottom_of n sig) text (lower_of n sig)) → IsTrue b ↔ HssValid key text sig
unfolding is_hss_key be
by_parts key text sig n b is_key is mark both =
    let k = and_true (bytes_eq (take 4 key) (0 ∷ 0 ∷ 0 ∷ 2 ∷ [])) _ is_key in
    let first : take 4 key ≡ 0 ∷ 0 ∷ 0 ∷ 2 ∷ [] = (bytes_eq-Decides _ _).0 k.0 in
    let second : take 4 sig ≡ 0 ∷ 0 ∷ 0 ∷ 1 ∷ [] = (bytes_eq-Decides _ _).0 mark in (
      λ t. let v = both.0 t in valid_of key text sig n first second v.0 v.1,
      λ h. let p = subst (λ (m : ℕ). HasParts key text sig m) (sym is) (parts_of key text sig h) in both.1 (p.binds, p.signs),
    )

-- the key behind its first four bytes, as a slice of it
pub behind_four : (key : List ℕ) → take (length key - 4) (drop 4 key) ≡ drop 4 key
behind_four key = take_rest key 4

pub top_public : (key : List ℕ) → is_hss_key key ≡ true → public_file (drop 4 key) ≡ true
unfolding is_hss_key
top_public key e = (and_true (bytes_eq (take 4 key) (be w32 2)) _ e).1

-- two verifications over slices of a signature
pub both_valid : (top text sig : List ℕ) (n : ℕ) (a b : Bool) → IsTrue a ↔ Valid top (take (60 + n - (4 + n)) (drop (4 + n) sig)) (take (4 + n - 4) (drop 4 sig)) → a ≡ true
    → IsTrue b ↔ Valid (take (60 + n - (4 + n)) (drop (4 + n) sig)) text (take (length sig - (60 + n)) (drop (60 + n) sig))
    → IsTrue b ↔ (Valid top (bottom_of n sig) (upper_of n sig) × Valid (bottom_of n sig) text (lower_of n sig))
both_valid top text sig n a b one t two =
    let e : 60 + n - (4 + n) ≡ 56 = omega arith in
    let f : 4 + n - 4 ≡ n = omega arith in
    let v : Valid top (bottom_of n sig) (upper_of n sig) = subst (λ (m : ℕ). Valid top (take m (drop (4 + n) sig)) (upper_of n sig)) e (subst (λ (m : ℕ). Valid top (take (60 + n - (4 + n)) (drop (4 + n) sig)) (take m (drop 4 sig))) f (one.0 t)) in
    let w : IsTrue b ↔ Valid (bottom_of n sig) text (lower_of n sig) = subst (λ (m : ℕ). IsTrue b ↔ Valid (take m (drop (4 + n) sig)) text (lower_of n sig)) e (subst (λ (l : List ℕ). IsTrue b ↔ Valid (take (60 + n - (4 + n)) (drop (4 + n) sig)) text l) (take_rest sig (60 + n)) two) in
    (λ s. (v, w.0 s), λ p. w.1 p.1)

pub one_invalid : (top text sig : List ℕ) (n : ℕ) (a : Bool) → IsTrue a ↔ Valid top (take (60 + n - (4 + n)) (drop (4 + n) sig)) (take (4 + n - 4) (drop 4 sig)) → a ≡ false
    → IsTrue false ↔ (Valid top (bottom_of n sig) (upper_of n sig) × Valid (bottom_of n sig) text (lower_of n sig))
one_invalid top text sig n a one t =
    let e : 60 + n - (4 + n) ≡ 56 = omega arith in
    let f : 4 + n - 4 ≡ n = omega arith in
    (λ s. absurd cc, λ p. absurd (let q = one.1 (subst (λ (m : ℕ). Valid top (take m (drop (4 + n) sig)) (take (4 + n - 4) (drop 4 sig))) (sym e) (subst (λ (m : ℕ). Valid top (bottom_of n sig) (take m (drop 4 sig))) (sym f) p.0)) in let z : true ≡ false = sym q ∙ t in cc))
