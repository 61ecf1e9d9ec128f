-- Numbers and bytes that a text spells.
use Rattle.std.proofs.Common.{◌≡◌, ◌≢◌, ℕ, zero, suc, ◌^◌, ◌<◌, ◌≤◌, ◌&&◌, ◌==◌, not, true, false, List, [], ◌∷◌, length, get_or, Option, Some, None, Result, Ok, Err, ltb, refl, sym, ap, ◌∙◌, arith, inl, inr, ◌⊎◌, subst}
use Rattle.std.specs.Fmt.{decimal}
use Rattle.std.specs.Result.{result_ok, OkIff}
use Rattle.std.specs.Str.{bytes_eq, IsUtf8}
use Rattle.std.proofs.lemmas.Str.{IsUtf8-from_ascii}
use Rattle.std.specs.Str.Parse.{digits_value, ParsesUnsigned, AllDigits, IsNumeral}
use Rattle.std.proofs.lemmas.Bool.{ltb-true, lt-ltb}
use Rattle.std.proofs.lemmas.Fmt.{decimal_is_IsNumeral, decimal-digits_value, decimal_digit, first_decimal, IsAscii-decimal}
use Rattle.std.proofs.lemmas.Slice.Eq.{bytes_eq-Decides}
use Rattle.std.proofs.lemmas.Str.Parse.{IsNumeralModel, numerals_by_value, tells_digits, parse_plain, digit_from_value}
use Rattle.avm_num.proofs.Numbers.{kept_some, and_true}
use Rattle.avm_model.specs.Words.{number_of}
use Rattle.avm_script.specs.Plain.{plain}

own : IsNumeralModel (AllDigits 10) (digits_value 10)
own = numerals_by_value (AllDigits 10) tells_digits

-- what is read is written so, and below the limit
pub number_some : (limit n : ℕ) (text : List ℕ) → number_of limit text ≡ Some n → (text ≡ decimal n) × (n < limit)
unfolding number_of
number_some limit n text e =
    let k = kept_some (bytes_eq (decimal (digits_value 10 text)) text && ltb (digits_value 10 text) limit) (digits_value 10 text) n e in
    let b = and_true (bytes_eq (decimal (digits_value 10 text)) text) (ltb (digits_value 10 text) limit) k.0 in
    let same : decimal (digits_value 10 text) ≡ text = (bytes_eq-Decides (decimal (digits_value 10 text)) text).0 b.0 in
    let lt : digits_value 10 text < limit = ltb-true (digits_value 10 text) limit b.1 in
    (sym same ∙ ap decimal k.1, subst (λ (v : ℕ). v < limit) k.1 lt)

-- and what is written so is read
pub number_is : (limit n : ℕ) (text : List ℕ) → text ≡ decimal n → n < limit → n < 2 ^ 64 → number_of limit text ≡ Some n
unfolding number_of
number_is limit n text e lt small =
    let v : digits_value 10 text ≡ n = ap (digits_value 10) e ∙ (decimal_is_IsNumeral n small).1 in
    let b : bytes_eq (decimal n) text ≡ true = (bytes_eq-Decides (decimal n) text).1 (sym e) in
    rw (v, b, lt-ltb n limit lt)

pub number_none : (limit : ℕ) (text : List ℕ) → ((n : ℕ) → n < limit → text ≡ decimal n → ⊥) → number_of limit text ≡ None
number_none limit text never =
    let go : (r : Option ℕ) → number_of limit text ≡ r → number_of limit text ≡ None =
    λ r. elim r as (λ r. number_of limit text ≡ r → number_of limit text ≡ None) [ None ↦ λ e. e | Some n ↦ λ e. let s = number_some limit n text e in absurd (never n s.1 s.0) ] in
    go (number_of limit text) refl

-- a number's first byte is a digit, and no needless zero
pub first_digit : (n : ℕ) (d : ℕ) (text : List ℕ) → n < 2 ^ 64 → (d ∷ text) ≡ decimal n → d ≢ 43
first_digit n d text small e sign =
    let all : IsNumeral 10 (d ∷ text) = subst (IsNumeral 10) (sym e) (decimal_is_IsNumeral n small).0 in
    let r = digit_from_value d all.1.0 in
    omega (arith, r.0, r.1)

pub no_zero : (n d c : ℕ) (text : List ℕ) → n < 2 ^ 64 → (d ∷ c ∷ text) ≡ decimal n → d ≢ 48
no_zero zero d c text small e is = absurd (omega (arith, ap length (e ∙ decimal_digit 0 (omega arith))))
no_zero (suc n) d c text small e is =
    let first : 48 < get_or (decimal (suc n)) 0 0 = first_decimal (suc n) (omega arith) small in
    let at : d ≡ get_or (decimal (suc n)) 0 0 = ap (λ (l : List ℕ). get_or l 0 0) e in
    omega arith

pub plain_no : (text : List ℕ) → plain text ≡ false → number_of (2 ^ 64) text ≡ None
plain_no [] h = absurd cc
plain_no (d ∷ []) h = number_none (2 ^ 64) (d ∷ []) (λ n small e. first_digit n d [] small e (sign d h))
  where
    sign : (d : ℕ) → not (d == 43) ≡ false → d ≡ 43
    sign d h = grind arith
plain_no (d ∷ c ∷ text) h = number_none (2 ^ 64) (d ∷ c ∷ text) (λ n small e. elim (either d h) [ inl s ↦ first_digit n d (c ∷ text) small e s | inr z ↦ no_zero n d c text small e z ])
  where
    either : (d : ℕ) → (not (d == 43) && not (d == 48)) ≡ false → (d ≡ 43) ⊎ (d ≡ 48)
    either d h = grind arith

pub plain_front : (text : List ℕ) → plain text ≡ true → get_or text 0 0 ≢ 43
plain_front [] h = λ e. omega (arith, e)
plain_front (d ∷ []) h = sign d h
  where
    sign : (d : ℕ) → not (d == 43) ≡ true → d ≢ 43
    sign d h = λ e. grind arith
plain_front (d ∷ c ∷ text) h = sign d h
  where
    sign : (d : ℕ) → (not (d == 43) && not (d == 48)) ≡ true → d ≢ 43
    sign d h = λ e. grind arith

pub plain_zero : (text : List ℕ) → plain text ≡ true → 0 < length text → get_or text 0 0 ≡ 48 → length text ≡ 1
plain_zero [] h some z = absurd (omega arith)
plain_zero (d ∷ []) h some z = refl
plain_zero (d ∷ c ∷ text) h some z = absurd (none d h z)
  where
    none : (d : ℕ) → (not (d == 43) && not (d == 48)) ≡ true → d ≢ 48
    none d h = λ e. grind arith

-- what parsing gives for a text without a sign or a needless zero in front
pub plain_parsed : {E : Type 0} (text : List ℕ) (r : Result ℕ E) → ParsesUnsigned 64 10 text r → plain text ≡ true → result_ok r ≡ number_of (2 ^ 64) text
plain_parsed {E} text (Ok x) h p =
    let g : OkIff {E = E} (Ok x) (AllDigits 10 text × (0 < length text) × (digits_value 10 text < 2 ^ 64)) (digits_value 10 text) = parse_plain own {E = E} 64 text (Ok x) h (plain_front text p) in
    let back : decimal (digits_value 10 text) ≡ text = decimal-digits_value own text g.0.0 g.0.1 (plain_zero text p g.0.1) g.0.2 in
    let n = number_is (2 ^ 64) (digits_value 10 text) text (sym back) g.0.2 g.0.2 in
    ap Some (g.1) ∙ sym n
plain_parsed text (Err e) h p =
    let g : OkIff (Err e) (AllDigits 10 text × (0 < length text) × (digits_value 10 text < 2 ^ 64)) (digits_value 10 text) = parse_plain own 64 text (Err e) h (plain_front text p) in
    sym (number_none (2 ^ 64) text (λ n small is.
    let d = decimal_is_IsNumeral n small in
    let numeral : IsNumeral 10 text = subst (IsNumeral 10) (sym is) d.0 in
    let v : digits_value 10 text ≡ n = ap (digits_value 10) is ∙ d.1 in
    g (numeral.1, numeral.0, omega arith)))

-- the same number below a smaller limit
pub below_some : (limit n : ℕ) (text : List ℕ) → number_of (2 ^ 64) text ≡ Some n → n < limit → number_of limit text ≡ Some n
below_some limit n text e lt = let s = number_some (2 ^ 64) n text e in number_is limit n text s.0 lt s.1

pub below_none : (limit : ℕ) (text : List ℕ) → number_of (2 ^ 64) text ≡ None → limit < 2 ^ 64 → number_of limit text ≡ None
below_none limit text e small = number_none limit text (λ n lt is. let s : number_of (2 ^ 64) text ≡ Some n = number_is (2 ^ 64) n text is (omega arith) (omega arith) in let bad : Some n ≡ None = sym s ∙ e in cc)

pub below_over : (limit n : ℕ) (text : List ℕ) → number_of (2 ^ 64) text ≡ Some n → limit ≤ n → limit < 2 ^ 64 → number_of limit text ≡ None
below_over limit n text e over small = number_none limit text (λ m lt is.
    let s : number_of (2 ^ 64) text ≡ Some m = number_is (2 ^ 64) m text is (omega arith) (omega arith) in
    let same : n ≡ m = one n m (sym e ∙ s) in
    omega arith)
  where
    one : (n m : ℕ) → Some n ≡ Some m → n ≡ m
    one n m e = cc

-- bytes that are no text are no number
pub not_utf8 : (text : List ℕ) → (IsUtf8 text → ⊥) → number_of (2 ^ 64) text ≡ None
not_utf8 text never = number_none (2 ^ 64) text (λ n small is. never (subst IsUtf8 (sym is) (IsUtf8-from_ascii (decimal n) (IsAscii-decimal n small))))
