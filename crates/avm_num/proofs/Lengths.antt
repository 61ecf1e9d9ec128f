-- How many bytes a reader leaves, how many a spelling has, and that parts of bytes are bytes.
use Rattle.std.proofs.Common.{◌≡◌, ℕ, zero, suc, ◌+◌, ◌<◌, ◌≤◌, Bool, true, false, cond, ltb, List, [], ◌∷◌, ◌++◌, length, take, drop, Option, Some, None, refl, sym, ap, subst, ◌∙◌, arith, append-nil, append_assoc, lt-ltb}
use Rattle.std.specs.Int.{Width, w16, w32, w64, byte_len, from_be_bytes}
use Rattle.std.proofs.lemmas.Bool.{ltb-true, ltb-false}
use Rattle.std.proofs.lemmas.List.{length-drop, length-take-le, take_at, drop_at}
use Rattle.avm_num.specs.Bytes.{IsBytes, number_at, piece_at, byte_at}
use Rattle.avm_num.specs.Lists.{be, one, sized_at, list_bytes}
use Rattle.avm_num.proofs.Numbers.{bind_some, short_some, IsBytes-take, IsBytes-drop}

pub number_rest : (w : Width) (bytes : List ℕ) (p : ℕ × List ℕ) → number_at w bytes ≡ Some p → length p.1 + byte_len w ≡ length bytes
number_rest w bytes p e =
    let g = short_some (ltb (length bytes) (byte_len w)) (from_be_bytes w (take (byte_len w) bytes), drop (byte_len w) bytes) p e in
    let long : byte_len w ≤ length bytes = ltb-false _ _ g.0 in
    let r : length p.1 ≡ length (drop (byte_len w) bytes) = ap (λ (q : ℕ × List ℕ). length q.1) (sym g.1) in
    omega (arith, r, long, length-drop (byte_len w) bytes)

pub piece_rest : (n : ℕ) (bytes : List ℕ) (p : List ℕ × List ℕ) → piece_at n bytes ≡ Some p → length p.1 + n ≡ length bytes
piece_rest n bytes p e =
    let g = short_some (ltb (length bytes) n) (take n bytes, drop n bytes) p e in
    let long : n ≤ length bytes = ltb-false _ _ g.0 in
    let r : length p.1 ≡ length (drop n bytes) = ap (λ (q : List ℕ × List ℕ). length q.1) (sym g.1) in
    omega (arith, r, long, length-drop n bytes)

pub byte_rest : (bytes : List ℕ) (p : ℕ × List ℕ) → byte_at bytes ≡ Some p → length p.1 + 1 ≡ length bytes
byte_rest [] p e = absurd cc
byte_rest (b ∷ bytes) p e =
    let g : (b, bytes) ≡ p = cc in
    let r : length p.1 ≡ length bytes = ap (λ (q : ℕ × List ℕ). length q.1) (sym g) in
    omega (arith, r)

pub sized_rest : (bytes : List ℕ) (p : List ℕ × List ℕ) → sized_at (number_at w32) bytes ≡ Some p → length p.1 ≤ length bytes
sized_rest bytes p e =
    let a = bind_some (number_at w32 bytes) _ p e in
    omega (arith, number_rest w32 bytes a.0 a.1, piece_rest a.0.0 a.0.1 p a.2)

-- a part of bytes is bytes
pub front_bytes_are : (x y : List ℕ) → IsBytes (x ++ y) → IsBytes x
front_bytes_are x y fits = subst IsBytes (take_at x y (length x) refl) (IsBytes-take (length x) (x ++ y) fits)

pub back_bytes_are : (x y : List ℕ) → IsBytes (x ++ y) → IsBytes y
back_bytes_are x y fits = subst IsBytes (drop_at x y (length x) refl) (IsBytes-drop (length x) (x ++ y) fits)

pub middle_bytes_are : (bytes x y z : List ℕ) → IsBytes bytes → bytes ≡ x ++ (y ++ z) → IsBytes y
middle_bytes_are bytes x y z fits is = front_bytes_are y z (back_bytes_are x (y ++ z) (subst IsBytes is fits))

pub bytes_append : (a b : List ℕ) → IsBytes a → IsBytes b → IsBytes (a ++ b)
bytes_append [] b x y i = y i
bytes_append (n ∷ a) b x y zero = x 0
bytes_append (n ∷ a) b x y (suc i) = bytes_append a b (λ j. x (suc j)) y i

-- ---- a piece is there where its bytes are

pub piece_length : (n : ℕ) (bytes : List ℕ) (p : List ℕ × List ℕ) → piece_at n bytes ≡ Some p → length p.0 ≡ n
piece_length n bytes p e =
    let g = short_some (ltb (length bytes) n) (take n bytes, drop n bytes) p e in
    ap (λ (q : List ℕ × List ℕ). length q.0) (sym g.1) ∙ length-take-le n bytes (ltb-false _ _ g.0)

pub none_short : (n : ℕ) (bytes : List ℕ) → piece_at n bytes ≡ None → length bytes < n
none_short n bytes e = go (ltb (length bytes) n) refl e
  where
    go : (b : Bool) → ltb (length bytes) n ≡ b → cond {A = Option (List ℕ × List ℕ)} b None (Some (take n bytes, drop n bytes)) ≡ None → length bytes < n
    go true t e = ltb-true _ _ t
    go false t e = absurd cc

pub short_none : (n : ℕ) (bytes : List ℕ) → length bytes < n → piece_at n bytes ≡ None
short_none n bytes lt = rw (lt-ltb (length bytes) n lt) refl

-- ---- spellings

pub be16 : (n : ℕ) → length (be w16 n) ≡ 2
unfolding be
be16 n = refl

pub be32 : (n : ℕ) → length (be w32 n) ≡ 4
unfolding be
be32 n = refl

pub be64 : (n : ℕ) → length (be w64 n) ≡ 8
unfolding be
be64 n = refl

pub one1 : (n : ℕ) → length (one n) ≡ 1
unfolding one
one1 n = refl

-- items behind items
pub list_append : {A : Type 0} (spell : A → List ℕ) (xs ys : List A) → list_bytes spell (xs ++ ys) ≡ list_bytes spell xs ++ list_bytes spell ys
list_append spell [] ys = refl
list_append spell (x ∷ xs) ys = ap (λ (t : List ℕ). spell x ++ t) (list_append spell xs ys) ∙ sym (append_assoc (spell x) (list_bytes spell xs) (list_bytes spell ys))

pub list_push : {A : Type 0} (spell : A → List ℕ) (xs : List A) (x : A) → list_bytes spell (xs ++ x ∷ []) ≡ list_bytes spell xs ++ spell x
list_push spell xs x = list_append spell xs (x ∷ []) ∙ ap (λ (t : List ℕ). list_bytes spell xs ++ t) (append-nil (spell x))
