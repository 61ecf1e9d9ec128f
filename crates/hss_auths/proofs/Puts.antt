-- Authenticators as they are written, and the parts of their signatures.
use Rattle.std.proofs.Common.{◌≡◌, ℕ, ◌+◌, ◌-◌, ◌≤◌, List, [], ◌∷◌, ◌++◌, length, take, drop, map, min, refl, sym, ap, ◌∙◌, arith, append_assoc, append-nil, length-append, length-drop, inl, inr}
use Rattle.std.proofs.lemmas.Bool.{cases_lt}
use Rattle.std.proofs.lemmas.List.{take_all}
use Rattle.std.specs.Int.{w32, w64}
use Rattle.avm_num.specs.Lists.{be, list_bytes}
use Rattle.avm_num.specs.Room.{Buffer, with_bytes}
use Rattle.avm_num.proofs.Lengths.{be32}
use Rattle.avm_num.proofs.Writes.{written}
use Rattle.avm_model.specs.Auth.{AuthData, auth_bytes}
use Rattle.hss_model.specs.Hss.{hss_signature, bottom_of}
use Rattle.hss_model.specs.HssFile.{EndorsementData, widened, widen_of, narrowed}

pub signature_size : (upper bottom lower : List ℕ) → length bottom ≡ 56 → length (hss_signature upper bottom lower) ≡ 60 + length upper + length lower
signature_size upper bottom lower long =
    omega (arith, long, be32 1, length-append (be w32 1) (upper ++ (bottom ++ lower)), length-append upper (bottom ++ lower), length-append bottom lower)

-- the parts of an authenticator one after another
pub widened_written : (b : Buffer) (e : EndorsementData) (a : AuthData) (n : ℕ) → n ≡ length (hss_signature e.upper e.bottom a.sig)
    → with_bytes (with_bytes (with_bytes (with_bytes (with_bytes (with_bytes (with_bytes b (be w64 a.seq)) a.hash) (be w32 n)) (be w32 1)) e.upper) e.bottom) a.sig ≡ with_bytes b (auth_bytes (widened e a))
unfolding auth_bytes
widened_written b e a n len =
    let lists : ((((((b.bytes ++ be w64 a.seq) ++ a.hash) ++ be w32 n) ++ be w32 1) ++ e.upper) ++ e.bottom) ++ a.sig ≡ b.bytes ++ auth_bytes (widened e a) = rw len (simp append_assoc) in
    ap (λ (l : List ℕ). record b { bytes = l }) lists

-- one more of those that are written
pub widen_more : (b c d : Buffer) (e : EndorsementData) (a : AuthData) (auths : List AuthData) → d ≡ with_bytes c (auth_bytes (widened e a)) → with_bytes c (widen_of e (a ∷ auths)) ≡ b → with_bytes d (widen_of e auths) ≡ b
unfolding widen_of
widen_more b c d e a auths is all = rw is (written c (auth_bytes (widened e a)) (widen_of e auths) ∙ all)

pub widen_done : (b c : Buffer) (e : EndorsementData) → with_bytes c (widen_of e []) ≡ b → c ≡ b
unfolding widen_of
widen_done b c e all = ap (λ (l : List ℕ). record c { bytes = l }) (sym (append-nil c.bytes)) ∙ all

pub narrow_more : (b c d : Buffer) (n : ℕ) (a : AuthData) (auths : List AuthData) → d ≡ with_bytes c (auth_bytes (narrowed n a)) → with_bytes c (list_bytes auth_bytes (map (narrowed n) (a ∷ auths))) ≡ b → with_bytes d (list_bytes auth_bytes (map (narrowed n) auths)) ≡ b
narrow_more b c d n a auths is all = rw is (written c (auth_bytes (narrowed n a)) (list_bytes auth_bytes (map (narrowed n) auths)) ∙ all)

pub narrow_done : (b c : Buffer) (n : ℕ) → with_bytes c (list_bytes auth_bytes (map (narrowed n) [])) ≡ b → c ≡ b
narrow_done b c n all = ap (λ (l : List ℕ). record c { bytes = l }) (sym (append-nil c.bytes)) ∙ all

-- ---- the parts of a signature that may be short

past_end : (xs : List ℕ) (n : ℕ) → length xs ≤ n → drop n xs ≡ []
past_end xs n le = nil (drop n xs) (omega (arith, le, length-drop n xs))
  where
    nil : (ys : List ℕ) → length ys ≡ 0 → ys ≡ []
    nil [] h = refl
    nil (y ∷ ys) h = absurd (omega (arith, h))

pub drop_min : (xs : List ℕ) (n : ℕ) → drop (min n (length xs)) xs ≡ drop n xs
drop_min xs n =
    elim (cases_lt (length xs) n) [
      | inl lt ↦
          let m : min n (length xs) ≡ length xs = omega (arith, lt) in
          rw m (past_end xs (length xs) (omega arith) ∙ sym (past_end xs n (omega (arith, lt))))
      | inr le ↦ let m : min n (length xs) ≡ n = omega (arith, le) in rw m refl
    ]

pub cut_bottom : (n : ℕ) (sig : List ℕ) → take (min (60 + n) (length sig) - min (4 + n) (length sig)) (drop (min (4 + n) (length sig)) sig) ≡ bottom_of n sig
cut_bottom n sig =
    rw (drop_min sig (4 + n))
    (elim (cases_lt (length sig) (60 + n)) [
      | inl lt ↦
          let l = length-drop (4 + n) sig in
          let rest = drop (4 + n) sig in
          take_all (min (60 + n) (length sig) - min (4 + n) (length sig)) rest (omega (arith, lt, l)) ∙ sym (take_all 56 rest (omega (arith, lt, l)))
      | inr le ↦ ap (λ (m : ℕ). take m (drop (4 + n) sig)) (let m : min (60 + n) (length sig) - min (4 + n) (length sig) ≡ 56 = omega (arith, le) in m)
    ])
