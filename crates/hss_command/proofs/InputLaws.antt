-- Input files that are read up to a limit are read as the files are.
use Rattle.std.proofs.Common.{◌≡◌, ℕ, ◌+◌, ◌^◌, ◌<◌, ◌≤◌, ◌&&◌, nat_le, Bool, true, false, List, [], ◌∷◌, length, take, Option, None, Some, refl, sym, ◌∙◌, ap, subst, arith, leb-true}
use Rattle.std.specs.Int.{w32}
use Rattle.std.specs.Str.{bytes_eq}
use Rattle.std.specs.Prelude.{option_map, option_and_then}
use Rattle.std.proofs.lemmas.Bool.{lt-leb}
use Rattle.avm_num.specs.Bytes.{number_at, piece_at}
use Rattle.avm_num.specs.Lists.{sized_at}
use Rattle.avm_num.specs.Walk.{is_nil}
use Rattle.avm_num.proofs.Numbers.{bind_some, kept_some, and_true}
use Rattle.avm_num.proofs.Lengths.{number_rest, piece_rest, piece_length}
use Rattle.avm_model.specs.Audit.{auths_within}
use Rattle.avm_model.specs.Keys.{public_file}
use Rattle.avm_model.specs.Parts.{longest_signature, signature_at}
use Rattle.command_parts.specs.Reading.{Finds, IsReadOf}
use Rattle.command_parts.proofs.Cuts.{cut_same}
use Rattle.hss_model.specs.HssFile.{EndorsementData, endorsement_of, endorsement_mark, narrow_of, Malformed}
use Rattle.hss_command.specs.Inputs.{IsInput, IsTold, public_key_in}

-- what is read of a cut file
cut_input : {X : Type 0} (f : List ℕ → Option X) (limit : ℕ) → ((bytes : List ℕ) → limit < length bytes → f bytes ≡ None) → (found got : Option (List ℕ)) (o : Option X) → got ≡ option_map (take (limit + 1)) found → o ≡ option_and_then f got → o ≡ option_and_then f found
cut_input f limit long None got o is e = e ∙ ap (option_and_then f) is
cut_input f limit long (Some bytes) got o is e = e ∙ ap (option_and_then f) is ∙ cut_same f None limit long bytes

pub input_of : {X : Type 0} (f : List ℕ → Option X) (limit : ℕ) → ((bytes : List ℕ) → limit < length bytes → f bytes ≡ None) → (told mid : Option (Option (List ℕ))) (got : Option (List ℕ)) (o : Option X) → mid ≡ told → IsReadOf limit mid got → o ≡ option_and_then f got → IsInput f told o
input_of f limit long told mid got o same read e =
    (read.0, subst (λ (t : Option (Option (List ℕ))). Finds t read.0) same read.1, cut_input f limit long read.0 got o read.2 e)

-- what is told is what is found
pub input_told : {X : Type 0} (f : List ℕ → Option X) (told : Option (Option (List ℕ))) (o : Option X) (x : X) → IsInput f told o → IsTold f told x → o ≡ Some x
input_told {X} f told o x i t =
    let found : Some t.0 ≡ i.0 = subst (λ (s : Option (Option (List ℕ))). Finds s i.0) t.1 i.1 in
    i.2 ∙ ap (option_and_then f) (sym found) ∙ t.2

-- ---- what is longer than its limit is nothing

pub key_long : (bytes : List ℕ) → 56 < length bytes → public_key_in bytes ≡ None
unfolding public_file
key_long bytes more = let f : public_file bytes ≡ false = grind arith in rw f refl

pub auths_long : (bytes : List ℕ) → 2 ^ 24 < length bytes → auths_within bytes ≡ None
unfolding auths_within
auths_long bytes more = rw (lt-leb (length bytes) (2 ^ 24) more) refl

pub narrow_long : (top bytes : List ℕ) → 2 ^ 25 < length bytes → narrow_of top bytes ≡ Malformed
unfolding narrow_of
narrow_long top bytes more = rw (lt-leb (length bytes) (2 ^ 25) more) refl

-- a signature's bytes
signature_exact : (bytes : List ℕ) (p : List ℕ × List ℕ) → signature_at bytes ≡ Some p → (length p.1 + length p.0 + 4 ≡ length bytes) × (length p.0 ≤ 9324)
unfolding signature_at
signature_exact bytes p e =
    let a = bind_some (sized_at (number_at w32) bytes) _ p e in
    let k = kept_some (nat_le (length a.0.0) longest_signature) a.0 p a.2 in
    let n = bind_some (number_at w32 bytes) _ a.0 a.1 in
    let rest = piece_rest n.0.0 n.0.1 a.0 n.2 in
    let size = piece_length n.0.0 n.0.1 a.0 n.2 in
    let four = number_rest w32 bytes n.0 n.1 in
    let low = leb-true _ _ k.0 in
    let front : length a.0.0 ≡ length p.0 = ap (λ (q : List ℕ × List ℕ). length q.0) k.1 in
    let behind : length a.0.1 ≡ length p.1 = ap (λ (q : List ℕ × List ℕ). length q.1) k.1 in
    (omega (arith, rest, size, four, front, behind), omega (arith, low, front))

nil_length : (xs : List ℕ) → is_nil xs ≡ true → length xs ≡ 0
nil_length [] e = refl
nil_length (x ∷ xs) e = absurd cc

endorsement_short : (bytes : List ℕ) (e : EndorsementData) → endorsement_of bytes ≡ Some e → length bytes ≤ 9388
unfolding endorsement_of
endorsement_short bytes e is =
    let m = bind_some (piece_at 4 bytes) _ e is in
    let u = bind_some (signature_at m.0.1) _ e m.2 in
    let b = bind_some (piece_at 56 u.0.1) _ e u.2 in
    let k = kept_some (bytes_eq m.0.0 endorsement_mark && is_nil b.0.1) _ e b.2 in
    let nil = nil_length b.0.1 (and_true (bytes_eq m.0.0 endorsement_mark) _ k.0).1 in
    let first = piece_rest 4 bytes m.0 m.1 in
    let middle = signature_exact m.0.1 u.0 u.1 in
    let last = piece_rest 56 u.0.1 b.0 b.1 in
    let size = middle.0 in
    let low = middle.1 in
    omega (arith, nil, first, size, low, last)

pub endorsement_long : (bytes : List ℕ) → 9388 < length bytes → endorsement_of bytes ≡ None
endorsement_long bytes more = go (endorsement_of bytes) refl
  where
    go : (o : Option EndorsementData) → endorsement_of bytes ≡ o → o ≡ None
    go None e = refl
    go (Some x) e = absurd (let h = endorsement_short bytes x e in omega (arith, h, more))
