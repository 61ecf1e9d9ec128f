-- Bytes in hexadecimal digits.
use Rattle.std.proofs.Common.{◌≡◌, ◌≢◌, ◌⊎◌, inl, inr, ℕ, zero, suc, ◌%◌, ◌<◌, List, length, None, refl, sym, ap, ◌∙◌, arith}
use Rattle.std.specs.Prelude.{Result, Ok, Err}
use Rattle.std.specs.Result.{result_ok}
use Rattle.hex.specs.Hex.{decode_pairs, decode_of}
use Rattle.hex.specs.declared.error.FromHexError.{FromHexError}
use Rattle.hex.specs.declared.error.FromHexError.TheVariants.{OutOfMemory}
use Rattle.hex.proofs.HexLemmas.{decode_of-even, decode_of-odd, decode_pairs-ok}
use Rattle.avm_model.specs.Words.{hex_of}
use Rattle.avm_script.proofs.Digits.{pairs_is}

odd : (text : List ℕ) (r : Result (List ℕ) FromHexError) → decode_pairs 0 text ≡ r → length text % 2 ≡ 1 → result_ok r ≡ None
odd text (Ok bytes) e o = absurd (let h = (decode_pairs-ok 0 text bytes e).1 in omega arith)
odd text (Err f) e o = refl

by_parity : (text : List ℕ) (n : ℕ) → length text % 2 ≡ n → n < 2 → result_ok (decode_of text) ≡ hex_of text
by_parity text zero e lt = ap result_ok (decode_of-even text e) ∙ pairs_is 0 text
by_parity text (suc n) e lt =
    let o : length text % 2 ≡ 1 = omega arith in
    ap result_ok (decode_of-odd text o) ∙ sym (odd text (decode_pairs 0 text) refl o) ∙ pairs_is 0 text

pub decoded_is : (text : List ℕ) → result_ok (decode_of text) ≡ hex_of text
decoded_is text = by_parity text (length text % 2) refl (omega arith)

pub decoded_err : (text : List ℕ) (e : FromHexError) → e ≢ OutOfMemory → (e ≡ OutOfMemory) ⊎ (decode_of text ≡ Err e) → None ≡ hex_of text
decoded_err text e other why = elim why [ inl m ↦ absurd (other m) | inr is ↦ ap result_ok (sym is) ∙ decoded_is text ]
