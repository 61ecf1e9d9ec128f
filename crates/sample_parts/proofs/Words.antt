-- One word more.
use Rattle.std.proofs.Common.{◌≡◌, ℕ, zero, suc, ◌*◌, List, ◌++◌, length, refl, sym, ap, ◌∙◌, append_assoc, length-append, arith}
use Rattle.std.specs.Int.{w32, to_le_bytes}
use Rattle.rand_chacha.specs.ChaCha.{ChaCha, next_word}
use Rattle.sample_parts.specs.Drawn.{drawn_bytes, behind, word_of, behind_word}

pub bytes_on : (n m : ℕ) (g h : ChaCha) (w : ℕ) (bytes more all : List ℕ) → n ≡ suc m → (w, h) ≡ next_word 10 g → more ≡ bytes ++ to_le_bytes w32 w → bytes ++ drawn_bytes n g ≡ all → more ++ drawn_bytes m h ≡ all
unfolding drawn_bytes
bytes_on n m g h w bytes more all is word added inv =
    ap (λ l. l ++ drawn_bytes m h) added ∙ append_assoc bytes (to_le_bytes w32 w) (drawn_bytes m h)
    ∙ ap (λ (p : ℕ × ChaCha). bytes ++ (to_le_bytes w32 p.0 ++ drawn_bytes m p.1)) word ∙ ap (λ k. bytes ++ drawn_bytes k g) (sym is) ∙ inv

pub behind_on : (n m : ℕ) (g h last : ChaCha) (w : ℕ) → n ≡ suc m → (w, h) ≡ next_word 10 g → behind n g ≡ last → behind m h ≡ last
unfolding behind
behind_on n m g h last w is word inv = ap (λ (p : ℕ × ChaCha). behind m p.1) word ∙ ap (λ k. behind k g) (sym is) ∙ inv

-- a word has four bytes
pub drawn_long : (n : ℕ) (g : ChaCha) → length (drawn_bytes n g) ≡ 4 * n
unfolding drawn_bytes
drawn_long zero g = refl
drawn_long (suc n) g = omega (arith, length-append (to_le_bytes w32 (word_of g)) (drawn_bytes n (behind_word g)), drawn_long n (behind_word g), le_long (word_of g))
  where
    le_long : (w : ℕ) → length (to_le_bytes w32 w) ≡ 4
    le_long w = refl
