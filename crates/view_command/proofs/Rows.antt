-- Registers, and words of the RAM, one after another.
use Rattle.std.proofs.Common.{◌≡◌, ℕ, suc, ◌+◌, ◌-◌, ◌*◌, ◌<◌, ◌++◌, ap, ◌∙◌, arith}
use Rattle.avm_model.specs.Hart.{HartState, reg}
use Rattle.avm_model.specs.Machine.{State}
use Rattle.view_model.specs.Views.{word_at}
use Rattle.view_command.specs.Lines.{word_lines, word_lines_at, register_lines, register_lines_at}

pub words_next : (s : State) (a i n : ℕ) → i < n → word_lines s (a + 4 * i) (n - i) ≡ word_lines_at (a + 4 * i) (word_at (a + 4 * i) s) ++ word_lines s (a + 4 * (i + 1)) (n - (i + 1))
words_next s a i n lt =
    let d : n - i ≡ suc (n - (i + 1)) = omega (arith, lt) in
    let e : a + 4 * i + 4 ≡ a + 4 * (i + 1) = omega arith in
    ap (λ (k : ℕ). word_lines s (a + 4 * i) k) d ∙ ap (λ (b : ℕ). word_lines_at (a + 4 * i) (word_at (a + 4 * i) s) ++ word_lines s b (n - (i + 1))) e

pub registers_next : (h : HartState) (i n : ℕ) → i < n → register_lines h i (n - i) ≡ register_lines_at i (reg h i) ++ register_lines h (i + 1) (n - (i + 1))
registers_next h i n lt =
    let d : n - i ≡ suc (n - (i + 1)) = omega (arith, lt) in
    ap (λ (k : ℕ). register_lines h i k) d
