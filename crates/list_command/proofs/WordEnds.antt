-- Words one after another, and a line's byte 10 behind them.
use Rattle.std.proofs.Common.{◌≡◌, ℕ, List, ◌∷◌, ◌++◌, ◌∙◌, append_assoc}

pub words_end : (a name count words end : List ℕ) → (a ++ (32 ∷ name) ++ (32 ∷ count) ++ words) ++ end ≡ a ++ (32 ∷ (name ++ (32 ∷ (count ++ (words ++ end)))))
words_end a name count words end =
    append_assoc (a ++ (32 ∷ name) ++ (32 ∷ count)) words end ∙ append_assoc (a ++ (32 ∷ name)) (32 ∷ count) (words ++ end) ∙ append_assoc a (32 ∷ name) ((32 ∷ count) ++ (words ++ end))

pub words_on : (a b c : List ℕ) → (32 ∷ a) ++ (32 ∷ b) ++ c ≡ 32 ∷ (a ++ (32 ∷ (b ++ c)))
words_on a b c = append_assoc (32 ∷ a) (32 ∷ b) c
