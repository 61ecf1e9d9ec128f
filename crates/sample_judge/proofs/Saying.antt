-- Lines one after another.
use Rattle.std.proofs.Common.{◌≡◌, ℕ, List, [], ◌∷◌, ◌++◌, codes, map, IfOk, Result, Ok, Err, refl, ap, ◌∙◌, append_assoc}
use Rattle.std.specs.Prelude.{String, string_bytes}
use Rattle.std.specs.Fmt.{decimal}
use Rattle.std.specs.declared.alloc.Global.{Global}
use Rattle.command_parts.specs.Printing.{line}
use Rattle.sample_judge.specs.Ends.{Adds, Says, numbers_text}

map_more : (said : List (List ℕ)) (s : List ℕ) → map line said ++ line s ∷ [] ≡ map line (said ++ s ∷ [])
map_more [] s = refl
map_more (x ∷ said) s = ap (λ (l : List (List ℕ)). line x ∷ l) (map_more said s)

-- one line more
pub says_more : (old new : List (List ℕ)) (said : List (List ℕ)) (text s : List ℕ) → Says old said → text ≡ line s → new ≡ old ++ text ∷ [] → Says new (said ++ s ∷ [])
says_more old new said text s h is more = more ∙ ap (λ (l : List (List ℕ)). l ++ text ∷ []) h ∙ ap (λ (t : List ℕ). map line said ++ t ∷ []) is ∙ map_more said s

-- the line of a text that is added
pub says_added : {E : Type 0} (r : Result (String Global) E) (old new : List (List ℕ)) (said : List (List ℕ)) (s : List ℕ) → IfOk r (λ t. string_bytes t ≡ line s) → Adds r old new → Says old said → Says new (said ++ s ∷ [])
says_added (Ok t) old new said s is adds h = says_more old new said (string_bytes t) s h is adds
says_added (Err e) old new said s is adds h = absurd adds

-- ---- lines with numbers, as they are put together

pub segment_is : (d w : List ℕ) → line (codes "segment " ++ (d ++ (codes " " ++ w))) ≡ codes "segment " ++ (d ++ (codes " " ++ (w ++ 10 ∷ [])))
segment_is d w = ap (λ (l : List ℕ). codes "segment " ++ l) (append_assoc d (codes " " ++ w) (10 ∷ []))

pub numbers_is : (last snaps leaves steps : ℕ)
    → line (numbers_text last snaps leaves steps) ≡ codes "entries " ++ (decimal last ++ (codes " snaps " ++ (decimal snaps ++ (codes " leaves " ++ (decimal leaves ++ (codes " steps " ++ (decimal steps ++ 10 ∷ [])))))))
numbers_is last snaps leaves steps =
    ap (λ (l : List ℕ). codes "entries " ++ l) (append_assoc (decimal last) (codes " snaps " ++ (decimal snaps ++ (codes " leaves " ++ (decimal leaves ++ (codes " steps " ++ decimal steps))))) (10 ∷ [])
    ∙ ap (λ (l : List ℕ). decimal last ++ (codes " snaps " ++ l)) (append_assoc (decimal snaps) (codes " leaves " ++ (decimal leaves ++ (codes " steps " ++ decimal steps))) (10 ∷ [])
    ∙ ap (λ (l : List ℕ). decimal snaps ++ (codes " leaves " ++ l)) (append_assoc (decimal leaves) (codes " steps " ++ decimal steps) (10 ∷ []))))
