-- A moved journal has used as many leaves.
use Rattle.std.proofs.Common.{◌≡◌, ℕ, ◌+◌, Option, None, Some, List, [], ◌∷◌, ◌++◌, refl, sym, ◌∙◌, ap, arith}
use Rattle.journal_model.specs.Part.{Part, entry, seal, keep, KeepData, signing}
use Rattle.journal_model.specs.Journal.{JournalData, parts, used}
use Rattle.journal_model.proofs.Judging.{signing_append}
use Rattle.base_model.specs.Base.{before_entry, from_entry, past_keep, without_keep, records_from, MovedState, base_header, moved}
use Rattle.base_model.proofs.Moves.{all_parts, before_append, before_here}

signing_empty : signing [] ≡ 0
unfolding signing
signing_empty = refl

signing_keep : (k : KeepData) → signing (keep k ∷ []) ≡ 0
unfolding signing
signing_keep k = refl

signing_past : (ps : List Part) → signing (past_keep ps) ≡ signing ps
signing_past [] = refl
signing_past (entry f ∷ ps) = refl
signing_past (seal ∷ ps) = refl
signing_past (keep k ∷ ps) = omega (arith, signing_append (keep k ∷ []) ps, signing_keep k)

signing_without : (ps : List Part) → signing (without_keep ps) ≡ signing ps
signing_without [] = refl
signing_without (p ∷ ps) = signing_append (p ∷ []) (past_keep ps) ∙ ap (λ (n : ℕ). signing (p ∷ []) + n) (signing_past ps) ∙ sym (signing_append (p ∷ []) ps)

pub split_signing : (n : ℕ) (rs : List (List Part)) → signing (before_entry n (all_parts rs)) + signing (all_parts (records_from n rs)) ≡ signing (all_parts rs)
split_signing n [] = omega (arith, signing_empty)
split_signing n (r ∷ rs) = go (split_signing n rs) (from_entry n r) refl
  where
    go : signing (before_entry n (all_parts rs)) + signing (all_parts (records_from n rs)) ≡ signing (all_parts rs) → (o : Option (List Part)) → from_entry n r ≡ o
        → signing (before_entry n (all_parts (r ∷ rs))) + signing (all_parts (records_from n (r ∷ rs))) ≡ signing (all_parts (r ∷ rs))
    go more None e =
        let b : signing (before_entry n (r ++ all_parts rs)) ≡ signing r + signing (before_entry n (all_parts rs)) = ap signing (before_append n r (all_parts rs) e) ∙ signing_append r (before_entry n (all_parts rs)) in
        rw e (omega (arith, b, more, signing_append r (all_parts rs)))
    go more (Some ps) e =
        let b = before_entry n (r ++ all_parts rs) in
        let whole : signing b + signing ps ≡ signing r = sym (signing_append b ps) ∙ ap signing (before_here n r (all_parts rs) ps e) in
        rw e (omega (arith, whole, signing_append (without_keep ps) (all_parts rs), signing_without ps, signing_append r (all_parts rs)))

pub moved_used : (j : JournalData) (n : ℕ) (s : MovedState) → used (moved j n s) ≡ used j
unfolding used parts moved base_header
moved_used j n s = omega (arith, split_signing n j.records)
