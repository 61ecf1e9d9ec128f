-- An option's value, once all words have been seen.
use Rattle.std.proofs.Common.{◌≡◌, ℕ, ◌<◌, ◌++◌, List, [], ◌∷◌, length, Option, Some, None, refl, arith}
use Rattle.std.specs.Option.{option_to_list}
use Rattle.avm_model.specs.Words.{at_most_one, values_of}

one_found : (found : Option (List ℕ)) → at_most_one (option_to_list found ++ []) ≡ Some found
one_found None = refl
one_found (Some value) = refl

pub given_end : (option : List ℕ) (found : Option (List ℕ)) (left : List (List ℕ)) → length left < 2 → at_most_one (option_to_list found ++ values_of option left) ≡ Some found
unfolding values_of
given_end option found [] short = one_found found
given_end option found (word ∷ []) short = one_found found
given_end option found (word ∷ other ∷ words) short = absurd (omega arith)
