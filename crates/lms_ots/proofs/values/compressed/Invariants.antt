use Rattle.std.proofs.Common.{◌∷◌, [], ◌++◌, drop}
use Rattle.avm_model.specs.LmsOts.{joined}
use Rattle.avm_hash.specs.Fed.{Fed}
use Rattle.lms_ots.specs.Chains.{text_at}
use Rattle.lms_ots.proofs.values.compressed.Given as goal

abbrev pub invariant-loop-i : goal.invariant-loop-i
invariant-loop-i l = Fed l.hasher ((l.base ++ (128 ∷ 128 ∷ [])) ++ joined (λ i. drop 23 (text_at l.texts i)) l.i)
