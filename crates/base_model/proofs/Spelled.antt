-- What a spare holds that was activated.
use Rattle.std.proofs.Common.{◌≡◌, ℕ, refl, sym, ap, ◌∙◌, List, ◌∷◌, ◌++◌, drop}
use Rattle.journal_model.specs.Journal.{JournalData}
use Rattle.avm_outside.specs.Moments.{Begins}
use Rattle.base_model.specs.Base.{MovedState, base_bytes}
use Rattle.journal_model.specs.Spelling.{header_bytes, front_bytes, spelled}
use Rattle.base_model.specs.Spare.{first_byte, IsWhole}

-- a base begins with a journal's first byte
pub base_first : (j : JournalData) (n : ℕ) (s : MovedState) → base_bytes j n s ≡ first_byte ∷ drop 1 (base_bytes j n s)
unfolding base_bytes spelled front_bytes header_bytes
base_first j n s = refl

pub whole_begins : (j : JournalData) (n : ℕ) (s : MovedState) (c : List ℕ) → IsWhole (drop 1 (base_bytes j n s)) c → Begins (base_bytes j n s) c
whole_begins j n s c w = (w.rest, w.bytes ∙ ap (λ (l : List ℕ). l ++ w.rest) (sym (base_first j n s)))
