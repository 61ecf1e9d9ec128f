-- The contents of signed entries are short.
use Rattle.std.proofs.Common.{List, [], ◌∷◌, arith}
use Rattle.std.specs.List.{AllByRecursion}
use Rattle.carried_laws.proofs.SignedFit.{frame_length, signed_fit}
use Rattle.journal_model.specs.Header.{CarriedData}
use Rattle.journal_model.specs.Journal.{JournalData}
use Rattle.journal_spelling.specs.Spelled.{FitsCarried, HasSpelling}
use Rattle.record_model.specs.Released.{signed_entries}
use Rattle.base_carried.specs.Passes.{IsShort}

all_short : (es : List CarriedData) → AllByRecursion FitsCarried es → AllByRecursion IsShort es
all_short [] h = tt
all_short (e ∷ es) h =
    let s = h.0.short in
    (omega (arith, s, frame_length e.frame), all_short es h.1)

pub signed_short : (j : JournalData) → HasSpelling j → AllByRecursion IsShort (signed_entries j)
signed_short j h = all_short (signed_entries j) (signed_fit j h)
