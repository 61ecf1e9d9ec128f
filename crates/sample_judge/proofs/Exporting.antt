-- A segment that is exported.
use Rattle.std.proofs.Common.{◌≡◌, ℕ, List, Option, None, Some, sym, ap, subst, ◌∙◌}
use Rattle.export_model.specs.Exports.{IsExport, exported, range, unreplayed}
use Rattle.journal_export.specs.Exporting.{HasHead, IsWritten}
use Rattle.journal_model.specs.Journal.{Is, JournalData, journal_of}
use Rattle.sample_judge.proofs.Counted.{one_journal}
use Rattle.sample_judge.specs.Ends.{ExportsAs}

pub export_written : (j : JournalData) (from to : ℕ) (was got : List ℕ) (old new : Option (List ℕ)) → journal_of was ≡ Is j → new ≡ Some got → (i : JournalData) × (journal_of was ≡ Is i) × IsWritten from to i (Some old) (Some new) → ExportsAs j from to (Some got)
export_written j from to was got old new stands found (i, told, w) =
    let is : i ≡ j = one_journal was i j told stands in
    let bytes : Some got ≡ Some w.bytes = sym found ∙ inside new (Some w.bytes) w.written in
    record { answer = exported w.bytes; export_is = subst (λ (x : JournalData). IsExport x from to (exported w.bytes)) is w.export_is; shows = ap exported (sym (value got w.bytes bytes)) }
  where
    inside : (x y : Option (List ℕ)) → Some x ≡ Some y → x ≡ y
    inside x y e = cc

    value : (x y : List ℕ) → Some x ≡ Some y → x ≡ y
    value x y e = cc

pub export_range : (j : JournalData) (from to : ℕ) (was : List ℕ) → journal_of was ≡ Is j → (i : JournalData) × (journal_of was ≡ Is i) × HasHead i × IsExport i from to range → ExportsAs j from to None
export_range j from to was stands (i, told, head, is) = record { answer = range; export_is = subst (λ (x : JournalData). IsExport x from to range) (one_journal was i j told stands) is; shows = tt }

pub export_unreplayed : (j : JournalData) (from to n : ℕ) (was : List ℕ) → journal_of was ≡ Is j → (i : JournalData) × (journal_of was ≡ Is i) × HasHead i × IsExport i from to (unreplayed n) → ExportsAs j from to None
export_unreplayed j from to n was stands (i, told, head, is) = record { answer = unreplayed n; export_is = subst (λ (x : JournalData). IsExport x from to (unreplayed n)) (one_journal was i j told stands) is; shows = tt }
