-- A journal's records stand behind its header.
use Rattle.std.proofs.Common.{◌≡◌, ℕ, List, ◌∷◌, ◌++◌, length, drop, ap, ◌∙◌, arith, append_assoc}
use Rattle.std.proofs.Math.Seq.{drop-append_seam}
use Rattle.std.proofs.lemmas.List.{length-append}
use Rattle.avm_num.specs.Bytes.{IsBytes}
use Rattle.journal_model.specs.Journal.{Is, JournalData, journal_of}
use Rattle.journal_model.specs.Spelling.{front_bytes, header_bytes, mark_bytes}
use Rattle.journal_spelling.proofs.Fronts.{spelled}
use Rattle.base_records.specs.Records.{Stand, records_bytes}

pub stands_behind : (was : List ℕ) (j : JournalData) → IsBytes was → journal_of was ≡ Is j → Stand (length (header_bytes j.header)) was j.records
unfolding front_bytes
stands_behind was j bytes is =
    let s = spelled was j bytes is in
    let tail = mark_bytes j.mark ++ s.1 ∷ s.2 in
    let whole : was ≡ header_bytes j.header ++ (records_bytes j.records ++ tail) = s.3 ∙ append_assoc (header_bytes j.header ++ records_bytes j.records) (mark_bytes j.mark) (s.1 ∷ s.2) ∙ append_assoc (header_bytes j.header) (records_bytes j.records) tail in
    let b = s.0.below in
    record {
      mark = j.mark;
      gate = s.1;
      rest = s.2;
      bytes = ap (drop (length (header_bytes j.header))) whole ∙ drop-append_seam (header_bytes j.header) (records_bytes j.records ++ tail);
      shut = s.4;
      fit = s.0.records;
      below = omega (arith, b, length-append (header_bytes j.header ++ records_bytes j.records) (mark_bytes j.mark), length-append (header_bytes j.header) (records_bytes j.records));
    }
