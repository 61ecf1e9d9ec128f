-- An export and a later audit.
use Rattle.std.proofs.Common.{◌≡◌, ◌≢◌, ℕ, List, [], Option, Some, None, refl, sym, ap, subst, ◌∙◌}
use Rattle.std.specs.Prelude.{option_map}
use Rattle.std.specs.List.{AllByRecursion}
use Rattle.acceptance_laws.specs.Signed.{IsSigned}
use Rattle.acceptance_laws.proofs.Accepted.{accepted}
use Rattle.audit_command.specs.Audit.{no_key}
use Rattle.audit_command.specs.Meaning.{AuditMeans, Given}
use Rattle.avm_model.specs.Audit.{IsAcceptedBytes, auths_within}
use Rattle.avm_model.specs.Auth.{AuthData}
use Rattle.avm_num.specs.Walk.{behind_of, items_of}
use Rattle.avm_script.specs.Job.{SignedData}
use Rattle.command_parts.specs.FileMap.{FileMap}
use Rattle.export_command.specs.Meaning.{ExportMeans, Wrote}
use Rattle.export_command.specs.Outcomes.{Asked}
use Rattle.journal_export.specs.Exporting.{IsWritten}
use Rattle.journal_model.specs.Journal.{Is, JournalData, journal_of}
use Rattle.journal_spelling.proofs.Fronts.{spelled}
use Rattle.export_headline.specs.Signed.{AreSigned, IsHonestStore}

-- what was exported: the file's bytes, which are accepted with such authenticators
record Shown (a : Asked) (was : List ℕ) (new : FileMap) : Type 0 where
  bytes : List ℕ
  there : new a.segment ≡ Some (Some bytes)
  accepts : (key auths : List ℕ) (list : List AuthData) → auths_within auths ≡ Some list → ((j : JournalData) → journal_of was ≡ Is j → AllByRecursion (IsSigned key j a.from a.to) list) → IsAcceptedBytes key bytes auths

one_journal : (was : List ℕ) (i j : JournalData) → journal_of was ≡ Is i → journal_of was ≡ Is j → j ≡ i
one_journal was i j p q = let e : Is j ≡ Is i = sym q ∙ p in cc

shown : (a : Asked) (was : List ℕ) (old new : FileMap) (told : Option (List ℕ)) → IsHonestStore was → ExportMeans a (Some was) old new 0 → old a.segment ≡ Some told → Shown a was new
shown a was old new told store means is =
    let w : Wrote a old new was = means.exported_is refl in
    let own : w.0 ≡ store.journal = one_journal was store.journal w.0 store.stands w.1 in
    let written : IsWritten a.from a.to store.journal (old a.segment) (new a.segment) = subst (λ (j : JournalData). IsWritten a.from a.to j (old a.segment) (new a.segment)) own w.2 in
    let s = spelled was store.journal store.are_bytes store.stands in
    record {
      bytes = written.bytes;
      there = written.written ∙ ap (option_map (λ (x : Option (List ℕ)). Some written.bytes)) is;
      accepts = λ key auths list read signed. accepted store.journal a.from a.to key written.bytes auths list s.0 store.honest store.keeps written.export_is written.whole read (signed store.journal store.stands);
    }

pub signed_audit : (a : Asked) (was : List ℕ) (old new : FileMap) (told : Option (List ℕ)) (names : SignedData) (files left : FileMap) (before after : Option (List ℕ)) (result : ℕ) → IsHonestStore was → ExportMeans a (Some was) old new 0 → old a.segment ≡ Some told
    → files a.segment ≡ new a.segment → AreSigned a was names files → AuditMeans a.segment None (Some names) files left before after result → result ≢ 4 → result ≢ 5 → result ≡ 0
signed_audit a was old new told names files left before after result store means is same signed audit n4 n5 =
    let s = shown a was old new told store means is in
    let given : Given = record { segment = s.bytes; image = None; key = signed.key; auths = signed.auths } in
    audit.accepts given (same ∙ s.there, refl, signed.key_told, signed.key_fits, signed.auths_told) (s.accepts signed.key signed.auths signed.list signed.read signed.signed) tt n4 n5

no_auths : auths_within [] ≡ Some []
unfolding auths_within behind_of items_of
no_auths = refl

pub plain_audit : (a : Asked) (was : List ℕ) (old new : FileMap) (told : Option (List ℕ)) (files left : FileMap) (before after : Option (List ℕ)) (result : ℕ) → IsHonestStore was → ExportMeans a (Some was) old new 0 → old a.segment ≡ Some told
    → files a.segment ≡ new a.segment → AuditMeans a.segment None None files left before after result → result ≢ 4 → result ≢ 5 → result ≡ 0
plain_audit a was old new told files left before after result store means is same audit n4 n5 =
    let s = shown a was old new told store means is in
    let given : Given = record { segment = s.bytes; image = None; key = no_key; auths = [] } in
    audit.accepts given (same ∙ s.there, refl, refl, refl) (s.accepts no_key [] [] no_auths (λ j stands. tt)) tt n4 n5
