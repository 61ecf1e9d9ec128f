-- What the statuses of an export say.
use Rattle.std.proofs.Common.{◌≡◌, ◌≢◌, ◌⊎◌, inl, inr, ℕ, List, Option, None, Some, IfSome, sym, ap, subst, ◌∙◌}
use Rattle.std.specs.Prelude.{Ok, Err}
use Rattle.avm_model.specs.HeadReading.{head_of}
use Rattle.command_parts.specs.FileMap.{FileMap, SameFiles}
use Rattle.export_model.specs.Exports.{Answer as Export, IsExport, exported, range, unreplayed}
use Rattle.format_command.specs.Outcomes.{Counted}
use Rattle.journal_export.specs.Exporting.{ExportAnswers, WhereUnwritten}
use Rattle.journal_export.specs.declared.fault.ExportFault.TheVariants as fault
use Rattle.journal_model.specs.Journal.{JournalData, Damaged, Is, NoStore, journal_of}
use Rattle.export_command.specs.Ends.{Answer}
use Rattle.export_command.specs.Meaning.{CanExport, ExportMeans, Wrote}
use Rattle.export_command.specs.Outcomes.{Asked, ExportEnds, Says}
use Rattle.export_command.proofs.Same.{same_export}

written_by : (a : Asked) (old new : FileMap) (store : Option (List ℕ)) (n : Counted) (before after : Option (List ℕ)) (result : ℕ) → ExportEnds a old new store n before after result → result ≡ 0 → IfSome store (Wrote a old new)
written_by a old new store n before after result e zero = go e.answer e.store_gives e.said
  where
    go : (r : Answer) → IfSome store (λ was. ExportAnswers a.from a.to was (old a.segment) (new a.segment) r) → Says a r n.out_before n.out_now before after result → IfSome store (Wrote a old new)
    go r g (inr p) = absurd (let h : 4 ≡ 0 = sym p.0 ∙ zero in cc)
    go (Ok t) g (inl p) = g
    go (Err fault.NoMemory) g (inl p) = absurd (let h : 5 ≡ 0 = sym p.0 ∙ zero in cc)
    go (Err fault.DiskFault) g (inl p) = absurd (let h : 4 ≡ 0 = sym p.0 ∙ zero in cc)
    go (Err fault.FilesFault) g (inl p) = absurd (let h : 4 ≡ 0 = sym p.0 ∙ zero in cc)
    go (Err fault.NoStore) g (inl p) = absurd (let h : 2 ≡ 0 = sym p.0 ∙ zero in cc)
    go (Err (fault.Damaged q)) g (inl p) = absurd (let h : 2 ≡ 0 = sym p.0 ∙ zero in cc)
    go (Err (fault.Unreplayed q)) g (inl p) = absurd (let h : 2 ≡ 0 = sym p.0 ∙ zero in cc)
    go (Err fault.Range) g (inl p) = absurd (let h : 2 ≡ 0 = sym p.0 ∙ zero in cc)

-- ---- what can be exported isn't refused

one_journal : (was : List ℕ) (i j : JournalData) → journal_of was ≡ Is i → journal_of was ≡ Is j → j ≡ i
one_journal was i j p q = let e : Is j ≡ Is i = sym q ∙ p in cc

no_store : (a : Asked) (was : List ℕ) → CanExport a was → (journal_of was ≡ NoStore) ⊎ ((j : JournalData) × (journal_of was ≡ Is j) × (head_of j.header.head ≡ None)) → ⊥
no_store a was can (inl none) = let e : Is can.journal ≡ NoStore = sym can.stands ∙ none in cc
no_store a was can (inr (j, is, none)) = can.head (ap (λ (i : JournalData). head_of i.header.head) (sym (one_journal was can.journal j can.stands is)) ∙ none)

no_other : (a : Asked) (was : List ℕ) (x : Export) → CanExport a was → (j : JournalData) → journal_of was ≡ Is j → IsExport j a.from a.to x → (bytes : List ℕ) × (x ≡ exported bytes)
no_other a was x can j is export =
    let same = one_journal was can.journal j can.stands is in
    (can.bytes, same_export can.journal a.from a.to x (exported can.bytes) (subst (λ (i : JournalData). IsExport i a.from a.to x) same export) can.export_is)

zero_by : (a : Asked) (old new : FileMap) (store : Option (List ℕ)) (n : Counted) (before after : Option (List ℕ)) (result : ℕ) → ExportEnds a old new store n before after result
    → (was : List ℕ) → store ≡ Some was → CanExport a was → result ≢ 4 → result ≢ 5 → result ≡ 0
zero_by a old new store n before after result e was is can n4 n5 = go e.answer (subst (λ (s : Option (List ℕ)). IfSome s (λ was. ExportAnswers a.from a.to was (old a.segment) (new a.segment) e.answer)) is e.store_gives) e.said
  where
    go : (r : Answer) → ExportAnswers a.from a.to was (old a.segment) (new a.segment) r → Says a r n.out_before n.out_now before after result → result ≡ 0
    go r g (inr p) = absurd (n4 p.0)
    go (Ok t) g (inl p) = p.0
    go (Err fault.NoMemory) g (inl p) = absurd (n5 p.0)
    go (Err fault.DiskFault) g (inl p) = absurd (n4 p.0)
    go (Err fault.FilesFault) g (inl p) = absurd (n4 p.0)
    go (Err fault.NoStore) g (inl p) = absurd (no_store a was can g)
    go (Err (fault.Damaged q)) g (inl p) = absurd (let h : Is can.journal ≡ Damaged q = sym can.stands ∙ g in cc)
    go (Err (fault.Unreplayed q)) g (inl p) = absurd (let h = no_other a was (unreplayed q) can g.0 g.1 g.3 in let no : unreplayed q ≡ exported h.0 = h.1 in cc)
    go (Err fault.Range) g (inl p) = absurd (let h = no_other a was range can g.0 g.1 g.3 in let no : range ≡ exported h.0 = h.1 in cc)

-- ---- what is refused changes no file

same_by : (a : Asked) (old new : FileMap) (store : Option (List ℕ)) (n : Counted) (before after : Option (List ℕ)) (result : ℕ) → ExportEnds a old new store n before after result → result ≢ 0 → result ≢ 4 → SameFiles old new
same_by a old new store n before after result e n0 n4 = go e.answer e.unwritten e.said
  where
    go : (r : Answer) → WhereUnwritten r (SameFiles old new) → Says a r n.out_before n.out_now before after result → SameFiles old new
    go r u (inr p) = absurd (n4 p.0)
    go (Ok t) u (inl p) = absurd (n0 p.0)
    go (Err fault.NoMemory) u (inl p) = u
    go (Err fault.DiskFault) u (inl p) = absurd (n4 p.0)
    go (Err fault.FilesFault) u (inl p) = absurd (n4 p.0)
    go (Err fault.NoStore) u (inl p) = u
    go (Err (fault.Damaged q)) u (inl p) = u
    go (Err (fault.Unreplayed q)) u (inl p) = u
    go (Err fault.Range) u (inl p) = u

pub means : (a : Asked) (old new : FileMap) (store : Option (List ℕ)) (n : Counted) (before after : Option (List ℕ)) (result : ℕ) → ExportEnds a old new store n before after result → ExportMeans a store old new result
means a old new store n before after result e = record {
  exported_is = written_by a old new store n before after result e;
  exports = zero_by a old new store n before after result e;
  refuses = same_by a old new store n before after result e;
}
