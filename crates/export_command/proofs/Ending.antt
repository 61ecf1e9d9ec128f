-- How an export comes to its end, and what the status 4 says.
use Rattle.std.proofs.Common.{◌≡◌, ◌≢◌, ◌⊎◌, inl, inr, ℕ, List, Option, None, Some, IfSome, refl, sym, subst, ◌∙◌}
use Rattle.std.specs.Prelude.{Ok, Err}
use Rattle.avm_outside.specs.Outside.{Rises}
use Rattle.command_parts.specs.FileMap.{FileMap, SameFiles}
use Rattle.format_command.specs.Outcomes.{Counted}
use Rattle.journal_export.specs.Counts.{DiskCounts, FilesCounts}
use Rattle.journal_export.specs.Exporting.{ExportAnswers, WhereUnwritten}
use Rattle.journal_export.specs.declared.fault.ExportFault.TheVariants as fault
use Rattle.export_command.specs.Ends.{Answer}
use Rattle.export_command.specs.Outcomes.{Asked, ExportEnds, HasNumber, IsSaidOf, Says}

-- want of memory is said of any store
nothing_told : (store : Option (List ℕ)) → IfSome store (λ was. Unit {0})
nothing_told None = tt
nothing_told (Some was) = tt

-- what an answer tells of the store, the files and the counts
pub record Answered (a : Asked) (old new : FileMap) (store : Option (List ℕ)) (n : Counted) (answer : Answer) : Type 0 where
  pub store_gives : IfSome store (λ was. ExportAnswers a.from a.to was (old a.segment) (new a.segment) answer)
  pub unwritten : WhereUnwritten answer (SameFiles old new)
  pub counts_disk : DiskCounts n.disk_before n.disk_now answer
  pub counts_files : FilesCounts n.files_before n.files_now answer

-- memory is wanted before anything is done
pub wanting : (a : Asked) (files : FileMap) (store : Option (List ℕ)) (n : Counted) → n.files_now ≡ n.files_before → n.disk_now ≡ n.disk_before → Answered a files files store n (Err fault.NoMemory)
wanting a files store n same still = record { store_gives = nothing_told store; unwritten = λ m. refl; counts_disk = still; counts_files = same }

-- a refusal for whose line memory is wanted
unsaid : (a : Asked) (old new : FileMap) (store : Option (List ℕ)) (n : Counted) (answer : Answer) → HasNumber answer → Answered a old new store n answer → Answered a old new store n (Err fault.NoMemory)
unsaid a old new store n (Ok t) has is = absurd has
unsaid a old new store n (Err fault.NoMemory) has is = absurd has
unsaid a old new store n (Err fault.DiskFault) has is = absurd has
unsaid a old new store n (Err fault.FilesFault) has is = absurd has
unsaid a old new store n (Err fault.NoStore) has is = absurd has
unsaid a old new store n (Err (fault.Damaged p)) has is = record { store_gives = nothing_told store; unwritten = is.unwritten; counts_disk = is.counts_disk; counts_files = is.counts_files }
unsaid a old new store n (Err (fault.Unreplayed p)) has is = record { store_gives = nothing_told store; unwritten = is.unwritten; counts_disk = is.counts_disk; counts_files = is.counts_files }
unsaid a old new store n (Err fault.Range) has is = absurd has

ended : (a : Asked) (old new : FileMap) (store : Option (List ℕ)) (n : Counted) (before after : Option (List ℕ)) (result : ℕ) (answer : Answer) → Answered a old new store n answer → Says a answer n.out_before n.out_now before after result → ExportEnds a old new store n before after result
ended a old new store n before after result answer is says =
    record { answer = answer; store_gives = is.store_gives; unwritten = is.unwritten; counts_disk = is.counts_disk; counts_files = is.counts_files; said = says }

pub said_end : (a : Asked) (old new : FileMap) (store : Option (List ℕ)) (n : Counted) (before after : Option (List ℕ)) (result : ℕ) (answer : Answer) → Answered a old new store n answer
    → (said : Answer) → IsSaidOf answer said → Says a said n.out_before n.out_now before after result → ExportEnds a old new store n before after result
said_end a old new store n before after result answer is said (inl same) says =
    ended a old new store n before after result answer is (subst (λ (r : Answer). Says a r n.out_before n.out_now before after result) same says)
said_end a old new store n before after result answer is said (inr (same, has)) says =
    ended a old new store n before after result (Err fault.NoMemory) (unsaid a old new store n answer has is) (subst (λ (r : Answer). Says a r n.out_before n.out_now before after result) same says)

-- ---- the status 4

pub only_four : (a : Asked) (old new : FileMap) (store : Option (List ℕ)) (n : Counted) (before after : Option (List ℕ)) (result : ℕ) → ExportEnds a old new store n before after result → result ≡ 4
    → Rises n.files_before n.files_now ⊎ (Rises n.disk_before n.disk_now ⊎ Rises n.out_before n.out_now)
only_four a old new store n before after result e four = go e.answer e.counts_disk e.counts_files e.said
  where
    go : (r : Answer) → DiskCounts n.disk_before n.disk_now r → FilesCounts n.files_before n.files_now r → Says a r n.out_before n.out_now before after result
        → Rises n.files_before n.files_now ⊎ (Rises n.disk_before n.disk_now ⊎ Rises n.out_before n.out_now)
    go r d f (inr p) = inr (inr p.1.0)
    go (Ok t) d f (inl p) = absurd (let h : 0 ≡ 4 = sym p.0 ∙ four in cc)
    go (Err fault.NoMemory) d f (inl p) = absurd (let h : 5 ≡ 4 = sym p.0 ∙ four in cc)
    go (Err fault.DiskFault) d f (inl p) = inr (inl d)
    go (Err fault.FilesFault) d f (inl p) = inl f
    go (Err fault.NoStore) d f (inl p) = absurd (let h : 2 ≡ 4 = sym p.0 ∙ four in cc)
    go (Err (fault.Damaged q)) d f (inl p) = absurd (let h : 2 ≡ 4 = sym p.0 ∙ four in cc)
    go (Err (fault.Unreplayed q)) d f (inl p) = absurd (let h : 2 ≡ 4 = sym p.0 ∙ four in cc)
    go (Err fault.Range) d f (inl p) = absurd (let h : 2 ≡ 4 = sym p.0 ∙ four in cc)

pub not_four : (a : Asked) (old new : FileMap) (store : Option (List ℕ)) (n : Counted) (before after : Option (List ℕ)) (result : ℕ) → ExportEnds a old new store n before after result → result ≢ 4
    → (n.files_now ≡ n.files_before) × (n.disk_now ≡ n.disk_before) × (n.out_now ≡ n.out_before)
not_four a old new store n before after result e n4 = go e.answer e.counts_disk e.counts_files e.said
  where
    go : (r : Answer) → DiskCounts n.disk_before n.disk_now r → FilesCounts n.files_before n.files_now r → Says a r n.out_before n.out_now before after result
        → (n.files_now ≡ n.files_before) × (n.disk_now ≡ n.disk_before) × (n.out_now ≡ n.out_before)
    go r d f (inr p) = absurd (n4 p.0)
    go (Ok t) d f (inl p) = (f, d, p.1.0)
    go (Err fault.NoMemory) d f (inl p) = (f, d, p.1.0)
    go (Err fault.DiskFault) d f (inl p) = absurd (n4 p.0)
    go (Err fault.FilesFault) d f (inl p) = absurd (n4 p.0)
    go (Err fault.NoStore) d f (inl p) = (f, d, p.1.0)
    go (Err (fault.Damaged q)) d f (inl p) = (f, d, p.1.0)
    go (Err (fault.Unreplayed q)) d f (inl p) = (f, d, p.1.0)
    go (Err fault.Range) d f (inl p) = (f, d, p.1.0)
