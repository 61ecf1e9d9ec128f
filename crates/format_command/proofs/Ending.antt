-- How formatting comes to its end.
use Rattle.std.proofs.Common.{◌≡◌, ◌≢◌, ◌⊎◌, inl, inr, ℕ, List, [], ◌∷◌, Option, refl, sym, subst, ◌∙◌}
use Rattle.std.specs.Prelude.{Result, Ok, Err, IsErrOf}
use Rattle.avm_model.specs.Keys.{KeyData}
use Rattle.avm_model.specs.Machine.{State}
use Rattle.avm_outside.specs.Outside.{Rises}
use Rattle.command_parts.specs.FileMap.{FileMap}
use Rattle.command_parts.specs.Printing.{line, Printed}
use Rattle.command_parts.specs.Reading.{IsOfReading}
use Rattle.command_parts.specs.declared.fault.Fault.{Fault}
use Rattle.command_parts.specs.declared.fault.Fault.TheVariants as fault
use Rattle.format_command.specs.First.{CountsDisk, Makes, first_journal}
use Rattle.format_command.specs.Inputs.{Names, Found, AreFound, RefusesFile, Tells}
use Rattle.format_command.specs.Outcomes.{Outcome, Ended, NoMemory, FaultFiles, FaultDisk, Counted, FormatEnds, IsOutcome, Reaches, status_of_outcome, text_of_outcome}
use Rattle.format_command.specs.declared.ends.End.{End}
use Rattle.format_command.specs.declared.ends.End.TheVariants.{StoreMade, RefusedFile, RefusedNotEmpty}
use Rattle.format_command.specs.declared.ends.FileOption.{FileOption}
use Rattle.format_command.proofs.CutFiles.{found_any}

-- what is printed for an outcome
abbrev pub Prints : Result End Fault → ℕ → ℕ → Option (List ℕ) → Option (List ℕ) → ℕ → Type 0
Prints r before now old new result = (o : Outcome) × IsOutcome r o × Printed (line (text_of_outcome o) ∷ []) (status_of_outcome o) before now old new result

-- files that may be found
pub any_found : (names : Names) (files : FileMap) → (f : Found) × AreFound names files f
any_found names files =
    let k = found_any (files names.key) in
    let c = found_any (files names.config) in
    let i = found_any (files names.image) in
    (record { key = k.0; config = c.0; image = i.0 }, (k.1, c.1, i.1))

-- the files were read, and the store was made or not
made_as : (names : Names) (files : FileMap) (f : Found) (k : KeyData) (s : State) (old new : Option (List ℕ)) (images : List ℕ → Type 0) (quiet : Type 0) (n : Counted) (before after : Option (List ℕ)) (result : ℕ) (end : End)
    → AreFound names files f → Tells f k s → n.files_now ≡ n.files_before → n.disk_now ≡ n.disk_before → Reaches (Ended end) f old new images quiet → Prints (Ok end) n.out_before n.out_now before after result
    → FormatEnds names files old new images quiet n before after result
made_as names files f k s old new images quiet n before after result end found tells same calm reach (Ended e, is, p) =
    (Ended e, f, found, subst (λ (x : End). Reaches (Ended x) f old new images quiet) (sym is) reach, (same, calm), p)
made_as names files f k s old new images quiet n before after result end found tells same calm reach (NoMemory, is, p) = absurd is
made_as names files f k s old new images quiet n before after result end found tells same calm reach (FaultFiles, is, p) = absurd is
made_as names files f k s old new images quiet n before after result end found tells same calm reach (FaultDisk, is, p) = absurd is

pub made_end : (names : Names) (files : FileMap) (f : Found) (k : KeyData) (s : State) (old new : Option (List ℕ)) (images : List ℕ → Type 0) (quiet : Type 0) (n : Counted) (before after : Option (List ℕ)) (result : ℕ) (r : Result End Fault)
    → AreFound names files f → Tells f k s → n.files_now ≡ n.files_before → CountsDisk n.disk_before n.disk_now r → Makes (first_journal k s) old new images r → Prints r n.out_before n.out_now before after result
    → FormatEnds names files old new images quiet n before after result
made_end names files f k s old new images quiet n before after result (Ok StoreMade) found tells same counts m p =
    made_as names files f k s old new images quiet n before after result StoreMade found tells same counts (k, s, tells, m) p
made_end names files f k s old new images quiet n before after result (Ok RefusedNotEmpty) found tells same counts m p =
    made_as names files f k s old new images quiet n before after result RefusedNotEmpty found tells same counts (k, s, tells, m) p
made_end names files f k s old new images quiet n before after result (Ok (RefusedFile o)) found tells same counts m p = absurd m
made_end names files f k s old new images quiet n before after result (Err fault.NoMemory) found tells same counts m (Ended e, is, p) = absurd is
made_end names files f k s old new images quiet n before after result (Err fault.NoMemory) found tells same counts m (NoMemory, is, p) = (NoMemory, f, found, m, (same, counts), p)
made_end names files f k s old new images quiet n before after result (Err fault.NoMemory) found tells same counts m (FaultFiles, is, p) = absurd is
made_end names files f k s old new images quiet n before after result (Err fault.NoMemory) found tells same counts m (FaultDisk, is, p) = absurd is
made_end names files f k s old new images quiet n before after result (Err fault.Disk) found tells same counts m (Ended e, is, p) = absurd is
made_end names files f k s old new images quiet n before after result (Err fault.Disk) found tells same counts m (NoMemory, is, p) = absurd is
made_end names files f k s old new images quiet n before after result (Err fault.Disk) found tells same counts m (FaultFiles, is, p) = absurd is
made_end names files f k s old new images quiet n before after result (Err fault.Disk) found tells same counts m (FaultDisk, is, p) = (FaultDisk, f, found, (k, s, tells), (same, counts), p)
made_end names files f k s old new images quiet n before after result (Err fault.Files) found tells same counts m p = absurd m
made_end names files f k s old new images quiet n before after result (Err fault.Sink) found tells same counts m p = absurd m

-- a file was refused
pub refused_end : (names : Names) (files : FileMap) (f : Found) (option : FileOption) (old : Option (List ℕ)) (images : List ℕ → Type 0) (quiet : Type 0) (n : Counted) (before after : Option (List ℕ)) (result : ℕ)
    → AreFound names files f → RefusesFile f option → quiet → n.files_now ≡ n.files_before → n.disk_now ≡ n.disk_before → Prints (Ok (RefusedFile option)) n.out_before n.out_now before after result
    → FormatEnds names files old old images quiet n before after result
refused_end names files f option old images quiet n before after result found refuses q same calm (Ended e, is, p) =
    (Ended e, f, found, subst (λ (x : End). Reaches (Ended x) f old old images quiet) (sym is) (refuses, q), (same, calm), p)
refused_end names files f option old images quiet n before after result found refuses q same calm (NoMemory, is, p) = absurd is
refused_end names files f option old images quiet n before after result found refuses q same calm (FaultFiles, is, p) = absurd is
refused_end names files f option old images quiet n before after result found refuses q same calm (FaultDisk, is, p) = absurd is

-- the files weren't read
pub unread_end : {A : Type 0} (names : Names) (files : FileMap) (old : Option (List ℕ)) (images : List ℕ → Type 0) (quiet : Type 0) (n : Counted) (before after : Option (List ℕ)) (result : ℕ) (e : Fault)
    → IsOfReading e → quiet → (IsErrOf {T = A} (Err e) fault.Files → Rises n.files_before n.files_now) → (◌≢◌ {A = Result A Fault} (Err e) (Err fault.Files) → n.files_now ≡ n.files_before) → n.disk_now ≡ n.disk_before → Prints (Err e) n.out_before n.out_now before after result
    → FormatEnds names files old old images quiet n before after result
unread_end names files old images quiet n before after result fault.NoMemory is q rises same calm (Ended e, out, p) = absurd out
unread_end names files old images quiet n before after result fault.NoMemory is q rises same calm (NoMemory, out, p) = let f = any_found names files in (NoMemory, f.0, f.1, refl, (same (λ x. cc), calm), p)
unread_end names files old images quiet n before after result fault.NoMemory is q rises same calm (FaultFiles, out, p) = absurd out
unread_end names files old images quiet n before after result fault.NoMemory is q rises same calm (FaultDisk, out, p) = absurd out
unread_end names files old images quiet n before after result fault.Files is q rises same calm (Ended e, out, p) = absurd out
unread_end names files old images quiet n before after result fault.Files is q rises same calm (NoMemory, out, p) = absurd out
unread_end names files old images quiet n before after result fault.Files is q rises same calm (FaultFiles, out, p) = let f = any_found names files in (FaultFiles, f.0, f.1, q, (rises refl, calm), p)
unread_end names files old images quiet n before after result fault.Files is q rises same calm (FaultDisk, out, p) = absurd out
unread_end names files old images quiet n before after result fault.Disk is q rises same calm p = absurd is
unread_end names files old images quiet n before after result fault.Sink is q rises same calm p = absurd is

-- ---- the status 4

not_four_end : (e : End) → status_of_outcome (Ended e) ≡ 4 → ⊥
not_four_end StoreMade h = cc
not_four_end (RefusedFile o) h = cc
not_four_end RefusedNotEmpty h = cc

pub only_four : (names : Names) (files : FileMap) (old new : Option (List ℕ)) (images : List ℕ → Type 0) (quiet : Type 0) (n : Counted) (before after : Option (List ℕ)) (result : ℕ) → FormatEnds names files old new images quiet n before after result → result ≡ 4
    → Rises n.files_before n.files_now ⊎ (Rises n.disk_before n.disk_now ⊎ Rises n.out_before n.out_now)
only_four names files old new images quiet n before after result (o, f, found, reach, counts, inr p) four = inr (inr p.1.0)
only_four names files old new images quiet n before after result (Ended e, f, found, reach, counts, inl p) four = absurd (not_four_end e (sym p.0 ∙ four))
only_four names files old new images quiet n before after result (NoMemory, f, found, reach, counts, inl p) four = absurd (let h : 5 ≡ 4 = sym p.0 ∙ four in cc)
only_four names files old new images quiet n before after result (FaultFiles, f, found, reach, counts, inl p) four = inl counts.0
only_four names files old new images quiet n before after result (FaultDisk, f, found, reach, counts, inl p) four = inr (inl counts.1)

pub not_four : (names : Names) (files : FileMap) (old new : Option (List ℕ)) (images : List ℕ → Type 0) (quiet : Type 0) (n : Counted) (before after : Option (List ℕ)) (result : ℕ) → FormatEnds names files old new images quiet n before after result → result ≢ 4
    → (n.files_now ≡ n.files_before) × (n.disk_now ≡ n.disk_before) × (n.out_now ≡ n.out_before)
not_four names files old new images quiet n before after result (o, f, found, reach, counts, inr p) ne = absurd (ne p.0)
not_four names files old new images quiet n before after result (Ended e, f, found, reach, counts, inl p) ne = (counts.0, counts.1, p.1.0)
not_four names files old new images quiet n before after result (NoMemory, f, found, reach, counts, inl p) ne = (counts.0, counts.1, p.1.0)
not_four names files old new images quiet n before after result (FaultFiles, f, found, reach, counts, inl p) ne = absurd (ne p.0)
not_four names files old new images quiet n before after result (FaultDisk, f, found, reach, counts, inl p) ne = absurd (ne p.0)
