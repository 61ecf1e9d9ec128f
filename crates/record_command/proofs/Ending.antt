-- How recording comes to its lines and its status.
use Rattle.std.proofs.Common.{◌≡◌, ◌≢◌, ◌⊎◌, ◌≤◌, ℕ, List, [], ◌∷◌, ◌++◌, Option, Some, None, inl, inr, refl, sym, ap, subst, ◌∙◌}
use Rattle.std.specs.Prelude.{IfSome, Result, Ok, Err}
use Rattle.std.specs.List.{concat}
use Rattle.std.specs.Option.{option_map}
use Rattle.std.specs.Result.{IsErrOf}
use Rattle.avm_model.specs.Keys.{KeyData}
use Rattle.avm_outside.specs.Outside.{Rises}
use Rattle.avm_script.specs.Script.{ScriptData}
use Rattle.command_parts.specs.FileMap.{FileMap}
use Rattle.command_parts.specs.Printing.{PrintsCut, Printed, line}
use Rattle.command_parts.specs.Reading.{IsOfReading}
use Rattle.command_parts.specs.declared.fault.Fault.{Fault}
use Rattle.command_parts.specs.declared.fault.Fault.TheVariants as fault
use Rattle.command_parts.proofs.Joined.{printed_on}
use Rattle.file_outlet.specs.RunFiles.{Held}
use Rattle.format_command.specs.Outcomes.{Counted}
use Rattle.journal_model.specs.Saving.{NoLeaf, NoRoom}
use Rattle.record_model.specs.Recorded.{Drop}
use Rattle.record_run.specs.Lines.{drop_lines}
use Rattle.record_command.specs.Counts.{DiskCounts, FileCounts, SaysBy}
use Rattle.record_command.specs.Ends.{status_of, text_of}
use Rattle.record_command.specs.Inputs.{Found, AreFound, RefusesFile, Tells}
use Rattle.record_command.specs.Meaning.{IsCut, IsDone, IsTurnedAway, RecordMeans, StandsFrom}
use Rattle.record_command.specs.Outcomes.{Names, Outcome, Ended, NoMemory, FaultFiles, FaultDisk, FaultSink, CountsFaults, IsOutcome, Reaches, RecordEnds, Says, inputs, last_lines, outputs, status_of_outcome}
use Rattle.record_command.specs.Runs.{Leaves, StandsOn, Untouched}
use Rattle.record_command.specs.Stores.{RefusesStore}
use Rattle.record_command.specs.declared.ends.End.{End}
use Rattle.record_command.specs.declared.ends.End.TheVariants.{Recorded, RefusedFile, RefusedNoStore, RefusedDamaged, RefusedRetired, RefusedKey, RefusedJournal, RefusedLeaves, RefusedFull}
use Rattle.record_command.specs.declared.ends.FileOption.{FileOption}
use Rattle.record_command.proofs.Taking.{found_any}

-- ---- the store was opened, or was to be

abbrev outcome_by : Result End Fault → Outcome
outcome_by (Ok end) = Ended end
outcome_by (Err fault.NoMemory) = NoMemory
outcome_by (Err fault.Files) = FaultFiles
outcome_by (Err fault.Disk) = FaultDisk
outcome_by (Err fault.Sink) = FaultSink

reached : (f : Found) (old new : Held) (was now : Option (List ℕ)) (images : List ℕ → Type 0) (quiet : Type 0) (drops : List Drop) (k : KeyData) (s : ScriptData) (r : Result End Fault) → Tells f k s → Leaves k s old new was now images drops r → Reaches (outcome_by r) f old new was now images quiet drops
reached f old new was now images quiet drops k s (Ok (Recorded summary)) tells leaves = (k, s, tells, leaves)
reached f old new was now images quiet drops k s (Ok (RefusedFile option)) tells leaves = absurd leaves
reached f old new was now images quiet drops k s (Ok RefusedNoStore) tells leaves = (k, s, tells, leaves)
reached f old new was now images quiet drops k s (Ok (RefusedDamaged p)) tells leaves = (k, s, tells, leaves)
reached f old new was now images quiet drops k s (Ok RefusedRetired) tells leaves = (k, s, tells, leaves)
reached f old new was now images quiet drops k s (Ok RefusedKey) tells leaves = (k, s, tells, leaves)
reached f old new was now images quiet drops k s (Ok (RefusedJournal n)) tells leaves = (k, s, tells, leaves)
reached f old new was now images quiet drops k s (Ok RefusedLeaves) tells leaves = (k, s, tells, leaves)
reached f old new was now images quiet drops k s (Ok RefusedFull) tells leaves = (k, s, tells, leaves)
reached f old new was now images quiet drops k s (Err fault.NoMemory) tells leaves = inr (k, s, tells, leaves)
reached f old new was now images quiet drops k s (Err fault.Files) tells leaves = inr (k, s, tells, leaves)
reached f old new was now images quiet drops k s (Err fault.Disk) tells leaves = (k, s, tells, leaves)
reached f old new was now images quiet drops k s (Err fault.Sink) tells leaves = (k, s, tells, leaves)

counted : (r : Result End Fault) (a b c d : ℕ) → FileCounts a b r → DiskCounts c d r → CountsFaults (outcome_by r) a b c d
counted (Ok end) a b c d f e = (f, e)
counted (Err fault.NoMemory) a b c d f e = (f, e)
counted (Err fault.Files) a b c d f e = (f, e)
counted (Err fault.Disk) a b c d f e = (f, e)
counted (Err fault.Sink) a b c d f e = (f, e)

-- the outcome that the last line is of
named : (r : Result End Fault) (o : Outcome) → IsOutcome r o → o ≡ outcome_by r
named (Ok end) (Ended e) is = ap Ended is
named (Ok end) NoMemory is = absurd is
named (Ok end) FaultFiles is = absurd is
named (Ok end) FaultDisk is = absurd is
named (Ok end) FaultSink is = absurd is
named (Err fault.NoMemory) NoMemory is = refl
named (Err fault.NoMemory) (Ended e) is = absurd is
named (Err fault.NoMemory) FaultFiles is = absurd is
named (Err fault.NoMemory) FaultDisk is = absurd is
named (Err fault.NoMemory) FaultSink is = absurd is
named (Err fault.Files) FaultFiles is = refl
named (Err fault.Files) (Ended e) is = absurd is
named (Err fault.Files) NoMemory is = absurd is
named (Err fault.Files) FaultDisk is = absurd is
named (Err fault.Files) FaultSink is = absurd is
named (Err fault.Disk) FaultDisk is = refl
named (Err fault.Disk) (Ended e) is = absurd is
named (Err fault.Disk) NoMemory is = absurd is
named (Err fault.Disk) FaultFiles is = absurd is
named (Err fault.Disk) FaultSink is = absurd is
named (Err fault.Sink) (Ended e) is = absurd is
named (Err fault.Sink) NoMemory is = absurd is
named (Err fault.Sink) FaultFiles is = absurd is
named (Err fault.Sink) FaultDisk is = absurd is
named (Err fault.Sink) FaultSink is = absurd is

-- the last line behind those of the dropped events
said : (r : Result End Fault) (drops : List Drop) (before n m result : ℕ) (old mid new : Option (List ℕ)) → SaysBy drops r before n old mid
    → (r ≢ Err fault.Sink → (o : Outcome) × IsOutcome r o × Printed (last_lines o) (status_of_outcome o) n m mid new result)
    → (r ≡ Err fault.Sink → (result ≡ 4) × (m ≡ n) × (new ≡ mid)) → Says (outcome_by r) drops before m old new result
said (Err fault.Sink) drops before n m result old mid new says line cut =
    let c = cut refl in
    (c.0, subst (λ (w : Option (List ℕ)). PrintsCut (drop_lines drops) before m old w) (sym c.2) (subst (λ (k : ℕ). PrintsCut (drop_lines drops) before k old mid) (sym c.1) says))
said (Ok end) drops before n m result old mid new says line cut =
    let l = line (λ h. cc) in
    printed_on (drop_lines drops) (last_lines (Ended end)) (status_of end) before n m result old mid new says (subst (λ (o : Outcome). Printed (last_lines o) (status_of_outcome o) n m mid new result) (named (Ok end) l.0 l.1) l.2)
said (Err fault.NoMemory) drops before n m result old mid new says line cut =
    let l = line (λ h. cc) in
    printed_on (drop_lines drops) (last_lines NoMemory) 5 before n m result old mid new says (subst (λ (o : Outcome). Printed (last_lines o) (status_of_outcome o) n m mid new result) (named (Err fault.NoMemory) l.0 l.1) l.2)
said (Err fault.Files) drops before n m result old mid new says line cut =
    let l = line (λ h. cc) in
    printed_on (drop_lines drops) (last_lines FaultFiles) 4 before n m result old mid new says (subst (λ (o : Outcome). Printed (last_lines o) (status_of_outcome o) n m mid new result) (named (Err fault.Files) l.0 l.1) l.2)
said (Err fault.Disk) drops before n m result old mid new says line cut =
    let l = line (λ h. cc) in
    printed_on (drop_lines drops) (last_lines FaultDisk) 4 before n m result old mid new says (subst (λ (o : Outcome). Printed (last_lines o) (status_of_outcome o) n m mid new result) (named (Err fault.Disk) l.0 l.1) l.2)

-- two maps that agree at each name are one
pub same_map : (f g : FileMap) → ((n : List ℕ) → f n ≡ g n) → f ≡ g
same_map f g h = λ i n. h n i

pub run_ends : (names : Names) (old mid new : FileMap) (f : Found) (k : KeyData) (s : ScriptData) (was now : Option (List ℕ)) (images : List ℕ → Type 0) (quiet : Type 0) (c : Counted) (out_mid : ℕ) (before at after : Option (List ℕ)) (result : ℕ) (drops : List Drop) (r : Result End Fault)
    → mid ≡ old → AreFound (inputs names) old f → Tells f k s → SaysBy drops r c.out_before out_mid before at → Leaves k s (outputs names mid) (outputs names new) was now images drops r
    → FileCounts c.files_before c.files_now r → DiskCounts c.disk_before c.disk_now r
    → (r ≢ Err fault.Sink → (o : Outcome) × IsOutcome r o × Printed (last_lines o) (status_of_outcome o) out_mid c.out_now at after result)
    → (r ≡ Err fault.Sink → (result ≡ 4) × (c.out_now ≡ out_mid) × (after ≡ at))
    → RecordEnds names old new was now images quiet c before after result
run_ends names old mid new f k s was now images quiet c out_mid before at after result drops r same found tells says leaves files disk line cut = (
  outcome_by r,
  f,
  drops,
  found,
  reached f (outputs names old) (outputs names new) was now images quiet drops k s r tells (subst (λ (m : FileMap). Leaves k s (outputs names m) (outputs names new) was now images drops r) same leaves),
  counted r c.files_before c.files_now c.disk_before c.disk_now files disk,
  said r drops c.out_before out_mid c.out_now result before at after says line cut,
)

-- ---- no store is opened

pub refused_ends : (names : Names) (old new : FileMap) (f : Found) (option : FileOption) (was : Option (List ℕ)) (images : List ℕ → Type 0) (quiet : Type 0) (c : Counted) (before after : Option (List ℕ)) (result : ℕ)
    → quiet → new ≡ old → AreFound (inputs names) old f → RefusesFile f option → c.files_now ≡ c.files_before → c.disk_now ≡ c.disk_before
    → (o : Outcome) × IsOutcome (Ok (RefusedFile option)) o × Printed (last_lines o) (status_of_outcome o) c.out_before c.out_now before after result
    → RecordEnds names old new was was images quiet c before after result
refused_ends names old new f option was images quiet c before after result q same found refuses files disk l = (
  Ended (RefusedFile option),
  f,
  [],
  found,
  (refuses, record { disk = q; files = ap (outputs names) same; none = refl }),
  (files, disk),
  subst (λ (o : Outcome). Printed (last_lines o) (status_of_outcome o) c.out_before c.out_now before after result) (named (Ok (RefusedFile option)) l.0 l.1) l.2,
)

-- the files that would be found under the names
any_found : (names : Names) (old : FileMap) → (f : Found) × AreFound (inputs names) old f
any_found names old =
    let k = found_any (old names.key) in
    let s = found_any (old names.script) in
    (record { key = k.0; script = s.0 }, (k.1, s.1))

pub unread_ends : {A : Type 0} (names : Names) (old new : FileMap) (was : Option (List ℕ)) (images : List ℕ → Type 0) (quiet : Type 0) (c : Counted) (before after : Option (List ℕ)) (result : ℕ) (e : Fault)
    → quiet → new ≡ old → IsOfReading e → (IsErrOf {T = A} (Err e) fault.Files → Rises c.files_before c.files_now) → (◌≢◌ {A = Result A Fault} (Err e) (Err fault.Files) → c.files_now ≡ c.files_before) → c.disk_now ≡ c.disk_before
    → (◌≢◌ {A = Result End Fault} (Err e) (Err fault.Sink) → (o : Outcome) × IsOutcome (Err e) o × Printed (last_lines o) (status_of_outcome o) c.out_before c.out_now before after result)
    → RecordEnds names old new was was images quiet c before after result
unread_ends names old new was images quiet c before after result fault.NoMemory q same is up still disk line =
    let f = any_found names old in
    let l = line (λ h. cc) in (
      NoMemory,
      f.0,
      [],
      f.1,
      inl (record { disk = q; files = ap (outputs names) same; none = refl }),
      (still (λ h. cc), disk),
      subst (λ (o : Outcome). Printed (last_lines o) (status_of_outcome o) c.out_before c.out_now before after result) (named (Err fault.NoMemory) l.0 l.1) l.2,
    )
unread_ends names old new was images quiet c before after result fault.Files q same is up still disk line =
    let f = any_found names old in
    let l = line (λ h. cc) in (
      FaultFiles,
      f.0,
      [],
      f.1,
      inl (record { disk = q; files = ap (outputs names) same; none = refl }),
      (up refl, disk),
      subst (λ (o : Outcome). Printed (last_lines o) (status_of_outcome o) c.out_before c.out_now before after result) (named (Err fault.Files) l.0 l.1) l.2,
    )
unread_ends names old new was images quiet c before after result fault.Disk q same is up still disk line = absurd is
unread_ends names old new was images quiet c before after result fault.Sink q same is up still disk line = absurd is

-- ---- the status 4

not_four_end : (e : End) → status_of e ≡ 4 → ⊥
not_four_end (Recorded summary) h = cc
not_four_end (RefusedFile option) h = cc
not_four_end RefusedNoStore h = cc
not_four_end (RefusedDamaged p) h = cc
not_four_end RefusedRetired h = cc
not_four_end RefusedKey h = cc
not_four_end (RefusedJournal n) h = cc
not_four_end RefusedLeaves h = cc
not_four_end RefusedFull h = cc

pub only_four : (names : Names) (old new : FileMap) (was now : Option (List ℕ)) (images : List ℕ → Type 0) (quiet : Type 0) (c : Counted) (before after : Option (List ℕ)) (result : ℕ) → RecordEnds names old new was now images quiet c before after result → result ≡ 4
    → Rises c.files_before c.files_now ⊎ (Rises c.disk_before c.disk_now ⊎ Rises c.out_before c.out_now)
only_four names old new was now images quiet c before after result (FaultSink, f, drops, found, reach, counts, says) four = inr (inr says.1.0)
only_four names old new was now images quiet c before after result (Ended e, f, drops, found, reach, counts, inl p) four = absurd (not_four_end e (sym p.0 ∙ four))
only_four names old new was now images quiet c before after result (Ended e, f, drops, found, reach, counts, inr p) four = inr (inr p.1.0)
only_four names old new was now images quiet c before after result (NoMemory, f, drops, found, reach, counts, inl p) four = absurd (let h : 5 ≡ 4 = sym p.0 ∙ four in cc)
only_four names old new was now images quiet c before after result (NoMemory, f, drops, found, reach, counts, inr p) four = inr (inr p.1.0)
only_four names old new was now images quiet c before after result (FaultFiles, f, drops, found, reach, counts, p) four = inl counts.0
only_four names old new was now images quiet c before after result (FaultDisk, f, drops, found, reach, counts, p) four = inr (inl counts.1)

pub else_none : (names : Names) (old new : FileMap) (was now : Option (List ℕ)) (images : List ℕ → Type 0) (quiet : Type 0) (c : Counted) (before after : Option (List ℕ)) (result : ℕ) → RecordEnds names old new was now images quiet c before after result → result ≢ 4
    → (c.files_now ≡ c.files_before) × (c.disk_now ≡ c.disk_before) × (c.out_now ≡ c.out_before)
else_none names old new was now images quiet c before after result (FaultSink, f, drops, found, reach, counts, says) ne = absurd (ne says.0)
else_none names old new was now images quiet c before after result (Ended e, f, drops, found, reach, counts, inl p) ne = (counts.0, counts.1, p.1.0)
else_none names old new was now images quiet c before after result (Ended e, f, drops, found, reach, counts, inr p) ne = absurd (ne p.0)
else_none names old new was now images quiet c before after result (NoMemory, f, drops, found, reach, counts, inl p) ne = (counts.0, counts.1, p.1.0)
else_none names old new was now images quiet c before after result (NoMemory, f, drops, found, reach, counts, inr p) ne = absurd (ne p.0)
else_none names old new was now images quiet c before after result (FaultFiles, f, drops, found, reach, counts, inl p) ne = absurd (ne p.0)
else_none names old new was now images quiet c before after result (FaultFiles, f, drops, found, reach, counts, inr p) ne = absurd (ne p.0)
else_none names old new was now images quiet c before after result (FaultDisk, f, drops, found, reach, counts, inl p) ne = absurd (ne p.0)
else_none names old new was now images quiet c before after result (FaultDisk, f, drops, found, reach, counts, inr p) ne = absurd (ne p.0)

-- ---- what 0 says

done_by : (names : Names) (old new : FileMap) (was now : Option (List ℕ)) (images : List ℕ → Type 0) (quiet : Type 0) (c : Counted) (before after : Option (List ℕ)) (result : ℕ) → RecordEnds names old new was now images quiet c before after result → result ≡ 0 → IsDone names old new was now images before after
done_by names old new was now images quiet c before after result (FaultSink, f, drops, found, reach, counts, says) z = absurd (let h : 4 ≡ 0 = sym says.0 ∙ z in cc)
done_by names old new was now images quiet c before after result (Ended (Recorded summary), f, drops, found, reach, counts, inl p) z =
    record { found = f; key = reach.0; script = reach.1; drops = drops; summary = summary; are_found = found; tells = reach.2; records = reach.3; printed = p.1.1 }
done_by names old new was now images quiet c before after result (Ended (RefusedFile option), f, drops, found, reach, counts, inl p) z = absurd (let h : 3 ≡ 0 = sym p.0 ∙ z in cc)
done_by names old new was now images quiet c before after result (Ended RefusedNoStore, f, drops, found, reach, counts, inl p) z = absurd (let h : 2 ≡ 0 = sym p.0 ∙ z in cc)
done_by names old new was now images quiet c before after result (Ended (RefusedDamaged n), f, drops, found, reach, counts, inl p) z = absurd (let h : 2 ≡ 0 = sym p.0 ∙ z in cc)
done_by names old new was now images quiet c before after result (Ended RefusedRetired, f, drops, found, reach, counts, inl p) z = absurd (let h : 2 ≡ 0 = sym p.0 ∙ z in cc)
done_by names old new was now images quiet c before after result (Ended RefusedKey, f, drops, found, reach, counts, inl p) z = absurd (let h : 2 ≡ 0 = sym p.0 ∙ z in cc)
done_by names old new was now images quiet c before after result (Ended (RefusedJournal n), f, drops, found, reach, counts, inl p) z = absurd (let h : 2 ≡ 0 = sym p.0 ∙ z in cc)
done_by names old new was now images quiet c before after result (Ended RefusedLeaves, f, drops, found, reach, counts, inl p) z = absurd (let h : 2 ≡ 0 = sym p.0 ∙ z in cc)
done_by names old new was now images quiet c before after result (Ended RefusedFull, f, drops, found, reach, counts, inl p) z = absurd (let h : 2 ≡ 0 = sym p.0 ∙ z in cc)
done_by names old new was now images quiet c before after result (Ended e, f, drops, found, reach, counts, inr p) z = absurd (let h : 4 ≡ 0 = sym p.0 ∙ z in cc)
done_by names old new was now images quiet c before after result (NoMemory, f, drops, found, reach, counts, inl p) z = absurd (let h : 5 ≡ 0 = sym p.0 ∙ z in cc)
done_by names old new was now images quiet c before after result (NoMemory, f, drops, found, reach, counts, inr p) z = absurd (let h : 4 ≡ 0 = sym p.0 ∙ z in cc)
done_by names old new was now images quiet c before after result (FaultFiles, f, drops, found, reach, counts, inl p) z = absurd (let h : 4 ≡ 0 = sym p.0 ∙ z in cc)
done_by names old new was now images quiet c before after result (FaultFiles, f, drops, found, reach, counts, inr p) z = absurd (let h : 4 ≡ 0 = sym p.0 ∙ z in cc)
done_by names old new was now images quiet c before after result (FaultDisk, f, drops, found, reach, counts, inl p) z = absurd (let h : 4 ≡ 0 = sym p.0 ∙ z in cc)
done_by names old new was now images quiet c before after result (FaultDisk, f, drops, found, reach, counts, inr p) z = absurd (let h : 4 ≡ 0 = sym p.0 ∙ z in cc)

-- ---- what 2 says

-- the store isn't opened
away : (names : Names) (old new : FileMap) (was now : Option (List ℕ)) (before after : Option (List ℕ)) (f : Found) (k : KeyData) (s : ScriptData) (end : End) (drops : List Drop) → AreFound (inputs names) old f → Tells f k s → Untouched (outputs names old) (outputs names new) was now drops → IfSome was (λ w. RefusesStore k w end)
    → after ≡ option_map (λ out. out ++ concat (drop_lines drops ++ line (text_of end) ∷ [])) before → IsTurnedAway names old new was now before after
away names old new was now before after f k s end drops found tells stays refuses printed = record {
  found = f;
  key = k;
  script = s;
  end = end;
  are_found = found;
  tells = tells;
  refuses = refuses;
  disk = stays.disk;
  files = ap (λ (h : Held). h.files) stays.files;
  printed = subst (λ (ds : List Drop). after ≡ option_map (λ out. out ++ concat (drop_lines ds ++ line (text_of end) ∷ [])) before) stays.none printed;
}

refused_by : (names : Names) (old new : FileMap) (was now : Option (List ℕ)) (images : List ℕ → Type 0) (quiet : Type 0) (c : Counted) (before after : Option (List ℕ)) (result : ℕ) → RecordEnds names old new was now images quiet c before after result → result ≡ 2 → IsTurnedAway names old new was now before after ⊎ IsCut names old new was now images before after
refused_by names old new was now images quiet c before after result (FaultSink, f, drops, found, reach, counts, says) z = absurd (let h : 4 ≡ 2 = sym says.0 ∙ z in cc)
refused_by names old new was now images quiet c before after result (Ended (Recorded summary), f, drops, found, reach, counts, inl p) z = absurd (let h : 0 ≡ 2 = sym p.0 ∙ z in cc)
refused_by names old new was now images quiet c before after result (Ended (RefusedFile option), f, drops, found, reach, counts, inl p) z = absurd (let h : 3 ≡ 2 = sym p.0 ∙ z in cc)
refused_by names old new was now images quiet c before after result (Ended RefusedNoStore, f, drops, found, reach, counts, inl p) z = inl (away names old new was now before after f reach.0 reach.1 RefusedNoStore drops found reach.2 reach.3.0 reach.3.1 p.1.1)
refused_by names old new was now images quiet c before after result (Ended (RefusedDamaged n), f, drops, found, reach, counts, inl p) z = inl (away names old new was now before after f reach.0 reach.1 (RefusedDamaged n) drops found reach.2 reach.3.0 reach.3.1 p.1.1)
refused_by names old new was now images quiet c before after result (Ended RefusedRetired, f, drops, found, reach, counts, inl p) z = inl (away names old new was now before after f reach.0 reach.1 RefusedRetired drops found reach.2 reach.3.0 reach.3.1 p.1.1)
refused_by names old new was now images quiet c before after result (Ended RefusedKey, f, drops, found, reach, counts, inl p) z = inl (away names old new was now before after f reach.0 reach.1 RefusedKey drops found reach.2 reach.3.0 reach.3.1 p.1.1)
refused_by names old new was now images quiet c before after result (Ended (RefusedJournal n), f, drops, found, reach, counts, inl p) z = inl (away names old new was now before after f reach.0 reach.1 (RefusedJournal n) drops found reach.2 reach.3.0 reach.3.1 p.1.1)
refused_by names old new was now images quiet c before after result (Ended RefusedLeaves, f, drops, found, reach, counts, inl p) z =
    inr (record { found = f; key = reach.0; script = reach.1; drops = drops; stop = NoLeaf; are_found = found; tells = reach.2; records = reach.3; printed = p.1.1 })
refused_by names old new was now images quiet c before after result (Ended RefusedFull, f, drops, found, reach, counts, inl p) z =
    inr (record { found = f; key = reach.0; script = reach.1; drops = drops; stop = NoRoom; are_found = found; tells = reach.2; records = reach.3; printed = p.1.1 })
refused_by names old new was now images quiet c before after result (Ended e, f, drops, found, reach, counts, inr p) z = absurd (let h : 4 ≡ 2 = sym p.0 ∙ z in cc)
refused_by names old new was now images quiet c before after result (NoMemory, f, drops, found, reach, counts, inl p) z = absurd (let h : 5 ≡ 2 = sym p.0 ∙ z in cc)
refused_by names old new was now images quiet c before after result (NoMemory, f, drops, found, reach, counts, inr p) z = absurd (let h : 4 ≡ 2 = sym p.0 ∙ z in cc)
refused_by names old new was now images quiet c before after result (FaultFiles, f, drops, found, reach, counts, inl p) z = absurd (let h : 4 ≡ 2 = sym p.0 ∙ z in cc)
refused_by names old new was now images quiet c before after result (FaultFiles, f, drops, found, reach, counts, inr p) z = absurd (let h : 4 ≡ 2 = sym p.0 ∙ z in cc)
refused_by names old new was now images quiet c before after result (FaultDisk, f, drops, found, reach, counts, inl p) z = absurd (let h : 4 ≡ 2 = sym p.0 ∙ z in cc)
refused_by names old new was now images quiet c before after result (FaultDisk, f, drops, found, reach, counts, inr p) z = absurd (let h : 4 ≡ 2 = sym p.0 ∙ z in cc)

pub means : (names : Names) (old new : FileMap) (was now : Option (List ℕ)) (images : List ℕ → Type 0) (quiet : Type 0) (c : Counted) (before after : Option (List ℕ)) (result : ℕ) → RecordEnds names old new was now images quiet c before after result → RecordMeans names old new was now images before after result
means names old new was now images quiet c before after result ends = record { done = done_by names old new was now images quiet c before after result ends; refused = refused_by names old new was now images quiet c before after result ends }

-- ---- at any moment

pub all_moments : {D : Type 0} (moment : D → ℕ) (left_since : D → ℕ → List ℕ → Type 0) (x y : D) (names : Names) (old : FileMap) (f : Found) (k : KeyData) (s : ScriptData) (was : Option (List ℕ)) → AreFound (inputs names) old f → Tells f k s
    → IfSome was (λ w. (t : ℕ) (c : List ℕ) → t ≤ moment x → left_since y t c → left_since x t c ⊎ StandsOn k s w c)
    → IfSome was (λ w. (t : ℕ) (c : List ℕ) → t ≤ moment x → left_since y t c → left_since x t c ⊎ StandsFrom names old w c)
all_moments moment left_since x y names old f k s None found tells left = tt
all_moments moment left_since x y names old f k s (Some w) found tells left = λ t c le l. second (left t c le l)
  where
    second : {A : Type 0} {c : List ℕ} → A ⊎ StandsOn k s w c → A ⊎ StandsFrom names old w c
    second (inl a) = inl a
    second (inr p) = inr (f, k, s, found, tells, p)

pub no_moments : {D : Type 0} (moment : D → ℕ) (left_since : D → ℕ → List ℕ → Type 0) (x : D) (names : Names) (old : FileMap) (was : Option (List ℕ)) → IfSome was (λ w. (t : ℕ) (c : List ℕ) → t ≤ moment x → left_since x t c → left_since x t c ⊎ StandsFrom names old w c)
no_moments moment left_since x names old None = tt
no_moments moment left_since x names old (Some w) = λ t c le l. inl l
