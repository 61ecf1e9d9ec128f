-- How what is judged and said comes to the command's end.
use Rattle.std.proofs.Common.{◌≡◌, ℕ, List, Option, None, Some, IfOk, Result, Ok, Err, refl, sym, ap, subst, ◌∙◌}
use Rattle.avm_model.specs.Evidence.{EvidData, evidence_at}
use Rattle.avm_outside.specs.Outside.{Rises}
use Rattle.command_parts.specs.Printing.{Printed}
use Rattle.command_parts.specs.Reading.{Finds, IsReadAs, ReadsAs, IsOfReading}
use Rattle.command_parts.specs.declared.fault.Fault.{Fault}
use Rattle.command_parts.specs.declared.fault.Fault.TheVariants as fault
use Rattle.rebut_command.specs.Judging.{JudgedData, judged_view, BytesEnd, JudgeCounts}
use Rattle.rebut_command.specs.Outcomes.{Outcome, Ended, NoMemory, FaultFiles, FaultDisk, IsOutcome, BytesReach, CountsDisk, RebutEnds, counted, lines_of, status_of_outcome}
use Rattle.rebut_command.specs.declared.judging.Judged.{Judged}
use Rattle.rebut_command.specs.declared.judging.Judged.TheVariants as judged
use Rattle.rebut_command.specs.declared.refusal.Refusal.TheVariants as refusal

-- a text as it is said, by another spelling
pub as_text : {S E : Type 0} (f : S → List ℕ) (r : Result S E) (a b : List ℕ) → a ≡ b → IfOk r (λ t. f t ≡ a) → IfOk r (λ t. f t ≡ b)
as_text f (Ok t) a b e h = h ∙ e
as_text f (Err x) a b e h = tt

-- ---- what is said of bytes

abbrev pub Said : Option EvidData → Option (List ℕ) → ℕ → ℕ → ℕ → ℕ → Option (List ℕ) → Option (List ℕ) → ℕ → Type 0
Said v store db dn sb sn old new result = (o : Outcome) × BytesReach v store o × CountsDisk o db dn × Printed (lines_of o) (status_of_outcome o) sb sn old new result

pub bytes_said : (v : Option EvidData) (store : Option (List ℕ)) (db dn sb sn : ℕ) (old new : Option (List ℕ)) (result : ℕ) (r : Result Judged Fault) → IfOk r (λ j. BytesEnd v store (judged_view j)) → JudgeCounts db dn r
    → (o : Outcome) → IsOutcome r o → Printed (lines_of o) (status_of_outcome o) sb sn old new result → Said v store db dn sb sn old new result
bytes_said v store db dn sb sn old new result (Ok j) ends counts (Ended d) is p = (Ended d, subst (λ (x : JudgedData). BytesEnd v store x) (sym is) ends, counts, p)
bytes_said v store db dn sb sn old new result (Ok j) ends counts NoMemory is p = (NoMemory, tt, counts, p)
bytes_said v store db dn sb sn old new result (Ok j) ends counts FaultFiles is p = absurd is
bytes_said v store db dn sb sn old new result (Ok j) ends counts FaultDisk is p = absurd is
bytes_said v store db dn sb sn old new result (Err fault.NoMemory) ends counts (Ended d) is p = absurd is
bytes_said v store db dn sb sn old new result (Err fault.NoMemory) ends counts NoMemory is p = (NoMemory, tt, counts, p)
bytes_said v store db dn sb sn old new result (Err fault.NoMemory) ends counts FaultFiles is p = absurd is
bytes_said v store db dn sb sn old new result (Err fault.NoMemory) ends counts FaultDisk is p = absurd is
bytes_said v store db dn sb sn old new result (Err fault.Files) ends counts o is p = absurd counts
bytes_said v store db dn sb sn old new result (Err fault.Disk) ends counts (Ended d) is p = absurd is
bytes_said v store db dn sb sn old new result (Err fault.Disk) ends counts NoMemory is p = absurd is
bytes_said v store db dn sb sn old new result (Err fault.Disk) ends counts FaultFiles is p = absurd is
bytes_said v store db dn sb sn old new result (Err fault.Disk) ends counts FaultDisk is p = (FaultDisk, tt, counts, p)
bytes_said v store db dn sb sn old new result (Err fault.Sink) ends counts o is p = absurd counts

-- ---- the command's end

-- the file is there
pub some_ends : (told : Option (Option (List ℕ))) (store : Option (List ℕ)) (items text : List ℕ) (fb fn db dn sb sn : ℕ) (old new : Option (List ℕ)) (result : ℕ) → text ≡ items → IsReadAs evidence_at told (Some items) → fn ≡ fb → Said (evidence_at text) store db dn sb sn old new result
    → RebutEnds told store (counted fb fn) (counted db dn) (counted sb sn) old new result
some_ends told store items text fb fn db dn sb sn old new result is read same said = go read.0 read.1 read.2 said.0 said.1 said.2 said.3
  where
    go : (found : Option (List ℕ)) → Finds told found → ReadsAs evidence_at found (Some items) → (o : Outcome) → BytesReach (evidence_at text) store o → CountsDisk o db dn → Printed (lines_of o) (status_of_outcome o) sb sn old new result
        → RebutEnds told store (counted fb fn) (counted db dn) (counted sb sn) old new result
    go None finds r o reach counts p = absurd r
    go (Some bytes) finds r (Ended d) reach counts p = record { outcome = Ended d; found = Some bytes; finds = finds; reaches = subst (λ (v : Option EvidData). BytesEnd v store d) (ap evidence_at is ∙ r) reach; counts_files = same; counts_disk = counts; printed = p }
    go (Some bytes) finds r NoMemory reach counts p = record { outcome = NoMemory; found = Some bytes; finds = finds; reaches = tt; counts_files = same; counts_disk = counts; printed = p }
    go (Some bytes) finds r FaultFiles reach counts p = absurd reach
    go (Some bytes) finds r FaultDisk reach counts p = record { outcome = FaultDisk; found = Some bytes; finds = finds; reaches = tt; counts_files = same; counts_disk = counts; printed = p }

-- it isn't
pub none_ends : (told : Option (Option (List ℕ))) (store : Option (List ℕ)) (fb fn d sb sn : ℕ) (old new : Option (List ℕ)) (result : ℕ) → IsReadAs evidence_at told None → fn ≡ fb
    → (o : Outcome) → IsOutcome (Ok (judged.Refused refusal.File)) o → Printed (lines_of o) (status_of_outcome o) sb sn old new result → RebutEnds told store (counted fb fn) (counted d d) (counted sb sn) old new result
none_ends told store fb fn d sb sn old new result read same o is p = go read.0 read.1 read.2 o is p
  where
    go : (found : Option (List ℕ)) → Finds told found → ReadsAs evidence_at found None → (x : Outcome) → IsOutcome (Ok (judged.Refused refusal.File)) x → Printed (lines_of x) (status_of_outcome x) sb sn old new result
        → RebutEnds told store (counted fb fn) (counted d d) (counted sb sn) old new result
    go (Some bytes) finds r x i q = absurd r
    go None finds r (Ended e) i q = record { outcome = Ended e; found = None; finds = finds; reaches = i; counts_files = same; counts_disk = refl; printed = q }
    go None finds r NoMemory i q = record { outcome = NoMemory; found = None; finds = finds; reaches = tt; counts_files = same; counts_disk = refl; printed = q }
    go None finds r FaultFiles i q = absurd i
    go None finds r FaultDisk i q = absurd i

any_found : (told : Option (Option (List ℕ))) → (found : Option (List ℕ)) × Finds told found
any_found None = (None, tt)
any_found (Some was) = (was, refl)

-- it isn't read
pub fault_ends : (told : Option (Option (List ℕ))) (store : Option (List ℕ)) (fb fn d sb sn : ℕ) (old new : Option (List ℕ)) (result : ℕ) (f : Fault) → IsOfReading f → (f ≡ fault.Files → Rises fb fn) → ((f ≡ fault.Files → ⊥) → fn ≡ fb)
    → (o : Outcome) → IsOutcome (Err f) o → Printed (lines_of o) (status_of_outcome o) sb sn old new result → RebutEnds told store (counted fb fn) (counted d d) (counted sb sn) old new result
fault_ends told store fb fn d sb sn old new result fault.NoMemory of rises stays (Ended x) is p = absurd is
fault_ends told store fb fn d sb sn old new result fault.NoMemory of rises stays NoMemory is p = let a = any_found told in record { outcome = NoMemory; found = a.0; finds = a.1; reaches = tt; counts_files = stays (λ e. cc); counts_disk = refl; printed = p }
fault_ends told store fb fn d sb sn old new result fault.NoMemory of rises stays FaultFiles is p = absurd is
fault_ends told store fb fn d sb sn old new result fault.NoMemory of rises stays FaultDisk is p = absurd is
fault_ends told store fb fn d sb sn old new result fault.Files of rises stays (Ended x) is p = absurd is
fault_ends told store fb fn d sb sn old new result fault.Files of rises stays NoMemory is p = absurd is
fault_ends told store fb fn d sb sn old new result fault.Files of rises stays FaultFiles is p = let a = any_found told in record { outcome = FaultFiles; found = a.0; finds = a.1; reaches = tt; counts_files = rises refl; counts_disk = refl; printed = p }
fault_ends told store fb fn d sb sn old new result fault.Files of rises stays FaultDisk is p = absurd is
fault_ends told store fb fn d sb sn old new result fault.Disk of rises stays o is p = absurd of
fault_ends told store fb fn d sb sn old new result fault.Sink of rises stays o is p = absurd of
