-- How making a roll ends.
use Rattle.std.proofs.Common.{◌≡◌, ◌≢◌, ◌⊎◌, ℕ, [], inl, inr, List, length, Option, None, Some, refl, sym, ◌∙◌, subst, ap}
use Rattle.std.specs.Prelude.{Result, Ok, Err, IfOk}
use Rattle.std.specs.Result.{IsErrOf}
use Rattle.avm_outside.specs.Outside.{Rises, BothTold}
use Rattle.avm_model.specs.Keys.{KeyData, key_file, public_of}
use Rattle.command_parts.specs.declared.fault.Fault.{Fault}
use Rattle.command_parts.specs.declared.fault.Fault.TheVariants as fault
use Rattle.format_command.specs.Outcomes.{Counted}
use Rattle.hss_model.specs.Hss.{hss_key}
use Rattle.hss_model.specs.Roll.{IsRollDisk}
use Rattle.hss_command.specs.Inputs.{IsInput, IsTold}
use Rattle.hss_command.specs.Outcomes.{Outcome, Ended, NoMemory, FaultFiles, FaultDisk, IsOutcome}
use Rattle.hss_command.specs.declared.ends.FileOption.TheVariants.{Key, Public, Endorse, Auths}
use Rattle.hss_command.specs.declared.ends.End.TheVariants.{RollMade, Enrolled, Widened, Narrowed, RefusedFile, RefusedNotEmpty, RefusedNoStore, RefusedKey, RefusedLeaves, RefusedMalformed, RefusedBadAuth, RefusedMixed}
use Rattle.hss_command.specs.declared.said.Said.{Said}
use Rattle.hss_command.proofs.Counts.{status_not_four}
use Rattle.hss_command.proofs.InputLaws.{input_told}
use Rattle.lms_hss.specs.Opening.{MakeAnswers}
use Rattle.lms_hss.specs.Own.{RollState}
use Rattle.lms_hss.specs.declared.fault.RollFault.{RollFault}
use Rattle.lms_hss.specs.declared.fault.RollFault.TheVariants as roll
use Rattle.roll_command.specs.Roll.{IsMade, IsKept, RollEnd, RollReaches, RollEnds, RollMeans}

-- ---- the disk

pub made_disk : (was now : Option (List ℕ)) (images : List ℕ → Type 0) (key : List ℕ) (k : KeyData) (v : RollState) → key ≡ hss_key (public_of k) → BothTold was now (λ w n. MakeAnswers (λ x. x) images w n key (Ok v)) → BothTold was now (IsMade k images)
made_disk None None images key k v is b = tt
made_disk None (Some n) images key k v is b = b
made_disk (Some w) None images key k v is b = b
made_disk (Some w) (Some n) images key k v is b =
    (b.0, subst (λ (l : List ℕ). IsRollDisk images n (record { key = l; bottoms = [] })) is b.1.disk)

kept_bytes : (w n key : List ℕ) (images : List ℕ → Type 0) (e : RollFault) → e ≢ roll.DiskFault → MakeAnswers {V = RollState} (λ x. x) images w n key (Err e) → (e ≡ roll.NotEmpty → Some n ≡ Some w) → IsKept w n
kept_bytes w n key images roll.NotEmpty ne a same = (a, let h : Some n ≡ Some w = same refl in cc)
kept_bytes w n key images roll.DiskFault ne a same = absurd (ne refl)
kept_bytes w n key images roll.NoRoll ne a same = absurd a
kept_bytes w n key images roll.LeavesSpent ne a same = absurd a
kept_bytes w n key images roll.Ended ne a same = absurd a

pub kept_disk : (was now : Option (List ℕ)) (images : List ℕ → Type 0) (key : List ℕ) (e : RollFault) → e ≢ roll.DiskFault → BothTold was now (λ w n. MakeAnswers {V = RollState} (λ x. x) images w n key (Err e)) → (e ≡ roll.NotEmpty → now ≡ was) → BothTold was now IsKept
kept_disk None None images key e ne b same = tt
kept_disk None (Some n) images key e ne b same = b
kept_disk (Some w) None images key e ne b same = b
kept_disk (Some w) (Some n) images key e ne b same = kept_bytes w n key images e ne b same

-- ---- outcomes

pub roll_reached : (told : Option (Option (List ℕ))) (was now : Option (List ℕ)) (images : List ℕ → Type 0) (quiet : Type 0) (c : Counted) (r : Result Said Fault) → IfOk r (λ s. RollEnd told was now images quiet s.end) → (IsErrOf r fault.NoMemory → quiet) → (IsErrOf r fault.Files → quiet)
    → (IsErrOf r fault.Files → Rises c.files_before c.files_now) → (r ≢ Err fault.Files → c.files_now ≡ c.files_before) → (IsErrOf r fault.Disk → Rises c.disk_before c.disk_now) → (r ≢ Err fault.Disk → c.disk_now ≡ c.disk_before) → r ≢ Err fault.Sink → (o : Outcome) → IsOutcome r o → RollReaches told was now images quiet c o
roll_reached told was now images quiet c (Ok s) ends memory unread rises same up still sink (Ended x) is = (subst (RollEnd told was now images quiet) (sym is) ends, same (λ h. cc), still (λ h. cc))
roll_reached told was now images quiet c (Ok s) ends memory unread rises same up still sink NoMemory is = absurd is
roll_reached told was now images quiet c (Ok s) ends memory unread rises same up still sink FaultFiles is = absurd is
roll_reached told was now images quiet c (Ok s) ends memory unread rises same up still sink FaultDisk is = absurd is
roll_reached told was now images quiet c (Err fault.NoMemory) ends memory unread rises same up still sink NoMemory is = (memory refl, same (λ h. cc), still (λ h. cc))
roll_reached told was now images quiet c (Err fault.NoMemory) ends memory unread rises same up still sink (Ended x) is = absurd is
roll_reached told was now images quiet c (Err fault.NoMemory) ends memory unread rises same up still sink FaultFiles is = absurd is
roll_reached told was now images quiet c (Err fault.NoMemory) ends memory unread rises same up still sink FaultDisk is = absurd is
roll_reached told was now images quiet c (Err fault.Files) ends memory unread rises same up still sink FaultFiles is = (unread refl, rises refl, still (λ h. cc))
roll_reached told was now images quiet c (Err fault.Files) ends memory unread rises same up still sink (Ended x) is = absurd is
roll_reached told was now images quiet c (Err fault.Files) ends memory unread rises same up still sink NoMemory is = absurd is
roll_reached told was now images quiet c (Err fault.Files) ends memory unread rises same up still sink FaultDisk is = absurd is
roll_reached told was now images quiet c (Err fault.Disk) ends memory unread rises same up still sink FaultDisk is = (up refl, same (λ h. cc))
roll_reached told was now images quiet c (Err fault.Disk) ends memory unread rises same up still sink (Ended x) is = absurd is
roll_reached told was now images quiet c (Err fault.Disk) ends memory unread rises same up still sink NoMemory is = absurd is
roll_reached told was now images quiet c (Err fault.Disk) ends memory unread rises same up still sink FaultFiles is = absurd is
roll_reached told was now images quiet c (Err fault.Sink) ends memory unread rises same up still sink o is = absurd (sink refl)

pub roll_four : (told : Option (Option (List ℕ))) (was now : Option (List ℕ)) (images : List ℕ → Type 0) (quiet : Type 0) (c : Counted) (old new : Option (List ℕ)) (result : ℕ) → RollEnds told was now images quiet c old new result → result ≡ 4 → Rises c.files_before c.files_now ⊎ (Rises c.disk_before c.disk_now ⊎ Rises c.out_before c.out_now)
roll_four told was now images quiet c old new result (o, reach, inr p) four = inr (inr p.1.0)
roll_four told was now images quiet c old new result (Ended x, reach, inl p) four = absurd (status_not_four x (sym p.0 ∙ four))
roll_four told was now images quiet c old new result (NoMemory, reach, inl p) four = absurd (let h : 5 ≡ 4 = sym p.0 ∙ four in cc)
roll_four told was now images quiet c old new result (FaultFiles, reach, inl p) four = inl reach.1
roll_four told was now images quiet c old new result (FaultDisk, reach, inl p) four = inr (inl reach.0)

pub roll_not_four : (told : Option (Option (List ℕ))) (was now : Option (List ℕ)) (images : List ℕ → Type 0) (quiet : Type 0) (c : Counted) (old new : Option (List ℕ)) (result : ℕ) → RollEnds told was now images quiet c old new result → result ≢ 4 → (c.files_now ≡ c.files_before) × (c.disk_now ≡ c.disk_before) × (c.out_now ≡ c.out_before)
roll_not_four told was now images quiet c old new result (o, reach, inr p) ne = absurd (ne p.0)
roll_not_four told was now images quiet c old new result (Ended x, reach, inl p) ne = (reach.1, reach.2, p.1.0)
roll_not_four told was now images quiet c old new result (NoMemory, reach, inl p) ne = (reach.1, reach.2, p.1.0)
roll_not_four told was now images quiet c old new result (FaultFiles, reach, inl p) ne = absurd (ne p.0)
roll_not_four told was now images quiet c old new result (FaultDisk, reach, inl p) ne = absurd (ne p.0)

-- ---- what 0 says

done_by : (told : Option (Option (List ℕ))) (was now : Option (List ℕ)) (images : List ℕ → Type 0) (quiet : Type 0) (c : Counted) (old new : Option (List ℕ)) (result : ℕ) → RollEnds told was now images quiet c old new result → result ≡ 0 → (k : KeyData) × IsInput key_file told (Some k) × BothTold was now (IsMade k images)
done_by told was now images quiet c old new result (o, reach, inr p) z = absurd (let h : 4 ≡ 0 = sym p.0 ∙ z in cc)
done_by told was now images quiet c old new result (NoMemory, reach, inl p) z = absurd (let h : 5 ≡ 0 = sym p.0 ∙ z in cc)
done_by told was now images quiet c old new result (FaultFiles, reach, inl p) z = absurd (let h : 4 ≡ 0 = sym p.0 ∙ z in cc)
done_by told was now images quiet c old new result (FaultDisk, reach, inl p) z = absurd (let h : 4 ≡ 0 = sym p.0 ∙ z in cc)
done_by told was now images quiet c old new result (Ended RollMade, reach, inl p) z = reach.0
done_by told was now images quiet c old new result (Ended (Enrolled j), reach, inl p) z = absurd reach.0
done_by told was now images quiet c old new result (Ended (Widened j), reach, inl p) z = absurd reach.0
done_by told was now images quiet c old new result (Ended (Narrowed j), reach, inl p) z = absurd reach.0
done_by told was now images quiet c old new result (Ended (RefusedFile Key), reach, inl p) z = absurd (let h : 3 ≡ 0 = sym p.0 ∙ z in cc)
done_by told was now images quiet c old new result (Ended (RefusedFile Public), reach, inl p) z = absurd reach.0
done_by told was now images quiet c old new result (Ended (RefusedFile Endorse), reach, inl p) z = absurd reach.0
done_by told was now images quiet c old new result (Ended (RefusedFile Auths), reach, inl p) z = absurd reach.0
done_by told was now images quiet c old new result (Ended RefusedNotEmpty, reach, inl p) z = absurd (let h : 2 ≡ 0 = sym p.0 ∙ z in cc)
done_by told was now images quiet c old new result (Ended RefusedNoStore, reach, inl p) z = absurd reach.0
done_by told was now images quiet c old new result (Ended RefusedKey, reach, inl p) z = absurd reach.0
done_by told was now images quiet c old new result (Ended RefusedLeaves, reach, inl p) z = absurd reach.0
done_by told was now images quiet c old new result (Ended RefusedMalformed, reach, inl p) z = absurd reach.0
done_by told was now images quiet c old new result (Ended (RefusedBadAuth j), reach, inl p) z = absurd reach.0
done_by told was now images quiet c old new result (Ended (RefusedMixed j), reach, inl p) z = absurd reach.0

-- an empty disk that is told isn't refused
not_kept : (was now : Option (List ℕ)) → was ≡ Some [] → BothTold was now IsKept → ⊥
not_kept None None is b = let h : None ≡ Some [] = is in cc
not_kept None (Some x) is b = b
not_kept (Some w) None is b = b
not_kept (Some w) (Some x) is b = b.0 (let h : Some w ≡ Some [] = is in let e : w ≡ [] = cc in ap length e)

does_by : (told : Option (Option (List ℕ))) (was now : Option (List ℕ)) (images : List ℕ → Type 0) (quiet : Type 0) (c : Counted) (old new : Option (List ℕ)) (result : ℕ) → RollEnds told was now images quiet c old new result → (k : KeyData) → IsTold key_file told k → was ≡ Some [] → result ≢ 4 → result ≢ 5 → result ≡ 0
does_by told was now images quiet c old new result (o, reach, inr p) k t empty n4 n5 = absurd (n4 p.0)
does_by told was now images quiet c old new result (NoMemory, reach, inl p) k t empty n4 n5 = absurd (n5 p.0)
does_by told was now images quiet c old new result (FaultFiles, reach, inl p) k t empty n4 n5 = absurd (n4 p.0)
does_by told was now images quiet c old new result (FaultDisk, reach, inl p) k t empty n4 n5 = absurd (n4 p.0)
does_by told was now images quiet c old new result (Ended RollMade, reach, inl p) k t empty n4 n5 = p.0
does_by told was now images quiet c old new result (Ended (Enrolled j), reach, inl p) k t empty n4 n5 = absurd reach.0
does_by told was now images quiet c old new result (Ended (Widened j), reach, inl p) k t empty n4 n5 = absurd reach.0
does_by told was now images quiet c old new result (Ended (Narrowed j), reach, inl p) k t empty n4 n5 = absurd reach.0
does_by told was now images quiet c old new result (Ended (RefusedFile Key), reach, inl p) k t empty n4 n5 = absurd (let h : None ≡ Some k = input_told key_file told None k reach.0.0 t in cc)
does_by told was now images quiet c old new result (Ended (RefusedFile Public), reach, inl p) k t empty n4 n5 = absurd reach.0
does_by told was now images quiet c old new result (Ended (RefusedFile Endorse), reach, inl p) k t empty n4 n5 = absurd reach.0
does_by told was now images quiet c old new result (Ended (RefusedFile Auths), reach, inl p) k t empty n4 n5 = absurd reach.0
does_by told was now images quiet c old new result (Ended RefusedNotEmpty, reach, inl p) k t empty n4 n5 = absurd (not_kept was now empty reach.0.2)
does_by told was now images quiet c old new result (Ended RefusedNoStore, reach, inl p) k t empty n4 n5 = absurd reach.0
does_by told was now images quiet c old new result (Ended RefusedKey, reach, inl p) k t empty n4 n5 = absurd reach.0
does_by told was now images quiet c old new result (Ended RefusedLeaves, reach, inl p) k t empty n4 n5 = absurd reach.0
does_by told was now images quiet c old new result (Ended RefusedMalformed, reach, inl p) k t empty n4 n5 = absurd reach.0
does_by told was now images quiet c old new result (Ended (RefusedBadAuth j), reach, inl p) k t empty n4 n5 = absurd reach.0
does_by told was now images quiet c old new result (Ended (RefusedMixed j), reach, inl p) k t empty n4 n5 = absurd reach.0

pub roll_means : (told : Option (Option (List ℕ))) (was now : Option (List ℕ)) (images : List ℕ → Type 0) (quiet : Type 0) (c : Counted) (old new : Option (List ℕ)) (result : ℕ) → RollEnds told was now images quiet c old new result → RollMeans told was now images result
roll_means told was now images quiet c old new result ends = record { done = done_by told was now images quiet c old new result ends; does = does_by told was now images quiet c old new result ends }
