-- How enrolling ends.
use Rattle.std.proofs.Common.{◌≡◌, ◌≢◌, ◌⊎◌, ℕ, ◌<◌, inl, inr, List, length, Option, None, Some, refl, sym, ◌∙◌, subst, ap, arith}
use Rattle.std.specs.Prelude.{Result, Ok, Err, IfOk, IfErr, OnOk}
use Rattle.std.specs.Result.{IsErrOf}
use Rattle.avm_outside.specs.Outside.{Rises}
use Rattle.avm_model.specs.Keys.{KeyData, key_file, public_of}
use Rattle.command_parts.specs.FileMap.{FileMap}
use Rattle.command_parts.specs.declared.fault.Fault.{Fault}
use Rattle.command_parts.specs.declared.fault.Fault.TheVariants as fault
use Rattle.evid_file.specs.Pieces.{Written, LeavesFront}
use Rattle.format_command.specs.Outcomes.{Counted}
use Rattle.hss_model.specs.Hss.{hss_key}
use Rattle.hss_model.specs.Roll.{RollData, roll_of, most_of, IsUnbound}
use Rattle.hss_command.specs.Inputs.{IsInput, IsTold, public_key_in}
use Rattle.hss_command.specs.Outcomes.{Outcome, Ended, NoMemory, FaultFiles, FaultDisk, IsOutcome}
use Rattle.hss_command.specs.declared.ends.FileOption.TheVariants.{Key, Public, Endorse, Auths}
use Rattle.hss_command.specs.declared.ends.End.{End}
use Rattle.hss_command.specs.declared.ends.End.TheVariants.{RollMade, Enrolled, Widened, Narrowed, RefusedFile, RefusedNotEmpty, RefusedNoStore, RefusedKey, RefusedLeaves, RefusedMalformed, RefusedBadAuth, RefusedMixed}
use Rattle.hss_command.specs.declared.said.Said.{Said}
use Rattle.hss_command.proofs.Counts.{status_not_four}
use Rattle.hss_command.proofs.InputLaws.{input_told}
use Rattle.hss_command.proofs.Saying.{done_end}
use Rattle.lms_hss.specs.declared.granted.Granted.{Granted}
use Rattle.roll_command.specs.Granting.{WhereTold, IsRollOf, IsRollRefusal, RollGrants, RollRefuses, Stands}
use Rattle.roll_command.specs.Enroll.{Names, Inputs, EnrollEnd, EnrollLeaves, EnrollReaches, EnrollEnds, EnrollMeans, SameEndorsement, StandsWith, endorsement}

pub enroll_reached : (n : Names) (old new : FileMap) (was now : Option (List ℕ)) (images : List ℕ → Type 0) (quiet : Type 0) (c : Counted) (r : Result Said Fault) → IfOk r (λ s. EnrollEnd n old new was now images quiet s.end) → (IsErrOf r fault.Files → EnrollLeaves n old new) → IfErr r (λ e. e ≢ fault.Files → SameEndorsement n old new)
    → (IsErrOf r fault.Files → Rises c.files_before c.files_now) → (r ≢ Err fault.Files → c.files_now ≡ c.files_before) → (IsErrOf r fault.Disk → Rises c.disk_before c.disk_now) → (r ≢ Err fault.Disk → c.disk_now ≡ c.disk_before) → r ≢ Err fault.Sink → (o : Outcome) → IsOutcome r o → EnrollReaches n old new was now images quiet c o
enroll_reached n old new was now images quiet c (Ok s) ends left untouched rises same up still sink (Ended x) is = (subst (EnrollEnd n old new was now images quiet) (sym is) ends, same (λ h. cc), still (λ h. cc))
enroll_reached n old new was now images quiet c (Ok s) ends left untouched rises same up still sink NoMemory is = absurd is
enroll_reached n old new was now images quiet c (Ok s) ends left untouched rises same up still sink FaultFiles is = absurd is
enroll_reached n old new was now images quiet c (Ok s) ends left untouched rises same up still sink FaultDisk is = absurd is
enroll_reached n old new was now images quiet c (Err fault.NoMemory) ends left untouched rises same up still sink NoMemory is = (untouched (λ h. cc), same (λ h. cc), still (λ h. cc))
enroll_reached n old new was now images quiet c (Err fault.NoMemory) ends left untouched rises same up still sink (Ended x) is = absurd is
enroll_reached n old new was now images quiet c (Err fault.NoMemory) ends left untouched rises same up still sink FaultFiles is = absurd is
enroll_reached n old new was now images quiet c (Err fault.NoMemory) ends left untouched rises same up still sink FaultDisk is = absurd is
enroll_reached n old new was now images quiet c (Err fault.Files) ends left untouched rises same up still sink FaultFiles is = (left refl, rises refl, still (λ h. cc))
enroll_reached n old new was now images quiet c (Err fault.Files) ends left untouched rises same up still sink (Ended x) is = absurd is
enroll_reached n old new was now images quiet c (Err fault.Files) ends left untouched rises same up still sink NoMemory is = absurd is
enroll_reached n old new was now images quiet c (Err fault.Files) ends left untouched rises same up still sink FaultDisk is = absurd is
enroll_reached n old new was now images quiet c (Err fault.Disk) ends left untouched rises same up still sink FaultDisk is = (untouched (λ h. cc), same (λ h. cc), up refl)
enroll_reached n old new was now images quiet c (Err fault.Disk) ends left untouched rises same up still sink (Ended x) is = absurd is
enroll_reached n old new was now images quiet c (Err fault.Disk) ends left untouched rises same up still sink NoMemory is = absurd is
enroll_reached n old new was now images quiet c (Err fault.Disk) ends left untouched rises same up still sink FaultFiles is = absurd is
enroll_reached n old new was now images quiet c (Err fault.Sink) ends left untouched rises same up still sink o is = absurd (sink refl)

-- what is read of a file that an earlier read left as it was
pub input_at : {X : Type 0} (f : List ℕ → Option X) (told mid : Option (Option (List ℕ))) (o x : Option X) → mid ≡ told → o ≡ x → IsInput f mid o → IsInput f told x
input_at {X} f told mid o x same is i = subst (λ (y : Option X). IsInput f told y) is (subst (λ (t : Option (Option (List ℕ))). IsInput f t o) same i)

-- ---- the end by what was bound

module _ (n : Names) (old mid new : FileMap) (was now : Option (List ℕ)) (images : List ℕ → Type 0) (quiet : Type 0) (k : KeyData) (bottom key : List ℕ) (same : (m : List ℕ) → mid m ≡ old m)
    (key_read : IsInput key_file (old n.key) (Some k)) (public_read : IsInput public_key_in (old n.public) (Some bottom)) (key_is : key ≡ hss_key (public_of k)) where
  pub enrolled_end : (g : Granted) (r : Result Said Fault) → g.bottom ≡ bottom → WhereTold was now (RollGrants key bottom images g.leaf) → IfOk r (λ s. s.end ≡ Enrolled g.leaf)
      → OnOk r (Written (endorsement k g.leaf g.bottom) (mid n.endorse) (new n.endorse)) → IfOk r (λ s. EnrollEnd n old new was now images quiet s.end)
  enrolled_end g r bottom_is told end written = done_end (EnrollEnd n old new was now images quiet) (Enrolled g.leaf) (Written (endorsement k g.leaf g.bottom) (mid n.endorse) (new n.endorse)) r end written (λ w. (
    k,
    bottom,
    record { key_is = key_read; public_is = public_read },
    subst (λ (l : List ℕ). WhereTold was now (RollGrants l bottom images g.leaf)) key_is told,
    subst (λ (b : List ℕ). Written (endorsement k g.leaf b) (old n.endorse) (new n.endorse)) bottom_is (subst (λ (o : Option (Option (List ℕ))). Written (endorsement k g.leaf g.bottom) o (new n.endorse)) (same n.endorse) w),
  ))

  pub enrolled_left : (g : Granted) → g.bottom ≡ bottom → LeavesFront (endorsement k g.leaf g.bottom) (mid n.endorse) (new n.endorse) → EnrollLeaves n old new
  enrolled_left g bottom_is left = inr (
    k,
    bottom,
    g.leaf,
    record { key_is = key_read; public_is = public_read },
    subst (λ (b : List ℕ). LeavesFront (endorsement k g.leaf b) (old n.endorse) (new n.endorse)) bottom_is (subst (λ (o : Option (Option (List ℕ))). LeavesFront (endorsement k g.leaf g.bottom) o (new n.endorse)) (same n.endorse) left),
  )

  pub refused_end : (end : End) → IsRollRefusal end → new n.endorse ≡ old n.endorse → WhereTold was now (RollRefuses key bottom images end) → EnrollEnd n old new was now images quiet end
  refused_end RefusedNoStore is kept told = (k, bottom, record { key_is = key_read; public_is = public_read }, subst (λ (l : List ℕ). WhereTold was now (RollRefuses l bottom images RefusedNoStore)) key_is told, kept, tt)
  refused_end RefusedKey is kept told = (k, bottom, record { key_is = key_read; public_is = public_read }, subst (λ (l : List ℕ). WhereTold was now (RollRefuses l bottom images RefusedKey)) key_is told, kept, tt)
  refused_end RefusedLeaves is kept told = (k, bottom, record { key_is = key_read; public_is = public_read }, subst (λ (l : List ℕ). WhereTold was now (RollRefuses l bottom images RefusedLeaves)) key_is told, kept, tt)
  refused_end RollMade is kept told = absurd is
  refused_end (Enrolled j) is kept told = absurd is
  refused_end (Widened j) is kept told = absurd is
  refused_end (Narrowed j) is kept told = absurd is
  refused_end (RefusedFile o) is kept told = absurd is
  refused_end RefusedNotEmpty is kept told = absurd is
  refused_end RefusedMalformed is kept told = absurd is
  refused_end (RefusedBadAuth j) is kept told = absurd is
  refused_end (RefusedMixed j) is kept told = absurd is

pub stands_with : (told : Option (Option (List ℕ))) (was now : Option (List ℕ)) (bottom : List ℕ) → IsInput public_key_in told (Some bottom) → WhereTold was now (Stands bottom) → WhereTold was now (StandsWith told)
stands_with told None now bottom i s = tt
stands_with told (Some was) None bottom i s = s
stands_with told (Some was) (Some now) bottom i s = inr (bottom, i, s)

pub enroll_four : (n : Names) (old new : FileMap) (was now : Option (List ℕ)) (images : List ℕ → Type 0) (quiet : Type 0) (c : Counted) (before after : Option (List ℕ)) (result : ℕ) → EnrollEnds n old new was now images quiet c before after result → result ≡ 4 → Rises c.files_before c.files_now ⊎ (Rises c.disk_before c.disk_now ⊎ Rises c.out_before c.out_now)
enroll_four n old new was now images quiet c before after result (o, reach, inr p) four = inr (inr p.1.0)
enroll_four n old new was now images quiet c before after result (Ended x, reach, inl p) four = absurd (status_not_four x (sym p.0 ∙ four))
enroll_four n old new was now images quiet c before after result (NoMemory, reach, inl p) four = absurd (let h : 5 ≡ 4 = sym p.0 ∙ four in cc)
enroll_four n old new was now images quiet c before after result (FaultFiles, reach, inl p) four = inl reach.1
enroll_four n old new was now images quiet c before after result (FaultDisk, reach, inl p) four = inr (inl reach.2)

pub enroll_not_four : (n : Names) (old new : FileMap) (was now : Option (List ℕ)) (images : List ℕ → Type 0) (quiet : Type 0) (c : Counted) (before after : Option (List ℕ)) (result : ℕ) → EnrollEnds n old new was now images quiet c before after result → result ≢ 4 → (c.files_now ≡ c.files_before) × (c.disk_now ≡ c.disk_before) × (c.out_now ≡ c.out_before)
enroll_not_four n old new was now images quiet c before after result (o, reach, inr p) ne = absurd (ne p.0)
enroll_not_four n old new was now images quiet c before after result (Ended x, reach, inl p) ne = (reach.1, reach.2, p.1.0)
enroll_not_four n old new was now images quiet c before after result (NoMemory, reach, inl p) ne = (reach.1, reach.2, p.1.0)
enroll_not_four n old new was now images quiet c before after result (FaultFiles, reach, inl p) ne = absurd (ne p.0)
enroll_not_four n old new was now images quiet c before after result (FaultDisk, reach, inl p) ne = absurd (ne p.0)

-- ---- what 0 says

done_by : (n : Names) (old new : FileMap) (was now : Option (List ℕ)) (images : List ℕ → Type 0) (quiet : Type 0) (c : Counted) (before after : Option (List ℕ)) (result : ℕ) → EnrollEnds n old new was now images quiet c before after result → result ≡ 0 → (k : KeyData) × (bottom : List ℕ) × (leaf : ℕ) × Inputs n old k bottom × WhereTold was now (RollGrants (hss_key (public_of k)) bottom images leaf) × Written (endorsement k leaf bottom) (old n.endorse) (new n.endorse)
done_by n old new was now images quiet c before after result (o, reach, inr p) z = absurd (let h : 4 ≡ 0 = sym p.0 ∙ z in cc)
done_by n old new was now images quiet c before after result (NoMemory, reach, inl p) z = absurd (let h : 5 ≡ 0 = sym p.0 ∙ z in cc)
done_by n old new was now images quiet c before after result (FaultFiles, reach, inl p) z = absurd (let h : 4 ≡ 0 = sym p.0 ∙ z in cc)
done_by n old new was now images quiet c before after result (FaultDisk, reach, inl p) z = absurd (let h : 4 ≡ 0 = sym p.0 ∙ z in cc)
done_by n old new was now images quiet c before after result (Ended (Enrolled leaf), reach, inl p) z = (reach.0.0, reach.0.1, leaf, reach.0.2, reach.0.3, reach.0.4)
done_by n old new was now images quiet c before after result (Ended (RefusedFile Key), reach, inl p) z = absurd (let h : 3 ≡ 0 = sym p.0 ∙ z in cc)
done_by n old new was now images quiet c before after result (Ended (RefusedFile Public), reach, inl p) z = absurd (let h : 3 ≡ 0 = sym p.0 ∙ z in cc)
done_by n old new was now images quiet c before after result (Ended RefusedNoStore, reach, inl p) z = absurd (let h : 2 ≡ 0 = sym p.0 ∙ z in cc)
done_by n old new was now images quiet c before after result (Ended RefusedKey, reach, inl p) z = absurd (let h : 2 ≡ 0 = sym p.0 ∙ z in cc)
done_by n old new was now images quiet c before after result (Ended RefusedLeaves, reach, inl p) z = absurd (let h : 2 ≡ 0 = sym p.0 ∙ z in cc)
done_by n old new was now images quiet c before after result (Ended RollMade, reach, inl p) z = absurd reach.0.5
done_by n old new was now images quiet c before after result (Ended (Widened j), reach, inl p) z = absurd reach.0.5
done_by n old new was now images quiet c before after result (Ended (Narrowed j), reach, inl p) z = absurd reach.0.5
done_by n old new was now images quiet c before after result (Ended (RefusedFile Endorse), reach, inl p) z = absurd reach.0.5
done_by n old new was now images quiet c before after result (Ended (RefusedFile Auths), reach, inl p) z = absurd reach.0.5
done_by n old new was now images quiet c before after result (Ended RefusedNotEmpty, reach, inl p) z = absurd reach.0.5
done_by n old new was now images quiet c before after result (Ended RefusedMalformed, reach, inl p) z = absurd reach.0.5
done_by n old new was now images quiet c before after result (Ended (RefusedBadAuth j), reach, inl p) z = absurd reach.0.5
done_by n old new was now images quiet c before after result (Ended (RefusedMixed j), reach, inl p) z = absurd reach.0.5

-- told files are one pair of keys
keys_one : (n : Names) (old : FileMap) (k x : KeyData) (bottom y : List ℕ) → Inputs n old k bottom → IsTold key_file (old n.key) x → IsTold public_key_in (old n.public) y → (k ≡ x) × (bottom ≡ y)
keys_one n old k x bottom y i t u =
    let a : Some k ≡ Some x = input_told key_file (old n.key) (Some k) x i.key_is t in
    let b : Some bottom ≡ Some y = input_told public_key_in (old n.public) (Some bottom) y i.public_is u in
    ((let e : k ≡ x = cc in e), (let e : bottom ≡ y = cc in e))

-- a roll of the key in which it is bound, or a leaf is free, refuses nothing
not_refused : (key x bottom y w : List ℕ) (r : RollData) (images : List ℕ → Type 0) (was now : Option (List ℕ)) (end : End) → key ≡ x → bottom ≡ y → was ≡ Some w → IsRollOf x w r → (IsUnbound r.bottoms y → length r.bottoms < most_of r.key) → WhereTold was now (RollRefuses key bottom images end) → ⊥
not_refused key x bottom y w r images None now end is same told of free refuses = absurd (let h : ◌≡◌ {A = Option (List ℕ)} None (Some w) = told in cc)
not_refused key x bottom y w r images (Some v) None end is same told of free refuses = refuses
not_refused key x bottom y w r images (Some v) (Some m) end is same told of free refuses =
    let e : v ≡ w = (let h : Some v ≡ Some w = told in cc) in
    go end (subst (λ (l : List ℕ). RollRefuses key bottom images end l m) e refuses)
  where
    one : (s : RollData) → roll_of w ≡ Some s → s ≡ r
    one s here = let h : Some s ≡ Some r = sym here ∙ of.0 in cc

    go : (end : End) → RollRefuses key bottom images end w m → ⊥
    go RefusedNoStore p = let h : ◌≡◌ {A = Option RollData} None (Some r) = sym p.0 ∙ of.0 in cc
    go RefusedKey p = p.2 (ap (λ (s : RollData). s.key) (one p.0 p.1) ∙ of.1 ∙ sym is)
    go RefusedLeaves p =
        let s = one p.0 p.1.0 in
        let full : length r.bottoms ≡ most_of r.key = subst (λ (q : RollData). length q.bottoms ≡ most_of q.key) s p.3 in
        let low = free (subst (λ (l : List ℕ). IsUnbound r.bottoms l) same (subst (λ (q : RollData). IsUnbound q.bottoms bottom) s p.2)) in
        omega (arith, full, low)
    go RollMade p = p
    go (Enrolled j) p = p
    go (Widened j) p = p
    go (Narrowed j) p = p
    go (RefusedFile o) p = p
    go RefusedNotEmpty p = p
    go RefusedMalformed p = p
    go (RefusedBadAuth j) p = p
    go (RefusedMixed j) p = p

does_by : (n : Names) (old new : FileMap) (was now : Option (List ℕ)) (images : List ℕ → Type 0) (quiet : Type 0) (c : Counted) (before after : Option (List ℕ)) (result : ℕ) → EnrollEnds n old new was now images quiet c before after result → (k : KeyData) (bottom w : List ℕ) (r : RollData) → IsTold key_file (old n.key) k → IsTold public_key_in (old n.public) bottom → was ≡ Some w → IsRollOf (hss_key (public_of k)) w r
    → (IsUnbound r.bottoms bottom → length r.bottoms < most_of r.key) → result ≢ 4 → result ≢ 5 → result ≡ 0
does_by n old new was now images quiet c before after result (o, reach, inr p) k bottom w r t u told of free n4 n5 = absurd (n4 p.0)
does_by n old new was now images quiet c before after result (NoMemory, reach, inl p) k bottom w r t u told of free n4 n5 = absurd (n5 p.0)
does_by n old new was now images quiet c before after result (FaultFiles, reach, inl p) k bottom w r t u told of free n4 n5 = absurd (n4 p.0)
does_by n old new was now images quiet c before after result (FaultDisk, reach, inl p) k bottom w r t u told of free n4 n5 = absurd (n4 p.0)
does_by n old new was now images quiet c before after result (Ended (Enrolled leaf), reach, inl p) k bottom w r t u told of free n4 n5 = p.0
does_by n old new was now images quiet c before after result (Ended (RefusedFile Key), reach, inl p) k bottom w r t u told of free n4 n5 = absurd (let h : ◌≡◌ {A = Option KeyData} None (Some k) = input_told key_file (old n.key) None k reach.0.0 t in cc)
does_by n old new was now images quiet c before after result (Ended (RefusedFile Public), reach, inl p) k bottom w r t u told of free n4 n5 = absurd (let h : ◌≡◌ {A = Option (List ℕ)} None (Some bottom) = input_told public_key_in (old n.public) None bottom reach.0.2 u in cc)
does_by n old new was now images quiet c before after result (Ended RefusedNoStore, reach, inl p) k bottom w r t u told of free n4 n5 =
    let one = keys_one n old reach.0.0 k reach.0.1 bottom reach.0.2 t u in
    absurd (not_refused (hss_key (public_of reach.0.0)) (hss_key (public_of k)) reach.0.1 bottom w r images was now RefusedNoStore (ap (λ (x : KeyData). hss_key (public_of x)) one.0) one.1 told of free reach.0.3)
does_by n old new was now images quiet c before after result (Ended RefusedKey, reach, inl p) k bottom w r t u told of free n4 n5 =
    let one = keys_one n old reach.0.0 k reach.0.1 bottom reach.0.2 t u in
    absurd (not_refused (hss_key (public_of reach.0.0)) (hss_key (public_of k)) reach.0.1 bottom w r images was now RefusedKey (ap (λ (x : KeyData). hss_key (public_of x)) one.0) one.1 told of free reach.0.3)
does_by n old new was now images quiet c before after result (Ended RefusedLeaves, reach, inl p) k bottom w r t u told of free n4 n5 =
    let one = keys_one n old reach.0.0 k reach.0.1 bottom reach.0.2 t u in
    absurd (not_refused (hss_key (public_of reach.0.0)) (hss_key (public_of k)) reach.0.1 bottom w r images was now RefusedLeaves (ap (λ (x : KeyData). hss_key (public_of x)) one.0) one.1 told of free reach.0.3)
does_by n old new was now images quiet c before after result (Ended RollMade, reach, inl p) k bottom w r t u told of free n4 n5 = absurd reach.0.5
does_by n old new was now images quiet c before after result (Ended (Widened j), reach, inl p) k bottom w r t u told of free n4 n5 = absurd reach.0.5
does_by n old new was now images quiet c before after result (Ended (Narrowed j), reach, inl p) k bottom w r t u told of free n4 n5 = absurd reach.0.5
does_by n old new was now images quiet c before after result (Ended (RefusedFile Endorse), reach, inl p) k bottom w r t u told of free n4 n5 = absurd reach.0.5
does_by n old new was now images quiet c before after result (Ended (RefusedFile Auths), reach, inl p) k bottom w r t u told of free n4 n5 = absurd reach.0.5
does_by n old new was now images quiet c before after result (Ended RefusedNotEmpty, reach, inl p) k bottom w r t u told of free n4 n5 = absurd reach.0.5
does_by n old new was now images quiet c before after result (Ended RefusedMalformed, reach, inl p) k bottom w r t u told of free n4 n5 = absurd reach.0.5
does_by n old new was now images quiet c before after result (Ended (RefusedBadAuth j), reach, inl p) k bottom w r t u told of free n4 n5 = absurd reach.0.5
does_by n old new was now images quiet c before after result (Ended (RefusedMixed j), reach, inl p) k bottom w r t u told of free n4 n5 = absurd reach.0.5

pub enroll_means : (n : Names) (old new : FileMap) (was now : Option (List ℕ)) (images : List ℕ → Type 0) (quiet : Type 0) (c : Counted) (before after : Option (List ℕ)) (result : ℕ) → EnrollEnds n old new was now images quiet c before after result → EnrollMeans n old new was now images result
enroll_means n old new was now images quiet c before after result ends = record { done = done_by n old new was now images quiet c before after result ends; does = does_by n old new was now images quiet c before after result ends }
