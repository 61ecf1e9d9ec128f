-- How widening ends.
use Rattle.std.proofs.Common.{◌≡◌, ◌≢◌, ℕ, ◌∷◌, [], inl, inr, List, Option, None, Some, refl, sym, ◌∙◌, subst, length}
use Rattle.std.specs.Prelude.{Result, Ok, Err, IfOk, IfErr}
use Rattle.std.specs.Result.{IsErrOf}
use Rattle.avm_outside.specs.Outside.{Rises}
use Rattle.avm_model.specs.Audit.{auths_within}
use Rattle.avm_model.specs.Auth.{AuthData}
use Rattle.command_parts.specs.FileMap.{FileMap, SameFiles}
use Rattle.command_parts.specs.Reading.{IsOfReading}
use Rattle.command_parts.specs.declared.fault.Fault.{Fault}
use Rattle.command_parts.specs.declared.fault.Fault.TheVariants as fault
use Rattle.hss_model.specs.HssFile.{EndorsementData, endorsement_of, widen_of}
use Rattle.evid_file.specs.Pieces.{Written}
use Rattle.hss_command.specs.Inputs.{IsTold}
use Rattle.hss_command.specs.Outcomes.{Outcome, Ended, NoMemory, FaultFiles, FaultDisk, IsOutcome}
use Rattle.hss_command.specs.Widen.{WidenInputs, WidenEnd, WidenLeaves, WidenReaches, WidenEnds, WidenMeans}
use Rattle.hss_command.specs.declared.ends.FileOption.TheVariants.{Key, Public, Endorse, Auths}
use Rattle.hss_command.specs.declared.ends.End.TheVariants.{RollMade, Enrolled, Widened, Narrowed, RefusedFile, RefusedNotEmpty, RefusedNoStore, RefusedKey, RefusedLeaves, RefusedMalformed, RefusedBadAuth, RefusedMixed}
use Rattle.hss_command.specs.declared.said.Said.{Said}
use Rattle.hss_command.proofs.Counts.{Counted}
use Rattle.hss_command.proofs.InputLaws.{input_told}

pub widen_reached : (endorse auths into : List ℕ) (old new : FileMap) (f g : ℕ) (r : Result Said Fault) → IfOk r (λ s. WidenEnd endorse auths into old new s.end) → (IsErrOf r fault.Files → WidenLeaves endorse auths into old new)
    → (IsErrOf r fault.NoMemory → SameFiles old new) → (IsErrOf r fault.Files → Rises f g) → (r ≢ Err fault.Files → g ≡ f) → (o : Outcome) → IsOutcome r o → IfErr r IsOfReading → WidenReaches endorse auths into old new f g o
widen_reached endorse auths into old new f g (Ok s) ends left memory rises same (Ended e) is of = (subst (WidenEnd endorse auths into old new) (sym is) ends, same (λ h. cc))
widen_reached endorse auths into old new f g (Ok s) ends left memory rises same NoMemory is of = absurd is
widen_reached endorse auths into old new f g (Ok s) ends left memory rises same FaultFiles is of = absurd is
widen_reached endorse auths into old new f g (Ok s) ends left memory rises same FaultDisk is of = absurd is
widen_reached endorse auths into old new f g (Err fault.NoMemory) ends left memory rises same NoMemory is of = (memory refl, same (λ h. cc))
widen_reached endorse auths into old new f g (Err fault.NoMemory) ends left memory rises same (Ended e) is of = absurd is
widen_reached endorse auths into old new f g (Err fault.NoMemory) ends left memory rises same FaultFiles is of = absurd is
widen_reached endorse auths into old new f g (Err fault.NoMemory) ends left memory rises same FaultDisk is of = absurd is
widen_reached endorse auths into old new f g (Err fault.Files) ends left memory rises same FaultFiles is of = (left refl, rises refl)
widen_reached endorse auths into old new f g (Err fault.Files) ends left memory rises same (Ended e) is of = absurd is
widen_reached endorse auths into old new f g (Err fault.Files) ends left memory rises same NoMemory is of = absurd is
widen_reached endorse auths into old new f g (Err fault.Files) ends left memory rises same FaultDisk is of = absurd is
widen_reached endorse auths into old new f g (Err fault.Disk) ends left memory rises same o is of = absurd of
widen_reached endorse auths into old new f g (Err fault.Sink) ends left memory rises same o is of = absurd of

pub widen_counted : (endorse auths into : List ℕ) (old new : FileMap) (f g : ℕ) (o : Outcome) → WidenReaches endorse auths into old new f g o → Counted o f g
widen_counted endorse auths into old new f g (Ended e) r = r.1
widen_counted endorse auths into old new f g NoMemory r = r.1
widen_counted endorse auths into old new f g FaultFiles r = r.1
widen_counted endorse auths into old new f g FaultDisk r = r

done_by : (endorse auths into : List ℕ) (old new : FileMap) (f g b n : ℕ) (was is : Option (List ℕ)) (result : ℕ) → WidenEnds endorse auths into old new f g b n was is result → result ≡ 0
    → (e : EndorsementData) × (xs : List AuthData) × WidenInputs endorse auths old e xs × Written (widen_of e xs) (old into) (new into)
done_by endorse auths into old new f g b n was is result (o, reach, inr p) z = absurd (let h : 4 ≡ 0 = sym p.0 ∙ z in cc)
done_by endorse auths into old new f g b n was is result (NoMemory, reach, inl p) z = absurd (let h : 5 ≡ 0 = sym p.0 ∙ z in cc)
done_by endorse auths into old new f g b n was is result (FaultFiles, reach, inl p) z = absurd (let h : 4 ≡ 0 = sym p.0 ∙ z in cc)
done_by endorse auths into old new f g b n was is result (FaultDisk, reach, inl p) z = absurd reach
done_by endorse auths into old new f g b n was is result (Ended (Widened k), reach, inl p) z = (reach.0.0, reach.0.1, reach.0.2, reach.0.4)
done_by endorse auths into old new f g b n was is result (Ended (RefusedFile Endorse), reach, inl p) z = absurd (let h : 3 ≡ 0 = sym p.0 ∙ z in cc)
done_by endorse auths into old new f g b n was is result (Ended (RefusedFile Auths), reach, inl p) z = absurd (let h : 3 ≡ 0 = sym p.0 ∙ z in cc)
done_by endorse auths into old new f g b n was is result (Ended (RefusedFile Key), reach, inl p) z = absurd reach.0
done_by endorse auths into old new f g b n was is result (Ended (RefusedFile Public), reach, inl p) z = absurd reach.0
done_by endorse auths into old new f g b n was is result (Ended RollMade, reach, inl p) z = absurd reach.0
done_by endorse auths into old new f g b n was is result (Ended (Enrolled k), reach, inl p) z = absurd reach.0
done_by endorse auths into old new f g b n was is result (Ended (Narrowed k), reach, inl p) z = absurd reach.0
done_by endorse auths into old new f g b n was is result (Ended RefusedNotEmpty, reach, inl p) z = absurd reach.0
done_by endorse auths into old new f g b n was is result (Ended RefusedNoStore, reach, inl p) z = absurd reach.0
done_by endorse auths into old new f g b n was is result (Ended RefusedKey, reach, inl p) z = absurd reach.0
done_by endorse auths into old new f g b n was is result (Ended RefusedLeaves, reach, inl p) z = absurd reach.0
done_by endorse auths into old new f g b n was is result (Ended RefusedMalformed, reach, inl p) z = absurd reach.0
done_by endorse auths into old new f g b n was is result (Ended (RefusedBadAuth k), reach, inl p) z = absurd reach.0
done_by endorse auths into old new f g b n was is result (Ended (RefusedMixed k), reach, inl p) z = absurd reach.0

does_by : (endorse auths into : List ℕ) (old new : FileMap) (f g b n : ℕ) (was is : Option (List ℕ)) (result : ℕ) → WidenEnds endorse auths into old new f g b n was is result
    → (e : EndorsementData) (xs : List AuthData) → IsTold endorsement_of (old endorse) e → IsTold auths_within (old auths) xs → result ≢ 4 → result ≢ 5 → result ≡ 0
does_by endorse auths into old new f g b n was is result (o, reach, inr p) e xs t u n4 n5 = absurd (n4 p.0)
does_by endorse auths into old new f g b n was is result (NoMemory, reach, inl p) e xs t u n4 n5 = absurd (n5 p.0)
does_by endorse auths into old new f g b n was is result (FaultFiles, reach, inl p) e xs t u n4 n5 = absurd (n4 p.0)
does_by endorse auths into old new f g b n was is result (FaultDisk, reach, inl p) e xs t u n4 n5 = absurd reach
does_by endorse auths into old new f g b n was is result (Ended (Widened k), reach, inl p) e xs t u n4 n5 = p.0
does_by endorse auths into old new f g b n was is result (Ended (RefusedFile Endorse), reach, inl p) e xs t u n4 n5 = absurd (let h : None ≡ Some e = input_told endorsement_of (old endorse) None e reach.0.0 t in cc)
does_by endorse auths into old new f g b n was is result (Ended (RefusedFile Auths), reach, inl p) e xs t u n4 n5 = absurd (let h : None ≡ Some xs = input_told auths_within (old auths) None xs reach.0.2 u in cc)
does_by endorse auths into old new f g b n was is result (Ended (RefusedFile Key), reach, inl p) e xs t u n4 n5 = absurd reach.0
does_by endorse auths into old new f g b n was is result (Ended (RefusedFile Public), reach, inl p) e xs t u n4 n5 = absurd reach.0
does_by endorse auths into old new f g b n was is result (Ended RollMade, reach, inl p) e xs t u n4 n5 = absurd reach.0
does_by endorse auths into old new f g b n was is result (Ended (Enrolled k), reach, inl p) e xs t u n4 n5 = absurd reach.0
does_by endorse auths into old new f g b n was is result (Ended (Narrowed k), reach, inl p) e xs t u n4 n5 = absurd reach.0
does_by endorse auths into old new f g b n was is result (Ended RefusedNotEmpty, reach, inl p) e xs t u n4 n5 = absurd reach.0
does_by endorse auths into old new f g b n was is result (Ended RefusedNoStore, reach, inl p) e xs t u n4 n5 = absurd reach.0
does_by endorse auths into old new f g b n was is result (Ended RefusedKey, reach, inl p) e xs t u n4 n5 = absurd reach.0
does_by endorse auths into old new f g b n was is result (Ended RefusedLeaves, reach, inl p) e xs t u n4 n5 = absurd reach.0
does_by endorse auths into old new f g b n was is result (Ended RefusedMalformed, reach, inl p) e xs t u n4 n5 = absurd reach.0
does_by endorse auths into old new f g b n was is result (Ended (RefusedBadAuth k), reach, inl p) e xs t u n4 n5 = absurd reach.0
does_by endorse auths into old new f g b n was is result (Ended (RefusedMixed k), reach, inl p) e xs t u n4 n5 = absurd reach.0

pub widen_means : (endorse auths into : List ℕ) (old new : FileMap) (f g b n : ℕ) (was is : Option (List ℕ)) (result : ℕ) → WidenEnds endorse auths into old new f g b n was is result → WidenMeans endorse auths into old new result
widen_means endorse auths into old new f g b n was is result ends =
    record { done = done_by endorse auths into old new f g b n was is result ends; does = does_by endorse auths into old new f g b n was is result ends }
