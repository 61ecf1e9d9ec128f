-- How narrowing ends.
use Rattle.std.proofs.Common.{◌≡◌, ◌≢◌, ℕ, ◌+◌, ◌^◌, inl, inr, List, take, Option, None, Some, refl, sym, ◌∙◌, ap, subst, length}
use Rattle.std.specs.Prelude.{Result, Ok, Err, IfOk, IfErr, option_map}
use Rattle.std.specs.Result.{IsErrOf}
use Rattle.avm_outside.specs.Outside.{Rises}
use Rattle.avm_num.specs.Lists.{list_bytes}
use Rattle.avm_num.specs.Room.{Buffer, with_bytes}
use Rattle.avm_model.specs.Auth.{AuthData, auth_bytes}
use Rattle.command_parts.specs.FileMap.{FileMap, SameFiles}
use Rattle.command_parts.specs.Reading.{Finds, IsReadOf, IsOfReading}
use Rattle.command_parts.proofs.Cuts.{cut_same}
use Rattle.command_parts.specs.declared.fault.Fault.{Fault}
use Rattle.command_parts.specs.declared.fault.Fault.TheVariants as fault
use Rattle.hss_model.specs.HssFile.{Narrowing, Malformed, BadAuth, Mixed, Narrows, narrow_of}
use Rattle.evid_file.specs.Pieces.{Written}
use Rattle.hss_command.specs.Inputs.{IsInput, IsTold, public_key_in}
use Rattle.hss_files.specs.Answers.{NarrowAnswers}
use Rattle.hss_files.specs.declared.narrowing.Narrowed.TheVariants as answer
use Rattle.hss_command.specs.Outcomes.{Outcome, Ended, NoMemory, FaultFiles, FaultDisk, IsOutcome}
use Rattle.hss_command.specs.Narrow.{NarrowsTo, NarrowEnd, NarrowLeaves, NarrowReaches, NarrowEnds, NarrowMeans}
use Rattle.hss_command.specs.declared.ends.FileOption.TheVariants.{Key, Public, Endorse, Auths}
use Rattle.hss_command.specs.declared.ends.End.TheVariants.{RollMade, Enrolled, Widened, Narrowed, RefusedFile, RefusedNotEmpty, RefusedNoStore, RefusedKey, RefusedLeaves, RefusedMalformed, RefusedBadAuth, RefusedMixed}
use Rattle.hss_command.specs.declared.said.Said.{Said}
use Rattle.hss_command.proofs.Counts.{Counted}
use Rattle.hss_command.proofs.InputLaws.{input_told, narrow_long}

-- told files are narrowed in one way
narrows_one : (key auths : List ℕ) (old : FileMap) (top bytes : List ℕ) (r : Narrowing) → NarrowsTo key auths old r → IsTold public_key_in (old key) top → old auths ≡ Some (Some bytes) → r ≡ narrow_of top bytes
narrows_one key auths old top bytes r to t u =
    let k : Some to.top ≡ Some top = input_told public_key_in (old key) (Some to.top) top to.key_is t in
    let b : Some bytes ≡ Some to.bytes = subst (λ (s : Option (Option (List ℕ))). Finds s (Some to.bytes)) u to.found in
    let same_top : to.top ≡ top = cc in
    let same_bytes : to.bytes ≡ bytes = cc in
    sym to.gives ∙ ap (λ (l : List ℕ). narrow_of l to.bytes) same_top ∙ ap (narrow_of top) same_bytes

-- ---- the answers of the call

pub refused_by : (key auths : List ℕ) (old : FileMap) (top got : List ℕ) (r : Narrowing) (mid : Option (Option (List ℕ))) → IsInput public_key_in (old key) (Some top) → mid ≡ old auths → IsReadOf (2 ^ 25) mid (Some got) → narrow_of top got ≡ r → NarrowsTo key auths old r
refused_by key auths old top got r mid key_is same read gives = go read.0 read.1 read.2
  where
    go : (found : Option (List ℕ)) → Finds mid found → Some got ≡ option_map (take (2 ^ 25 + 1)) found → NarrowsTo key auths old r
    go None finds cut = let no : Some got ≡ None = cut in absurd cc
    go (Some whole) finds cut =
        let is : got ≡ take (2 ^ 25 + 1) whole = cc in
        record {
          top = top;
          bytes = whole;
          key_is = key_is;
          found = subst (λ (s : Option (Option (List ℕ))). Finds s (Some whole)) same finds;
          gives = sym (cut_same (narrow_of top) Malformed (2 ^ 25) (narrow_long top) whole) ∙ ap (narrow_of top) (sym is) ∙ gives;
        }

-- what the definition gives, by the call's answer
pub gives_malformed : (n : Narrowing) (b c : Buffer) → NarrowAnswers n b c answer.Malformed → n ≡ Malformed
gives_malformed Malformed b c a = refl
gives_malformed (BadAuth k) b c a = let h : answer.Malformed ≡ answer.BadAuth k = a.0 in absurd cc
gives_malformed (Mixed k) b c a = let h : answer.Malformed ≡ answer.Mixed k = a.0 in absurd cc
gives_malformed (Narrows l xs) b c a = let h : answer.Malformed ≡ answer.Under l (length xs) = a.0 in absurd cc

pub gives_bad : (n : Narrowing) (b c : Buffer) (j : ℕ) → NarrowAnswers n b c (answer.BadAuth j) → n ≡ BadAuth j
gives_bad Malformed b c j a = let h : answer.BadAuth j ≡ answer.Malformed = a.0 in absurd cc
gives_bad (BadAuth k) b c j a = let h : answer.BadAuth j ≡ answer.BadAuth k = a.0 in cc
gives_bad (Mixed k) b c j a = let h : answer.BadAuth j ≡ answer.Mixed k = a.0 in absurd cc
gives_bad (Narrows l xs) b c j a = let h : answer.BadAuth j ≡ answer.Under l (length xs) = a.0 in absurd cc

pub gives_mixed : (n : Narrowing) (b c : Buffer) (j : ℕ) → NarrowAnswers n b c (answer.Mixed j) → n ≡ Mixed j
gives_mixed Malformed b c j a = let h : answer.Mixed j ≡ answer.Malformed = a.0 in absurd cc
gives_mixed (BadAuth k) b c j a = let h : answer.Mixed j ≡ answer.BadAuth k = a.0 in absurd cc
gives_mixed (Mixed k) b c j a = let h : answer.Mixed j ≡ answer.Mixed k = a.0 in cc
gives_mixed (Narrows l xs) b c j a = let h : answer.Mixed j ≡ answer.Under l (length xs) = a.0 in absurd cc

-- the authenticators that were appended
pub record Given (n : Narrowing) (b c : Buffer) (bottom : List ℕ) (count : ℕ) : Type 0 where
  pub auths : List AuthData
  pub is : n ≡ Narrows bottom auths
  pub count_is : count ≡ length auths
  pub bytes : c ≡ with_bytes b (list_bytes auth_bytes auths)

pub gives_under : (n : Narrowing) (b c : Buffer) (bottom : List ℕ) (j : ℕ) → NarrowAnswers n b c (answer.Under bottom j) → Given n b c bottom j
gives_under Malformed b c bottom j a = let h : answer.Under bottom j ≡ answer.Malformed = a.0 in absurd cc
gives_under (BadAuth k) b c bottom j a = let h : answer.Under bottom j ≡ answer.BadAuth k = a.0 in absurd cc
gives_under (Mixed k) b c bottom j a = let h : answer.Under bottom j ≡ answer.Mixed k = a.0 in absurd cc
gives_under (Narrows l xs) b c bottom j a =
    let h : answer.Under bottom j ≡ answer.Under l (length xs) = a.0 in
    let same : l ≡ bottom = cc in
    let many : j ≡ length xs = cc in
    record { auths = xs; is = ap (λ (k : List ℕ). Narrows k xs) same; count_is = many; bytes = a.1 }

pub narrow_reached : (key auths public into : List ℕ) (old new : FileMap) (f g : ℕ) (r : Result Said Fault) → IfOk r (λ s. NarrowEnd key auths public into old new s.end) → (IsErrOf r fault.Files → NarrowLeaves key auths public into old new)
    → (IsErrOf r fault.NoMemory → SameFiles old new) → (IsErrOf r fault.Files → Rises f g) → (r ≢ Err fault.Files → g ≡ f) → (o : Outcome) → IsOutcome r o → IfErr r IsOfReading → NarrowReaches key auths public into old new f g o
narrow_reached key auths public into old new f g (Ok s) ends left memory rises same (Ended e) is of = (subst (NarrowEnd key auths public into old new) (sym is) ends, same (λ h. cc))
narrow_reached key auths public into old new f g (Ok s) ends left memory rises same NoMemory is of = absurd is
narrow_reached key auths public into old new f g (Ok s) ends left memory rises same FaultFiles is of = absurd is
narrow_reached key auths public into old new f g (Ok s) ends left memory rises same FaultDisk is of = absurd is
narrow_reached key auths public into old new f g (Err fault.NoMemory) ends left memory rises same NoMemory is of = (memory refl, same (λ h. cc))
narrow_reached key auths public into old new f g (Err fault.NoMemory) ends left memory rises same (Ended e) is of = absurd is
narrow_reached key auths public into old new f g (Err fault.NoMemory) ends left memory rises same FaultFiles is of = absurd is
narrow_reached key auths public into old new f g (Err fault.NoMemory) ends left memory rises same FaultDisk is of = absurd is
narrow_reached key auths public into old new f g (Err fault.Files) ends left memory rises same FaultFiles is of = (left refl, rises refl)
narrow_reached key auths public into old new f g (Err fault.Files) ends left memory rises same (Ended e) is of = absurd is
narrow_reached key auths public into old new f g (Err fault.Files) ends left memory rises same NoMemory is of = absurd is
narrow_reached key auths public into old new f g (Err fault.Files) ends left memory rises same FaultDisk is of = absurd is
narrow_reached key auths public into old new f g (Err fault.Disk) ends left memory rises same o is of = absurd of
narrow_reached key auths public into old new f g (Err fault.Sink) ends left memory rises same o is of = absurd of

pub narrow_counted : (key auths public into : List ℕ) (old new : FileMap) (f g : ℕ) (o : Outcome) → NarrowReaches key auths public into old new f g o → Counted o f g
narrow_counted key auths public into old new f g (Ended e) r = r.1
narrow_counted key auths public into old new f g NoMemory r = r.1
narrow_counted key auths public into old new f g FaultFiles r = r.1
narrow_counted key auths public into old new f g FaultDisk r = r

done_by : (key auths public into : List ℕ) (old new : FileMap) (f g b n : ℕ) (was is : Option (List ℕ)) (result : ℕ) → NarrowEnds key auths public into old new f g b n was is result → result ≡ 0
    → (bottom : List ℕ) × (xs : List AuthData) × NarrowsTo key auths old (Narrows bottom xs) × Written bottom (old public) (new public) × Written (list_bytes auth_bytes xs) (old into) (new into)
done_by key auths public into old new f g b n was is result (o, reach, inr p) z = absurd (let h : 4 ≡ 0 = sym p.0 ∙ z in cc)
done_by key auths public into old new f g b n was is result (NoMemory, reach, inl p) z = absurd (let h : 5 ≡ 0 = sym p.0 ∙ z in cc)
done_by key auths public into old new f g b n was is result (FaultFiles, reach, inl p) z = absurd (let h : 4 ≡ 0 = sym p.0 ∙ z in cc)
done_by key auths public into old new f g b n was is result (FaultDisk, reach, inl p) z = absurd reach
done_by key auths public into old new f g b n was is result (Ended (Widened k), reach, inl p) z = absurd reach.0
done_by key auths public into old new f g b n was is result (Ended (RefusedFile Endorse), reach, inl p) z = absurd reach.0
done_by key auths public into old new f g b n was is result (Ended (RefusedFile Auths), reach, inl p) z = absurd (let h : 3 ≡ 0 = sym p.0 ∙ z in cc)
done_by key auths public into old new f g b n was is result (Ended (RefusedFile Key), reach, inl p) z = absurd (let h : 3 ≡ 0 = sym p.0 ∙ z in cc)
done_by key auths public into old new f g b n was is result (Ended (RefusedFile Public), reach, inl p) z = absurd reach.0
done_by key auths public into old new f g b n was is result (Ended RollMade, reach, inl p) z = absurd reach.0
done_by key auths public into old new f g b n was is result (Ended (Enrolled k), reach, inl p) z = absurd reach.0
done_by key auths public into old new f g b n was is result (Ended (Narrowed k), reach, inl p) z = (reach.0.0, reach.0.1, reach.0.2, reach.0.4, reach.0.5)
done_by key auths public into old new f g b n was is result (Ended RefusedNotEmpty, reach, inl p) z = absurd reach.0
done_by key auths public into old new f g b n was is result (Ended RefusedNoStore, reach, inl p) z = absurd reach.0
done_by key auths public into old new f g b n was is result (Ended RefusedKey, reach, inl p) z = absurd reach.0
done_by key auths public into old new f g b n was is result (Ended RefusedLeaves, reach, inl p) z = absurd reach.0
done_by key auths public into old new f g b n was is result (Ended RefusedMalformed, reach, inl p) z = absurd (let h : 2 ≡ 0 = sym p.0 ∙ z in cc)
done_by key auths public into old new f g b n was is result (Ended (RefusedBadAuth k), reach, inl p) z = absurd (let h : 2 ≡ 0 = sym p.0 ∙ z in cc)
done_by key auths public into old new f g b n was is result (Ended (RefusedMixed k), reach, inl p) z = absurd (let h : 2 ≡ 0 = sym p.0 ∙ z in cc)

does_by : (key auths public into : List ℕ) (old new : FileMap) (f g b n : ℕ) (was is : Option (List ℕ)) (result : ℕ) → NarrowEnds key auths public into old new f g b n was is result
    → (top bytes bottom : List ℕ) (xs : List AuthData) → IsTold public_key_in (old key) top → old auths ≡ Some (Some bytes) → narrow_of top bytes ≡ Narrows bottom xs → result ≢ 4 → result ≢ 5 → result ≡ 0
does_by key auths public into old new f g b n was is result (o, reach, inr p) top bytes bottom xs t u v n4 n5 = absurd (n4 p.0)
does_by key auths public into old new f g b n was is result (NoMemory, reach, inl p) top bytes bottom xs t u v n4 n5 = absurd (n5 p.0)
does_by key auths public into old new f g b n was is result (FaultFiles, reach, inl p) top bytes bottom xs t u v n4 n5 = absurd (n4 p.0)
does_by key auths public into old new f g b n was is result (FaultDisk, reach, inl p) top bytes bottom xs t u v n4 n5 = absurd reach
does_by key auths public into old new f g b n was is result (Ended (Widened k), reach, inl p) top bytes bottom xs t u v n4 n5 = absurd reach.0
does_by key auths public into old new f g b n was is result (Ended (RefusedFile Endorse), reach, inl p) top bytes bottom xs t u v n4 n5 = absurd reach.0
does_by key auths public into old new f g b n was is result (Ended (RefusedFile Auths), reach, inl p) top bytes bottom xs t u v n4 n5 = absurd (let h : Some bytes ≡ None = subst (λ (s : Option (Option (List ℕ))). Finds s None) u reach.0.2 in cc)
does_by key auths public into old new f g b n was is result (Ended (RefusedFile Key), reach, inl p) top bytes bottom xs t u v n4 n5 = absurd (let h : None ≡ Some top = input_told public_key_in (old key) None top reach.0.0 t in cc)
does_by key auths public into old new f g b n was is result (Ended (RefusedFile Public), reach, inl p) top bytes bottom xs t u v n4 n5 = absurd reach.0
does_by key auths public into old new f g b n was is result (Ended RollMade, reach, inl p) top bytes bottom xs t u v n4 n5 = absurd reach.0
does_by key auths public into old new f g b n was is result (Ended (Enrolled k), reach, inl p) top bytes bottom xs t u v n4 n5 = absurd reach.0
does_by key auths public into old new f g b n was is result (Ended (Narrowed k), reach, inl p) top bytes bottom xs t u v n4 n5 = p.0
does_by key auths public into old new f g b n was is result (Ended RefusedNotEmpty, reach, inl p) top bytes bottom xs t u v n4 n5 = absurd reach.0
does_by key auths public into old new f g b n was is result (Ended RefusedNoStore, reach, inl p) top bytes bottom xs t u v n4 n5 = absurd reach.0
does_by key auths public into old new f g b n was is result (Ended RefusedKey, reach, inl p) top bytes bottom xs t u v n4 n5 = absurd reach.0
does_by key auths public into old new f g b n was is result (Ended RefusedLeaves, reach, inl p) top bytes bottom xs t u v n4 n5 = absurd reach.0
does_by key auths public into old new f g b n was is result (Ended RefusedMalformed, reach, inl p) top bytes bottom xs t u v n4 n5 = absurd (let h : Malformed ≡ Narrows bottom xs = narrows_one key auths old top bytes Malformed reach.0.0 t u ∙ v in cc)
does_by key auths public into old new f g b n was is result (Ended (RefusedBadAuth k), reach, inl p) top bytes bottom xs t u v n4 n5 = absurd (let h : BadAuth k ≡ Narrows bottom xs = narrows_one key auths old top bytes (BadAuth k) reach.0.0 t u ∙ v in cc)
does_by key auths public into old new f g b n was is result (Ended (RefusedMixed k), reach, inl p) top bytes bottom xs t u v n4 n5 = absurd (let h : Mixed k ≡ Narrows bottom xs = narrows_one key auths old top bytes (Mixed k) reach.0.0 t u ∙ v in cc)

pub narrow_means : (key auths public into : List ℕ) (old new : FileMap) (f g b n : ℕ) (was is : Option (List ℕ)) (result : ℕ) → NarrowEnds key auths public into old new f g b n was is result → NarrowMeans key auths public into old new result
narrow_means key auths public into old new f g b n was is result ends =
    record { done = done_by key auths public into old new f g b n was is result ends; does = does_by key auths public into old new f g b n was is result ends }
