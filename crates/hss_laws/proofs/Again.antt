-- What is widened is narrowed to the same again, from file to file.
use Rattle.std.proofs.Common.{◌≡◌, ◌≢◌, ℕ, ◌^◌, ◌≤◌, ◌==◌, Bool, true, false, sym, ◌∙◌, ap, subst, List, ◌∷◌, length, Option, Some, arith, if◌then◌else◌}
use Rattle.avm_model.specs.Auth.{AuthData, auth_bytes, signed_text_of}
use Rattle.avm_model.specs.LmsTypes.{chains_of, height_of}
use Rattle.avm_model.specs.LmsValid.{Valid, number}
use Rattle.avm_model.proofs.LmsTest.{valid-decides}
use Rattle.avm_num.specs.Lists.{list_bytes}
use Rattle.command_parts.specs.FileMap.{FileMap}
use Rattle.command_parts.specs.Reading.{Finds}
use Rattle.evid_file.specs.Pieces.{Written}
use Rattle.hss_command.specs.Inputs.{IsTold, public_key_in}
use Rattle.hss_command.specs.Narrow.{NarrowMeans, NarrowsTo}
use Rattle.hss_command.proofs.InputLaws.{input_told}
use Rattle.hss_model.specs.HssFile.{AreValid, EndorsementData, Narrows, Narrowing, narrow_of, widen_of}
use Rattle.hss_model.proofs.RoundTrip.{round_trip}

chains_most : (ots : ℕ) → chains_of ots ≤ 265
unfolding chains_of
chains_most ots = go (ots == 1) (ots == 2) (ots == 3)
  where
    go : (a b c : Bool) → (if a then 265 else if b then 133 else if c then 67 else 34) ≤ 265
    go true b c = omega arith
    go false true c = omega arith
    go false false true = omega arith
    go false false false = omega arith

height_most : (lms : ℕ) → height_of lms ≤ 25
unfolding height_of
height_most lms = go (lms == 5) (lms == 6) (lms == 7) (lms == 8)
  where
    go : (a b c d : Bool) → (if a then 5 else if b then 10 else if c then 15 else if d then 20 else 25) ≤ 25
    go true b c d = omega arith
    go false true c d = omega arith
    go false false true d = omega arith
    go false false false true = omega arith
    go false false false false = omega arith

-- a signature is no longer than signatures are
valid_short : (key text sig : List ℕ) → Valid key text sig → length sig ≤ 9324
valid_short key text sig v = let a = chains_most (number key 4) in let b = height_most (number key 0) in let c = v.by.exact in omega (arith, a, b, c)

-- told files are narrowed in one way
narrows_one : (key auths : List ℕ) (old : FileMap) (top bytes : List ℕ) (r : Narrowing) → NarrowsTo key auths old r → IsTold public_key_in (old key) top → old auths ≡ Some (Some bytes) → r ≡ narrow_of top bytes
narrows_one key auths old top bytes r to t u =
    let k : Some to.top ≡ Some top = input_told public_key_in (old key) (Some to.top) top to.key_is t in
    let b : Some bytes ≡ Some to.bytes = subst (λ (s : Option (Option (List ℕ))). Finds s (Some to.bytes)) u to.found in
    let same_top : to.top ≡ top = cc in
    let same_bytes : to.bytes ≡ bytes = cc in
    sym to.gives ∙ ap (λ (l : List ℕ). narrow_of l to.bytes) same_top ∙ ap (narrow_of top) same_bytes

pub narrowed_again : (key wide public into : List ℕ) (old new : FileMap) (result : ℕ) (top : List ℕ) (e : EndorsementData) (a : AuthData) (auths : List AuthData) → NarrowMeans key wide public into old new result → IsTold public_key_in (old key) top
    → old wide ≡ Some (Some (widen_of e (a ∷ auths))) → Valid top e.bottom e.upper → AreValid e (a ∷ auths) → length (widen_of e (a ∷ auths)) ≤ 2 ^ 25 → result ≢ 4 → result ≢ 5
    → (result ≡ 0) × Written e.bottom (old public) (new public) × Written (list_bytes auth_bytes (a ∷ auths)) (old into) (new into)
narrowed_again key wide public into old new result top e a auths means told there binds valid few four five =
    let under = (valid-decides e.bottom (signed_text_of a.seq a.hash) a.sig).0 valid.1 in
    let again = round_trip top e a auths under.exact (valid_short top e.bottom e.upper binds) binds.by.exact ((valid-decides top e.bottom e.upper).1 binds) valid few in
    let zero = means.does top (widen_of e (a ∷ auths)) e.bottom (a ∷ auths) told there again four five in
    let done = means.done zero in
    let one : Narrows done.0 done.1 ≡ Narrows e.bottom (a ∷ auths) = narrows_one key wide old top (widen_of e (a ∷ auths)) (Narrows done.0 done.1) done.2 told there ∙ again in
    let bottom : done.0 ≡ e.bottom = cc in
    let same : done.1 ≡ a ∷ auths = cc in (
      zero,
      subst (λ (l : List ℕ). Written l (old public) (new public)) bottom done.3,
      subst (λ (l : List AuthData). Written (list_bytes auth_bytes l) (old into) (new into)) same done.4,
    )
