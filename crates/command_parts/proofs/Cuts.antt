-- Bytes that were read up to a limit and one byte more are judged as all bytes are.
use Rattle.std.proofs.Common.{◌≡◌, ℕ, ◌+◌, ◌<◌, Bool, true, false, List, length, take, Option, None, Some, inl, inr, sym, ◌∙◌, ap, subst, arith}
use Rattle.std.specs.Prelude.{Result, Ok, Err, IfOk, option_map}
use Rattle.std.proofs.lemmas.Bool.{cases_lt}
use Rattle.std.proofs.lemmas.List.{length-take-le, take_all}
use Rattle.command_parts.specs.Reading.{IsReadOf, ReadsAs, IsReadAs}
use Rattle.command_parts.specs.Tested.{IsTested, IsTestedRead}

-- a function that gives one value for all that is longer than a limit
pub cut_same : {B : Type 0} (f : List ℕ → B) (none : B) (limit : ℕ) → ((bytes : List ℕ) → limit < length bytes → f bytes ≡ none) → (bytes : List ℕ) → f (take (limit + 1) bytes) ≡ f bytes
cut_same f none limit long bytes =
    elim (cases_lt limit (length bytes)) [
      | inl more ↦
          let size : length (take (limit + 1) bytes) ≡ limit + 1 = length-take-le (limit + 1) bytes (omega arith) in
          long (take (limit + 1) bytes) (omega (arith, size)) ∙ sym (long bytes more)
      | inr less ↦ ap f (take_all (limit + 1) bytes (omega arith))
    ]

cut_reads : {B : Type 0} (f : List ℕ → B) (none : B) (limit : ℕ) → ((bytes : List ℕ) → limit < length bytes → f bytes ≡ none) → (found got : Option (List ℕ)) → got ≡ option_map (take (limit + 1)) found → ReadsAs f found got
cut_reads f none limit long None got is = subst (λ (g : Option (List ℕ)). ReadsAs f None g) (sym is) tt
cut_reads f none limit long (Some bytes) got is = subst (λ (g : Option (List ℕ)). ReadsAs f (Some bytes) g) (sym is) (cut_same f none limit long bytes)

-- a file that is read up to a limit and one byte more
pub read_as : {B : Type 0} (f : List ℕ → B) (none : B) (limit : ℕ) → ((bytes : List ℕ) → limit < length bytes → f bytes ≡ none) → (told : Option (Option (List ℕ))) (got : Option (List ℕ)) → IsReadOf limit told got → IsReadAs f told got
read_as f none limit long told got read = (read.0, read.1, cut_reads f none limit long read.0 got read.2)

-- the same of a call's result
pub read_ok : {B V E : Type 0} (f : List ℕ → B) (none : B) (limit : ℕ) → ((bytes : List ℕ) → limit < length bytes → f bytes ≡ none) → (told : Option (Option (List ℕ))) (items : V → List ℕ) (r : Result (Option V) E) → IfOk r (λ got. IsReadOf limit told (option_map items got)) → IfOk r (λ got. IsReadAs f told (option_map items got))
read_ok f none limit long told items (Ok got) read = read_as f none limit long told (option_map items got) read
read_ok f none limit long told items (Err e) read = tt

-- what passes a test that nothing longer passes was read whole
tested_whole : (test : List ℕ → Bool) (limit : ℕ) → ((bytes : List ℕ) → limit < length bytes → test bytes ≡ false) → (bytes got : List ℕ) → got ≡ take (limit + 1) bytes → test got ≡ true → got ≡ bytes
tested_whole test limit long bytes got cut good =
    elim (cases_lt limit (length bytes)) [
      | inl more ↦
          let size : length (take (limit + 1) bytes) ≡ limit + 1 = length-take-le (limit + 1) bytes (omega arith) in
          let same : length got ≡ length (take (limit + 1) bytes) = ap length cut in
          let bad : test got ≡ false = long got (omega (arith, size, same)) in
          absurd (let no : true ≡ false = sym good ∙ bad in cc)
      | inr less ↦ cut ∙ take_all (limit + 1) bytes (omega arith)
    ]

tested_found : (test : List ℕ → Bool) (limit : ℕ) → ((bytes : List ℕ) → limit < length bytes → test bytes ≡ false) → (found : Option (List ℕ)) (got : List ℕ) (o : Option (List ℕ)) → Some got ≡ option_map (take (limit + 1)) found → IsTested test (Some got) o → IsTested test found o
tested_found test limit long None got o read is = let none : Some got ≡ None = read in cc
tested_found test limit long (Some bytes) got None read is =
    let cut : got ≡ take (limit + 1) bytes = cc in
    let same : test (take (limit + 1) bytes) ≡ test bytes = cut_same test false limit long bytes in
    sym same ∙ (ap test (sym cut) ∙ is)
tested_found test limit long (Some bytes) got (Some whole) read is =
    let cut : got ≡ take (limit + 1) bytes = cc in
    let first : Some got ≡ Some whole = is.0 in
    let named : got ≡ whole = cc in
    let good : test whole ≡ true = is.1 in
    (ap (λ (l : List ℕ). Some l) (sym (tested_whole test limit long bytes got cut (ap test named ∙ good)) ∙ named), good)

-- a file that has to pass a test, of which a byte more than the limit was read
pub tested_read : (test : List ℕ → Bool) (limit : ℕ) → ((bytes : List ℕ) → limit < length bytes → test bytes ≡ false) → (told : Option (Option (List ℕ))) (got : List ℕ) (o : Option (List ℕ)) → IsReadOf limit told (Some got) → IsTested test (Some got) o → IsTestedRead test told o
tested_read test limit long told got o read is = (read.0, read.1, tested_found test limit long read.0 got o read.2 is)

tested_gone : (test : List ℕ → Bool) (limit : ℕ) (found : Option (List ℕ)) → None ≡ option_map (take (limit + 1)) found → IsTested test found None
tested_gone test limit None is = tt
tested_gone test limit (Some bytes) is = let none : ◌≡◌ {A = Option (List ℕ)} None (Some (take (limit + 1) bytes)) = is in cc

-- such a file that isn't there
pub tested_missing : (test : List ℕ → Bool) (limit : ℕ) (told : Option (Option (List ℕ))) → IsReadOf limit told None → IsTestedRead test told None
tested_missing test limit told read = (read.0, read.1, tested_gone test limit read.0 read.2)
