-- Record after record.
use Rattle.std.proofs.Common.{◌≡◌, ℕ, Bool, true, false, ◌∙◌, ap, subst, Option, None, Some, IfSome, List, [], drop, Result, Ok, Err}
use Rattle.journal_model.specs.Part.{Part}
use Rattle.journal_model.specs.Journal.{JournalData, is_open, Is, NoStore, ended, ended_with, journal_of}
use Rattle.jrnl_store.specs.Kept.{Kept}
use Rattle.jrnl_store.specs.declared.fault.StoreFault.{StoreFault}
use Rattle.jrnl_store.specs.declared.fault.StoreFault.TheVariants as fault
use Rattle.jrnl_store.specs.Own.{IsAt, StepAnswers, RestAnswers, WalkAnswers}

-- what the loop keeps: the journal so far, and where the last gate is closed, what the bytes stand for
abbrev pub SoFar : Kept → Kept → Bool → List ℕ → Type 0
SoFar first k more was = (j : JournalData) → IsAt first was j → ended j ≡ Is j → (next : JournalData) × IsAt k was next × (ended next ≡ Is next) × (more ≡ false → (journal_of was ≡ ended next) × (is_open (drop k.gate was) ≡ false))

abbrev pub Stepped : Kept → Kept → Result Bool StoreFault → List ℕ → Type 0
Stepped k new r was = (j : JournalData) → IsAt k was j → StepAnswers k new was j r

so_far_some : (first k new : Kept) (was : List ℕ) (more b : Bool) → SoFar first k more was → Stepped k new (Ok b) was → SoFar first new b was
so_far_some first k new was more true before step = λ j o begun. let s = before j o begun in let n = step s.0 s.1 in (n.0, n.1, n.2, λ never. absurd cc)
so_far_some first k new was more false before step = λ j o begun. let s = before j o begun in let n = step s.0 s.1 in (s.0, n.1, s.2, λ done. (n.0, n.2))

pub so_far : (told mid : Option (List ℕ)) (first k new : Kept) (more b : Bool) → mid ≡ told → IfSome told (SoFar first k more) → IfSome mid (Stepped k new (Ok b)) → IfSome told (SoFar first new b)
so_far None mid first k new more b same before step = tt
so_far (Some was) mid first k new more b same before step = so_far_some first k new was more b before (subst (λ (o : Option (List ℕ)). IfSome o (Stepped k new (Ok b))) same step)

-- a refusal of a step
refused : (e : StoreFault) (k new : Kept) (was : List ℕ) (j : JournalData) → StepAnswers k new was j (Err e) → RestAnswers new was (Err e)
refused fault.NoMemory k new was j a = a
refused fault.DiskFault k new was j a = tt
refused fault.NotEmpty k new was j a = a
refused fault.NoStore k new was j a = a
refused (fault.Damaged p) k new was j a = a
refused fault.LeavesSpent k new was j a = a
refused fault.Full k new was j a = a
refused (fault.Ended s) k new was j a = a

pub rest_refused : (told mid : Option (List ℕ)) (first k new : Kept) (more : Bool) (e : StoreFault) → mid ≡ told → IfSome told (SoFar first k more) → IfSome mid (Stepped k new (Err e)) → IfSome told (λ was. (j : JournalData) → IsAt first was j → ended j ≡ Is j → RestAnswers new was (Err e))
rest_refused None mid first k new more e same before step = tt
rest_refused (Some was) mid first k new more e same before step = λ j o begun.
    let s = before j o begun in
    let a = subst (λ (o : Option (List ℕ)). IfSome o (Stepped k new (Err e))) same step in
    refused e k new was s.0 (a s.0 s.1)

-- ---- behind a header

widened : (e : StoreFault) (new : Kept) (was : List ℕ) → RestAnswers new was (Err e) → WalkAnswers new was (Err e)
widened fault.NoMemory new was a = a
widened fault.DiskFault new was a = tt
widened fault.NotEmpty new was a = a
widened fault.NoStore new was a = absurd a
widened (fault.Damaged p) new was a = a
widened fault.LeavesSpent new was a = a
widened fault.Full new was a = a
widened (fault.Ended s) new was a = a

pub walk_refused : (told : Option (List ℕ)) (k new : Kept) (e : StoreFault) → IfSome told (Stepped k new (Err e)) → IfSome told (λ was. (j : JournalData) → IsAt k was j → j.records ≡ [] → WalkAnswers new was (Err e))
walk_refused None k new e step = tt
walk_refused (Some was) k new e step = λ j o bare. widened e new was (refused e k new was j (step j o))

none_yet : (j : JournalData) → j.records ≡ [] → ended j ≡ NoStore
none_yet j bare = ap (λ (rs : List (List Part)). ended_with rs j) bare

pub walk_none : (told : Option (List ℕ)) (k new : Kept) (b : Bool) → b ≡ false → IfSome told (Stepped k new (Ok b)) → IfSome told (λ was. (j : JournalData) → IsAt k was j → j.records ≡ [] → journal_of was ≡ NoStore)
walk_none None k new b is step = tt
walk_none (Some was) k new b is step = λ j o bare. (subst (λ (x : Bool). Stepped k new (Ok x) was) is step j o).0 ∙ none_yet j bare

walked : (r : Result (Unit {0}) StoreFault) (new : Kept) (was : List ℕ) → RestAnswers new was r → WalkAnswers new was r
walked (Ok t) new was a = a
walked (Err e) new was a = widened e new was a

pub walk_rest : (told mid : Option (List ℕ)) (k middle new : Kept) (b : Bool) (r : Result (Unit {0}) StoreFault) → b ≡ true → mid ≡ told → IfSome told (Stepped k middle (Ok b)) → IfSome mid (λ was. (j : JournalData) → IsAt middle was j → ended j ≡ Is j → RestAnswers new was r)
    → IfSome told (λ was. (j : JournalData) → IsAt k was j → j.records ≡ [] → WalkAnswers new was r)
walk_rest None mid k middle new b r is same step rest = tt
walk_rest (Some was) mid k middle new b r is same step rest = λ j o bare.
    let s = subst (λ (x : Bool). Stepped k middle (Ok x) was) is step j o in
    let a = subst (λ (t : Option (List ℕ)). IfSome t (λ was. (j : JournalData) → IsAt middle was j → ended j ≡ Is j → RestAnswers new was r)) same rest in
    walked r new was (a s.0 s.1 s.2)
