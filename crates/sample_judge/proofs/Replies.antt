-- The answer of a store to evidence that holds.
use Rattle.std.proofs.Common.{◌≡◌, ℕ, Bool, true, false, List, is_some, Some, IfOk, Result, Ok, Err, refl, sym, subst, ◌∙◌}
use Rattle.std.specs.Str.{bytes_eq}
use Rattle.avm_model.specs.Evidence.{EvidData, key_of}
use Rattle.avm_model.specs.Holds.{Holds}
use Rattle.honest_model.specs.Honest.{header_state}
use Rattle.journal_model.specs.Journal.{JournalData}
use Rattle.jrnl_store.specs.Kept.{Kept}
use Rattle.rebut_command.proofs.Judgements.{head_not, head_there, key_other, key_own}
use Rattle.rebut_command.specs.Judging.{HoldingEnds, KeyEnds, OpenEnds, judged_view, refused}
use Rattle.rebut_command.specs.declared.judging.Judged.{Judged}
use Rattle.rebut_command.specs.declared.judging.Judged.TheVariants as judged
use Rattle.rebut_command.specs.declared.refusal.Refusal.TheVariants as refusal
use Rattle.rebuttal.specs.Answers.{RebutAnswers}
use Rattle.rebuttal.specs.declared.answers.Rebuttal.{Rebuttal}
use Rattle.rebuttal.specs.declared.fault.RebutFault.{RebutFault}
use Rattle.rebuttal.specs.declared.fault.RebutFault.TheVariants as fault
use Rattle.sample_judge.specs.Answers.{AnswersAs, OfHeader}
use Rattle.sample_judge.specs.Counting.{IsOn}

-- ---- by the key

pub other_key : (j : JournalData) (e : EvidData) (key : List ℕ) → key ≡ j.header.key → bytes_eq (key_of e) key ≡ false → OfHeader j (λ s. KeyEnds s j e (refused refusal.Key))
other_key j e key same is = λ s here. key_other s j e key (refused refusal.Key) same is refl

pub own_key : {E : Type 0} (j : JournalData) (e : EvidData) (key : List ℕ) (a : Result Rebuttal RebutFault) (res : Result Judged E) → key ≡ j.header.key → bytes_eq (key_of e) key ≡ true → Holds e
    → OfHeader j (λ s. RebutAnswers s j e a) → IfOk res (AnswersAs a) → IfOk res (λ r. OfHeader j (λ s. KeyEnds s j e (judged_view r)))
own_key {E} j e key a res same is holds answers h = go a res answers h
  where
    done : (r x : Judged) → r ≡ x → OfHeader j (λ s. HoldingEnds s j e (judged_view x)) → OfHeader j (λ s. KeyEnds s j e (judged_view r))
    done r x q k = λ s here. key_own s j e key (judged_view r) same is (subst (λ (y : Judged). HoldingEnds s j e (judged_view y)) (sym q) (k s here))

    go : (a : Result Rebuttal RebutFault) (res : Result Judged E) → OfHeader j (λ s. RebutAnswers s j e a) → IfOk res (AnswersAs a) → IfOk res (λ r. OfHeader j (λ s. KeyEnds s j e (judged_view r)))
    go a (Err x) answers h = tt
    go (Ok b) (Ok r) answers h = done r (judged.Answered b) h (λ s here. (holds, answers s here))
    go (Err fault.NoMemory) (Ok r) answers h = absurd h
    go (Err fault.DiskFault) (Ok r) answers h = absurd h
    go (Err (fault.Unreplayed n)) (Ok r) answers h = done r (judged.Refused (refusal.Journal n)) h (λ s here. (holds, answers s here))
    go (Err fault.Uncovered) (Ok r) answers h = done r (judged.Refused refusal.Uncovered) h (λ s here. (holds, answers s here))

-- ---- by the header

pub on_same : (j : JournalData) (k l : Kept) (was now : List ℕ) → l ≡ k → Some now ≡ Some was → IsOn j k was → IsOn j l now
on_same j k l was now kept same on = let bytes : now ≡ was = cc in subst (λ (x : Kept). IsOn j x now) (sym kept) (subst (λ (b : List ℕ). IsOn j k b) (sym bytes) on)

pub head_open : {E : Type 0} (j : JournalData) (e : EvidData) (b : Bool) (res : Result Judged E) → b ≡ is_some (header_state j.header) → b ≡ true → IfOk res (λ r. OfHeader j (λ s. KeyEnds s j e (judged_view r))) → IfOk res (λ r. OpenEnds j e (judged_view r))
head_open j e b (Err x) is said h = tt
head_open j e b (Ok r) is said h = head_there j e (judged_view r) (sym said ∙ is) h

pub head_none : (j : JournalData) (e : EvidData) (b : Bool) → b ≡ is_some (header_state j.header) → b ≡ false → OpenEnds j e (refused refusal.NoStore)
head_none j e b is not = head_not j e (refused refusal.NoStore) (sym not ∙ is) refl
