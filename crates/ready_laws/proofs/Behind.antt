-- Entries up to the last number are all.
use Rattle.std.proofs.Common.{◌≡◌, ℕ, ◌+◌, ◌≤◌, true, nat_le, List, [], ◌∷◌, ◌++◌, length, refl, ap, subst, ◌∙◌, arith, le-leb, eqb-true}
use Rattle.std.specs.Prelude.{◌==◌}
use Rattle.std.proofs.lemmas.Bool.{and_parts}
use Rattle.std.proofs.lemmas.List.{length-append}
use Rattle.avm_model.specs.Entries.{numbered}
use Rattle.avm_model.specs.Frame.{FrameData}
use Rattle.honest_model.specs.Keeps.{last_of, up_to}
use Rattle.journal_model.specs.Fits.{FitsJournal}
use Rattle.journal_model.specs.Journal.{JournalData, entries, next_number, parts}
use Rattle.journal_model.specs.Part.{Part, frames_in}
use Rattle.journal_model.proofs.Fitting.{entries_numbered}
use Rattle.journal_model.proofs.Prefixes.{frames_append}

up_to_all : (fs : List FrameData) (n first : ℕ) → numbered first fs ≡ true → first + length fs ≤ n + 1 → up_to n fs ≡ fs
up_to_all [] n first h le = refl
up_to_all (f ∷ fs) n first h le =
    let p = and_parts (f.seq == first) (numbered (first + 1) fs) h in
    let s : f.seq ≡ first = eqb-true f.seq first p.0 in
    let low : nat_le f.seq n ≡ true = le-leb f.seq n (omega (arith, s)) in
    rw low (ap (λ (xs : List FrameData). f ∷ xs) (up_to_all fs n (first + 1) p.1 (omega arith)))

numbered_behind : (a b : List FrameData) (first : ℕ) → numbered first (a ++ b) ≡ true → numbered (first + length a) b ≡ true
numbered_behind [] b first h = let z : first + 0 ≡ first = omega arith in rw z h
numbered_behind (f ∷ a) b first h =
    let p = and_parts (f.seq == first) (numbered (first + 1) (a ++ b)) h in
    let z : first + length (f ∷ a) ≡ (first + 1) + length a = omega arith in
    rw z (numbered_behind a b (first + 1) p.1)

next_is : (j : JournalData) → next_number j ≡ j.header.first + length (frames_in (parts j))
unfolding next_number entries
next_is j = refl

numbers_are : (j : JournalData) → FitsJournal j → numbered j.header.first (frames_in (parts j)) ≡ true
unfolding entries
numbers_are j fits = entries_numbered j fits

pub all_behind : (j : JournalData) (front behind : List Part) → FitsJournal j → parts j ≡ front ++ behind → up_to (last_of j) (frames_in behind) ≡ frames_in behind
all_behind j front behind fits e =
    let all : frames_in (parts j) ≡ frames_in front ++ frames_in behind = ap frames_in e ∙ frames_append front behind in
    let h : numbered j.header.first (frames_in front ++ frames_in behind) ≡ true = subst (λ (fs : List FrameData). numbered j.header.first fs ≡ true) all (numbers_are j fits) in
    let next = next_is j in
    let len : length (frames_in (parts j)) ≡ length (frames_in front) + length (frames_in behind) = ap length all ∙ length-append (frames_in front) (frames_in behind) in
    up_to_all (frames_in behind) (last_of j) (j.header.first + length (frames_in front)) (numbered_behind (frames_in front) (frames_in behind) j.header.first h) (omega (arith, next, len))
