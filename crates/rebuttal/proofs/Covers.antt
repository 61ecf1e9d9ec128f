-- What a journal's value tells of whether it covers evidence.
use Rattle.std.proofs.Common.{◌≡◌, ℕ, ◌+◌, ◌<◌, ◌≤◌, ◌&&◌, nat_le, le-leb, Bool, true, false, Option, List, [], ◌∷◌, length, refl, sym, ap, ap₂, subst, ◌∙◌, arith, eqb-true}
use Rattle.std.proofs.lemmas.Bool.{lt-leb}
use Rattle.avm_num.proofs.Numbers.{and_true}
use Rattle.avm_model.specs.Audit.{last_number}
use Rattle.avm_model.specs.Entries.{numbered}
use Rattle.avm_model.specs.Evidence.{EvidData}
use Rattle.avm_model.specs.Frame.{FrameData}
use Rattle.journal_model.specs.Fits.{FitsJournal}
use Rattle.journal_model.specs.Journal.{JournalData, parts, entries, next_number}
use Rattle.journal_model.specs.Part.{frames_in}
use Rattle.journal_model.specs.Standing.{Bounds, StandingData}
use Rattle.journal_model.proofs.Fitting.{first_entry, entries_numbered}
use Rattle.journal_model.proofs.Judging.{stands_next}
use Rattle.jrnl_store.specs.Kept.{Kept}
use Rattle.jrnl_store.specs.Own.{AreKept}
use Rattle.rebut_model.specs.Rebuts.{low_number, high_number, below_mark, covers}

last_runs : (n m : ℕ) (f : FrameData) (fs : List FrameData) → numbered n (f ∷ fs) ≡ true → last_number m (f ∷ fs) + 1 ≡ n + length (f ∷ fs)
last_runs n m f [] e =
    let seq : f.seq ≡ n = eqb-true f.seq n (and_true _ _ e).0 in
    omega (arith, seq)
last_runs n m f (g ∷ gs) e =
    let rest = last_runs (n + 1) f.seq g gs (and_true _ _ e).1 in
    omega (arith, rest)

-- the last entry's number, by the next one's
last_is : (j : JournalData) (last : ℕ) → FitsJournal j → last + 1 ≡ next_number j → last ≡ last_number 0 (entries j)
unfolding next_number entries
last_is j last fits e =
    let o = first_entry j fits in
    let split : frames_in (parts j) ≡ o.0 ∷ frames_in o.1 = ap frames_in o.2 in
    let runs : last_number 0 (o.0 ∷ frames_in o.1) + 1 ≡ j.header.first + length (o.0 ∷ frames_in o.1) = last_runs j.header.first 0 o.0 (frames_in o.1) (subst (λ (fs : List FrameData). numbered j.header.first fs ≡ true) split (entries_numbered j fits)) in
    let all : last_number 0 (frames_in (parts j)) + 1 ≡ j.header.first + length (frames_in (parts j)) = subst (λ (fs : List FrameData). last_number 0 fs + 1 ≡ j.header.first + length fs) (sym split) runs in
    omega (arith, all, e)

covers_is : (k : Kept) (j : JournalData) (e : EvidData) (last : ℕ) → AreKept k j → FitsJournal j → last + 1 ≡ k.standing.next → (nat_le k.bounds.first (low_number e) && below_mark k.mark last (high_number e)) ≡ covers j e
unfolding covers
covers_is k j e last kept fits is =
    let first : k.bounds.first ≡ j.header.first = ap (λ (b : Bounds). b.first) kept.bounds in
    let number : last ≡ last_number 0 (entries j) = last_is j last fits (is ∙ ap (λ (s : StandingData). s.next) kept.standing ∙ stands_next j) in
    rw (first, kept.mark, number) refl

-- by what a journal's value and the evidence tell
pub covers_then : (k : Kept) (j : JournalData) (e : EvidData) (first last low high : ℕ) (mark : Option ℕ) (below : Bool) → AreKept k j → FitsJournal j → last + 1 ≡ k.standing.next → first ≡ k.bounds.first → low ≡ low_number e → high ≡ high_number e → mark ≡ k.mark → below ≡ below_mark mark last high → first ≤ low → below ≡ covers j e
covers_then k j e first last low high mark below kept fits next f l h m is le =
    let q : nat_le k.bounds.first (low_number e) ≡ true = sym (ap₂ nat_le f l) ∙ le-leb first low le in
    let b : below ≡ below_mark k.mark last (high_number e) = is ∙ ap₂ (λ (o : Option ℕ) (n : ℕ). below_mark o last n) m h in
    b ∙ sym (ap (λ (c : Bool). c && below_mark k.mark last (high_number e)) q) ∙ covers_is k j e last kept fits next

pub covers_else : (k : Kept) (j : JournalData) (e : EvidData) (first last low : ℕ) → AreKept k j → FitsJournal j → last + 1 ≡ k.standing.next → first ≡ k.bounds.first → low ≡ low_number e → low < first → nat_le first low ≡ covers j e
covers_else k j e first last low kept fits next f l lt =
    let n : nat_le first low ≡ false = lt-leb first low lt in
    let q : nat_le k.bounds.first (low_number e) ≡ false = sym (ap₂ nat_le f l) ∙ n in
    n ∙ sym (ap (λ (c : Bool). c && below_mark k.mark last (high_number e)) q) ∙ covers_is k j e last kept fits next
