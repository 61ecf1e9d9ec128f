-- What holds of a journal on its disk.
use Rattle.std.proofs.Common.{◌≡◌, ℕ, List, [], ◌∷◌, ◌++◌, Option, Some, None, refl, subst, ◌∙◌, arith}
use Rattle.journal_model.specs.Fits.{FitsJournal}
use Rattle.journal_model.specs.Journal.{JournalData, Is, ended}
use Rattle.journal_model.proofs.Fitting.{journal_fits}
use Rattle.journal_model.proofs.Gates.{from_closed}
use Rattle.jrnl_store.specs.Kept.{Kept}
use Rattle.jrnl_store.specs.Own.{IsAt, AreKept}
use Rattle.rebut_pass.specs.Reads.{OnlyReads, OfJournal}

pub of_as : (told mid : Option (List ℕ)) (k at : Kept) (P : JournalData → Type 0) → mid ≡ told → at ≡ k → OfJournal mid at P → OfJournal told k P
of_as told mid k at P same stays h = subst (λ (x : Kept). OfJournal told x P) stays (subst (λ (t : Option (List ℕ)). OfJournal t at P) same h)

pub of_map : (told : Option (List ℕ)) (k : Kept) (P Q : JournalData → Type 0) → ((j : JournalData) → P j → Q j) → OfJournal told k P → OfJournal told k Q
of_map None k P Q f h = tt
of_map (Some was) k P Q f h = λ j o b. f j (h j o b)

pub of_both : (told : Option (List ℕ)) (k : Kept) (P Q R : JournalData → Type 0) → ((j : JournalData) → P j → Q j → R j) → OfJournal told k P → OfJournal told k Q → OfJournal told k R
of_both None k P Q R f g h = tt
of_both (Some was) k P Q R f g h = λ j o b. f j (g j o b) (h j o b)

pub of_all : (told : Option (List ℕ)) (k : Kept) (P : JournalData → Type 0) → ((j : JournalData) → P j) → OfJournal told k P
of_all None k P f = tt
of_all (Some was) k P f = λ j o b. f j

pub of_kept : (told : Option (List ℕ)) (k : Kept) → OfJournal told k (AreKept k)
of_kept None k = tt
of_kept (Some was) k = λ j o b. o.keeps

fits_at : (k : Kept) (was : List ℕ) (j : JournalData) → IsAt k was j → ended j ≡ Is j → FitsJournal j
fits_at k was j o b = (journal_fits (o.front ++ 0 ∷ []) j (o.stands 0 [] ∙ from_closed (record { journal = j; place = _; bytes = 0 ∷ [] }) refl ∙ b)).0

pub of_fits : (told : Option (List ℕ)) (k : Kept) → OfJournal told k FitsJournal
of_fits None k = tt
of_fits (Some was) k = λ j o b. fits_at k was j o b

-- what holds of a journal that fits and is kept so
pub of_whole : (told : Option (List ℕ)) (k : Kept) (P Q : JournalData → Type 0) → ((j : JournalData) → FitsJournal j → AreKept k j → P j → Q j) → OfJournal told k P → OfJournal told k Q
of_whole None k P Q f h = tt
of_whole (Some was) k P Q f h = λ j o b. f j (fits_at k was j o b) o.keeps (h j o b)

-- ---- calls that only read

pub reads_none : {D : Type 0} (seen : D → Option (List ℕ)) (may_leave : D → List ℕ → Type 0) (moment : D → ℕ) (left_since : D → ℕ → List ℕ → Type 0) (a : D) → OnlyReads seen may_leave moment left_since a a
reads_none seen may_leave moment left_since a = record { same = refl; crash = λ c h. h; later = omega arith; moments = λ t c le h. h }

pub reads_both : {D : Type 0} (seen : D → Option (List ℕ)) (may_leave : D → List ℕ → Type 0) (moment : D → ℕ) (left_since : D → ℕ → List ℕ → Type 0) (a b c : D) → OnlyReads seen may_leave moment left_since a b → OnlyReads seen may_leave moment left_since b c → OnlyReads seen may_leave moment left_since a c
reads_both seen may_leave moment left_since a b c x y = record {
  same = y.same ∙ x.same;
  crash = λ i h. x.crash i (y.crash i h);
  later = omega (arith, x.later, y.later);
  moments = λ t i le h. x.moments t i le (y.moments t i (omega (arith, le, x.later)) h);
}
