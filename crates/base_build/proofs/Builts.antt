-- What building a base answers.
use Rattle.std.proofs.Common.{◌≡◌, ℕ, true, false, List, length, Option, None, Some, sym, ap, subst, ◌∙◌, inl, inr}
use Rattle.std.specs.Prelude.{Result, Ok, Err}
use Rattle.avm_model.specs.HeadReading.{head_of}
use Rattle.base_model.specs.Base.{moved_state}
use Rattle.base_write.specs.declared.writing.Base.{Base}
use Rattle.journal_model.specs.Journal.{JournalData, entries, has_snap}
use Rattle.jrnl_store.specs.Kept.{Kept}
use Rattle.keep_judge.specs.Good.{pages_fit}
use Rattle.rebut_pass.specs.Reads.{OfJournal}
use Rattle.rebut_pass.specs.declared.fault.ReadFault.{ReadFault}
use Rattle.rebut_pass.specs.declared.fault.ReadFault.TheVariants as read
use Rattle.rebut_pass.proofs.OnDisk.{of_whole}
use Rattle.store_move.specs.declared.fault.RetainFault.{RetainFault}
use Rattle.store_move.specs.declared.fault.RetainFault.TheVariants as fault
use Rattle.base_build.specs.Counts.{read_fault}
use Rattle.base_build.specs.Judging.{IsPoint, Judges, is_other}
use Rattle.base_build.specs.Building.{Builds, Gated, HasHead, IsBaseAt, OfStore}
use Rattle.base_build.specs.declared.point.Point.{Point}
use Rattle.base_build.proofs.Gates.{base_gated}
use Rattle.base_build.proofs.Judged.{fits_some, is_snap, no_head}

-- ---- of the journal on a disk

pub store_of : (told : Option (List ℕ)) (k : Kept) (P : JournalData → Type 0) → OfJournal told k P → OfStore told k P
store_of None k P h = tt
store_of (Some was) k P h = λ j is at end. h j at end

pub store_all : (told : Option (List ℕ)) (k : Kept) (P : JournalData → Type 0) → ((j : JournalData) → P j) → OfStore told k P
store_all None k P h = tt
store_all (Some was) k P h = λ j is at end. h j

pub store_as : (told mid : Option (List ℕ)) (k at : Kept) (P : JournalData → Type 0) → mid ≡ told → at ≡ k → OfStore mid at P → OfStore told k P
store_as told mid k at P same stays h = subst (λ (x : Kept). OfStore told x P) stays (subst (λ (t : Option (List ℕ)). OfStore t at P) same h)

-- ---- answers

pub read_builds : (n : ℕ) (j : JournalData) (f : ReadFault) → Builds n j (Err (read_fault f))
read_builds n j read.NoMemory = tt
read_builds n j read.DiskFault = tt

judge_builds : (n : ℕ) (j : JournalData) (f : RetainFault) → HasHead j → is_other j.mark n ≡ false → Judges n j (Err f) → Builds n j (Err f)
judge_builds n j fault.NoMemory head own h = tt
judge_builds n j fault.DiskFault head own h = tt
judge_builds n j (fault.Unreplayed k) head own h = (head, own, h)
judge_builds n j fault.Range head own h = (head, inr (record { own = own; state = h.1; stretch_is = h.0; state_is = h.2; not_begins = h.3 }))
judge_builds n j fault.SpareFault head own h = absurd h
judge_builds n j fault.NoStore head own h = absurd h
judge_builds n j (fault.Damaged p) head own h = absurd h
judge_builds n j fault.NotEmpty head own h = absurd h
judge_builds n j fault.Full head own h = absurd h
judge_builds n j fault.OtherSpare head own h = absurd h

built : (n : ℕ) (j : JournalData) (p : Point) (b : Base) (r : Result Base RetainFault) → HasHead j → is_other j.mark n ≡ false → IsPoint j n p → IsBaseAt j n p.machine.state b → Gated b r → Builds n j r
built n j p b (Ok x) head own i base g = record {
  head = head;
  own = own;
  state = p.machine.state;
  stretch_is = i.stretch_is;
  state_is = i.state_is;
  begins = i.begins;
  base = subst (IsBaseAt j n p.machine.state) (sym g.0) base;
}
built n j p b (Err fault.NoStore) head own i base g =
    let snap : has_snap n (entries j) ≡ true = is_snap n p.machine.state.count (has_snap n (entries j)) i.begins in
    let yes = base_gated j n (moved_state j n p.machine.state) b snap base.header base.bytes in
    absurd cc
built n j p b (Err fault.NoMemory) head own i base g = absurd g
built n j p b (Err fault.DiskFault) head own i base g = absurd g
built n j p b (Err fault.SpareFault) head own i base g = absurd g
built n j p b (Err (fault.Damaged q)) head own i base g = absurd g
built n j p b (Err (fault.Unreplayed q)) head own i base g = absurd g
built n j p b (Err fault.Range) head own i base g = absurd g
built n j p b (Err fault.NotEmpty) head own i base g = absurd g
built n j p b (Err fault.Full) head own i base g = absurd g
built n j p b (Err fault.OtherSpare) head own i base g = absurd g

-- ---- of a disk that may tell its bytes

pub other_told : (told : Option (List ℕ)) (k : Kept) (n : ℕ) (head : List ℕ) → pages_fit k.bounds.pages (head_of head) ≡ true → is_other k.mark n ≡ true → OfJournal told k (λ j. head ≡ j.header.head) → OfStore told k (λ j. Builds n j (Err fault.Range))
other_told told k n head fit other h =
    store_of told k _ (of_whole told k (λ j. head ≡ j.header.head) _ (λ j fits keeps same. (fits_some k.bounds.pages head j fit same, inl (ap (λ (m : Option ℕ). is_other m n) (sym keeps.mark) ∙ other))) h)

pub none_told : (told : Option (List ℕ)) (k : Kept) (n : ℕ) (head : List ℕ) → pages_fit k.bounds.pages (head_of head) ≡ false → OfJournal told k (λ j. head ≡ j.header.head) → OfStore told k (λ j. Builds n j (Err fault.NoStore))
none_told told k n head fit h = store_of told k _ (of_whole told k (λ j. head ≡ j.header.head) _ (λ j fits keeps same. no_head k j head keeps same fit) h)

pub judged_told : (told : Option (List ℕ)) (k : Kept) (n : ℕ) (head : List ℕ) (f : RetainFault) → pages_fit k.bounds.pages (head_of head) ≡ true → is_other k.mark n ≡ false → OfJournal told k (λ j. head ≡ j.header.head) → OfJournal told k (λ j. head ≡ j.header.head → Judges n j (Err f)) → OfStore told k (λ j. Builds n j (Err f))
judged_told None k n head f fit own h judges = tt
judged_told (Some was) k n head f fit own h judges = λ j is at end.
    let same = h j at end in
    judge_builds n j f (fits_some k.bounds.pages head j fit same) (ap (λ (m : Option ℕ). is_other m n) (sym at.keeps.mark) ∙ own) (judges j at end same)

pub built_told : (told : Option (List ℕ)) (k : Kept) (n size : ℕ) (head : List ℕ) (p : Point) (b : Base) (r : Result Base RetainFault) → pages_fit k.bounds.pages (head_of head) ≡ true → is_other k.mark n ≡ false → size ≡ length head → OfJournal told k (λ j. head ≡ j.header.head) → OfJournal told k (λ j. head ≡ j.header.head → IsPoint j n p)
    → OfStore told k (λ j. size ≡ length j.header.head → IsPoint j n p → IsBaseAt j n p.machine.state b) → Gated b r → OfStore told k (λ j. Builds n j r)
built_told None k n size head p b r fit own len h point base g = tt
built_told (Some was) k n size head p b r fit own len h point base g = λ j is at end.
    let same = h j at end in
    let i = point j at end same in
    built n j p b r (fits_some k.bounds.pages head j fit same) (ap (λ (m : Option ℕ). is_other m n) (sym at.keeps.mark) ∙ own) i (base j is at end (len ∙ ap length same) i) g
