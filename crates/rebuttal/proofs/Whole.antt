-- What readings of the journal on a disk tell.
use Rattle.std.proofs.Common.{◌≡◌, ℕ, List, [], Option, Some, None, MatchOption, option_map, subst, ◌∙◌}
use Rattle.avm_model.specs.Evidence.{EvidData}
use Rattle.avm_model.specs.Machine.{State, MachineState}
use Rattle.avm_model.specs.declared.Digest.{Digest}
use Rattle.honest_model.specs.Honest.{IsFaultFrom}
use Rattle.journal_model.specs.Fits.{FitsJournal}
use Rattle.journal_model.specs.Journal.{JournalData, entries}
use Rattle.jrnl_store.specs.Items.{items_in}
use Rattle.jrnl_store.specs.Kept.{Kept}
use Rattle.rebut_model.specs.Texts.{state_at}
use Rattle.rebut_pass.specs.Passing.{Takes}
use Rattle.rebut_pass.specs.Reads.{OfJournal, OfState}
use Rattle.rebut_pass.proofs.OnDisk.{of_as, of_fits}
use Rattle.rebut_texts.specs.Found.{found_view}
use Rattle.rebut_texts.specs.Walk.{walk_view, finds}
use Rattle.rebut_judge.specs.Going.{GoneTo, Steps}
use Rattle.rebut_judge.specs.Reading.{Reads}
use Rattle.rebuttal.specs.Seen.{IsSeen}
use Rattle.rebuttal.specs.Starts.{IsStart}
use Rattle.rebut_judge.specs.declared.going.Going.{Going}
use Rattle.rebut_judge.specs.declared.reading.Reading.{Reading}
use Rattle.rebuttal.specs.declared.seen.Seen.{Seen}
use Rattle.rebut_judge.proofs.Gone.{machine_is}
use Rattle.rebuttal.proofs.Taking.{seen_all}

-- the machine that was made of the header
abbrev pub MadeOf : Option (MachineState × List Digest) → State → Type 0
MadeOf o s = MatchOption o ⊥ (λ p. p.0.state ≡ s)

made : (o : Option (MachineState × List Digest)) (p : MachineState × List Digest) (s : State) → o ≡ Some p → MadeOf o s → p.0.state ≡ s
made o p s is h = subst (λ (x : Option (MachineState × List Digest)). MadeOf x s) is h

pub none_made : (told : Option (List ℕ)) (k : Kept) (o : Option (MachineState × List Digest)) (P : State → JournalData → Type 0) → o ≡ None → OfState told k (λ s j. MadeOf o s) → OfState told k P
none_made None k o P is h = tt
none_made (Some was) k o P is h = λ j at b s e. absurd (subst (λ (x : Option (MachineState × List Digest)). MadeOf x s) is (h j at b s e))

pub see_told : (told mid : Option (List ℕ)) (k at : Kept) (o : Option (MachineState × List Digest)) (p : MachineState × List Digest) (e : EvidData) (a b : Reading) (x : Seen) → mid ≡ told → at ≡ k → o ≡ Some p → OfState told k (λ s j. MadeOf o s) → IsStart at p.0.state e a
    → OfJournal mid at (λ j. Takes Reads a (items_in j) b) → x.fault ≡ b.judge.fault → x.one ≡ b.one.found → x.two ≡ b.two.found → option_map found_view x.found ≡ finds (walk_view b.walk) [] → OfState told k (λ s j. IsSeen s j e x)
see_told told mid k at o p e a b x same stays is h start taken fault one two found =
    go told h (of_as told mid k at (λ j. Takes Reads a (items_in j) b) same stays taken) (subst (λ (y : Kept). IsStart y p.0.state e a) stays start)
  where
    go : (t : Option (List ℕ)) → OfState t k (λ s j. MadeOf o s) → OfJournal t k (λ j. Takes Reads a (items_in j) b) → IsStart k p.0.state e a → OfState t k (λ s j. IsSeen s j e x)
    go None m f w = tt
    go (Some was) m f w = λ j here begun s told. seen_all k s j e a b x here.keeps (subst (λ (y : State). IsStart k y e a) (made o p s is (m j here begun s told)) w) (f j here begun) fault one two found

pub go_told : (told mid : Option (List ℕ)) (k at : Kept) (o : Option (MachineState × List Digest)) (p : MachineState × List Digest) (n : ℕ) (a b : Going) (m : State) → mid ≡ told → at ≡ k → o ≡ Some p → OfState told k (λ s j. MadeOf o s) → GoneTo p.0.state at.bounds.first [] a → a.number ≡ n
    → OfJournal mid at (λ j. Takes Steps a (items_in j) b) → m ≡ b.judge.replay.stand.state → OfState told k (λ s j. IsFaultFrom j.header.first s (entries j) None → m ≡ state_at s n (entries j))
go_told told mid k at o p n a b m same stays is h start number taken state =
    go told h (of_as told mid k at (λ j. Takes Steps a (items_in j) b) same stays taken) (of_fits told k) (subst (λ (y : Kept). GoneTo p.0.state y.bounds.first [] a) stays start)
  where
    go : (t : Option (List ℕ)) → OfState t k (λ s j. MadeOf o s) → OfJournal t k (λ j. Takes Steps a (items_in j) b) → OfJournal t k FitsJournal → GoneTo p.0.state k.bounds.first [] a → OfState t k (λ s j. IsFaultFrom j.header.first s (entries j) None → m ≡ state_at s n (entries j))
    go None q f fits w = tt
    go (Some was) q f fits w = λ j here begun s told replays. state ∙ machine_is k s j n a b (fits j here begun) (subst (λ (y : State). GoneTo y k.bounds.first [] a) (made o p s is (q j here begun s told)) w) number (f j here begun) replays
