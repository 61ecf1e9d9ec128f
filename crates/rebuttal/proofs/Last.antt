-- The answer, or the first refusal that applies, on the disk.
use Rattle.std.proofs.Common.{◌≡◌, ℕ, Bool, true, false, not, List, Option, Some, None, IfOk, MatchOption, option_map, Ok, Err, Result, sym, ap, ap₂, subst, ◌∙◌}
use Rattle.avm_model.specs.Auth.{AuthData}
use Rattle.avm_model.specs.Basics.{first_at}
use Rattle.avm_model.specs.Evidence.{EvidData, replay, FitsEvidence}
use Rattle.avm_model.specs.Head.{HeadData}
use Rattle.avm_model.specs.HeadReading.{head_of}
use Rattle.avm_model.specs.HeadState.{state_of}
use Rattle.avm_model.specs.Holds.{Holds}
use Rattle.avm_model.specs.Machine.{State, MachineState}
use Rattle.avm_model.specs.Segment.{SegmentData, whole_segment_of}
use Rattle.avm_model.specs.declared.Digest.{Digest}
use Rattle.honest_model.specs.Honest.{IsFaultFrom, header_state}
use Rattle.journal_model.specs.Fits.{FitsJournal}
use Rattle.journal_model.specs.Journal.{JournalData, entries}
use Rattle.jrnl_store.specs.Kept.{Kept}
use Rattle.jrnl_store.specs.Own.{AreKept}
use Rattle.rebut_model.specs.Bound.{is_bound}
use Rattle.rebut_model.specs.Rebuts.{forged, collision, auths_of, covers, Given}
use Rattle.rebut_model.specs.Texts.{state_at}
use Rattle.rebut_pass.specs.Reads.{OfJournal, OfState, ReadCounts}
use Rattle.rebut_pass.specs.declared.fault.ReadFault.{ReadFault}
use Rattle.rebut_pass.specs.declared.fault.ReadFault.TheVariants as read
use Rattle.rebut_pass.proofs.OnDisk.{of_fits, of_as}
use Rattle.rebut_texts.specs.Found.{found_view}
use Rattle.rebut_texts.specs.declared.bytes.Found.{Found}
use Rattle.rebuttal.specs.Answers.{IsAnswer, RebutAnswers, RebutCounts, of_reading}
use Rattle.rebuttal.specs.Compared.{AreCompared, StatesCompared, SegmentCompared, WhereUndecided, WhereBound}
use Rattle.rebuttal.specs.Seen.{IsSeen}
use Rattle.rebuttal.specs.declared.answers.Rebuttal.{Rebuttal}
use Rattle.rebuttal.specs.declared.fault.RebutFault.{RebutFault}
use Rattle.rebuttal.specs.declared.seen.Seen.{Seen}
use Rattle.rebuttal.proofs.Answering.{by_flags, forged_by, given_by, answer_forged, answer_entries, answer_states, answer_always, segment_compared, none_compared}

-- ---- what holds of every journal and state

pub state_all : (told : Option (List ℕ)) (k : Kept) (P : State → JournalData → Type 0) → ((s : State) (j : JournalData) → P s j) → OfState told k P
state_all None k P f = tt
state_all (Some was) k P f = λ j at b s e. f s j

state_map : (told : Option (List ℕ)) (k : Kept) (P Q : State → JournalData → Type 0) → ((s : State) (j : JournalData) → FitsJournal j → AreKept k j → P s j → Q s j) → OfState told k P → OfState told k Q
state_map told k P Q f h = go told h (of_fits told k)
  where
    go : (t : Option (List ℕ)) → OfState t k P → OfJournal t k FitsJournal → OfState t k Q
    go None m fits = tt
    go (Some was) m fits = λ j at b s e. f s j (fits j at b) at.keeps (m j at b s e)

-- ---- a fault of reading

pub reading_answers : (told : Option (List ℕ)) (k : Kept) (e : EvidData) (f : ReadFault) (r : RebutFault) → r ≡ of_reading f → OfState told k (λ s j. RebutAnswers s j e (Err r))
reading_answers told k e f r is = subst (λ (x : RebutFault). OfState told k (λ s j. RebutAnswers s j e (Err x))) (sym is) (go f)
  where
    go : (g : ReadFault) → OfState told k (λ s j. RebutAnswers s j e (Err (of_reading g)))
    go read.NoMemory = state_all told k _ (λ s j. tt)
    go read.DiskFault = state_all told k _ (λ s j. tt)

pub reading_undecided : (told : Option (List ℕ)) (k : Kept) (e : EvidData) (f : ReadFault) (r : RebutFault) → r ≡ of_reading f → OfState told k (λ s j. WhereUndecided s j e (RebutAnswers s j e (Err r)))
reading_undecided told k e f r is = subst (λ (x : RebutFault). OfState told k (λ s j. WhereUndecided s j e (RebutAnswers s j e (Err x)))) (sym is) (go f)
  where
    go : (g : ReadFault) → OfState told k (λ s j. WhereUndecided s j e (RebutAnswers s j e (Err (of_reading g))))
    go read.NoMemory = state_all told k _ (λ s j. λ g b n. tt)
    go read.DiskFault = state_all told k _ (λ s j. λ g b n. tt)

pub reading_counts : (T : Type 0) (before now : ℕ) (f : ReadFault) (r : RebutFault) → r ≡ of_reading f → ReadCounts {T = T} before now (Err f) → RebutCounts {T = Rebuttal} before now (Err r)
reading_counts T before now f r is h = subst (λ (x : RebutFault). RebutCounts {T = Rebuttal} before now (Err x)) (sym is) (go f h)
  where
    go : (g : ReadFault) → ReadCounts {T = T} before now (Err g) → RebutCounts {T = Rebuttal} before now (Err (of_reading g))
    go read.NoMemory c = c
    go read.DiskFault c = c

-- ---- states

-- the journal's machine at an entry
abbrev pub MachineAt : ℕ → Option (MachineState × List Digest) → State → JournalData → Type 0
MachineAt n o s j = IsFaultFrom j.header.first s (entries j) None → MatchOption o ⊥ (λ p. p.0.state ≡ state_at s n (entries j))

pub no_machine : (told : Option (List ℕ)) (k : Kept) (n : ℕ) (o : Option (MachineState × List Digest)) (v : SegmentData) (r : Option Found) → o ≡ None → OfState told k (MachineAt n o) → OfState told k (λ s j. SegmentCompared s j v r)
no_machine told k n o v r none h = state_map told k (MachineAt n o) (λ s j. SegmentCompared s j v r) (λ s j fits keeps m. λ replays clock g is. absurd (subst (λ (x : Option (MachineState × List Digest)). MachineAt n x s j) none m replays)) h

pub machines_compared : (told : Option (List ℕ)) (k : Kept) (o : Option (MachineState × List Digest)) (ours : MachineState × List Digest) (theirs : State) (v : SegmentData) (r : Option Found) → o ≡ Some ours → OfState told k (MachineAt v.front.start o)
    → ((h : HeadData) → head_of v.front.head ≡ Some h → theirs ≡ state_of h v.pages) → (ours.0.state.devices.clock ≡ None → AreCompared ours.0.state theirs r) → OfState told k (λ s j. SegmentCompared s j v r)
machines_compared told k o ours theirs v r some h made both = state_map told k (MachineAt v.front.start o) (λ s j. SegmentCompared s j v r) here h
  where
    here : (s : State) (j : JournalData) → FitsJournal j → AreKept k j → MachineAt v.front.start o s j → SegmentCompared s j v r
    here s j fits keeps m = λ replays clock g is.
        let own : ours.0.state ≡ state_at s v.front.start (entries j) = subst (λ (x : Option (MachineState × List Digest)). MachineAt v.front.start x s j) some m replays in
        let c : AreCompared ours.0.state theirs r = both (ap (λ (t : State). t.devices.clock) own ∙ clock) in
        let d : AreCompared (state_at s v.front.start (entries j)) theirs r = subst (λ (t : State). AreCompared t theirs r) own c in
        subst (λ (t : State). AreCompared (state_at s v.front.start (entries j)) t r) (made g is) d

-- of a segment, whoever signed it
abbrev pub ReplayCompared : List ℕ → Option Found → State → JournalData → Type 0
ReplayCompared bytes r s j = (key : List ℕ) (top : AuthData) → StatesCompared s j (replay key bytes top) r

pub segment_told : (told : Option (List ℕ)) (k : Kept) (bytes : List ℕ) (v : SegmentData) (h : HeadData) (res : Result (Option Found) ReadFault) → head_of v.front.head ≡ Some h → whole_segment_of bytes ≡ Some (v, h) → IfOk res (λ r. OfState told k (λ s j. SegmentCompared s j v r)) → IfOk res (λ r. OfState told k (ReplayCompared bytes r))
segment_told told k bytes v h (Err f) head whole c = tt
segment_told told k bytes v h (Ok r) head whole c = go told c
  where
    go : (t : Option (List ℕ)) → OfState t k (λ s j. SegmentCompared s j v r) → OfState t k (ReplayCompared bytes r)
    go None m = tt
    go (Some was) m = λ j at b s is. λ key top. segment_compared s j key bytes top v h r head whole is (m j at b s is)

pub segment_none : (told : Option (List ℕ)) (k : Kept) (bytes : List ℕ) → whole_segment_of bytes ≡ None → OfState told k (ReplayCompared bytes None)
segment_none told k bytes none = state_all told k (ReplayCompared bytes None) (λ s j. λ key top. none_compared s j key bytes top none)

pub evidence_told : (told : Option (List ℕ)) (k : Kept) (e : EvidData) (key bytes : List ℕ) (top : AuthData) (res : Result (Option Found) ReadFault) → e ≡ replay key bytes top → IfOk res (λ r. OfState told k (ReplayCompared bytes r)) → IfOk res (λ r. OfState told k (λ s j. StatesCompared s j e r))
evidence_told told k e key bytes top (Err f) is c = tt
evidence_told told k e key bytes top (Ok r) is c = state_map told k (ReplayCompared bytes r) (λ s j. StatesCompared s j e r) (λ s j fits keeps m. subst (λ (x : EvidData). StatesCompared s j x r) (sym is) (m key top)) c

pub evidence_none : (told : Option (List ℕ)) (k : Kept) (e x : EvidData) → e ≡ x → ((s : State) (j : JournalData) → StatesCompared s j x None) → OfState told k (λ s j. StatesCompared s j e None)
evidence_none told k e x is all = state_all told k (λ s j. StatesCompared s j e None) (λ s j. subst (λ (y : EvidData). StatesCompared s j y None) (sym is) (all s j))

-- ---- the answer

pub states_some : (told : Option (List ℕ)) (k : Kept) (e : EvidData) (r : Option Found) (x : Found) → r ≡ Some x → OfState told k (λ s j. StatesCompared s j e r) → OfState told k (λ s j. WhereUndecided s j e (IsAnswer s j e (collision x.ours x.theirs)))
states_some told k e r x some h = state_map told k (λ s j. StatesCompared s j e r) _ (λ s j fits keeps c. λ g bound none. answer_states s j e x g bound none (subst (λ (o : Option Found). StatesCompared s j e o) some c)) h

pub states_none : (told : Option (List ℕ)) (k : Kept) (e : EvidData) (r : Option Found) (P : State → JournalData → Type 0) → r ≡ None → OfState told k (λ s j. StatesCompared s j e r) → OfState told k (λ s j. WhereUndecided s j e (P s j))
states_none told k e r P none h = state_map told k (λ s j. StatesCompared s j e r) (λ s j. WhereUndecided s j e (P s j)) (λ s j fits keeps c. λ g bound same. answer_always s j e g bound same (subst (λ (o : Option Found). StatesCompared s j e o) none c)) h

pub texts_some : (told : Option (List ℕ)) (k : Kept) (e : EvidData) (r : Option Found) (x : Found) → r ≡ Some x → OfState told k (λ s j. WhereBound s j e r (IsAnswer s j e (collision x.ours x.theirs)))
texts_some told k e r x some = state_all told k _ (λ s j. λ g bound is. answer_entries s j e (found_view x) g bound (ap (λ (o : Option Found). option_map found_view o) (sym some) ∙ is))

pub texts_none : (told : Option (List ℕ)) (k : Kept) (e : EvidData) (r : Option Found) (P : State → JournalData → Type 0) → r ≡ None → OfState told k (λ s j. WhereUndecided s j e (P s j)) → OfState told k (λ s j. WhereBound s j e r (P s j))
texts_none told k e r P none h = state_map told k (λ s j. WhereUndecided s j e (P s j)) (λ s j. WhereBound s j e r (P s j)) (λ s j fits keeps c. λ g bound is. c g bound (sym is ∙ ap (λ (o : Option Found). option_map found_view o) none)) h

-- what an answer is asked of: a reading, a journal that replays and covers the evidence
abbrev pub Asked : EvidData → Seen → (State → JournalData → Type 0) → State → JournalData → Type 0
Asked e x P s j = IsSeen s j e x → x.fault ≡ None → covers j e ≡ true → P s j

given : (s : State) (j : JournalData) (e : EvidData) (x : Seen) → FitsJournal j → FitsEvidence e → Holds e → IsSeen s j e x → x.fault ≡ None → covers j e ≡ true → Given s j e
given s j e x journal fits holds w none cov = given_by s j e journal (subst (λ (o : Option ℕ). IsFaultFrom j.header.first s (entries j) o) none w.fault) fits holds cov

flags : (s : State) (j : JournalData) (e : EvidData) (x : Seen) (o : Option ℕ) → IsSeen s j e x → by_flags x.one x.two ≡ o → first_at (λ a. not (is_bound j a)) 0 (auths_of e) ≡ o
flags s j e x o w is = sym (forged_by j e) ∙ ap₂ by_flags (sym w.one) (sym w.two) ∙ is

pub forged_told : (told : Option (List ℕ)) (k : Kept) (e : EvidData) (x : Seen) (n : ℕ) → FitsEvidence e → Holds e → by_flags x.one x.two ≡ Some n → OfState told k (Asked e x (λ s j. IsAnswer s j e (forged n)))
forged_told told k e x n fits holds is = go told (of_fits told k)
  where
    go : (t : Option (List ℕ)) → OfJournal t k FitsJournal → OfState t k (Asked e x (λ s j. IsAnswer s j e (forged n)))
    go None f = tt
    go (Some was) f = λ j at b s state w none cov. answer_forged s j e n (given s j e x (f j at b) fits holds w none cov) (flags s j e x (Some n) w is)

pub texts_told : (told : Option (List ℕ)) (k : Kept) (e : EvidData) (x : Seen) (P : State → JournalData → Type 0) → FitsEvidence e → Holds e → by_flags x.one x.two ≡ None → OfState told k (λ s j. WhereBound s j e x.found (P s j)) → OfState told k (Asked e x P)
texts_told told k e x P fits holds is h = state_map told k (λ s j. WhereBound s j e x.found (P s j)) (Asked e x P) (λ s j journal keeps c. λ w none cov. c (given s j e x journal fits holds w none cov) (flags s j e x None w is) w.found) h

-- ---- refusals

-- what a journal that replays is asked
abbrev pub Replayed : EvidData → Seen → (State → JournalData → Type 0) → State → JournalData → Type 0
Replayed e x P s j = IsSeen s j e x → x.fault ≡ None → P s j

pub asked_told : (told : Option (List ℕ)) (k : Kept) (e : EvidData) (x : Seen) (c : Bool) (P : State → JournalData → Type 0) → c ≡ true → ((j : JournalData) → AreKept k j → FitsJournal j → c ≡ covers j e) → OfState told k (Asked e x P) → OfState told k (Replayed e x P)
asked_told told k e x c P is all h = state_map told k (Asked e x P) (Replayed e x P) (λ s j fits keeps a. λ w none. a w none (sym (all j keeps fits) ∙ is)) h

pub uncovered_told : (told : Option (List ℕ)) (k : Kept) (e : EvidData) (x : Seen) (c : Bool) → c ≡ false → ((j : JournalData) → AreKept k j → FitsJournal j → c ≡ covers j e) → OfState told k (Replayed e x (λ s j. IsFaultFrom j.header.first s (entries j) None × (covers j e ≡ false)))
uncovered_told told k e x c is all = state_map told k (λ s j. Unit {0}) (Replayed e x (λ s j. IsFaultFrom j.header.first s (entries j) None × (covers j e ≡ false)))
    (λ s j fits keeps u. λ w none. (subst (λ (o : Option ℕ). IsFaultFrom j.header.first s (entries j) o) none w.fault, sym (all j keeps fits) ∙ is)) (state_all told k (λ s j. Unit {0}) (λ s j. tt))

-- what a reading is asked
abbrev pub Read : EvidData → Seen → (State → JournalData → Type 0) → State → JournalData → Type 0
Read e x P s j = IsSeen s j e x → P s j

pub replayed_told : (told : Option (List ℕ)) (k : Kept) (e : EvidData) (x : Seen) (P : State → JournalData → Type 0) → x.fault ≡ None → OfState told k (Replayed e x P) → OfState told k (Read e x P)
replayed_told told k e x P none h = state_map told k (Replayed e x P) (Read e x P) (λ s j fits keeps a. λ w. a w none) h

pub fault_told : (told : Option (List ℕ)) (k : Kept) (e : EvidData) (x : Seen) (n : ℕ) → x.fault ≡ Some n → OfState told k (Read e x (λ s j. IsFaultFrom j.header.first s (entries j) (Some n)))
fault_told told k e x n is = state_all told k (Read e x (λ s j. IsFaultFrom j.header.first s (entries j) (Some n))) (λ s j. λ w. subst (λ (o : Option ℕ). IsFaultFrom j.header.first s (entries j) o) is w.fault)

abbrev pub SeenOf : EvidData → Option Seen → State → JournalData → Type 0
SeenOf e o s j = MatchOption o ⊥ (IsSeen s j e)

pub none_seen : (told : Option (List ℕ)) (k : Kept) (e : EvidData) (o : Option Seen) (P : State → JournalData → Type 0) → o ≡ None → OfState told k (SeenOf e o) → OfState told k P
none_seen told k e o P is h = state_map told k (SeenOf e o) P (λ s j fits keeps m. absurd (subst (λ (x : Option Seen). SeenOf e x s j) is m)) h

pub read_told : (told mid : Option (List ℕ)) (k at : Kept) (e : EvidData) (o : Option Seen) (x : Seen) (P : State → JournalData → Type 0) → mid ≡ told → at ≡ k → o ≡ Some x → OfState told k (SeenOf e o) → OfState mid at (Read e x P) → OfState told k P
read_told told mid k at e o x P same stays some h a = go told h (of_as told mid k at (λ j. (s : State) → header_state j.header ≡ Some s → Read e x P s j) same stays a)
  where
    go : (t : Option (List ℕ)) → OfState t k (SeenOf e o) → OfState t k (Read e x P) → OfState t k P
    go None m f = tt
    go (Some was) m f = λ j at b s is. f j at b s is (subst (λ (y : Option Seen). SeenOf e y s j) some (m j at b s is))
