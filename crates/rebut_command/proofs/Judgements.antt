-- How evidence comes to its judgement.
use Rattle.std.proofs.Common.{◌≡◌, ℕ, Bool, true, false, List, is_some, Option, None, Some, IfSome, IfOk, Result, Ok, Err, MatchBool, refl, sym, ap, subst, ◌∙◌}
use Rattle.std.specs.Str.{bytes_eq}
use Rattle.avm_model.specs.Evidence.{EvidData, evidence_at, key_of}
use Rattle.avm_model.specs.Holds.{Holds, Stands}
use Rattle.avm_model.specs.Machine.{State}
use Rattle.honest_model.specs.Honest.{header_state}
use Rattle.command_parts.specs.declared.fault.Fault.{Fault}
use Rattle.journal_model.specs.Journal.{JournalData, Outcome, NoStore, Damaged, Is, journal_of}
use Rattle.jrnl_store.specs.Kept.{Kept}
use Rattle.jrnl_store.specs.Own.{IsOwn, AreKept, AttachAnswers, CountsFaults}
use Rattle.jrnl_store.specs.declared.journal.Journal.{Journal}
use Rattle.jrnl_store.specs.declared.fault.StoreFault.{StoreFault}
use Rattle.jrnl_store.specs.declared.fault.StoreFault.TheVariants as store
use Rattle.rebut_model.proofs.Named.{same_bytes}
use Rattle.rebut_pass.specs.Reads.{OfJournal, OfState, ReadCounts}
use Rattle.rebut_pass.specs.declared.fault.ReadFault.{ReadFault}
use Rattle.rebut_pass.specs.declared.fault.ReadFault.TheVariants as read
use Rattle.rebut_pass.proofs.OnDisk.{of_as}
use Rattle.rebuttal.specs.Answers.{IsAnswer, RebutAnswers, RebutCounts, answer_view}
use Rattle.rebuttal.specs.declared.answers.Rebuttal.{Rebuttal}
use Rattle.rebuttal.specs.declared.fault.RebutFault.{RebutFault}
use Rattle.rebuttal.specs.declared.fault.RebutFault.TheVariants as rebut
use Rattle.rebut_command.specs.Judging.{JudgedData, refused, answered, judged_view, ReplayEnds, HoldingEnds, KeyBy, KeyEnds, HeadBy, OpenEnds, StoreBy, StoreEnds, BytesEnd, JudgeCounts, unopened_of, unread_of, answered_of}
use Rattle.rebut_command.specs.declared.judging.Judged.{Judged}
use Rattle.rebut_command.specs.declared.refusal.Refusal.TheVariants as refusal
use Rattle.rebut_command.proofs.Bytes.{at_own}

pub holds_then : (s : State) (j : JournalData) (e : EvidData) (r : JudgedData) → Holds e → ReplayEnds s j e r → HoldingEnds s j e r
holds_then s j e (answered a) h p = (h, p)
holds_then s j e (refused refusal.File) h p = absurd p
holds_then s j e (refused refusal.Evidence) h p = absurd p
holds_then s j e (refused refusal.NoStore) h p = absurd p
holds_then s j e (refused (refusal.Damaged n)) h p = absurd p
holds_then s j e (refused refusal.Key) h p = absurd p
holds_then s j e (refused (refusal.Journal n)) h p = (h, p)
holds_then s j e (refused refusal.Uncovered) h p = (h, p)

evidence_is : (x y : EvidData) → Some x ≡ Some y → x ≡ y
evidence_is x y e = cc

-- what stands as bytes holds as it was read
pub stands_holds : (key bytes : List ℕ) (e : EvidData) → evidence_at bytes ≡ Some e → Stands key bytes → Holds e
stands_holds key bytes e read s = subst Holds (evidence_is s.«data» e (sym s.read ∙ read)) s.holds

pub holds_stands : (key bytes : List ℕ) (e : EvidData) → evidence_at bytes ≡ Some e → key_of e ≡ key → (Stands key bytes → ⊥) → Holds e → ⊥
holds_stands key bytes e read own never h = never (record { «data» = e; read = read; key_is = own; holds = h })

pub key_other : (s : State) (j : JournalData) (e : EvidData) (key : List ℕ) (r : JudgedData) → key ≡ j.header.key → bytes_eq (key_of e) key ≡ false → r ≡ refused refusal.Key → KeyEnds s j e r
key_other s j e key r is differs q = subst (λ (b : Bool). KeyBy b s j e r) (sym (ap (bytes_eq (key_of e)) (sym is) ∙ differs)) q

pub key_own : (s : State) (j : JournalData) (e : EvidData) (key : List ℕ) (r : JudgedData) → key ≡ j.header.key → bytes_eq (key_of e) key ≡ true → HoldingEnds s j e r → KeyEnds s j e r
key_own s j e key r is same h = subst (λ (b : Bool). KeyBy b s j e r) (sym (ap (bytes_eq (key_of e)) (sym is) ∙ same)) h

pub match_true : (b : Bool) (P Q : Type 0) → b ≡ true → MatchBool b P Q → P
match_true true P Q is h = h
match_true false P Q is h = absurd cc

pub match_false : (b : Bool) (P Q : Type 0) → b ≡ false → MatchBool b P Q → Q
match_false true P Q is h = absurd cc
match_false false P Q is h = h

pub same_key : (e : EvidData) (key : List ℕ) → bytes_eq (key_of e) key ≡ true → key_of e ≡ key
same_key e key same = same_bytes (key_of e) key same

pub head_there : (j : JournalData) (e : EvidData) (r : JudgedData) → true ≡ is_some (header_state j.header) → ((s : State) → header_state j.header ≡ Some s → KeyEnds s j e r) → OpenEnds j e r
head_there j e r some h = go (header_state j.header) some h
  where
    go : (o : Option State) → true ≡ is_some o → ((s : State) → o ≡ Some s → KeyEnds s j e r) → HeadBy o j e r
    go None q f = absurd cc
    go (Some s) q f = f s refl

pub head_not : (j : JournalData) (e : EvidData) (r : JudgedData) → false ≡ is_some (header_state j.header) → r ≡ refused refusal.NoStore → OpenEnds j e r
head_not j e r none is = go (header_state j.header) none
  where
    go : (o : Option State) → false ≡ is_some o → HeadBy o j e r
    go None q = is
    go (Some s) q = absurd cc

-- ---- on the disk

state_all : (told : Option (List ℕ)) (k : Kept) (P : State → JournalData → Type 0) → ((s : State) (j : JournalData) → P s j) → OfState told k P
state_all None k P f = tt
state_all (Some was) k P f = λ j at b s e. f s j

state_map : (told : Option (List ℕ)) (k : Kept) (P Q : State → JournalData → Type 0) → ((s : State) (j : JournalData) → AreKept k j → P s j → Q s j) → OfState told k P → OfState told k Q
state_map None k P Q f h = tt
state_map (Some was) k P Q f h = λ j at b s e. f s j at.keeps (h j at b s e)

-- by the journal, where the evidence holds
pub holding_answered : (told : Option (List ℕ)) (k : Kept) (e : EvidData) (a : Result Rebuttal RebutFault) (res : Result Judged Fault) → res ≡ answered_of a → Holds e → OfState told k (λ s j. RebutAnswers s j e a) → IfOk res (λ r. OfState told k (λ s j. HoldingEnds s j e (judged_view r)))
holding_answered told k e a res is holds h = subst (λ (x : Result Judged Fault). IfOk x (λ r. OfState told k (λ s j. HoldingEnds s j e (judged_view r)))) (sym is) (go a h)
  where
    go : (b : Result Rebuttal RebutFault) → OfState told k (λ s j. RebutAnswers s j e b) → IfOk (answered_of b) (λ r. OfState told k (λ s j. HoldingEnds s j e (judged_view r)))
    go (Ok r) f = state_map told k (λ s j. IsAnswer s j e (answer_view r)) (λ s j. HoldingEnds s j e (answered (answer_view r))) (λ s j keeps p. (holds, p)) f
    go (Err rebut.NoMemory) f = tt
    go (Err rebut.DiskFault) f = tt
    go (Err (rebut.Unreplayed n)) f = state_map told k (λ s j. RebutAnswers s j e (Err (rebut.Unreplayed n))) (λ s j. HoldingEnds s j e (refused (refusal.Journal n))) (λ s j keeps p. (holds, p)) f
    go (Err rebut.Uncovered) f = state_map told k (λ s j. RebutAnswers s j e (Err rebut.Uncovered)) (λ s j. HoldingEnds s j e (refused refusal.Uncovered)) (λ s j keeps p. (holds, p)) f

pub answered_counts : (a : Result Rebuttal RebutFault) (res : Result Judged Fault) (before now : ℕ) → res ≡ answered_of a → RebutCounts before now a → JudgeCounts before now res
answered_counts a res before now is h = subst (λ (x : Result Judged Fault). JudgeCounts before now x) (sym is) (go a h)
  where
    go : (b : Result Rebuttal RebutFault) → RebutCounts before now b → JudgeCounts before now (answered_of b)
    go (Ok r) c = c
    go (Err rebut.NoMemory) c = c
    go (Err rebut.DiskFault) c = c
    go (Err (rebut.Unreplayed n)) c = c
    go (Err rebut.Uncovered) c = c

pub holding_not : (told : Option (List ℕ)) (k : Kept) (e : EvidData) → (Holds e → ⊥) → OfState told k (λ s j. HoldingEnds s j e (refused refusal.Evidence))
holding_not told k e never = state_all told k (λ s j. HoldingEnds s j e (refused refusal.Evidence)) (λ s j. never)

-- by the key
pub other_told : (told : Option (List ℕ)) (k : Kept) (e : EvidData) (key : List ℕ) → key ≡ k.key → bytes_eq (key_of e) key ≡ false → OfState told k (λ s j. KeyEnds s j e (refused refusal.Key))
other_told told k e key is no_key = state_map told k (λ s j. Unit {0}) (λ s j. KeyEnds s j e (refused refusal.Key)) (λ s j keeps u. key_other s j e key (refused refusal.Key) (is ∙ keeps.key) no_key refl) (state_all told k (λ s j. Unit {0}) (λ s j. tt))

pub own_told : (told : Option (List ℕ)) (k : Kept) (e : EvidData) (key : List ℕ) (res : Result Judged Fault) → key ≡ k.key → bytes_eq (key_of e) key ≡ true → IfOk res (λ r. OfState told k (λ s j. HoldingEnds s j e (judged_view r))) → IfOk res (λ r. OfState told k (λ s j. KeyEnds s j e (judged_view r)))
own_told told k e key (Err f) is same h = tt
own_told told k e key (Ok r) is same h = state_map told k (λ s j. HoldingEnds s j e (judged_view r)) (λ s j. KeyEnds s j e (judged_view r)) (λ s j keeps p. key_own s j e key (judged_view r) (is ∙ keeps.key) same p) h

-- by the head
pub head_told : (told mid : Option (List ℕ)) (k at : Kept) (e : EvidData) (b : Bool) (res : Result Judged Fault) → mid ≡ told → at ≡ k → b ≡ true → OfJournal told k (λ j. b ≡ is_some (header_state j.header)) → IfOk res (λ r. OfState mid at (λ s j. KeyEnds s j e (judged_view r))) → IfOk res (λ r. OfJournal told k (λ j. OpenEnds j e (judged_view r)))
head_told told mid k at e b (Err f) same stays is h c = tt
head_told told mid k at e b (Ok r) same stays is h c = go told h (of_as told mid k at (λ j. (s : State) → header_state j.header ≡ Some s → KeyEnds s j e (judged_view r)) same stays c)
  where
    go : (t : Option (List ℕ)) → OfJournal t k (λ j. b ≡ is_some (header_state j.header)) → OfState t k (λ s j. KeyEnds s j e (judged_view r)) → OfJournal t k (λ j. OpenEnds j e (judged_view r))
    go None f m = tt
    go (Some was) f m = λ j o begun. head_there j e (judged_view r) (sym is ∙ f j o begun) (m j o begun)

pub headless_told : (told : Option (List ℕ)) (k : Kept) (e : EvidData) (b : Bool) → b ≡ false → OfJournal told k (λ j. b ≡ is_some (header_state j.header)) → OfJournal told k (λ j. OpenEnds j e (refused refusal.NoStore))
headless_told None k e b is h = tt
headless_told (Some was) k e b is h = λ j o begun. head_not j e (refused refusal.NoStore) (sym is ∙ h j o begun) refl

pub unread_counts : (T : Type 0) (before now : ℕ) (f : ReadFault) (x : Fault) → x ≡ unread_of f → ReadCounts {T = T} before now (Err f) → JudgeCounts {T = Judged} before now (Err x)
unread_counts T before now f x is h = subst (λ (y : Fault). JudgeCounts {T = Judged} before now (Err y)) (sym is) (go f h)
  where
    go : (g : ReadFault) → ReadCounts {T = T} before now (Err g) → JudgeCounts {T = Judged} before now (Err (unread_of g))
    go read.NoMemory c = c
    go read.DiskFault c = c

-- a call more, behind one without a fault
pub counts_on : (before mid now : ℕ) (res : Result Judged Fault) → mid ≡ before → JudgeCounts mid now res → JudgeCounts before now res
counts_on before mid now res same h = subst (λ (n : ℕ). JudgeCounts n now res) same h

-- by the store
pub store_told : (told mid : Option (List ℕ)) (k : Kept) (images : List ℕ → Type 0) (e : EvidData) (res : Result Judged Fault) → mid ≡ told → IfSome told (λ was. (j : JournalData) × (journal_of was ≡ Is j) × IsOwn k images was j) → IfOk res (λ r. OfJournal mid k (λ j. OpenEnds j e (judged_view r))) → IfOk res (λ r. IfSome told (λ was. StoreEnds was e (judged_view r)))
store_told told mid k images e (Err f) same own h = tt
store_told told mid k images e (Ok r) same own h = go told own (subst (λ (t : Option (List ℕ)). OfJournal t k (λ j. OpenEnds j e (judged_view r))) same h)
  where
    go : (t : Option (List ℕ)) → IfSome t (λ was. (j : JournalData) × (journal_of was ≡ Is j) × IsOwn k images was j) → OfJournal t k (λ j. OpenEnds j e (judged_view r)) → IfSome t (λ was. StoreEnds was e (judged_view r))
    go None o f = tt
    go (Some was) o f = subst (λ (x : Outcome). StoreBy x e (judged_view r)) (sym o.1) (f o.0 (at_own k images was o.0 o.2) o.2.begun)

stored : (was : List ℕ) (e : EvidData) (o : Outcome) (r : JudgedData) → journal_of was ≡ o → StoreBy o e r → StoreEnds was e r
stored was e o r is h = subst (λ (x : Outcome). StoreBy x e r) (sym is) h

pub unopened_told : (told : Option (List ℕ)) (images : List ℕ → Type 0) (e : EvidData) (f : StoreFault) (res : Result Judged Fault) → res ≡ unopened_of f → IfSome told (λ was. AttachAnswers (Err f) images was) → IfOk res (λ r. IfSome told (λ was. StoreEnds was e (judged_view r)))
unopened_told told images e f res is h = subst (λ (x : Result Judged Fault). IfOk x (λ r. IfSome told (λ was. StoreEnds was e (judged_view r)))) (sym is) (go f told h)
  where
    go : (g : StoreFault) (t : Option (List ℕ)) → IfSome t (λ was. AttachAnswers (Err g) images was) → IfOk (unopened_of g) (λ r. IfSome t (λ was. StoreEnds was e (judged_view r)))
    go store.NoMemory t a = tt
    go store.DiskFault t a = tt
    go store.NotEmpty None a = tt
    go store.NotEmpty (Some was) a = absurd a
    go store.NoStore None a = tt
    go store.NoStore (Some was) a = stored was e NoStore (refused refusal.NoStore) a refl
    go (store.Damaged p) None a = tt
    go (store.Damaged p) (Some was) a = stored was e (Damaged p) (refused (refusal.Damaged p)) a refl
    go store.LeavesSpent None a = tt
    go store.LeavesSpent (Some was) a = absurd a
    go store.Full None a = tt
    go store.Full (Some was) a = absurd a
    go (store.Ended s) None a = tt
    go (store.Ended s) (Some was) a = absurd a

pub unopened_counts : (before now : ℕ) (f : StoreFault) (res : Result Judged Fault) → res ≡ unopened_of f → CountsFaults {T = Journal} before now (Err f) → JudgeCounts before now res
unopened_counts before now f res is h = subst (λ (x : Result Judged Fault). JudgeCounts before now x) (sym is) (go f h)
  where
    go : (g : StoreFault) → CountsFaults {T = Journal} before now (Err g) → JudgeCounts before now (unopened_of g)
    go store.NoMemory c = c
    go store.DiskFault c = c
    go store.NotEmpty c = c
    go store.NoStore c = c
    go (store.Damaged p) c = c
    go store.LeavesSpent c = c
    go store.Full c = c
    go (store.Ended s) c = c

-- by the bytes
pub bytes_told : (o : Option EvidData) (e : EvidData) (disk : Option (List ℕ)) (res : Result Judged Fault) → Some e ≡ o → IfOk res (λ r. IfSome disk (λ was. StoreEnds was e (judged_view r))) → IfOk res (λ r. BytesEnd o disk (judged_view r))
bytes_told o e disk (Err f) is h = tt
bytes_told o e disk (Ok r) is h = subst (λ (x : Option EvidData). BytesEnd x disk (judged_view r)) is h

pub bytes_none : (o : Option EvidData) (disk : Option (List ℕ)) → None ≡ o → BytesEnd o disk (refused refusal.Evidence)
bytes_none o disk is = subst (λ (x : Option EvidData). BytesEnd x disk (refused refusal.Evidence)) is refl
