-- What the statuses say.
use Rattle.std.proofs.Common.{◌≡◌, ◌≢◌, ◌⊎◌, inl, inr, ℕ, Bool, true, false, List, Option, None, Some, IfSome, refl, sym, subst, ◌∙◌}
use Rattle.std.specs.Str.{bytes_eq}
use Rattle.avm_model.specs.Evidence.{EvidData, evidence_at, key_of}
use Rattle.avm_model.specs.Holds.{Holds}
use Rattle.avm_model.specs.Machine.{State}
use Rattle.avm_outside.specs.Outside.{Rises}
use Rattle.command_parts.specs.Printing.{Printed}
use Rattle.command_parts.specs.Reading.{Finds}
use Rattle.honest_model.specs.Honest.{IsFaultFrom, header_state}
use Rattle.journal_model.specs.Journal.{JournalData, entries, journal_of}
use Rattle.journal_model.specs.Journal.{Outcome as Stood, NoStore as StoodNoStore, Damaged as StoodDamaged, Is}
use Rattle.opening_laws.proofs.Faults.{same_journal}
use Rattle.rebut_model.specs.Rebuts.{Answer, covers}
use Rattle.rebut_model.proofs.Named.{same_bytes, bytes_same}
use Rattle.rebuttal.specs.Answers.{IsAnswer}
use Rattle.rebut_command.specs.Judging.{JudgedData, refused, answered, HoldingEnds, KeyBy, KeyEnds, HeadBy, OpenEnds, StoreBy, StoreEnds, BytesEnd, FileEnd}
use Rattle.rebut_command.specs.Meaning.{IsStore, IsSaid, RebutMeans}
use Rattle.rebut_command.specs.Outcomes.{Outcome, Ended, NoMemory, FaultFiles, FaultDisk, Counted, Reaches, RebutEnds, CountsFiles, CountsDisk, lines_of, status_of_outcome}
use Rattle.rebut_command.specs.declared.refusal.Refusal.{Refusal}
use Rattle.rebut_command.specs.declared.refusal.Refusal.TheVariants as refusal

-- ---- an answer

-- what an answer says of the store
abbrev Told : EvidData → Answer → List ℕ → Type 0
Told e a was = (j : JournalData) × (s : State) × IsStore was (key_of e) j s × Holds e × IsAnswer s j e a

by_key : (was : List ℕ) (e : EvidData) (a : Answer) (j : JournalData) (s : State) → journal_of was ≡ Is j → header_state j.header ≡ Some s → (b : Bool) → bytes_eq (key_of e) j.header.key ≡ b → KeyBy b s j e (answered a) → Told e a was
by_key was e a j s stands state true is h = (j, s, record { stands = stands; state = state; key_is = same_bytes (key_of e) j.header.key is }, h.0, h.1)
by_key was e a j s stands state false is h = absurd cc

by_head : (was : List ℕ) (e : EvidData) (a : Answer) (j : JournalData) → journal_of was ≡ Is j → (o : Option State) → header_state j.header ≡ o → HeadBy o j e (answered a) → Told e a was
by_head was e a j stands None is h = absurd cc
by_head was e a j stands (Some s) is h = by_key was e a j s stands is (bytes_eq (key_of e) j.header.key) refl h

by_store : (was : List ℕ) (e : EvidData) (a : Answer) (o : Stood) → journal_of was ≡ o → StoreBy o e (answered a) → Told e a was
by_store was e a StoodNoStore is h = absurd cc
by_store was e a (StoodDamaged p) is h = absurd cc
by_store was e a (Is j) is h = by_head was e a j is (header_state j.header) refl h

of_store : (store : Option (List ℕ)) (e : EvidData) (a : Answer) → IfSome store (λ was. StoreEnds was e (answered a)) → IfSome store (Told e a)
of_store None e a h = tt
of_store (Some was) e a h = by_store was e a (journal_of was) refl h

-- the bytes that were found, and the evidence that they are
record Read (found store : Option (List ℕ)) (a : Answer) : Type 0 where
  pub bytes : List ℕ
  pub evidence : EvidData
  pub is : found ≡ Some bytes
  pub read : evidence_at bytes ≡ Some evidence
  pub told : IfSome store (Told evidence a)

by_bytes : (bytes : List ℕ) (store : Option (List ℕ)) (a : Answer) (o : Option EvidData) → evidence_at bytes ≡ o → BytesEnd o store (answered a) → Read (Some bytes) store a
by_bytes bytes store a None is h = absurd cc
by_bytes bytes store a (Some e) is h = record { bytes = bytes; evidence = e; is = refl; read = is; told = of_store store e a h }

by_file : (found store : Option (List ℕ)) (a : Answer) → FileEnd found store (answered a) → Read found store a
by_file None store a h = absurd cc
by_file (Some bytes) store a h = by_bytes bytes store a (evidence_at bytes) refl h

status_apart : (r : Refusal) → status_of_outcome (Ended (refused r)) ≡ 0 → ⊥
status_apart refusal.File e = cc
status_apart refusal.Evidence e = cc
status_apart refusal.NoStore e = cc
status_apart (refusal.Damaged p) e = cc
status_apart refusal.Key e = cc
status_apart (refusal.Journal n) e = cc
status_apart refusal.Uncovered e = cc

answered_by : (told : Option (Option (List ℕ))) (store : Option (List ℕ)) (files disk sink : Counted) (old new : Option (List ℕ)) (result : ℕ) → RebutEnds told store files disk sink old new result → result ≡ 0
    → (bytes : List ℕ) × (e : EvidData) × (a : Answer) × Finds told (Some bytes) × (evidence_at bytes ≡ Some e) × IsSaid e a store old new
answered_by told store files disk sink old new result r zero_is = go r.outcome r.reaches r.printed
  where
    go : (o : Outcome) → Reaches r.found store o → Printed (lines_of o) (status_of_outcome o) sink.before sink.now old new result
        → (bytes : List ℕ) × (e : EvidData) × (a : Answer) × Finds told (Some bytes) × (evidence_at bytes ≡ Some e) × IsSaid e a store old new
    go o h (inr p) = absurd (let q : 4 ≡ 0 = sym p.0 ∙ zero_is in cc)
    go (Ended (refused x)) h (inl p) = absurd (status_apart x (sym p.0 ∙ zero_is))
    go (Ended (answered a)) h (inl p) =
        let w = by_file r.found store a h in
        (w.bytes, w.evidence, a, subst (λ (f : Option (List ℕ)). Finds told f) w.is r.finds, w.read, record { printed = p.1.1; answer = w.told })
    go NoMemory h (inl p) = absurd (let q : 5 ≡ 0 = sym p.0 ∙ zero_is in cc)
    go FaultFiles h (inl p) = absurd (let q : 4 ≡ 0 = sym p.0 ∙ zero_is in cc)
    go FaultDisk h (inl p) = absurd (let q : 4 ≡ 0 = sym p.0 ∙ zero_is in cc)

-- ---- no refusal

no_refusal : (j : JournalData) (s : State) (e : EvidData) (r : Refusal) → header_state j.header ≡ Some s → Holds e → IsFaultFrom j.header.first s (entries j) None → covers j e ≡ true → HoldingEnds s j e (refused r) → ⊥
no_refusal j s e refusal.File is holds replays covered h = h.1
no_refusal j s e refusal.Evidence is holds replays covered h = h holds
no_refusal j s e refusal.NoStore is holds replays covered h = h.1
no_refusal j s e (refusal.Damaged p) is holds replays covered h = h.1
no_refusal j s e refusal.Key is holds replays covered h = h.1
no_refusal j s e (refusal.Journal n) is holds replays covered h = let q : None ≡ Some n = same_journal j None (Some n) (s, is, replays) (s, is, h.1) in cc
no_refusal j s e refusal.Uncovered is holds replays covered h = let q : true ≡ false = sym covered ∙ h.1.1 in cc

held : (was : List ℕ) (j : JournalData) (s : State) (e : EvidData) (r : JudgedData) → IsStore was (key_of e) j s → StoreEnds was e r → HoldingEnds s j e r
held was j s e r i h =
    let opened : OpenEnds j e r = subst (λ (o : Stood). StoreBy o e r) i.stands h in
    let keyed : KeyEnds s j e r = subst (λ (o : Option State). HeadBy o j e r) i.state opened in
    subst (λ (b : Bool). KeyBy b s j e r) (bytes_same (key_of e) j.header.key i.key_is) keyed

answers_by : (told : Option (Option (List ℕ))) (store : Option (List ℕ)) (files disk sink : Counted) (old new : Option (List ℕ)) (result : ℕ) → RebutEnds told store files disk sink old new result
    → (bytes was : List ℕ) (e : EvidData) (j : JournalData) (s : State) → told ≡ Some (Some bytes) → store ≡ Some was → evidence_at bytes ≡ Some e → IsStore was (key_of e) j s → Holds e
    → IsFaultFrom j.header.first s (entries j) None → covers j e ≡ true → result ≢ 4 → result ≢ 5 → result ≡ 0
answers_by told store files disk sink old new result r bytes was e j s is on read i holds replays covered n4 n5 = go r.outcome r.reaches r.printed
  where
    found : Some bytes ≡ r.found
    found = subst (λ (t : Option (Option (List ℕ))). Finds t r.found) is r.finds

    go : (o : Outcome) → Reaches r.found store o → Printed (lines_of o) (status_of_outcome o) sink.before sink.now old new result → result ≡ 0
    go o h (inr p) = absurd (n4 p.0)
    go (Ended (answered a)) h (inl p) = p.0
    go (Ended (refused x)) h (inl p) =
        let file : FileEnd (Some bytes) (Some was) (refused x) = subst (λ (f : Option (List ℕ)). FileEnd f (Some was) (refused x)) (sym found) (subst (λ (t : Option (List ℕ)). FileEnd r.found t (refused x)) on h) in
        let stored : StoreEnds was e (refused x) = subst (λ (o : Option EvidData). BytesEnd o (Some was) (refused x)) read file in
        absurd (no_refusal j s e x i.state holds replays covered (held was j s e (refused x) i stored))
    go NoMemory h (inl p) = absurd (n5 p.0)
    go FaultFiles h (inl p) = absurd (n4 p.0)
    go FaultDisk h (inl p) = absurd (n4 p.0)

pub means : (told : Option (Option (List ℕ))) (store : Option (List ℕ)) (files disk sink : Counted) (old new : Option (List ℕ)) (result : ℕ) → RebutEnds told store files disk sink old new result → RebutMeans told store old new result
means told store files disk sink old new result r = record {
  answered = answered_by told store files disk sink old new result r;
  answers = answers_by told store files disk sink old new result r;
}

-- ---- the status 4

-- one of the counts has risen
abbrev pub OneRises : Counted → Counted → Counted → Type 0
OneRises files disk sink = Rises files.before files.now ⊎ Rises disk.before disk.now ⊎ Rises sink.before sink.now

status_below : (r : Refusal) → status_of_outcome (Ended (refused r)) ≡ 4 → ⊥
status_below refusal.File e = cc
status_below refusal.Evidence e = cc
status_below refusal.NoStore e = cc
status_below (refusal.Damaged p) e = cc
status_below refusal.Key e = cc
status_below (refusal.Journal n) e = cc
status_below refusal.Uncovered e = cc

pub only_four : (told : Option (Option (List ℕ))) (store : Option (List ℕ)) (files disk sink : Counted) (old new : Option (List ℕ)) (result : ℕ) → RebutEnds told store files disk sink old new result → result ≡ 4 → OneRises files disk sink
only_four told store files disk sink old new result r four = go r.outcome r.counts_files r.counts_disk r.printed
  where
    go : (o : Outcome) → CountsFiles o files.before files.now → CountsDisk o disk.before disk.now
        → Printed (lines_of o) (status_of_outcome o) sink.before sink.now old new result → OneRises files disk sink
    go o f d (inr p) = inr (inr p.1.0)
    go (Ended (refused x)) f d (inl p) = absurd (status_below x (sym p.0 ∙ four))
    go (Ended (answered a)) f d (inl p) = absurd (let q : 0 ≡ 4 = sym p.0 ∙ four in cc)
    go NoMemory f d (inl p) = absurd (let q : 5 ≡ 4 = sym p.0 ∙ four in cc)
    go FaultFiles f d (inl p) = inl f
    go FaultDisk f d (inl p) = inr (inl d)

pub not_four : (told : Option (Option (List ℕ))) (store : Option (List ℕ)) (files disk sink : Counted) (old new : Option (List ℕ)) (result : ℕ) → RebutEnds told store files disk sink old new result → result ≢ 4 → (files.now ≡ files.before) × (disk.now ≡ disk.before) × (sink.now ≡ sink.before)
not_four told store files disk sink old new result r n4 = go r.outcome r.counts_files r.counts_disk r.printed
  where
    go : (o : Outcome) → CountsFiles o files.before files.now → CountsDisk o disk.before disk.now
        → Printed (lines_of o) (status_of_outcome o) sink.before sink.now old new result → (files.now ≡ files.before) × (disk.now ≡ disk.before) × (sink.now ≡ sink.before)
    go o f d (inr p) = absurd (n4 p.0)
    go (Ended x) f d (inl p) = (f, d, p.1.0)
    go NoMemory f d (inl p) = (f, d, p.1.0)
    go FaultFiles f d (inl p) = absurd (n4 p.0)
    go FaultDisk f d (inl p) = absurd (n4 p.0)
