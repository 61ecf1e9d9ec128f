-- The clauses of the three commands, joined.
use Rattle.std.proofs.Common.{◌≡◌, ◌≢◌, ℕ, true, List, Option, None, Some, refl, sym, ap, subst, ◌∙◌}
use Rattle.std.specs.Prelude.{option_map, ◌++◌}
use Rattle.std.specs.List.{concat}
use Rattle.audit_command.specs.Meaning.{AuditMeans, EvidenceShown, IsShown, Given, AreGiven, BeginsAsGiven, Tells}
use Rattle.avm_model.specs.Evidence.{EvidData, evidence_at, evidence_bytes, key_of}
use Rattle.avm_model.specs.Holds.{Holds, Stands}
use Rattle.avm_model.specs.Machine.{State}
use Rattle.avm_model.specs.Segment.{whole_segment_of}
use Rattle.avm_script.specs.Job.{SignedData}
use Rattle.command_parts.specs.FileMap.{FileMap}
use Rattle.honest_model.specs.Honest.{IsFaultFrom}
use Rattle.journal_model.specs.Journal.{JournalData, Is, entries, journal_of}
use Rattle.rebut_model.specs.Rebuts.{Answer, forged, collision, covers, rebuts, Collides}
use Rattle.rebut_model.proofs.Always.{never_bound}
use Rattle.rebuttal.specs.Answers.{IsAnswer}
use Rattle.rebut_command.specs.Meaning.{IsStore, IsSaid, RebutMeans}
use Rattle.headline.specs.Headline.{IsDefence, IsPrinted, Defends, IsShownToAll, HeadlineMeans}

some_is : {A : Type 0} (x y : A) → Some x ≡ Some y → x ≡ y
some_is x y e = cc

defence : (s : State) (j : JournalData) (e : EvidData) (a : Answer) → rebuts s j e ≡ Some a → Collides a → IsDefence j e a
defence s j e (forged k) is c = never_bound s j e k is
defence s j e (collision x y) is c = c

same_journal : (j k : JournalData) → Is j ≡ Is k → j ≡ k
same_journal j k e = cc

printed_by : (was : List ℕ) (j : JournalData) (s : State) (e : EvidData) (a : Answer) (before after : Option (List ℕ)) → IsStore was (key_of e) j s → IsSaid e a (Some was) before after → IsPrinted j e before after
printed_by was j s e a before after store said =
    let t = said.answer in
    let same : t.0 ≡ j = same_journal t.0 j (sym t.2.stands ∙ store.stands) in
    record { answer = a; printed = said.printed; defends = subst (λ (k : JournalData). IsDefence k e a) same (defence t.1 t.0 e a t.4.answer t.4.collides) }

defends : (e : EvidData) (bytes : List ℕ) → evidence_at bytes ≡ Some e → Holds e → Defends e bytes
defends e bytes read holds = λ was j s before after result store replays covered means n4 n5.
    let done : result ≡ 0 = means.answers bytes was e j s refl refl read store holds replays covered n4 n5 in
    let w = means.answered done in
    let same : bytes ≡ w.0 = some_is bytes w.0 w.3 in
    let own : w.1 ≡ e = some_is w.1 e (sym w.4 ∙ ap evidence_at (sym same) ∙ read) in
    (done, printed_by was j s e w.2 before after store (subst (λ (x : EvidData). IsSaid x w.2 (Some was) before after) own w.5))

pub shown : (segment : List ℕ) (image : Option (List ℕ)) (names : SignedData) (old new : FileMap) → EvidenceShown segment image (Some names) old new → IsShownToAll names old new
shown segment image names old new f =
    let g = f.0 in
    let given = f.3 in
    let bytes = evidence_bytes f.2 in
    let stands : Stands g.key bytes = f.4.stands in
    record {
      key = g.key;
      bytes = bytes;
      evidence = stands.«data»;
      found = given.2;
      written = f.4.written;
      read = stands.read;
      own = stands.key_is;
      holds = stands.holds;
      checks = λ files result key told check n4 n5. check.accepts g.key bytes key told given.3 stands n4 n5;
      defends = defends stands.«data» bytes stands.read stands.holds;
    }

named : (segment : List ℕ) (image : Option (List ℕ)) (signed : Option SignedData) (old new : FileMap) → EvidenceShown segment image signed old new → (names : SignedData) × (signed ≡ Some names) × IsShownToAll names old new
named segment image None old new h = absurd h
named segment image (Some names) old new h = (names, refl, shown segment image names old new h)

-- without a name of an image there is none
no_image : (image : Option (List ℕ)) (bytes : List ℕ) → image ≡ None → BeginsAsGiven image (whole_segment_of bytes)
no_image image bytes none = subst (λ (o : Option (List ℕ)). BeginsAsGiven o (whole_segment_of bytes)) (sym none) tt

begins : (segment : List ℕ) (signed : Option SignedData) (old : FileMap) (g : Given) → AreGiven Tells segment None signed old g → BeginsAsGiven g.image (whole_segment_of g.segment)
begins segment None old g given = no_image g.image g.segment given.1
begins segment (Some names) old g given = no_image g.image g.segment given.1

pub joined : (segment : List ℕ) (signed : Option SignedData) (old new : FileMap) (before after : Option (List ℕ)) (result : ℕ) → AuditMeans segment None signed old new before after result → HeadlineMeans segment signed old new result
joined segment signed old new before after result means = record {
  accepted = λ done. let a = means.accepted done in (a.0, a.1, a.2);
  accepts = λ g given accepted n4 n5. means.accepts g given accepted (begins segment signed old g given) n4 n5;
  shown = λ one. named segment None signed old new (means.fault one);
}

pub faults : (segment : List ℕ) (image : Option (List ℕ)) (names : SignedData) (old new : FileMap) (before after : Option (List ℕ)) → AuditMeans segment image (Some names) old new before after 1 → IsShownToAll names old new
faults segment image names old new before after means = shown segment image names old new (means.fault refl)
