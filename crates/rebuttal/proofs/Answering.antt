-- What was found is the answer.
use Rattle.std.proofs.Common.{◌≡◌, ℕ, Bool, true, false, not, cond, if◌then◌else◌, List, Option, Some, None, option_map, refl, sym, ap, subst, ◌∙◌, ◌⊎◌, inl, inr}
use Rattle.avm_model.specs.Auth.{AuthData}
use Rattle.avm_model.specs.Audit.{snapshot, entry_frames}
use Rattle.avm_model.specs.Basics.{first_at}
use Rattle.avm_model.specs.Evidence.{EvidData, double, fork, replay, FitsEvidence}
use Rattle.avm_model.specs.Head.{HeadData}
use Rattle.avm_model.specs.HeadReading.{head_of}
use Rattle.avm_model.specs.HeadState.{state_of}
use Rattle.avm_model.specs.Holds.{Holds}
use Rattle.avm_model.specs.Machine.{State}
use Rattle.avm_model.specs.Reference.{Made}
use Rattle.avm_model.specs.Rerun.{Stand}
use Rattle.avm_model.specs.Segment.{SegmentData, whole_segment_of}
use Rattle.honest_model.specs.Honest.{IsFaultFrom, header_state}
use Rattle.journal_model.specs.Fits.{FitsJournal}
use Rattle.journal_model.specs.Header.{HeaderData}
use Rattle.journal_model.specs.Journal.{JournalData, entries}
use Rattle.rebut_model.specs.Bound.{is_bound}
use Rattle.rebut_model.specs.Rebuts.{forged, collision, auths_of, numbered_texts, compared, covers, rebuts, Given, OfHeads}
use Rattle.rebut_model.specs.Texts.{Texts, first_of_all, differ, state_at, OfHead}
use Rattle.rebut_model.proofs.Always.{Collided, collided, forged_is, collides, led}
use Rattle.rebut_model.proofs.Snapshots.{MadeBy}
use Rattle.rebut_texts.specs.Found.{found_view}
use Rattle.rebut_texts.specs.declared.bytes.Found.{Found}
use Rattle.snapshot_laws.proofs.Clocks.{Wanted, none_wanted, clock_behind, wanted}
use Rattle.rebuttal.specs.Answers.{IsAnswer}
use Rattle.rebuttal.specs.Compared.{StatesCompared, SegmentCompared}
use Rattle.rebuttal.specs.Seen.{entry_part, entries_beside, first_auth, second_auth}
use Rattle.rebuttal.proofs.Entries.{found_in_entries, found_in_states, states_beside}

some_is : {A : Type 0} (x y : A) → Some x ≡ Some y → x ≡ y
some_is x y e = cc

-- ---- the first authenticator that isn't bound

abbrev pub by_flags : Bool → Bool → Option ℕ
by_flags one two = if not one then Some 0 else if not two then Some 1 else None

pub forged_by : (j : JournalData) (e : EvidData) → by_flags (is_bound j (first_auth e)) (is_bound j (second_auth e)) ≡ first_at (λ a. not (is_bound j a)) 0 (auths_of e)
forged_by j (double key a b) = refl
forged_by j (fork key start before frames top other) = refl
forged_by j (replay key segment top) = go (is_bound j top)
  where
    go : (b : Bool) → by_flags b b ≡ cond (not b) (Some 0) None
    go true = refl
    go false = refl

-- ---- states

-- the state of a header has no clock that waits
pub header_clock : (h : HeaderData) (s : State) → header_state h ≡ Some s → s.devices.clock ≡ None
header_clock h s e = go (head_of h.head) e
  where
    go : (o : Option HeadData) → option_map (λ d. state_of d h.pages) o ≡ Some s → s.devices.clock ≡ None
    go None q = absurd cc
    go (Some d) q = ap (λ (t : State). t.devices.clock) (sym (some_is (state_of d h.pages) s q))

-- nor has the state at the segment's first entry
clear : (s : State) (j : JournalData) (key bytes : List ℕ) (top : AuthData) (v : SegmentData) (h : HeadData) → whole_segment_of bytes ≡ Some (v, h) → s.devices.clock ≡ None → Given s j (replay key bytes top) → first_at (λ a. not (is_bound j a)) 0 (auths_of (replay key bytes top)) ≡ None
    → first_of_all differ (numbered_texts j v.front.start v.front.before (entry_frames v)) ≡ None → (state_at s v.front.start (entries j)).devices.clock ≡ None
clear s j key bytes top v h whole c g n e = go (led Wanted wanted s j key bytes top v h (none_wanted s c) g n whole e).own
  where
    go : (state_at s v.front.start (entries j) ≡ s) ⊎ ((k : Stand State Made) × (os : List Made) × MadeBy Wanted k os × (state_at s v.front.start (entries j) ≡ k.state)) → (state_at s v.front.start (entries j)).devices.clock ≡ None
    go (inl i) = ap (λ (t : State). t.devices.clock) i ∙ c
    go (inr p) = ap (λ (t : State). t.devices.clock) p.3 ∙ clock_behind p.2.from p.0.state _ p.2.step p.2.holds

pub segment_compared : (s : State) (j : JournalData) (key bytes : List ℕ) (top : AuthData) (v : SegmentData) (h : HeadData) (r : Option Found) → head_of v.front.head ≡ Some h → whole_segment_of bytes ≡ Some (v, h) → header_state j.header ≡ Some s → SegmentCompared s j v r → StatesCompared s j (replay key bytes top) r
segment_compared s j key bytes top v h r head whole is all = λ given bound none.
    let here : first_of_all differ (numbered_texts j v.front.start v.front.before (entry_frames v)) ≡ None = ap (λ (o : Option (SegmentData × HeadData)). first_of_all differ (entries_beside j o)) (sym whole) ∙ none in
    let c = all given.replays (clear s j key bytes top v h whole (header_clock j.header s is) given bound here) h head in
    record {
      value = found_in_states s j (replay key bytes top) (option_map found_view r) none (c.value ∙ ap (λ (o : Option (SegmentData × HeadData)). first_of_all differ (states_beside s j o)) (sym whole));
      heads = λ p q n.
          let same : (v, h) ≡ p = some_is (v, h) p (sym whole ∙ q) in
          subst (λ (x : SegmentData × HeadData). OfHead (state_at s x.0.front.start (entries j)) × OfHead (snapshot x.0 x.1)) same (c.ours, c.theirs);
    }

never : {A : Type 0} (p : SegmentData × HeadData) (o : Option (SegmentData × HeadData)) → o ≡ None → o ≡ Some p → A
never p o a b = absurd (let e : None ≡ Some p = sym a ∙ b in cc)

pub none_compared : (s : State) (j : JournalData) (key bytes : List ℕ) (top : AuthData) → whole_segment_of bytes ≡ None → StatesCompared s j (replay key bytes top) None
none_compared s j key bytes top none_is = λ given bound none. record {
  value = found_in_states s j (replay key bytes top) None none (ap (λ (o : Option (SegmentData × HeadData)). first_of_all differ (states_beside s j o)) (sym none_is));
  heads = λ p q n. never p (whole_segment_of bytes) none_is q;
}

pub double_compared : (s : State) (j : JournalData) (key : List ℕ) (a b : AuthData) → StatesCompared s j (double key a b) None
double_compared s j key a b = λ given bound none. record { value = found_in_states s j (double key a b) None none refl; heads = tt }

pub fork_compared : (s : State) (j : JournalData) (key before frames : List ℕ) (start : ℕ) (top other : AuthData) → StatesCompared s j (fork key start before frames top other) None
fork_compared s j key before frames start top other = λ given bound none. record { value = found_in_states s j (fork key start before frames top other) None none refl; heads = tt }

-- ---- the answer

-- where a text of entries differs, no state is compared
heads_unasked : (s : State) (j : JournalData) (e : EvidData) (t : Texts) → Some t ≡ first_of_all differ (entry_part j e) → OfHeads s j e
heads_unasked s j (double key a b) t f = tt
heads_unasked s j (fork key start before frames top other) t f = tt
heads_unasked s j (replay key segment top) t f = λ p q n.
    absurd (let e : Some t ≡ None = f ∙ ap (λ (o : Option (SegmentData × HeadData)). first_of_all differ (entries_beside j o)) q ∙ n in cc)

pub given_by : (s : State) (j : JournalData) (e : EvidData) → FitsJournal j → IsFaultFrom j.header.first s (entries j) None → FitsEvidence e → Holds e → covers j e ≡ true → Given s j e
given_by s j e journal replays fits holds covered = record { journal = journal; replays = replays; fits = fits; holds = holds; covered = covered }

pub answer_forged : (s : State) (j : JournalData) (e : EvidData) (k : ℕ) → Given s j e → first_at (λ a. not (is_bound j a)) 0 (auths_of e) ≡ Some k → IsAnswer s j e (forged k)
answer_forged s j e k g n = record { replays = g.replays; covered = g.covered; answer = forged_is s j e k n; collides = tt }

collision_is : (s : State) (j : JournalData) (e : EvidData) (t : Texts) → Given s j e → Collided s j e → Some t ≡ first_of_all differ (compared s j e) → IsAnswer s j e (collision t.ours t.theirs)
collision_is s j e t g c f =
    let is : c.pair ≡ t = some_is c.pair t (sym c.differs ∙ sym f) in
    let answer : rebuts s j e ≡ Some (collision t.ours t.theirs) = subst (λ (x : Texts). rebuts s j e ≡ Some (collision x.ours x.theirs)) is c.answer in
    record { replays = g.replays; covered = g.covered; answer = answer; collides = collides s j e (collision t.ours t.theirs) answer }

pub answer_entries : (s : State) (j : JournalData) (e : EvidData) (t : Texts) → Given s j e → first_at (λ a. not (is_bound j a)) 0 (auths_of e) ≡ None → Some t ≡ first_of_all differ (entry_part j e) → IsAnswer s j e (collision t.ours t.theirs)
answer_entries s j e t g n f = collision_is s j e t g (collided s j e g (heads_unasked s j e t f) n) (found_in_entries s j e t f)

pub answer_states : (s : State) (j : JournalData) (e : EvidData) (x : Found) → Given s j e → first_at (λ a. not (is_bound j a)) 0 (auths_of e) ≡ None → first_of_all differ (entry_part j e) ≡ None → StatesCompared s j e (Some x) → IsAnswer s j e (collision (found_view x).ours (found_view x).theirs)
answer_states s j e x g n none h = let c = h g n none in collision_is s j e (found_view x) g (collided s j e g c.heads n) c.value

pub answer_always : {A : Type 0} (s : State) (j : JournalData) (e : EvidData) → Given s j e → first_at (λ a. not (is_bound j a)) 0 (auths_of e) ≡ None → first_of_all differ (entry_part j e) ≡ None → StatesCompared s j e None → A
answer_always s j e g n none h =
    let c = h g n none in
    let d = collided s j e g c.heads n in
    absurd (let q : None ≡ Some d.pair = c.value ∙ d.differs in cc)
