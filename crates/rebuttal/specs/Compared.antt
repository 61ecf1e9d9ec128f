-- Two states that are compared.
use Rattle.std.specs.Prelude.{◌≡◌, not, Option, None, Some, option_map}
use Rattle.avm_model.specs.Basics.{first_at}
use Rattle.avm_model.specs.Evidence.{EvidData}
use Rattle.avm_model.specs.Head.{HeadData}
use Rattle.avm_model.specs.HeadReading.{head_of}
use Rattle.avm_model.specs.HeadState.{state_of}
use Rattle.avm_model.specs.Machine.{State}
use Rattle.avm_model.specs.Segment.{SegmentData}
use Rattle.honest_model.specs.Honest.{IsFaultFrom}
use Rattle.journal_model.specs.Journal.{JournalData, entries}
use Rattle.rebut_model.specs.Bound.{is_bound}
use Rattle.rebut_model.specs.Rebuts.{auths_of, compared, Given, OfHeads}
use Rattle.rebut_model.specs.Texts.{first_of_all, differ, state_at, state_texts, OfHead}
use Rattle.rebut_texts.specs.Found.{found_view}
use Rattle.rebut_texts.specs.declared.bytes.Found.{Found}
use Rattle.rebuttal.specs.Seen.{entry_part}

-- the first texts that differ, of states that their heads and pages tell whole
pub record AreCompared (s t : State) (r : Option Found) : Type 0 where
  pub value : option_map found_view r ≡ first_of_all differ (state_texts s t)
  pub ours : OfHead s
  pub theirs : OfHead t

-- the first texts of all that differ
pub record AllCompared (s : State) (j : JournalData) (e : EvidData) (r : Option Found) : Type 0 where
  pub value : option_map found_view r ≡ first_of_all differ (compared s j e)
  pub heads : OfHeads s j e

-- where all pairs are bound and no texts of entries differ
abbrev pub WhereUndecided : State → JournalData → EvidData → Type 0 → Type 0
WhereUndecided s j e P = Given s j e → first_at (λ a. not (is_bound j a)) 0 (auths_of e) ≡ None → first_of_all differ (entry_part j e) ≡ None → P

-- there these are the first texts of all that differ
abbrev pub StatesCompared : State → JournalData → EvidData → Option Found → Type 0
StatesCompared s j e r = WhereUndecided s j e (AllCompared s j e r)

-- the first texts of a journal's state at a segment's first entry and of the segment's state that differ, where the journal replays and
-- no clock waits there
abbrev pub SegmentCompared : State → JournalData → SegmentData → Option Found → Type 0
SegmentCompared s j v r =
    IsFaultFrom j.header.first s (entries j) None → (state_at s v.front.start (entries j)).devices.clock ≡ None
    → (g : HeadData) → head_of v.front.head ≡ Some g → AreCompared (state_at s v.front.start (entries j)) (state_of g v.pages) r

-- where all pairs are bound and these are the first texts of entries that differ
abbrev pub WhereBound : State → JournalData → EvidData → Option Found → Type 0 → Type 0
WhereBound s j e r P = Given s j e → first_at (λ a. not (is_bound j a)) 0 (auths_of e) ≡ None → option_map found_view r ≡ first_of_all differ (entry_part j e) → P
