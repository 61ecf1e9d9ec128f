-- Where a recorder stands between two calls.
use Rattle.std.specs.Prelude.{◌≡◌, ℕ, true, List, [], ◌∷◌, ◌++◌, Option, Some, None}
use Rattle.avm_model.specs.Machine.{State}
use Rattle.avm_model.specs.Content.{FitsContent}
use Rattle.avm_model.specs.Reference.{Made, timed, step_of}
use Rattle.avm_model.specs.Rerun.{moved}
use Rattle.avm_model.specs.Offer.{Offer, OfferClock, taken}
use Rattle.honest_model.specs.Honest.{Leads, header_state}
use Rattle.honest_model.specs.Keeps.{AreTrue}
use Rattle.avm_num.specs.Walk.{items_of}
use Rattle.journal_model.specs.Part.{page_at}
use Rattle.journal_model.specs.Journal.{pages_ascend, follows, page_count_of, parts}
use Rattle.journal_model.specs.Standing.{standing}
use Rattle.record_model.specs.Recording.{Act, AnswerClock, Recording, SendAgain, StepOn, TakeIn, made_content, offer_content, with_input}

-- The journal replays whole. The unsaved batch holds whole steps and goes on from there. The machine is the one behind both, moved on
-- by steps without outputs.
pub record IsStanding (r : Recording) : Type 0 where
  pub from : State
  pub header : header_state r.journal.header ≡ Some from
  pub saved : State
  pub journal : Leads from (parts r.journal) saved
  pub reached : State
  pub batch : Leads from (parts r.journal ++ r.batch) reached
  pub steps : ℕ
  pub quiet : moved timed steps reached ≡ Some r.machine

-- each keep of the journal and of the batch is true
abbrev pub KeepsTrue : Recording → Type 0
KeepsTrue r = AreTrue r.journal.header [] (parts r.journal ++ r.batch)

-- each output has a spelling as an entry
abbrev pub FitAll : List Made → Type 0
FitAll [] = Unit {0}
FitAll (o ∷ os) = FitsContent (made_content o) × FitAll os

-- the outputs of the step that the machine can make have spellings
abbrev pub FitsStep : Recording → Type 0
FitsStep r = (t : State) (os : List Made) → step_of r.machine ≡ Some (t, os) → FitAll os

-- what an act writes has spellings: an input that is taken, and the outputs of the step that follows
abbrev pub FitsOffer : Recording → Option Offer → Type 0
FitsOffer r None = Unit {0}
FitsOffer r (Some o) = FitsContent (offer_content r.machine.count o)

abbrev pub FitsAct : Recording → Act → Type 0
FitsAct r StepOn = FitsStep r
FitsAct r (AnswerClock value) = FitsContent (offer_content r.machine.count (OfferClock value)) × FitsStep (with_input r (OfferClock value) (taken r.machine (OfferClock value)))
FitsAct r (TakeIn o) = FitsOffer r o
FitsAct r (SendAgain peer) = Unit {0}

-- the batch goes on from its journal
abbrev pub GoesOn : Recording → Type 0
GoesOn r = follows r.journal.header.first (page_count_of r.journal) (standing r.journal).next None r.batch ≡ true

-- the pages of a keep, each behind its number, are in order and below the page count
abbrev pub Ascends : Recording → List ℕ → Type 0
Ascends r pages = pages_ascend 0 (page_count_of r.journal) (items_of page_at pages) ≡ true
