-- What an act leaves of the keeps, and of the marks that tell which pages the next keep needs.
use Rattle.std.specs.Prelude.{◌≡◌, ◌++◌, ℕ, Bool, true, false, List, [], ◌∷◌, Some, None}
use Rattle.avm_num.specs.Walk.{items_of}
use Rattle.avm_model.specs.Content.{FitsContent}
use Rattle.avm_model.specs.Machine.{MachineState, State}
use Rattle.avm_model.specs.Memory.{RamState}
use Rattle.avm_model.specs.Offer.{OfferClock, taken}
use Rattle.avm_model.specs.Reference.{Made, OutAt, SendAt, HaltAt, SnapAt, NothingAt, step_of}
use Rattle.honest_model.specs.KeepPages.{IsKeptRam, KeepsPages, WritesHead}
use Rattle.journal_model.specs.Journal.{JournalData, page_count_of, pages_ascend, parts}
use Rattle.journal_model.specs.Part.{Part, page_at}
use Rattle.record_kept.specs.declared.kept.Kept.{Kept}
use Rattle.record_kept.specs.declared.kept.KeptRow.{KeptRow}
use Rattle.record_model.specs.Recording.{Act, AnswerClock, Effect, Recording, SendAgain, StepOn, TakeIn, made_parts, next_of, offer_content, with_input}
use Rattle.record_model.specs.Standing.{FitAll, FitsOffer}
use Rattle.record_parts.specs.Outs.{ram_in}

-- what stands beside a recording: the tickets that are kept, and the machine's RAM with its marks
pub record Aside : Type 0 where
  pub rows : List KeptRow
  pub ram : RamState

abbrev pub aside_of : Kept → MachineState → Aside
aside_of k m = record { rows = k.rows; ram = ram_in m }

-- the marks tell which pages the next keep needs: a page without one is as the header and the keeps so far have it
abbrev pub MarksTell : JournalData → List Part → RamState → Type 0
MarksTell j b ram = IsKeptRam j.header (parts j ++ b) ram

-- a SNAP is among the outputs
abbrev pub makes_snap : List Made → Bool
makes_snap [] = false
makes_snap (SnapAt count r ∷ os) = true
makes_snap (OutAt count bytes ∷ os) = makes_snap os
makes_snap (SendAt count peer number payload ∷ os) = makes_snap os
makes_snap (HaltAt count cause value ∷ os) = makes_snap os
makes_snap (NothingAt count ∷ os) = makes_snap os

-- The outputs of a step have spellings. The keep behind its SNAP has the machine's head, which is one, and in order all pages that differ
-- from what the header and the keeps so far give, where the marks tell which; and so they do behind the outputs.
pub record KeepsStep (j : JournalData) (b : List Part) (s : State) (os : List Made) (pages : List ℕ) (ram after : RamState) : Type 0 where
  pub fits : FitAll os
  pub ascends : pages_ascend 0 (page_count_of j) (items_of page_at pages) ≡ true
  pub head : makes_snap os ≡ true → WritesHead s
  pub pages_are : makes_snap os ≡ true → MarksTell j b ram → KeepsPages j.header (parts j ++ b) s (items_of page_at pages)
  pub marks : MarksTell j b ram → MarksTell j (b ++ made_parts (next_of (record { journal = j; batch = b; machine = s })) s pages os) after

-- the step of a state leads to another, and is written so
pub record StepsTo (s : State) (j : JournalData) (b : List Part) (t : State) (pages : List ℕ) (ram after : RamState) : Type 0 where
  pub outs : List Made
  pub step : step_of s ≡ Some (t, outs)
  pub keeps : KeepsStep j b t outs pages ram after

-- an act with an effect is written so: its step, or what came in where it isn't dropped
abbrev pub KeepsAct : Act → Recording → Effect → List ℕ → RamState → RamState → Type 0
KeepsAct StepOn r e pages ram after = StepsTo r.machine r.journal r.batch e.recording.machine pages ram after
KeepsAct (AnswerClock value) r e pages ram after =
    FitsContent (offer_content r.machine.count (OfferClock value))
    × StepsTo (taken r.machine (OfferClock value)) r.journal (with_input r (OfferClock value) (taken r.machine (OfferClock value))).batch e.recording.machine pages ram after
KeepsAct (TakeIn offer) r e pages ram after = (e.dropped ≡ None → FitsOffer r offer) × (MarksTell r.journal r.batch ram → MarksTell r.journal e.recording.batch after)
KeepsAct (SendAgain peer) r e pages ram after = MarksTell r.journal r.batch ram → MarksTell r.journal e.recording.batch after
