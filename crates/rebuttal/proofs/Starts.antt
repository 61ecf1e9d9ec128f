-- A reading in front of a journal's first item.
use Rattle.std.proofs.Common.{◌≡◌, ℕ, false, List, Option, Some, None, refl, sym, ap, ◌∙◌}
use Rattle.avm_model.specs.Basics.{or_else}
use Rattle.avm_model.specs.Evidence.{EvidData}
use Rattle.avm_model.specs.Frame.{frames_of}
use Rattle.journal_model.specs.Journal.{JournalData, entries}
use Rattle.rebut_model.specs.Rebuts.{numbered_texts}
use Rattle.rebut_model.specs.Texts.{first_of_all, differ}
use Rattle.rebut_texts.specs.Walk.{Walking, finds}
use Rattle.rebuttal.specs.Seen.{entry_part, TellsEntries}
use Rattle.rebuttal.specs.declared.evidence.Told.{Told}

or_none : {A : Type 0} (o : Option A) → or_else o None ≡ o
or_none None = refl
or_none (Some x) = refl

-- a walk that has found nothing yet finds the first texts of entries that differ
pub walk_starts : (w : Walking) (before : List ℕ) (e : EvidData) (t : Told) → w ≡ record { start = t.start; begun = false; hash = before; other = t.before.0; theirs = frames_of t.frames.now; found = None } → TellsEntries e t
    → (j : JournalData) → j.header.before ≡ before → finds w (entries j) ≡ first_of_all differ (entry_part j e)
walk_starts w before e t is told j same =
    let own : Walking = record { start = t.start; begun = false; hash = j.header.before; other = t.before.0; theirs = frames_of t.frames.now; found = None } in
    let here : w ≡ own = is ∙ ap (λ (h : List ℕ). record { start = t.start; begun = false; hash = h; other = t.before.0; theirs = frames_of t.frames.now; found = None }) (sym same) in
    ap (λ (x : Walking). finds x (entries j)) here ∙ or_none (first_of_all differ (numbered_texts j t.start t.before.0 (frames_of t.frames.now))) ∙ ap (first_of_all differ) (told j)
