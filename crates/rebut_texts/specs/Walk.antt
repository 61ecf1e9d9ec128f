-- A walk over a journal's entries, first to last, beside the evidence's: it keeps the last texts that differ.
use Rattle.std.specs.Prelude.{ℕ, Bool, true, false, List, [], ◌∷◌, Option, option_map}
use Rattle.avm_model.specs.Basics.{or_else}
use Rattle.avm_model.specs.Chain.{link, next_hash}
use Rattle.avm_model.specs.Frame.{FrameData, frames_of}
use Rattle.rebut_model.specs.Texts.{Texts, texts, Stretch, from_number, entry_texts, first_of_all, differ}
use Rattle.rebut_texts.specs.Found.{found_view}
use Rattle.rebut_texts.specs.declared.numbers.Walk.{Walk}

-- the number to begin at, whether it has begun, the hash behind our last entry and theirs, their entries that are left, and what
-- was found
pub record Walking : Type 0 where
  pub start : ℕ
  pub begun : Bool
  pub hash : List ℕ
  pub other : List ℕ
  pub theirs : List FrameData
  pub found : Option Texts

abbrev pub walk_view : Walk → Walking
walk_view w = record { start = w.start; begun = w.begun; hash = w.hash.0; other = w.other.0; theirs = frames_of w.frames; found = option_map found_view w.found }

abbrev pub stretch : Bool → ℕ → List ℕ → List FrameData → Stretch
stretch true n h fs = record { before = h; frames = fs }
stretch false n h fs = from_number n h fs

-- what it has found once these entries have followed
abbrev pub finds : Walking → List FrameData → Option Texts
finds w fs = let p = stretch w.begun w.start w.hash fs in or_else (first_of_all differ (entry_texts p.before p.frames w.other w.theirs)) w.found

-- with one entry of each compared
abbrev pub compared : Walking → FrameData → FrameData → Walking
compared w f e = record w {
  hash = next_hash w.hash f;
  other = next_hash w.other e;
  found = or_else (first_of_all differ (texts (link w.hash f) (link w.other e) ∷ texts f.content e.content ∷ [])) w.found;
}
