-- The entries of a segment among a journal's, one entry after another.
use Rattle.std.specs.Prelude.{◌≡◌, ℕ, Bool, true, false, List, [], ◌∷◌, ◌++◌, if◌then◌else◌}
use Rattle.avm_model.specs.Frame.{FrameData}
use Rattle.honest_model.specs.Keeps.{up_to}
use Rattle.rebut_judge.specs.Going.{has_some}
use Rattle.rebut_model.specs.Texts.{from_number}
use Rattle.journal_export.specs.declared.cut.Cut.{Cut}

-- those of the numbers from..to, of entries behind a hash
abbrev pub cut : ℕ → ℕ → List ℕ → List FrameData → List FrameData
cut from to h fs = up_to to (from_number from h fs).frames

-- whether the first of them is among the entries so far, and whether one behind the last is
pub record IsCut (h : List ℕ) (fs : List FrameData) (c : Cut) : Type 0 where
  pub begun : c.begun ≡ has_some (from_number c.from h fs).frames
  pub whole : c.past ≡ false → up_to c.to (from_number c.from h fs).frames ≡ (from_number c.from h fs).frames
  pub behind : c.past ≡ true → (c.begun ≡ true) × ((rest : List FrameData) → up_to c.to ((from_number c.from h fs).frames ++ rest) ≡ up_to c.to (from_number c.from h fs).frames)

-- one entry more, which is one of them or isn't
pub record Cuts (old : Cut) (f : FrameData) (taken : Bool) (new : Cut) : Type 0 where
  pub from : new.from ≡ old.from
  pub to : new.to ≡ old.to
  pub cuts : (h : List ℕ) (fs : List FrameData) → IsCut h fs old → IsCut h (fs ++ f ∷ []) new
  pub takes : (h : List ℕ) (fs : List FrameData) → IsCut h fs old → cut old.from old.to h (fs ++ f ∷ []) ≡ cut old.from old.to h fs ++ (if taken then f ∷ [] else [])
