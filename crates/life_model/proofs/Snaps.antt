-- Each SNAP entry has its keep.
use Rattle.std.proofs.Common.{◌≡◌, ◌⊎◌, inl, inr, ◌==◌, Bool, true, false, List, [], ◌∷◌, ◌++◌, refl, sym, ◌∙◌}
use Rattle.avm_model.specs.Frame.{FrameData}
use Rattle.journal_model.specs.Part.{Part, entry, seal, keep, frames_in}
use Rattle.base_model.specs.Base.{past_keep}
use Rattle.base_laws.specs.Moving.{BeginsKeep}
use Rattle.life_model.specs.Life.{KeepsSnaps}

-- the SNAP entry is the first entry, or its keep stands behind it; and so have those behind it
pub snap_keeps : (first : Bool) (front later : List Part) (f : FrameData) → KeepsSnaps first (front ++ entry f ∷ later) → (f.kind == 2) ≡ true → ((frames_in front ≡ []) ⊎ BeginsKeep later) × KeepsSnaps false later
snap_keeps first [] later f h is = (here h.0, h.1)
  where
    here : (first ≡ true) ⊎ (((f.kind == 2) ≡ false) ⊎ BeginsKeep later) → (frames_in [] ≡ []) ⊎ BeginsKeep later
    here (inl e) = inl refl
    here (inr (inl e)) = absurd (let q : true ≡ false = sym is ∙ e in cc q)
    here (inr (inr k)) = inr k
snap_keeps first (seal ∷ front) later f h is = snap_keeps first front later f h is
snap_keeps first (keep k ∷ front) later f h is = snap_keeps first front later f h is
snap_keeps first (entry g ∷ front) later f h is = (behind_first front h.1, (snap_keeps false front later f h.1 is).1)
  where
    -- behind an entry it isn't the first
    behind_first : (ps : List Part) → KeepsSnaps false (ps ++ entry f ∷ later) → (frames_in (entry g ∷ front) ≡ []) ⊎ BeginsKeep later
    behind_first [] k = go k.0
      where
        go : (false ≡ true) ⊎ (((f.kind == 2) ≡ false) ⊎ BeginsKeep later) → (frames_in (entry g ∷ front) ≡ []) ⊎ BeginsKeep later
        go (inl e) = absurd (cc e)
        go (inr (inl e)) = absurd (let q : true ≡ false = sym is ∙ e in cc q)
        go (inr (inr b)) = inr b
    behind_first (entry x ∷ ps) k = behind_first ps k.1
    behind_first (seal ∷ ps) k = behind_first ps k
    behind_first (keep x ∷ ps) k = behind_first ps k

pub snaps_past : (ps : List Part) → KeepsSnaps false ps → KeepsSnaps false (past_keep ps)
snaps_past [] h = h
snaps_past (entry f ∷ ps) h = h
snaps_past (seal ∷ ps) h = h
snaps_past (keep k ∷ ps) h = h
