-- The history of a roll: keys are granted leaves, and crashes come amid calls.
use Rattle.std.specs.Prelude.{◌≡◌, ◌⊎◌, ℕ, List, [], ◌∷◌, length}
use Rattle.hss_model.specs.Roll.{RollData, IsBound, IsUnbound, with_bottom}

-- a key was granted a leaf; or a key was in flight when a call failed or a crash came, and the roll was opened again
pub data Event : Type 0 where
  Granted : ℕ → List ℕ → Event
  Cut : List ℕ → Event

-- the roll behind it: it has the granted key at its leaf; or it is as it was, or has the key in flight too
abbrev pub Happens : Event → RollData → RollData → Type 0
Happens (Granted leaf bottom) r s =
    (IsBound r.bottoms bottom leaf × (s ≡ r)) ⊎ (IsUnbound r.bottoms bottom × (leaf ≡ length r.bottoms) × (s ≡ with_bottom r bottom))
Happens (Cut bottom) r s = (s ≡ r) ⊎ (s ≡ with_bottom r bottom)

-- one after another
abbrev pub Lives : List Event → RollData → RollData → Type 0
Lives [] r s = s ≡ r
Lives (e ∷ es) r s = (m : RollData) × Happens e r m × Lives es m s

abbrev pub IsAmong : Event → List Event → Type 0
IsAmong e [] = ⊥
IsAmong e (x ∷ es) = (x ≡ e) ⊎ IsAmong e es
